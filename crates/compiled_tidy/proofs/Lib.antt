pub mod FlatLemmas
pub mod LetterLemmas
pub mod TidyLemmas
pub mod AcceptedLemmas
pub mod Examples
