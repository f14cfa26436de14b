mod Examples
pub mod NumberLemmas
pub mod OrderLemmas
pub mod ReadLemmas
pub mod LawLemmas
