mod Examples
mod NameLemmas
pub mod LineLemmas
pub mod TraceLemmas
pub mod WorkLemmas
