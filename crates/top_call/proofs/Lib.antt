mod FetchLemmas
pub mod FileLemmas
pub mod KnownLemmas
pub mod ListLemmas
pub mod RunLemmas
mod SureLemmas
pub mod UnknownLemmas
mod WholeLemmas
pub mod WordLemmas
mod CheckedLemmas
