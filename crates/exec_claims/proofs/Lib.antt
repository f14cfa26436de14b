pub mod CheckExact
pub mod CheckLemmas
pub mod Exact
pub mod KnownLemmas
pub mod OneCause
pub mod OrderExact
pub mod RunStatus
pub mod WholeLemmas
