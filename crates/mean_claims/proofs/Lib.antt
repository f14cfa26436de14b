pub mod Exact
pub mod KnownLemmas
pub mod OneLemmas
pub mod WholeLemmas
