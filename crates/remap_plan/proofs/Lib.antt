pub mod RequestLemmas
pub mod HomeLemmas
pub mod WholeLemmas
mod Examples
