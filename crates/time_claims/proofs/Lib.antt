mod Exact
pub mod KnownLemmas
mod RunLemmas
