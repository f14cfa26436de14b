mod Exact
pub mod NeverLemmas
pub mod KnownLemmas
