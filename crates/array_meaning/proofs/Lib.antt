pub mod FitLemmas
pub mod KnownLemmas
pub mod MeanLemmas
