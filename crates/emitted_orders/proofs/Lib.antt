mod Examples
pub mod AlikeLemmas
pub mod FitLemmas
pub mod OrderLemmas
