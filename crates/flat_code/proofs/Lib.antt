pub mod FitLemmas
pub mod PassLemmas
