pub mod ShareLemmas
pub mod AloneLemmas
pub mod ThreeLemmas
pub mod OwedLemmas
