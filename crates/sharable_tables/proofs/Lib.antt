mod Examples
pub mod ThreeLemmas
pub mod FringeLemmas
pub mod UnitLemmas
pub mod CellLemmas
pub mod SettledLemmas
