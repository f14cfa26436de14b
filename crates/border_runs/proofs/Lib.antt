pub mod LimitLemmas
pub mod EdgeLemmas
pub mod BorderLemmas
