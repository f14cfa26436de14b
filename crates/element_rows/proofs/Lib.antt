pub mod AroundLemmas
pub mod ElementLemmas
