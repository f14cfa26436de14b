pub mod ListLemmas
pub mod WalkLemmas
pub mod StepLemmas
pub mod ChainLemmas
pub mod LawLemmas
