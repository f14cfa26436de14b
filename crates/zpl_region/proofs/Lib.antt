pub mod BlockLemmas
pub mod BoxLemmas
pub mod DimLemmas
mod EndExamples
pub mod EndLemmas
mod Examples
pub mod FormLemmas
pub mod HullCode
pub mod HullLemmas
pub mod HullWithLemmas
pub mod LawLemmas
pub mod ListLemmas
pub mod ProgressionLemmas
pub mod RegionLemmas
pub mod TestLemmas
pub mod TupleLemmas
pub mod WalkLemmas
