pub mod CopyLemmas
pub mod GrowthLemmas
pub mod OnceLemmas
pub mod OperatorLemmas
pub mod PhaseLemmas
pub mod RemapLemmas
pub mod SettleLemmas
pub mod SlateLemmas
pub mod VectorLemmas
pub mod WrapLemmas
pub use Rattle.array_settling.proofs.of_array_regions as of_array_regions
pub use Rattle.lower_regions.proofs.of_lower_draft as of_lower_draft
