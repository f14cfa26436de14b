pub mod OwnLemmas
pub mod PartnerLemmas
pub mod PieceLemmas
pub mod RouteLemmas
pub mod StageLemmas
pub mod WalkLemmas
pub use Rattle.reduce_plan.proofs as of_reduce_plan
pub use Rattle.reduce_plan.proofs.of_zpl_arrays as of_zpl_arrays
