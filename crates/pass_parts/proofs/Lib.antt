mod Examples
pub mod StandLemmas
pub mod NearLemmas
pub mod FusedPlans
pub mod FusedPasses
pub mod FusedEarly
pub mod GoalLemmas
pub mod JoinableLemmas
pub mod SeenLemmas
pub mod FusedLoops
pub mod NameLemmas
pub mod LeftLemmas
pub mod CellLemmas
pub mod ContractedLemmas
pub mod FusedCells
pub mod RowGoals
pub mod CheckedLemmas
pub mod CheckedLoops
pub mod NormalLoops
pub use Rattle.pass_sizes.proofs.of_bound_check as of_bound_check
pub use Rattle.pass_sizes.proofs.of_comm_early as of_comm_early
pub use Rattle.node_emit.proofs.of_flat_passes as of_flat_passes
pub use Rattle.pass_sizes.proofs.of_fuse_contract as of_fuse_contract
pub use Rattle.pass_sizes.proofs as of_pass_sizes
pub use Rattle.pass_sizes.proofs.of_temp_norm as of_temp_norm
