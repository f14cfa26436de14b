pub mod PlaceLemmas
pub mod IntegerLemmas
pub mod GateLemmas
pub mod StoredLemmas
pub mod PartLemmas
pub mod ElementLemmas
pub mod CodedLemmas
pub mod LikeLemmas
pub mod MaskLemmas
pub mod TargetLemmas
pub mod AssignLemmas
pub mod RanklessLemmas
pub mod WholeLemmas
pub mod FormLemmas
pub mod FloodLemmas
pub use Rattle.array_puts.proofs as of_array_puts
pub use Rattle.lowering_runs.proofs.of_flat_form as of_flat_form
pub use Rattle.lowering_runs.proofs.of_lowering_fits as of_lowering_fits
pub use Rattle.lowering_runs.proofs as of_lowering_runs
