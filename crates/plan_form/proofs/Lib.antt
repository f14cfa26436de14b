pub mod GoalLemmas
pub mod ItemLemmas
pub mod PassLemmas
pub mod WalkLemmas
pub use Rattle.flat_passes.proofs.of_code_parts as of_code_parts
pub use Rattle.flat_passes.proofs as of_flat_passes
pub use Rattle.flat_passes.proofs.of_row_runs as of_row_runs
