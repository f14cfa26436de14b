pub mod CellFitLemmas
pub mod CellLemmas
mod ContractedPrograms
mod Examples
pub mod FitLemmas
mod FusedPrograms
pub mod JoinLemmas
pub mod JoinedLemmas
pub mod KnownLemmas
pub mod NamingLemmas
pub mod ReferenceLemmas
pub mod StateLemmas
pub mod StepLemmas
pub mod TurnLemmas
pub mod UseLemmas
pub mod WalkedLemmas
pub use Rattle.bound_check.proofs as of_bound_check
pub use Rattle.temp_norm.proofs.of_flat_passes as of_flat_passes
pub use Rattle.temp_norm.proofs as of_temp_norm
