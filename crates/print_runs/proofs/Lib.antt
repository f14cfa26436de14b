pub mod ScalarLemmas
pub mod TempLemmas
pub mod ItemLemmas
pub mod ValueLemmas
pub mod WriteLemmas
pub use Rattle.array_runs.proofs.of_array_puts as of_array_puts
pub use Rattle.array_runs.proofs as of_array_runs
pub use Rattle.array_runs.proofs.of_lowering_fits as of_lowering_fits
pub use Rattle.array_runs.proofs.of_lowering_runs as of_lowering_runs
