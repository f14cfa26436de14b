pub mod AgreeLemmas
pub mod LoopLemmas
pub mod TopLemmas
pub mod NumberLemmas
pub mod ValueLemmas
pub mod RowLemmas
pub mod BareLemmas
pub mod FitLemmas
pub mod ScalarLemmas
pub mod ControlLemmas
pub mod ListLemmas
pub mod StepLemmas
pub mod ForLemmas
pub mod HeadLemmas
pub mod PrintLemmas
pub mod FrameLemmas
pub mod BodyLemmas
pub mod CallLemmas
pub mod SuitLemmas
pub mod StatementLemmas
pub mod RoutineLemmas
pub mod EntryLemmas
pub mod InlineLemmas
pub mod UncopiedLemmas
pub mod StartLemmas
pub mod ProgramLemmas
pub mod WrongLemmas
mod Examples
pub use Rattle.lowering_fits.proofs.of_flat_form as of_flat_form
pub use Rattle.lowering_fits.proofs as of_lowering_fits
