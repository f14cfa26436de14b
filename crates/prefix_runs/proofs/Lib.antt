pub mod PartLemmas
pub mod ShapeLemmas
pub mod ShapedLemmas
pub mod SpanLemmas
pub mod FillLemmas
pub mod ConstantLemmas
pub mod OpenLemmas
pub mod UnderLemmas
pub mod PlainLemmas
pub use Rattle.array_runs.proofs.of_array_puts as of_array_puts
pub use Rattle.array_runs.proofs as of_array_runs
pub use Rattle.array_runs.proofs.of_lowering_runs as of_lowering_runs
