pub mod Meant
pub use Rattle.lowering_runs.specs as of_lowering_runs
