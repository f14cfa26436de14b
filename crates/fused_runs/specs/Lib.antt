pub mod Typed
pub use Rattle.contracted_runs.specs as of_contracted_runs
