pub mod Told
pub mod Given
pub mod Clean
pub use Rattle.prefix_runs.specs.of_array_puts as of_array_puts
pub use Rattle.prefix_runs.specs.of_lowering_runs as of_lowering_runs
pub use Rattle.prefix_runs.specs as of_prefix_runs
