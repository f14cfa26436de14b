pub mod Printed
pub use Rattle.array_runs.specs.of_array_puts as of_array_puts
pub use Rattle.array_runs.specs as of_array_runs
pub use Rattle.array_runs.specs.of_lowering_fits as of_lowering_fits
pub use Rattle.array_runs.specs.of_lowering_runs as of_lowering_runs
pub use Rattle.array_runs.specs.of_zpl_lowering as of_zpl_lowering
