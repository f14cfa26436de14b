pub mod Reads
pub mod Gates
pub mod Elementwise
pub mod Assigned
pub mod Floods
pub mod Integers
pub use Rattle.array_puts.specs as of_array_puts
pub use Rattle.lowering_runs.specs.of_flat_form as of_flat_form
pub use Rattle.lowering_runs.specs.of_lowering_fits as of_lowering_fits
pub use Rattle.lowering_runs.specs as of_lowering_runs
pub use Rattle.lowering_runs.specs.of_zpl_lowering as of_zpl_lowering
pub use Rattle.array_puts.specs.of_zpl_meaning as of_zpl_meaning
