pub mod Behind
pub mod Cells
pub mod Contracting
pub mod Fusing
pub mod Joining
pub mod Known
pub mod Naming
pub use Rattle.bound_check.specs as of_bound_check
pub use Rattle.temp_norm.specs.of_flat_passes as of_flat_passes
pub use Rattle.temp_norm.specs as of_temp_norm
