pub mod Emit
pub use Rattle.flat_passes.specs.of_flat_form as of_flat_form
pub use Rattle.flat_passes.specs as of_flat_passes
