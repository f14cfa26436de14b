pub mod Apart
pub use Rattle.lowering_fits.specs.of_lower_numbers as of_lower_numbers
pub use Rattle.lowering_fits.specs as of_lowering_fits
