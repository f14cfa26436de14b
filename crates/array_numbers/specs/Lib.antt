pub mod Numbering
pub mod Calls
pub mod Plain
pub use Rattle.lowering_fits.specs as of_lowering_fits
