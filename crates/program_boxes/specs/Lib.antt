pub mod Own
pub mod Fair
pub use Rattle.lowered_flat.specs as of_lowered_flat
pub use Rattle.lowered_flat.specs.of_lowering_fits as of_lowering_fits
