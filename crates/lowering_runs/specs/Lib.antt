pub mod Seen
pub mod Run
pub mod Agrees
pub mod Heads
pub mod Values
pub mod Shown
pub mod Stands
pub mod Scalars
pub mod Goes
pub mod Frames
pub mod Called
pub mod ScalarText
pub mod Served
pub mod Suits
pub mod Leaves
pub use Rattle.lowering_fits.specs.of_flat_form as of_flat_form
pub use Rattle.lowering_fits.specs.of_grid_meaning as of_grid_meaning
pub use Rattle.lowering_fits.specs as of_lowering_fits
pub use Rattle.lowering_fits.specs.of_zpl_binding as of_zpl_binding
pub use Rattle.lowering_fits.specs.of_zpl_lowering as of_zpl_lowering
