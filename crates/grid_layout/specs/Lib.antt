pub mod Block
pub mod Grid
pub mod Layout
pub mod Own
pub mod Piece
pub mod Sides
pub mod Words
pub use Rattle.zpl_region.specs as of_zpl_region
