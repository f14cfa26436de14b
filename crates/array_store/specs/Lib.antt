pub mod Stored
pub use Rattle.zpl_meaning.specs.of_zpl_arrays as of_zpl_arrays
pub use Rattle.zpl_meaning.specs as of_zpl_meaning
