pub mod Put
pub use Rattle.zpl_meaning.specs as of_zpl_meaning
