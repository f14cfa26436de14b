pub mod Answer
pub use Rattle.zpl_meaning.specs as of_zpl_meaning
