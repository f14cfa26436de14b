pub mod Flags
pub mod Inline
pub mod Drafted
pub mod Call
pub mod Spread
pub use Rattle.zpl_lowering.specs as of_zpl_lowering
