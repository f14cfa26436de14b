pub mod Cause
pub mod Code
pub mod Decided
pub mod Listing
pub mod Refusal
pub mod Whole
pub use Rattle.zpl_compile.specs as of_zpl_compile
