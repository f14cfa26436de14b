pub mod Depth
pub mod Grammar
pub mod Shape
pub mod Spelling
pub mod Syntax
pub mod View
pub mod Word
pub use Rattle.zpl_nums.specs as of_zpl_nums
