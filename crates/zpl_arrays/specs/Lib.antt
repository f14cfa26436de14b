pub mod Around
pub mod AroundCopy
pub mod Array
pub mod ArrayText
pub mod Border
pub mod Conformity
pub mod Flood
pub mod Fold
pub mod Line
pub mod Reference
pub mod Row
pub mod Scan
pub use Rattle.zpl_nums.specs as of_zpl_nums
pub use Rattle.zpl_region.specs as of_zpl_region
