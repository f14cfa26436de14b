pub mod Names
pub mod Part
pub mod Reach
pub mod Region
pub mod Seen
pub use Rattle.zpl_names.specs as of_zpl_names
pub use Rattle.zpl_nums.specs as of_zpl_nums
pub use Rattle.zpl_tree.specs as of_zpl_tree
