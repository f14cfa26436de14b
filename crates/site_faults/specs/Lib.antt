pub mod Findings
pub mod Flood
pub mod Found
pub mod Misplaced
pub mod Reach
pub mod Regions
pub mod Walk
pub mod Whole
pub use Rattle.name_kinds.specs as of_name_kinds
pub use Rattle.name_kinds.specs.of_zpl_names as of_zpl_names
pub use Rattle.zpl_tree.specs as of_zpl_tree
