pub mod Bound
pub mod Constants
pub mod Copies
pub mod Declarations
pub mod Formals
pub mod Outcome
pub mod Regions
pub mod Settings
pub mod Storages
pub mod Vectors
pub use Rattle.zpl_arrays.specs as of_zpl_arrays
pub use Rattle.zpl_names.specs as of_zpl_names
pub use Rattle.zpl_tree.specs.of_zpl_nums as of_zpl_nums
pub use Rattle.zpl_arrays.specs.of_zpl_region as of_zpl_region
pub use Rattle.zpl_tree.specs as of_zpl_tree
