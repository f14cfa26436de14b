pub mod Calls
pub mod Checks
pub mod Computed
pub mod Context
pub mod Depth
pub mod Fields
pub mod Given
pub mod Outcome
pub mod Phases
pub mod Points
pub mod Program
pub mod Proper
pub mod Regions
pub mod Scalars
pub mod Settled
pub mod Single
pub mod Statement
pub mod Store
pub mod Term
pub mod Text
pub mod Value
pub mod Variables
pub mod Visited
pub mod Wanting
pub use Rattle.zpl_binding.specs.of_zpl_arrays as of_zpl_arrays
pub use Rattle.zpl_binding.specs as of_zpl_binding
pub use Rattle.zpl_binding.specs.of_zpl_names as of_zpl_names
pub use Rattle.zpl_binding.specs.of_zpl_nums as of_zpl_nums
pub use Rattle.zpl_binding.specs.of_zpl_region as of_zpl_region
pub use Rattle.zpl_text.specs as of_zpl_text
pub use Rattle.zpl_binding.specs.of_zpl_tree as of_zpl_tree
