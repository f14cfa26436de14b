pub mod Bound
pub mod Boxes
pub mod Build
pub mod Compiled
pub mod Good
pub mod LockStep
pub mod Origin
pub mod Tidy
pub use Rattle.grid_meaning.specs as of_grid_meaning
pub use Rattle.grid_meaning.specs.of_node_form as of_node_form
pub use Rattle.zpl_meaning.specs.of_zpl_binding as of_zpl_binding
pub use Rattle.zpl_meaning.specs as of_zpl_meaning
pub use Rattle.zpl_meaning.specs.of_zpl_names as of_zpl_names
