pub mod Comes
pub mod Computed
pub mod Held
pub mod Kept
pub mod Met
pub mod Runner
pub mod Stops
pub mod Traps
pub mod Tuple
pub use Rattle.zpl_meaning.specs.of_zpl_binding as of_zpl_binding
pub use Rattle.zpl_meaning.specs as of_zpl_meaning
pub use Rattle.zpl_meaning.specs.of_zpl_names as of_zpl_names
pub use Rattle.zpl_meaning.specs.of_zpl_tree as of_zpl_tree
