pub mod Part
pub mod Walk
pub mod View
pub use Rattle.zpl_binding.specs as of_zpl_binding
pub use Rattle.zpl_binding.specs.of_zpl_names as of_zpl_names
pub use Rattle.zpl_binding.specs.of_zpl_tree as of_zpl_tree
