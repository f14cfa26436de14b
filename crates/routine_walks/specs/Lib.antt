pub mod Numbers
pub mod Texts
pub use Rattle.text_walk.specs.of_site_faults as of_site_faults
pub use Rattle.text_walk.specs as of_text_walk
pub use Rattle.text_walk.specs.of_zpl_names as of_zpl_names
pub use Rattle.zpl_tree.specs as of_zpl_tree
