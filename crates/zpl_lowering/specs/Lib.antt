pub mod Check
pub mod Where
pub mod Words
pub mod Bracket
pub mod Slate
pub mod Reference
pub mod Hoist
pub mod Lowered
pub mod Statement
pub mod Program
pub mod Tables
pub use Rattle.text_sharing.specs.of_flat_form as of_flat_form
pub use Rattle.text_sharing.specs.of_grid_meaning as of_grid_meaning
pub use Rattle.text_sharing.specs.of_node_form as of_node_form
pub use Rattle.text_sharing.specs.of_row_runs as of_row_runs
pub use Rattle.text_sharing.specs as of_text_sharing
pub use Rattle.zpl_meaning.specs.of_zpl_names as of_zpl_names
pub use Rattle.zpl_meaning.specs.of_zpl_tree as of_zpl_tree
