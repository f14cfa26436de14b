pub mod Row
pub mod Whole
pub mod Names
pub mod Right
pub mod Loop
pub mod Moves
pub mod Act
pub mod Flat
pub mod Laws
pub mod Touches
pub mod States
pub mod Static
pub use Rattle.code_parts.specs as of_code_parts
pub use Rattle.grid_meaning.specs as of_grid_meaning
pub use Rattle.nest_meaning.specs as of_nest_meaning
pub use Rattle.grid_meaning.specs.of_node_form as of_node_form
pub use Rattle.nest_meaning.specs.of_row_runs as of_row_runs
pub use Rattle.code_parts.specs.of_zpl_arrays as of_zpl_arrays
pub use Rattle.code_parts.specs.of_zpl_nums as of_zpl_nums
pub use Rattle.code_parts.specs.of_zpl_region as of_zpl_region
