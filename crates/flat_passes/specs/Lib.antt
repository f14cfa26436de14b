pub mod Draft
pub mod Grouped
pub mod Kept
pub mod Numbers
pub mod Rewritten
pub use Rattle.flat_form.specs.of_code_parts as of_code_parts
pub use Rattle.flat_form.specs as of_flat_form
pub use Rattle.flat_form.specs.of_grid_meaning as of_grid_meaning
pub use Rattle.flat_form.specs.of_nest_meaning as of_nest_meaning
pub use Rattle.flat_form.specs.of_node_form as of_node_form
pub use Rattle.flat_form.specs.of_row_runs as of_row_runs
pub use Rattle.flat_form.specs.of_zpl_arrays as of_zpl_arrays
pub use Rattle.flat_form.specs.of_zpl_nums as of_zpl_nums
pub use Rattle.flat_form.specs.of_zpl_region as of_zpl_region
