pub mod Shared
pub mod Numbered
pub use Rattle.flat_form.specs as of_flat_form
pub use Rattle.flat_form.specs.of_grid_meaning as of_grid_meaning
pub use Rattle.flat_form.specs.of_node_form as of_node_form
pub use Rattle.flat_form.specs.of_row_runs as of_row_runs
