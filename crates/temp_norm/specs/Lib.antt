pub mod Normalised
pub mod Pieces
pub use Rattle.flat_passes.specs.of_code_parts as of_code_parts
pub use Rattle.flat_passes.specs.of_flat_form as of_flat_form
pub use Rattle.flat_passes.specs as of_flat_passes
pub use Rattle.flat_passes.specs.of_grid_meaning as of_grid_meaning
pub use Rattle.flat_passes.specs.of_nest_meaning as of_nest_meaning
pub use Rattle.flat_passes.specs.of_node_form as of_node_form
pub use Rattle.flat_passes.specs.of_row_runs as of_row_runs
pub use Rattle.flat_passes.specs.of_zpl_arrays as of_zpl_arrays
