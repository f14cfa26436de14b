pub mod Kin
pub mod Known
pub mod Partners
pub mod Place
pub mod Slots
pub mod Stage
pub use Rattle.grid_meaning.specs as of_grid_meaning
pub use Rattle.grid_meaning.specs.of_node_form as of_node_form
pub use Rattle.reduce_plan.specs.of_zpl_arrays as of_zpl_arrays
