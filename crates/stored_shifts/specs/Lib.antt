pub mod Stored
pub use Rattle.node_form.specs as of_node_form
pub use Rattle.node_form.specs.of_zpl_arrays as of_zpl_arrays
