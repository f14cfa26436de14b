pub mod Action
pub mod Collective
pub mod Delivery
pub mod Exchange
pub mod Gather
pub mod Grid
pub mod Local
pub mod Loop
pub mod Order
pub mod Owner
pub mod Place
pub mod Remap
pub mod Room
pub mod Rows
pub mod Scalar
pub mod Scan
pub mod State
pub mod Stored
pub mod Turn
pub use Rattle.grid_layout.specs as of_grid_layout
pub use Rattle.grid_links.specs as of_grid_links
pub use Rattle.node_form.specs as of_node_form
pub use Rattle.node_form.specs.of_zpl_arrays as of_zpl_arrays
pub use Rattle.node_form.specs.of_zpl_nums as of_zpl_nums
pub use Rattle.grid_layout.specs.of_zpl_region as of_zpl_region
