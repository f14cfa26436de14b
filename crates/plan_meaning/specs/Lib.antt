pub mod Abreast
pub mod Act
pub mod Loops
pub mod Messages
pub use Rattle.flat_form.specs as of_flat_form
pub use Rattle.flat_form.specs.of_grid_meaning as of_grid_meaning
pub use Rattle.row_orders.specs as of_row_orders
