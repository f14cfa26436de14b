mod Examples
pub mod SlotLemmas
pub mod ThereLemmas
mod SlotExamples
pub use Rattle.flat_form.proofs as of_flat_form
pub use Rattle.flat_form.proofs.of_grid_meaning as of_grid_meaning
pub use Rattle.row_orders.proofs as of_row_orders
