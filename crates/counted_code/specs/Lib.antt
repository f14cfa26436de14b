pub mod Counted
pub mod Alike
pub mod Within
pub use Rattle.node_check.specs as of_node_check
pub use Rattle.plan_meaning.specs as of_plan_meaning
pub use Rattle.row_orders.specs as of_row_orders
