pub mod Known
pub mod Own
pub mod Placed
pub mod Together
pub use Rattle.node_control.specs as of_node_control
