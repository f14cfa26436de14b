pub mod Held
pub mod Writing
pub use Rattle.node_messages.specs.of_node_local as of_node_local
pub use Rattle.node_messages.specs as of_node_messages
pub use Rattle.node_messages.specs.of_node_stages as of_node_stages
