pub use Rattle.node_messages.specs as of_node_messages
