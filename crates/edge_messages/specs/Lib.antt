pub use Rattle.exchange_messages.specs as of_exchange_messages
pub use Rattle.exchange_messages.specs.of_node_stages as of_node_stages
