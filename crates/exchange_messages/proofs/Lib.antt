mod HeldLemmas
mod ItemLemmas
mod WriteLemmas
pub use Rattle.node_messages.proofs as of_node_messages
pub use Rattle.node_messages.proofs.of_node_stages as of_node_stages
