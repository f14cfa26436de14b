mod RowLemmas
pub use Rattle.node_messages.proofs as of_node_messages
