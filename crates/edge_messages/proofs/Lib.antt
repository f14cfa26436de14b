mod NearLemmas
mod RowLemmas
mod SourceLemmas
pub use Rattle.exchange_messages.proofs.of_node_stages as of_node_stages
