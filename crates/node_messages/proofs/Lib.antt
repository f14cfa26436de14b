pub mod KeptLemmas
pub mod ReadLemmas
pub use Rattle.node_stages.proofs as of_node_stages
