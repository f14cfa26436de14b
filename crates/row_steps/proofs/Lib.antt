mod ListLemmas
pub mod HeldLemmas
pub mod PartnerLemmas
pub mod StageLemmas
pub mod WalkLemmas
pub use Rattle.node_stages.proofs as of_node_stages
