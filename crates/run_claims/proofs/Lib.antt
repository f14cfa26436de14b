mod Examples
pub mod CodeLemmas
pub mod CauseLemmas
pub mod RunLemmas
pub mod WholeLemmas
pub use Rattle.exec_claims.proofs as of_exec_claims
pub use Rattle.list_claims.proofs as of_list_claims
