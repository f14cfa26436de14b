pub mod CutLemmas
pub mod ExactLemmas
pub mod JoinedLemmas
pub mod KnownLemmas
pub mod OnwardLemmas
pub mod SavingLemmas
pub mod WholeLemmas
pub use Rattle.exec_claims.proofs as of_exec_claims
