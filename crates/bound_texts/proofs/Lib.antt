pub mod SettingLemmas
pub mod TextLemmas
pub use Rattle.call_answers.proofs as of_call_answers
pub use Rattle.call_answers.proofs.of_exec_claims as of_exec_claims
pub use Rattle.mean_claims.proofs as of_mean_claims
