pub mod GoneLemmas
pub mod PartLemmas
pub mod RunLemmas
pub mod WorkLemmas
pub use Rattle.exec_call.proofs.of_resume_claims as of_resume_claims
