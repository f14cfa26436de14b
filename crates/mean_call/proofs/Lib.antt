mod TextLemmas
mod WorkLemmas
pub use Rattle.bound_texts.proofs.of_call_answers as of_call_answers
pub use Rattle.bound_texts.proofs.of_exec_claims as of_exec_claims
