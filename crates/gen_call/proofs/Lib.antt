pub mod RunLemmas
pub mod WorkLemmas
pub use Rattle.exec_call.proofs as of_exec_call
pub use Rattle.text_code.proofs.of_list_claims as of_list_claims
pub use Rattle.text_code.proofs as of_text_code
