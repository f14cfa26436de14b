pub mod Call
pub mod Work
pub use Rattle.bound_texts.specs.of_call_answers as of_call_answers
pub use Rattle.bound_texts.specs.of_exec_claims as of_exec_claims
pub use Rattle.bound_texts.specs.of_mean_claims as of_mean_claims
