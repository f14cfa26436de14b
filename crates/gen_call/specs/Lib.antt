pub mod Call
pub mod Work
pub use Rattle.exec_call.specs as of_exec_call
pub use Rattle.text_code.specs.of_list_claims as of_list_claims
pub use Rattle.gen_claims.specs.of_run_claims as of_run_claims
pub use Rattle.text_code.specs as of_text_code
pub use Rattle.text_code.specs.of_zpl_compile as of_zpl_compile
