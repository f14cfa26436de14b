pub mod Answer
pub mod Cause
pub mod Decided
pub mod Whole
pub use Rattle.exec_claims.specs as of_exec_claims
pub use Rattle.list_claims.specs as of_list_claims
