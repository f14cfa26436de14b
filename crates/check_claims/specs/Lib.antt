pub mod Answer
pub mod Cause
pub mod Decided
pub use Rattle.exec_claims.specs as of_exec_claims
