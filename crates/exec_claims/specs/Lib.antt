pub mod Answer
pub mod Cause
pub mod Decided
pub mod Texts
pub mod Whole
pub use Rattle.call_claims.specs as of_call_claims
pub use Rattle.node_check.specs as of_node_check
