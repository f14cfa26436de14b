pub mod Call
pub mod Work
pub use Rattle.check_claims.specs as of_check_claims
