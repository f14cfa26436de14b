pub mod Reading
pub use Rattle.call_claims.specs as of_call_claims
