pub mod CodeLemmas
pub mod TextLemmas
pub use Rattle.list_claims.proofs as of_list_claims
