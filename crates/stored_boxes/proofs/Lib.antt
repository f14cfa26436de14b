pub mod GreatestLemmas
pub mod FringeLemmas
pub mod DeclaredLemmas
pub mod ReadLemmas
pub mod CountLemmas
pub mod DifferentLemmas
pub mod ExpandedLemmas
pub mod NumberedLemmas
pub use Rattle.array_numbers.proofs as of_array_numbers
