pub mod OpenedLemmas
pub mod FormLemmas
pub mod BracketLemmas
pub mod ConstantLemmas
pub mod EdgeLemmas
pub use Rattle.lower_places.proofs.of_lower_draft as of_lower_draft
