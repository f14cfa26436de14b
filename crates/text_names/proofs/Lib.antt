pub mod DeclareLemmas
pub mod FoundLemmas
pub mod HeadLemmas
pub mod StopLemmas
pub mod TextLemmas
pub use Rattle.text_walk.proofs as of_text_walk
