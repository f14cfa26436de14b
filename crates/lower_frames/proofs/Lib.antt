pub mod FrameLemmas
pub mod OpeningLemmas
pub use Rattle.array_frames.proofs as of_array_frames
