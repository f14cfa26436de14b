pub mod CheckedLemmas
pub mod StepLemmas
pub mod WalkLemmas
pub mod PrintLemmas
pub mod InsideLemmas
pub use Rattle.scalar_steps.proofs.of_array_frames as of_array_frames
pub use Rattle.scalar_steps.proofs.of_array_regions as of_array_regions
