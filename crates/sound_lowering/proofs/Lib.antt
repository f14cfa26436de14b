pub mod UniformLemmas
pub mod LoopLemmas
pub mod TakenLemmas
pub mod FoldLemmas
pub mod SegmentLemmas
pub mod KeptLemmas
pub mod AssembleLemmas
pub mod SoundLemmas
