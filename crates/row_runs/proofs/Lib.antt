pub mod RunLemmas
pub mod StraightLemmas
pub mod SegmentLemmas
pub mod RowLemmas
pub mod CutLemmas
pub mod PlaceLemmas
pub mod CodeLemmas
pub mod WantLemmas
pub mod TurnLemmas
pub mod CounterLemmas
mod Examples
pub mod StopLemmas
