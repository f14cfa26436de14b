pub mod RankLemmas
pub mod FrameLemmas
pub mod StorageLemmas
pub mod LoopLemmas
pub mod SmallLemmas
pub use Rattle.array_regions.proofs as of_array_regions
