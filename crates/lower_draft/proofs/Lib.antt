pub mod LaidLemmas
pub mod GrowthLemmas
pub mod PushLemmas
pub mod SpreadLemmas
pub mod FringeLemmas
pub mod TableLemmas
pub use Rattle.zpl_lowering.proofs as of_zpl_lowering
