pub mod Depth
mod Examples
pub mod GridLemmas
pub mod GrowthLemmas
pub mod NestLemmas
pub mod RangeLemmas
pub mod RankLemmas
pub mod ShapeLemmas
pub mod TouchLemmas
pub mod ValueLemmas
pub use Rattle.zpl_arrays.proofs as of_zpl_arrays
