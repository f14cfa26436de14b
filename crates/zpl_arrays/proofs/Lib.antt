pub mod AgreeLemmas
pub mod AroundLemmas
pub mod ArrayLemmas
pub mod BorderCode
pub mod BorderLemmas
pub mod CheckLemmas
mod Examples
pub mod FoldLemmas
pub mod LineLemmas
pub mod ReferenceLemmas
pub mod RowLemmas
pub mod ScanLemmas
pub mod SourceLemmas
pub use Rattle.zpl_nums.proofs as of_zpl_nums
pub use Rattle.zpl_region.proofs as of_zpl_region
