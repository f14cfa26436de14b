mod Examples
pub mod FineLemmas
pub mod InlineLemmas
pub mod KeptLemmas
pub mod LoopLemmas
pub mod PointLemmas
pub mod RowLemmas
pub mod ShortLemmas
pub mod StorageLemmas
pub mod ThreeLemmas
pub mod UnitLemmas
pub mod WriteLemmas
pub use Rattle.fuse_contract.proofs as of_fuse_contract
