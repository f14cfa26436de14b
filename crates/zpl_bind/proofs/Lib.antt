pub mod DigitLemmas
pub mod NumberLemmas
pub mod TableLemmas
pub mod VectorLemmas
pub mod RegionLemmas
pub mod KnownLemmas
pub mod TextLemmas
pub mod StorageLemmas
pub mod StorageFaults
pub mod GlobalLemmas
pub mod BindLemmas
pub mod FaultlessLemmas
pub use Rattle.zpl_parts.proofs.of_zpl_binding as of_zpl_binding
