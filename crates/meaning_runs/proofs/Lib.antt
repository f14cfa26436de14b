pub mod PartLemmas
pub mod LoopLemmas
pub mod FormLemmas
pub mod TupleLemmas
pub mod RunLemmas
pub mod VisitedLemmas
pub mod KeepLemmas
pub mod HeldLemmas
pub mod MetLemmas
pub mod OwnLemmas
pub mod ResultLemmas
pub mod KnownLemmas
pub mod SiteLemmas
pub mod ComputedLemmas
pub mod ApartLemmas
pub mod EndLemmas
pub mod StopLemmas
pub mod TrapRunLemmas
pub mod DepthLemmas
pub use Rattle.zpl_meaning.proofs.of_zpl_binding as of_zpl_binding
pub use Rattle.zpl_meaning.proofs as of_zpl_meaning
pub use Rattle.zpl_meaning.proofs.of_zpl_names as of_zpl_names
