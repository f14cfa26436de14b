mod Examples
pub mod InlineLemmas
pub mod KeptLemmas
pub mod NameLemmas
pub mod PassLemmas
pub mod PlaceLemmas
pub mod PutLemmas
pub mod SlotLemmas
pub mod SplitLemmas
pub mod ThroughLemmas
pub use Rattle.temp_norm.proofs.of_flat_form as of_flat_form
