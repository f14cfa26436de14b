pub mod SiteLemmas
pub mod NameLemmas
pub mod InstanceLemmas
pub mod SumLemmas
pub use Rattle.lower_reads.proofs.of_flat_form as of_flat_form
pub use Rattle.lower_reads.proofs.of_text_sharing as of_text_sharing
pub use Rattle.lower_draft.proofs.of_zpl_lowering as of_zpl_lowering
