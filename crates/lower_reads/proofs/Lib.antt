pub mod ReadLemmas
pub mod ArmLemmas
pub use Rattle.zpl_lowering.proofs.of_flat_form as of_flat_form
pub use Rattle.zpl_lowering.proofs.of_text_sharing as of_text_sharing
pub use Rattle.zpl_lowering.proofs.of_zpl_meaning as of_zpl_meaning
