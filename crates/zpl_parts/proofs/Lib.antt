pub mod PartLemmas
pub mod SiteLemmas
pub use Rattle.zpl_binding.proofs as of_zpl_binding
pub use Rattle.zpl_binding.proofs.of_zpl_tree as of_zpl_tree
