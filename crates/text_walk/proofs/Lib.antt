pub mod Meaning
pub mod StatementLemmas
pub use Rattle.site_faults.proofs.of_zpl_names as of_zpl_names
pub use Rattle.zpl_tree.proofs as of_zpl_tree
