pub mod NameLemmas
pub mod PartLemmas
pub mod RegionLemmas
pub use Rattle.zpl_names.proofs as of_zpl_names
pub use Rattle.zpl_tree.proofs as of_zpl_tree
