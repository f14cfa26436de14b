pub mod NodeLemmas
pub mod NumberLemmas
pub mod TextLemmas
pub use Rattle.text_walk.proofs as of_text_walk
pub use Rattle.text_walk.proofs.of_zpl_names as of_zpl_names
pub use Rattle.zpl_tree.proofs as of_zpl_tree
