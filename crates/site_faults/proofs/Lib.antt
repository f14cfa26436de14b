pub mod CallLemmas
pub mod FindingLemmas
pub mod FormTold
pub mod NodeLemmas
pub mod OrderLemmas
pub mod RegionTold
pub mod StatementTold
pub mod WalkRules
pub mod WholeLemmas
pub use Rattle.name_kinds.proofs.of_zpl_names as of_zpl_names
pub use Rattle.zpl_tree.proofs as of_zpl_tree
