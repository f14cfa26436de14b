pub mod RankLemmas
pub mod DirectionLemmas
pub mod FormLemmas
pub mod PlaceLemmas
pub mod VisitedLemmas
pub mod AnswerLemmas
pub mod CurrentLemmas
pub mod MetLemmas
pub mod BorderLemmas
pub mod ShapeLemmas
pub mod RegionLemmas
pub mod FlatLemmas
pub mod FlatFormLemmas
pub mod FlatPointLemmas
pub use Rattle.meaning_runs.proofs.of_zpl_binding as of_zpl_binding
pub use Rattle.meaning_runs.proofs.of_zpl_meaning as of_zpl_meaning
pub use Rattle.meaning_runs.proofs.of_zpl_names as of_zpl_names
