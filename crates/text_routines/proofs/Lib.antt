pub mod HeadLemmas
pub mod RoutineLemmas
pub use Rattle.routine_walks.proofs as of_routine_walks
pub use Rattle.text_names.proofs as of_text_names
pub use Rattle.text_names.proofs.of_text_walk as of_text_walk
