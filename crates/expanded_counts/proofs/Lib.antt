pub mod CountLemmas
pub mod SizeLemmas
pub use Rattle.routine_walks.proofs as of_routine_walks
pub use Rattle.routine_walks.proofs.of_zpl_names as of_zpl_names
