pub mod Routines
pub use Rattle.routine_walks.specs as of_routine_walks
pub use Rattle.text_names.specs as of_text_names
pub use Rattle.text_names.specs.of_text_walk as of_text_walk
