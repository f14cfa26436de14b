pub mod Ranked
pub mod Answered
pub mod Bordered
pub mod Shaped
pub mod Flat
pub mod Unmasked
pub use Rattle.meaning_runs.specs.of_zpl_binding as of_zpl_binding
pub use Rattle.meaning_runs.specs.of_zpl_meaning as of_zpl_meaning
pub use Rattle.meaning_runs.specs.of_zpl_names as of_zpl_names
pub use Rattle.meaning_runs.specs.of_zpl_tree as of_zpl_tree
