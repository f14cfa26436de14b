pub mod Inline
pub mod Slates
pub mod Storages
pub mod Reach
pub mod Lowerings
pub mod Standing
pub mod Whole
pub mod Declarations
pub use Rattle.lower_numbers.specs.of_flat_form as of_flat_form
pub use Rattle.lower_numbers.specs.of_grid_meaning as of_grid_meaning
pub use Rattle.lower_numbers.specs as of_lower_numbers
pub use Rattle.meaning_ranks.specs as of_meaning_ranks
pub use Rattle.lower_numbers.specs.of_text_sharing as of_text_sharing
pub use Rattle.meaning_ranks.specs.of_zpl_binding as of_zpl_binding
pub use Rattle.lower_numbers.specs.of_zpl_lowering as of_zpl_lowering
pub use Rattle.meaning_ranks.specs.of_zpl_meaning as of_zpl_meaning
