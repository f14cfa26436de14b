pub mod Arrays
pub mod Bodies
pub use Rattle.lower_reads.specs.of_flat_form as of_flat_form
pub use Rattle.lower_reads.specs.of_grid_meaning as of_grid_meaning
pub use Rattle.lower_reads.specs.of_row_runs as of_row_runs
pub use Rattle.lower_reads.specs.of_text_sharing as of_text_sharing
pub use Rattle.lower_draft.specs.of_zpl_lowering as of_zpl_lowering
