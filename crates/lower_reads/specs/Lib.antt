pub mod Reads
pub use Rattle.zpl_lowering.specs.of_flat_form as of_flat_form
pub use Rattle.zpl_lowering.specs.of_grid_meaning as of_grid_meaning
pub use Rattle.zpl_lowering.specs.of_row_runs as of_row_runs
pub use Rattle.zpl_lowering.specs.of_text_sharing as of_text_sharing
