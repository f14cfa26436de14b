pub use Rattle.temp_norm.specs.of_flat_form as of_flat_form
pub use Rattle.temp_norm.specs.of_grid_meaning as of_grid_meaning
