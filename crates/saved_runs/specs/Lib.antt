pub use Rattle.grid_save.specs as of_grid_save
