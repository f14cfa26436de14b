pub mod Partial
pub mod Tree
pub use Rattle.region_places.specs.of_zpl_arrays as of_zpl_arrays
pub use Rattle.grid_layout.specs.of_zpl_region as of_zpl_region
