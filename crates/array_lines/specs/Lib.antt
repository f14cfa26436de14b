pub mod Axis
pub mod Read
pub use Rattle.region_places.specs.of_zpl_arrays as of_zpl_arrays
pub use Rattle.region_places.specs.of_zpl_nums as of_zpl_nums
pub use Rattle.region_places.specs.of_zpl_region as of_zpl_region
