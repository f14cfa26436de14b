pub mod Fit
pub mod Placed
pub use Rattle.array_places.specs as of_array_places
pub use Rattle.array_regions.specs as of_array_regions
