pub mod Variables
pub mod Heads
pub mod Handed
pub use Rattle.array_places.specs as of_array_places
pub use Rattle.array_regions.specs as of_array_regions
