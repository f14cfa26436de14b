pub mod Tests
pub mod Values
pub mod Prefixes
pub mod Writes
pub mod Counters
pub mod Borders
pub use Rattle.array_places.specs as of_array_places
pub use Rattle.lower_points.specs.of_array_regions as of_array_regions
pub use Rattle.lower_points.specs.of_array_settling as of_array_settling
pub use Rattle.lower_points.specs.of_lower_operators as of_lower_operators
pub use Rattle.lower_points.specs as of_lower_points
