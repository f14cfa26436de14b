pub mod Fit
pub mod Inside
pub use Rattle.array_places.specs as of_array_places
pub use Rattle.lower_operators.specs.of_array_regions as of_array_regions
pub use Rattle.lower_operators.specs.of_array_settling as of_array_settling
pub use Rattle.lower_operators.specs as of_lower_operators
pub use Rattle.lower_operators.specs.of_lower_places as of_lower_places
pub use Rattle.lower_operators.specs.of_lower_regions as of_lower_regions
