pub mod Code
pub mod Once
pub mod Remapped
pub mod Sound
pub mod View
pub use Rattle.array_places.specs as of_array_places
pub use Rattle.array_settling.specs.of_array_regions as of_array_regions
pub use Rattle.array_settling.specs as of_array_settling
pub use Rattle.lower_regions.specs.of_lower_draft as of_lower_draft
pub use Rattle.lower_regions.specs.of_lower_places as of_lower_places
pub use Rattle.lower_regions.specs as of_lower_regions
