pub mod Scalars
pub mod Actuals
pub mod Start
pub use Rattle.array_frames.specs as of_array_frames
pub use Rattle.array_places.specs as of_array_places
pub use Rattle.array_frames.specs.of_array_regions as of_array_regions
pub use Rattle.scalar_lists.specs.of_array_scalars as of_array_scalars
pub use Rattle.array_settling.specs as of_array_settling
