pub mod Frames
pub mod Rows
pub mod Openings
pub use Rattle.array_frames.specs as of_array_frames
pub use Rattle.lower_places.specs as of_lower_places
