pub mod Elementwise
pub mod Left
pub mod Own
pub mod Run
pub mod Checked
pub mod Targets
pub use Rattle.array_places.specs as of_array_places
