pub use Rattle.scalar_steps.specs.Start
pub mod Steps
pub mod Fit
pub mod Checked
pub mod Edges
pub mod Prints
pub use Rattle.scalar_steps.specs.of_array_frames as of_array_frames
pub use Rattle.scalar_steps.specs.of_array_regions as of_array_regions
pub use Rattle.scalar_steps.specs.of_array_settling as of_array_settling
