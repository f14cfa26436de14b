pub mod Fresh
pub mod Merge
pub mod Repeats
pub use Rattle.last_writes.specs.of_flat_passes as of_flat_passes
pub use Rattle.last_writes.specs.of_plan_form as of_plan_form
