pub mod Needs
pub use Rattle.plan_form.specs.of_flat_passes as of_flat_passes
pub use Rattle.plan_form.specs as of_plan_form
