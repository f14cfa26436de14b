pub mod Last
pub use Rattle.plan_form.specs.of_code_parts as of_code_parts
pub use Rattle.plan_form.specs.of_flat_passes as of_flat_passes
pub use Rattle.plan_form.specs.of_node_form as of_node_form
pub use Rattle.plan_form.specs as of_plan_form
pub use Rattle.plan_form.specs.of_row_runs as of_row_runs
