pub use Rattle.plan_form.proofs.of_code_parts as of_code_parts
pub use Rattle.plan_form.proofs.of_flat_passes as of_flat_passes
pub use Rattle.plan_form.proofs as of_plan_form
pub use Rattle.plan_form.proofs.of_row_runs as of_row_runs
