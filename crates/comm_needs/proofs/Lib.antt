pub mod NeedLemmas
pub mod PlanLemmas
pub use Rattle.plan_form.proofs.of_flat_passes as of_flat_passes
pub use Rattle.plan_form.proofs as of_plan_form
