pub use Rattle.plan_passes.specs.of_needs_runs as of_needs_runs
pub use Rattle.message_runs.specs.of_plan_orders as of_plan_orders
