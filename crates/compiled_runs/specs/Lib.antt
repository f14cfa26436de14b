pub use Rattle.settled_runs.specs.of_fuse_contract as of_fuse_contract
pub use Rattle.settled_runs.specs.of_fused_runs as of_fused_runs
pub use Rattle.lock_steps.specs as of_lock_steps
pub use Rattle.lock_steps.specs.of_lowering_runs as of_lowering_runs
pub use Rattle.planned_runs.specs.of_needs_runs as of_needs_runs
pub use Rattle.planned_runs.specs.of_plan_orders as of_plan_orders
pub use Rattle.settled_runs.specs.of_zpl_compile as of_zpl_compile
