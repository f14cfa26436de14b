pub mod ScalarLemmas
pub mod ValueLemmas
pub mod ControlLemmas
pub mod ControlRowLemmas
pub mod PrintLemmas
pub mod LoopScalarLemmas
pub mod BehindLemmas
pub mod LoopPlaceLemmas
pub mod LoopRowLemmas
pub mod LoopFareLemmas
pub mod UniformLemmas
pub mod FlightLemmas
pub mod FareLemmas
pub use Rattle.node_check.proofs as of_node_check
pub use Rattle.needs_runs.proofs as of_needs_runs
pub use Rattle.plan_orders.proofs as of_plan_orders
pub use Rattle.plan_meaning.proofs as of_plan_meaning
