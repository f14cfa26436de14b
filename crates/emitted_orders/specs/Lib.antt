pub mod AsPlanned
pub use Rattle.plan_orders.specs.of_plan_meaning as of_plan_meaning
pub use Rattle.plan_orders.specs as of_plan_orders
