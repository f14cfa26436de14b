pub use Rattle.plan_orders.specs as of_plan_orders
