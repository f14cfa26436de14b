pub mod Edge
pub mod Reach
pub mod Span
pub use Rattle.move_plan.specs as of_move_plan
