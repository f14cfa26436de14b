pub mod Holds
pub mod Agree
pub mod Planned
pub mod Sharable
pub use Rattle.plan_meaning.specs as of_plan_meaning
