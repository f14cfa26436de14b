pub mod Brings
pub mod InStep
pub mod Open
pub use Rattle.plan_meaning.specs as of_plan_meaning
