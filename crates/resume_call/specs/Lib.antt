pub mod Call
pub mod Parts
pub mod Work
pub use Rattle.exec_call.specs as of_exec_call
