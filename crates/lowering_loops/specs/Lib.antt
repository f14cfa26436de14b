pub mod Turns
pub use Rattle.pass_promises.specs as of_pass_promises
