pub mod Accepted
pub use Rattle.compiled_tidy.specs as of_compiled_tidy
