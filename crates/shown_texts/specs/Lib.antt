pub mod Numerals
pub mod Forms
pub use Rattle.shown_programs.specs as of_shown_programs
