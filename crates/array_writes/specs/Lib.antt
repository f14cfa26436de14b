pub mod Write
pub use Rattle.array_lines.specs as of_array_lines
