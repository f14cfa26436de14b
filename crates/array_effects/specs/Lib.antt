pub mod Effect
pub use Rattle.array_values.specs as of_array_values
