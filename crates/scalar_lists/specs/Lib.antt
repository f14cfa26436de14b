pub mod Scalars
pub use Rattle.array_scalars.specs as of_array_scalars
