pub mod Noted
pub mod Declared
pub mod Reads
pub mod Different
pub use Rattle.array_numbers.specs as of_array_numbers
