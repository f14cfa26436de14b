pub mod Row
pub use Rattle.array_terms.specs as of_array_terms
