pub mod Fit
pub use Rattle.array_places.specs as of_array_places
pub use Rattle.array_terms.specs as of_array_terms
