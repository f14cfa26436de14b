pub mod Text
pub mod Operators
pub use Rattle.served_places.specs as of_served_places
