pub mod Things
pub mod View
pub mod Sound
pub mod Plain
pub use Rattle.array_stops.specs as of_array_stops
pub use Rattle.array_terms.specs as of_array_terms
pub use Rattle.zpl_bind.specs as of_zpl_bind
pub use Rattle.zpl_bind.specs.of_zpl_binding as of_zpl_binding
pub use Rattle.array_stops.specs.of_zpl_meaning as of_zpl_meaning
