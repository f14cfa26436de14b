pub mod AxisLemmas
pub mod ReadLemmas
pub mod RunLemmas
pub mod SpotLemmas
pub mod WayLemmas
pub use Rattle.region_places.proofs.of_zpl_arrays as of_zpl_arrays
pub use Rattle.region_places.proofs.of_zpl_region as of_zpl_region
