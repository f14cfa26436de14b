pub mod ReadLemmas
pub mod SpotLemmas
pub use Rattle.array_writes.proofs.of_array_lines as of_array_lines
