pub mod PlaceLemmas
pub mod PutLemmas
pub mod WriteLemmas
pub use Rattle.array_lines.proofs as of_array_lines
