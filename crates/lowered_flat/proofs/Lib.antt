pub mod ListLemmas
pub mod LimitLemmas
pub mod ShapeLemmas
pub mod DeclaredLemmas
pub mod HomeLemmas
pub mod CalledLemmas
pub mod DeclarationLemmas
pub mod CopyLemmas
pub mod GlobalLemmas
pub mod GivenLemmas
pub mod ToldLemmas
pub mod StorageLemmas
pub mod WholeLemmas
pub mod TypedLemmas
pub mod GridLemmas
pub mod ReadLemmas
pub mod ApartLemmas
pub use Rattle.lowering_fits.proofs as of_lowering_fits
