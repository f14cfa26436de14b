mod Examples
pub mod Rests
pub use Rattle.listing_lines.proofs as of_listing_lines
