pub mod Fields
pub mod Listing
pub mod Rows
pub use Rattle.listing_lines.specs as of_listing_lines
