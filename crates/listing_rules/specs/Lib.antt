pub mod Blocks
pub mod Facts
pub mod Found
pub mod Ranks
pub mod Reads
pub mod Room
pub mod Rules
pub mod Stages
pub use Rattle.listing_rows.specs.of_listing_lines as of_listing_lines
pub use Rattle.listing_rows.specs as of_listing_rows
