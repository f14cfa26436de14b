pub mod Listing
pub mod Typed
pub use Rattle.listing_rules.specs as of_listing_rules
