pub mod BlocksLemmas
pub mod FactsLemmas
pub mod GroupLemmas
pub mod OneTables
pub mod OneWay
pub mod ReadsLemmas
pub mod RoomLemmas
pub mod SameLemmas
pub mod Sound
pub mod TablesLemmas
pub use Rattle.listing_rows.proofs.of_listing_lines as of_listing_lines
