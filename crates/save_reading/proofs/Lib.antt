mod BoxLemmas
pub mod OneLine
pub mod OneReading
pub mod OneWay
pub mod ReadLemmas
mod SentLemmas
pub use Rattle.grid_save.proofs as of_grid_save
