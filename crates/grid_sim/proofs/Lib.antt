mod CountLemmas
mod MarkLemmas
mod RestLemmas
mod TellLemmas
mod TeamLemmas
mod GivenLemmas
mod ReadLemmas
pub mod RunLemmas
mod PlaceLemmas
mod TurnLemmas
mod StartLemmas
mod RestoreLemmas
pub use Rattle.node_turn.proofs.of_row_turn as of_row_turn
