mod Examples
pub mod TableLemmas
pub mod ValueLemmas
pub mod CountLemmas
pub mod GroupLemmas
pub mod WornLemmas
pub mod TurnLemmas
pub mod VoteLemmas
pub mod ActLemmas
pub mod GridLemmas
pub mod NestLemmas
pub mod StepLemmas
pub mod FitLemmas
pub mod SoundLemmas
pub use Rattle.node_check.proofs as of_node_check
pub use Rattle.row_orders.proofs as of_row_orders
