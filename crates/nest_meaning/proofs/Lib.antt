pub mod GrowthLemmas
pub mod AlikeLemmas
pub mod UnitLemmas
pub mod Spelled
pub mod TreeLemmas
pub mod TurnLemmas
pub mod ComeLemmas
pub mod PartLemmas
mod Examples
pub mod JoinLemmas
pub use Rattle.row_runs.proofs as of_row_runs
