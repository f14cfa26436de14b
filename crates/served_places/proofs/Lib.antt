pub mod ToldLemmas
pub mod GivenLemmas
pub mod BracketLemmas
pub mod PrefixLemmas
pub mod SlotLemmas
pub mod CleanLemmas
pub mod SourceLemmas
pub use Rattle.prefix_runs.proofs.of_lowering_runs as of_lowering_runs
pub use Rattle.prefix_runs.proofs as of_prefix_runs
