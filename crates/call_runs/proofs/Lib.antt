pub mod ActualLemmas
pub mod InvokeLemmas
pub mod AnswerLemmas
pub mod EndLemmas
pub mod CopyLemmas
pub mod LeafLemmas
pub use Rattle.prefix_runs.proofs as of_prefix_runs
