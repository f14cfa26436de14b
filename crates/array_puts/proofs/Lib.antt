pub mod WriteLemmas
pub mod PutLemmas
mod Examples
pub use Rattle.normal_runs.proofs as of_normal_runs
