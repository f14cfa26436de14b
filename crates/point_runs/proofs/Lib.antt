mod Examples
pub mod CutLemmas
pub mod ValueLemmas
pub mod AlikeLemmas
pub mod MemberLemmas
pub mod MergeLemmas
pub mod AllLemmas
pub mod FormLemmas
pub mod SplitLemmas
pub use Rattle.array_runs.proofs as of_array_runs
