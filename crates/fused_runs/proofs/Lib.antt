mod Examples
pub mod AwaitLemmas
pub mod BareLemmas
pub mod BeginLemmas
pub mod CheckedLemmas
pub mod ForthLemmas
pub mod ForwardLemmas
pub mod HoldsLemmas
pub mod JoinedLemmas
pub mod KeptLemmas
pub mod KnownLemmas
pub mod PassingLemmas
pub mod ReadyLemmas
pub mod SizedLemmas
pub mod StillLemmas
pub mod SwapLemmas
pub mod UnitLemmas
pub mod WalkLemmas
pub mod ZeroLemmas
pub use Rattle.contracted_runs.proofs as of_contracted_runs
