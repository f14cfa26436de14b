pub mod DropLemmas
pub mod FreshLemmas
pub mod KeyLemmas
pub mod MergeLemmas
pub mod NeighbourLemmas
pub mod NewLemmas
pub mod PendingLemmas
pub mod ReachLemmas
pub use Rattle.last_writes.proofs.of_flat_passes as of_flat_passes
pub use Rattle.last_writes.proofs.of_plan_form as of_plan_form
