pub mod EarlyLemmas
mod Examples
pub mod FusedLemmas
pub mod ListLemmas
pub mod MergedLemmas
pub mod RepeatLemmas
pub mod UseLemmas
pub mod WalkLemmas
pub use Rattle.node_form.proofs.of_zpl_arrays as of_zpl_arrays
