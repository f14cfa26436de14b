pub mod SharableLemmas
pub mod ShownLemmas
pub use Rattle.lock_steps.proofs as of_lock_steps
