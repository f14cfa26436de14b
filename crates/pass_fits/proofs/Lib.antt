pub mod SameLemmas
pub mod RecodedLemmas
pub mod UnitLemmas
pub mod NeedLemmas
pub mod CombineLemmas
pub mod EarlyLemmas
pub mod FlatLemmas
pub mod ShiftLemmas
mod Examples
pub use Rattle.pass_parts.proofs as of_pass_parts
pub use Rattle.pass_parts.proofs.of_pass_sizes as of_pass_sizes
