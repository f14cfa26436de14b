pub mod StageLemmas
pub mod OrderLemmas
pub mod FrontLemmas
pub mod WellLemmas
pub mod SoundLemmas
pub mod CheckedLemmas
pub mod RunLemmas
mod Examples
