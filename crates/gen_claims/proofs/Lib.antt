pub mod CauseLemmas
pub mod MeantLemmas
