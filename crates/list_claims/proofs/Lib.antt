pub mod CauseLemmas
pub mod ProgramLemmas
pub mod WholeLemmas
