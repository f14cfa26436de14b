pub mod PhaseLemmas
pub mod StatementLemmas
pub mod TrapLemmas
