pub mod RowLemmas
pub mod TermLemmas
pub mod RemapLemmas
