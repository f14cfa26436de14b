pub mod RowLemmas
pub mod FoldLemmas
