pub mod SettledLemmas
pub mod RowLemmas
