mod Examples
pub mod FoldLemmas
pub mod IntegerLemmas
pub mod OperatorLemmas
