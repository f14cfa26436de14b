pub mod NumberLemmas
pub mod ReachLemmas
pub mod SpanLemmas
pub mod EdgeLemmas
pub mod PieceLemmas
