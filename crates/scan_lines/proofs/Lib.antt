pub mod CountLemmas
pub mod LoopLemmas
pub mod LineLemmas
pub mod ScanLemmas
pub mod TotalLemmas
