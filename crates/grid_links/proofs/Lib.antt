pub mod DominationLemmas
pub mod CapacityLemmas
pub mod EndLemmas
mod Examples
pub mod FrontLemmas
pub mod HistoryLemmas
pub mod LapLemmas
pub mod LinkLemmas
mod NetworkLemmas
pub mod TurnLemmas
