pub mod AloneLemmas
pub mod EventLemmas
mod Examples
pub mod HaltLemmas
pub mod ReachLemmas
pub mod RoomLemmas
pub mod RoundLemmas
pub mod StuckLemmas
pub mod TreeLemmas
