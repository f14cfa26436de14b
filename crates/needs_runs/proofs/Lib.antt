pub mod BeginLemmas
pub mod BringLemmas
pub mod ControlLemmas
pub mod ControlRows
pub mod ExchangeLemmas
pub mod HoldsLemmas
pub mod NeedLemmas
pub mod NeedRows
pub mod OwnerLemmas
pub mod PieceLemmas
pub mod PlaceLemmas
pub mod PlannedLemmas
pub mod RoomRows
pub mod SlotLemmas
pub mod FlatLemmas
pub mod FloodLemmas
pub use Rattle.plan_meaning.proofs as of_plan_meaning
