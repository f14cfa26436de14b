pub mod HaveLemmas
pub mod TurnLemmas
pub mod UnitLemmas
pub mod GroupLemmas
