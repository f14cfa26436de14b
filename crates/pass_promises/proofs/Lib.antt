pub mod AddedLemmas
pub mod StayLemmas
