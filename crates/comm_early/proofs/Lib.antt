pub mod CrossLemmas
pub mod SumLemmas
pub mod TrackLemmas
pub mod LoadLemmas
pub mod FollowLemmas
pub mod SendLemmas
pub mod EarlyLemmas
pub mod PassedLemmas
