mod BoundLemmas
mod HeldLemmas
mod MoreLemmas
mod RemapLemmas
mod RowLemmas
mod ScanLemmas
mod StageLemmas
pub mod KnownLemmas
pub mod RecordLemmas
pub mod StandLemmas
