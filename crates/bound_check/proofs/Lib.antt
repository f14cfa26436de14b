pub mod FitLemmas
pub mod KeptLemmas
mod Programs
pub mod RegionLemmas
pub mod SizeLemmas
pub mod UndecidedLemmas
pub mod WriteLemmas
