pub mod FoundLemmas
pub mod WalkLemmas
pub mod CallLemmas
pub mod TextLemmas
pub mod GlobalLemmas
pub mod PlaceLemmas
pub mod NumberLemmas
pub mod PlainLemmas
mod Examples
