pub mod StillLemmas
pub mod OwnLemmas
pub mod QuietLemmas
pub mod AssignLemmas
pub mod StatementLemmas
pub mod FrameLemmas
pub mod NamedLemmas
pub mod SiteLemmas
pub mod RankLemmas
pub mod CallLemmas
pub mod GlobalLemmas
pub mod ProgramLemmas
pub mod BoxLemmas
pub mod WholeLemmas
pub mod NameOffsetLemmas
pub mod PlainSiteLemmas
pub mod CallOffsetLemmas
pub mod ToldLemmas
mod Examples
mod KnownLemmas
