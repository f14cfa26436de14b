pub mod AnswerLemmas
pub mod MoreLemmas
pub mod PathLemmas
pub mod StraightLemmas
pub mod FrameLemmas
pub mod EffectLemmas
pub mod ToldLemmas
pub mod ExchangeLemmas
pub mod AlongLemmas
pub mod AlikeLemmas
pub mod SharedLemmas
pub mod GoodLemmas
pub mod LessLemmas
pub mod CalmLemmas
pub mod SetLemmas
pub mod VerdictLemmas
pub mod RegionLemmas
pub mod EachLemmas
pub mod CodeLemmas
pub mod ValidLemmas
pub mod BoundLemmas
mod Examples
mod StrikeLemmas
