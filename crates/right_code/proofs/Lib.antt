pub mod MeantLemmas
pub mod TypedLemmas
pub mod SettledLemmas
pub mod LoopLemmas
pub mod PlanLemmas
