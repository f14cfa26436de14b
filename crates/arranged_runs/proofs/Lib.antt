mod Examples
pub mod UnitLemmas
pub mod ThreeLemmas
pub mod ArrangedLemmas
pub mod PlanLemmas
pub mod CutLemmas
pub mod SentLemmas
