pub mod NumberLemmas
pub mod RunnableLemmas
pub mod PlanLemmas
