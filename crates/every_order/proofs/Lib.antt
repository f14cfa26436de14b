pub mod PrintLemmas
pub mod RoundLemmas
pub mod GoodLemmas
pub mod TimeLemmas
