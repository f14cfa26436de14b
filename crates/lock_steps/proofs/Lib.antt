pub mod StepLemmas
pub mod EmittedLemmas
