mod Examples
pub mod NumberLemmas
pub mod RunLemmas
pub mod LengthLemmas
pub mod MailLemmas
pub mod LedgerLemmas
pub mod StepLemmas
pub mod FirstLemmas
pub mod AddLemmas
pub mod TraceLemmas
