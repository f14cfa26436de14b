pub mod WordLemmas
pub mod NumeralLemmas
pub mod TextLemmas
pub mod ValueLemmas
pub mod FormLemmas
mod Examples
