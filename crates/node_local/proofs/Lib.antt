mod LogLemmas
mod StackLemmas
mod StartLemmas
pub mod StoreLemmas
