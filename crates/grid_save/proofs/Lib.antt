mod Examples
pub mod BoxLemmas
pub mod CutLemmas
pub mod GridLemmas
pub mod NumberLemmas
pub mod OnwardLemmas
pub mod OrderLemmas
pub mod SameLemmas
pub mod SenderLemmas
pub mod StateLemmas
pub mod StoreLemmas
pub mod TellLemmas
pub mod WriteLemmas
