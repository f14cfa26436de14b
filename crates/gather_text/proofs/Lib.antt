mod OwnerLemmas
mod GatherLemmas
mod RowLemmas
