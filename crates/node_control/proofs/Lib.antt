mod ValueLemmas
mod MoveLemmas
mod DimLemmas
mod SlotLemmas
mod StorageLemmas
