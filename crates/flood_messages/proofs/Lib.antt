mod ConformLemmas
mod RowLemmas
mod WalkLemmas
