-- The totals of all processors, as a list for each.
use Rattle.std.specs.Prelude.{ℕ, ℤ, List, [], fold, replicate, slice_set}

abbrev pub with_totals : List (List ℤ) → List (ℕ × List ℤ) → List (List ℤ)
with_totals all entries = fold (λ lists entry. slice_set lists entry.0 entry.1) all entries

-- so many lists, empty where no totals are told
abbrev pub totals_in : ℕ → List (ℕ × List ℤ) → List (List ℤ)
totals_in count entries = with_totals (replicate count []) entries
