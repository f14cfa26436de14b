-- Where old rows come to stand in new code.
use Rattle.std.specs.Prelude.{ℕ, ◌+◌, List, [], ◌∷◌, slice_get, unwrap_or}

-- the new number of an old row by a list of them, and the number behind all rows for others
abbrev pub number_among : List ℕ → ℕ → ℕ → ℕ
number_among numbers end row = unwrap_or (slice_get numbers row) end

-- the new number of each row, from a number on, where each becomes so many rows
abbrev pub numbers_from : {Row : Type 0} → (Row → ℕ) → ℕ → List Row → List ℕ
numbers_from count number [] = []
numbers_from count number (row ∷ rows) =
    number ∷ numbers_from count (number + count row) rows
