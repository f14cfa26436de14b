-- How words are taken apart at each `:` and each `.`.
use Rattle.std.specs.Prelude.{◌≢◌, ◌||◌, ◌==◌, ℕ, Bool, ℤ, List, [], ◌∷◌, codes}
use Rattle.std.specs.Fmt.{signed_decimal}

-- a `:` or a `.`
abbrev pub is_cut : ℕ → Bool
is_cut byte = byte == 58 || byte == 46

abbrev pub range_pieces : ℤ → ℤ → ℤ → ℤ → List (List ℕ)
range_pieces lo hi step align =
    signed_decimal lo ∷ [] ∷ signed_decimal hi ∷ signed_decimal step ∷ signed_decimal align ∷ []

abbrev pub side_pieces : ℤ → ℤ → List (List ℕ)
side_pieces lo hi = signed_decimal lo ∷ [] ∷ signed_decimal hi ∷ []

abbrev pub trap_pieces : ℤ → ℤ → List (List ℕ)
trap_pieces kind line = codes "trap" ∷ signed_decimal kind ∷ signed_decimal line ∷ []

-- a word that isn't this one
abbrev pub IsOther : List ℕ → List ℕ → Type 0
IsOther word other = other ≢ word
