-- Orders of turns.
use Rattle.std.specs.Prelude.{ℕ, zero, suc, ◌-◌, ◌%◌, ◌<◌, List, [], ◌∷◌, ◌++◌, length, nat_lt, if◌then◌else◌, slice_index, All}

-- an order for so many processors
abbrev pub IsOrder : ℕ → List ℕ → Type 0
IsOrder count order = All (λ p. p < count) order

-- the processor at a place of the endless list that begins with an order and goes on round the
-- processors
abbrev pub turn_number : List ℕ → ℕ → ℕ → ℕ
turn_number order count k = if nat_lt k (length order) then slice_index order k else (k - length order) % count

-- the first k members of that list
abbrev pub given : List ℕ → ℕ → ℕ → List ℕ
given order count zero = []
given order count (suc k) = given order count k ++ turn_number order count k ∷ []
