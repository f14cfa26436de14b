-- Lists of whole tuples, one behind the other.
use Rattle.std.specs.Prelude.{ℕ, zero, suc, ◌*◌, ◌/◌, ◌-◌, ℤ, pos, List, [], ◌∷◌, ◌++◌, drop, take, length, replicate, flat_map}

-- the i-th tuple of k components, i counted from 0
abbrev pub tuple_at : ℕ → ℕ → List ℤ → List ℤ
tuple_at k i xs = take k (drop (i * k) xs)

-- the first tuples, so many
abbrev pub first_tuples : ℕ → ℕ → List ℤ → List (List ℤ)
first_tuples k zero xs = []
first_tuples k (suc n) xs = first_tuples k n xs ++ (tuple_at k n xs ∷ [])

-- and all of them
abbrev pub tuples_in : ℕ → List ℤ → List (List ℤ)
tuples_in k xs = first_tuples k (length xs / k) xs

-- the tuples, one behind the other
abbrev pub joined : List (List ℤ) → List ℤ
joined ts = flat_map (λ t. t) ts

-- a tuple with 0 for each component past its rank
abbrev pub filled : List ℤ → List ℤ
filled t = t ++ replicate (3 - length t) (pos 0)
