-- The tree over the processors: the children of p are 2p + 1 and 2p + 2.
use Rattle.std.specs.Prelude.{ℕ, ◌+◌, ◌-◌, ◌*◌, ◌/◌, ◌<◌, ◌==◌, nat_lt, if◌then◌else◌, Option, Some, None, List, [], ◌∷◌, Contains}

-- the processor above p: none is above 0
abbrev pub parent_of : ℕ → Option ℕ
parent_of p = if p == 0 then None else Some ((p - 1) / 2)

-- c, where there is such a processor among so many
abbrev pub processor_below : ℕ → ℕ → Option ℕ
processor_below count c = if nat_lt c count then Some c else None

-- the two places below p
abbrev pub children_of : ℕ → ℕ → List (Option ℕ)
children_of p count = processor_below count (2 * p + 1) ∷ processor_below count (2 * p + 2) ∷ []

-- what is reached from 0 by going from processors to their children
pub data IsInTree (count : ℕ) : ℕ → Type 0 where
  Root : 0 < count → IsInTree count 0
  Child : (p c : ℕ) → IsInTree count p → Contains (children_of p count) (Some c) → IsInTree count c
