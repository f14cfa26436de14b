-- What a tuple has of its own while it runs a shattered statement: in the meaning a store whose
-- arrays have one value each, and in a loop a log of what it puts.
use Rattle.std.specs.Prelude.{ℕ, ◌==◌, ℤ, List, [], ◌∷◌, map, if◌then◌else◌}
use Rattle.zpl_arrays.specs.Array.{Array, element}
use Rattle.zpl_meaning.specs.Store.{Store}
use Rattle.zpl_meaning.specs.Points.{cut}
use Rattle.flat_form.specs.Loop.{Log, Puts, Joins}
use Rattle.flat_form.specs.Whole.{Whole}
use Rattle.array_runs.specs.of_zpl_lowering.Where.{Stored}
use Rattle.array_runs.specs.of_lowering_runs.Seen.{Spot, array_in, seen_store}

-- the value of an array behind a log, where it had a value before
abbrev pub value_behind : Log → ℕ → ℤ → ℤ
value_behind [] array before = before
value_behind (Puts other value ∷ log) array before =
    if other == array then value else value_behind log array before
value_behind (Joins scalar operator value ∷ log) array before = value_behind log array before

module _ (spots : List Spot) (arrays : List Stored) (before : Whole) (t : List ℤ) where
  -- what an array has at the tuple behind a log, cut to the tuple
  abbrev pub own_array : Log → Stored → Array
  own_array log stored =
      record (cut t (array_in before stored.array)) {
        values = value_behind log stored.array (element (array_in before stored.array) t) ∷ [];
      }

  -- the store that the tuple has in the meaning, where it has this log in a loop that began in a
  -- state
  abbrev pub own_store : Log → Store
  own_store log =
      record (seen_store spots arrays before) { arrays = map (own_array log) arrays }
