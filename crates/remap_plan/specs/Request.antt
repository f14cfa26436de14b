-- Reads of an array at tuples that are computed: which processor has a tuple, what is asked of it,
-- and what it answers.
use Rattle.std.specs.Prelude.{ℕ, ◌==◌, Bool, false, if◌then◌else◌, ℤ, List, map, filter, Option, Some, None, is_some}
use Rattle.zpl_region.specs.declared.regions.Region.{Region}
use Rattle.zpl_region.specs.Tests.{is_member}
use Rattle.zpl_arrays.specs.Array.{element}
use Rattle.grid_layout.specs.Layout.{Arrangement, box_at, held_box_of, laid_out, owner_of}
use Rattle.remap_plan.specs.Tuples.{filled, joined, tuples_in}

-- the storage of an array, and its rank
abbrev pub storage_of : Arrangement → ℕ → Region
storage_of a array = (box_at a array).shape

abbrev pub rank_of : Arrangement → ℕ → ℕ
rank_of a array = (storage_of a array).rank

-- the owner of a tuple, if the storage has the tuple
abbrev pub home_of : Arrangement → ℕ → List ℤ → Option ℕ
home_of a array t =
    if is_member (storage_of a array) (filled t) then Some (owner_of (laid_out a) (rank_of a array) (filled t)) else None

abbrev pub has_home : Arrangement → ℕ → List ℤ → Bool
has_home a array t = is_some (home_of a array t)

-- whether p is it
abbrev pub is_number : ℕ → Option ℕ → Bool
is_number p None = false
is_number p (Some q) = q == p

abbrev pub is_home : Arrangement → ℕ → ℕ → List ℤ → Bool
is_home a array p t = is_number p (home_of a array t)

-- the wanted tuples that are asked of a processor: those whose home it is, in their order
abbrev pub asked_of : Arrangement → ℕ → ℕ → List ℤ → List (List ℤ)
asked_of a array to wanted = filter (is_home a array to) (tuples_in (rank_of a array) wanted)

abbrev pub asks_of : Arrangement → ℕ → ℕ → List ℤ → List ℤ
asks_of a array to wanted = joined (asked_of a array to wanted)

-- the value that a processor holds at a tuple
abbrev pub held_value : Arrangement → ℕ → ℕ → List ℤ → List ℤ → ℤ
held_value a array p values t = element (record { storage = held_box_of a array p; values = values }) (filled t)

-- what it answers: the values at the tuples that it is asked for, in their order
abbrev pub answers_of : Arrangement → ℕ → ℕ → List ℤ → List ℤ → List ℤ
answers_of a array p values asked = map (held_value a array p values) (tuples_in (rank_of a array) asked)
