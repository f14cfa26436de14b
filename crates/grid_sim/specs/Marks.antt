-- Marks of processors, counted.
use Rattle.std.specs.Prelude.{◌≡◌, ℕ, ◌<◌, List, length, Bool, true, false, not, slice_index_or}
use Rattle.std.specs.List.{count_by}
use Rattle.grid_sim.specs.declared.marks.Marks.TheInside.{Inside}

-- it is known how many aren't marked
abbrev pub CountsUnmarked : Inside → Type 0
CountsUnmarked inside = inside.unmarked ≡ count_by not inside.marks.items

-- the first that isn't marked
pub record IsFirstUnmarked (marks : List Bool) (p : ℕ) : Type 0 where
  pub there : p < length marks
  pub unmarked : slice_index_or marks p false ≡ false
  pub before : (q : ℕ) → q < p → slice_index_or marks q false ≡ true

-- there is a mark for each of so many processors, and it is right where it is known
pub record TellsWhere (Known : ℕ → Type 0) (fact : ℕ → Bool) (count : ℕ) (marks : List Bool)
    : Type 0 where
  pub many : length marks ≡ count
  pub each : (p : ℕ) → p < count → Known p → slice_index_or marks p false ≡ fact p
