-- A walk along all rows of code, with what is known at the goals of jumps, which know less and less.
use Rattle.std.specs.Prelude.{ℕ, suc, Bool, true, false, ◌||◌, List, [], ◌∷◌, Option, Some, None}
use Rattle.std.specs.Prelude.{slice_get, slice_set, unwrap_or}
use Rattle.node_form.specs.declared.instructions.Instr.{Instr}
use Rattle.node_form.specs.declared.instructions.Instr.TheVariants as instr
use Rattle.node_form.specs.declared.tables.Tables.{Tables}
use Rattle.node_check.specs.Front.{Point, behind, has_less, met}

-- what is known at a number, if anything
abbrev pub front_at : List (Option Point) → ℕ → Option Point
front_at fronts at = unwrap_or (slice_get fronts at) None

-- `current` is what is known behind the last row, where the next one follows it; `reached` tells
-- that some goal was reached for the first time, and `lost` that some goal lost a fact
pub record Walk : Type 0 where
  pub fronts : List (Option Point)
  pub current : Option Point
  pub reached : Bool
  pub lost : Bool

abbrev pub begun : List (Option Point) → Walk
begun fronts = record { fronts = fronts; current = None; reached = false; lost = false }

-- ---- what is known at a goal, once a path leads there
abbrev pub joined : Option Point → Point → Option Point
joined None point = Some point
joined (Some front) point = Some (met front point)

abbrev pub is_new : Option Point → Bool
is_new None = true
is_new (Some front) = false

abbrev pub loses_some : Option Point → Point → Bool
loses_some None point = false
loses_some (Some front) point = has_less front point

abbrev pub joined_at : ℕ → Point → Walk → Walk
joined_at goal point walk = record {
  fronts = slice_set walk.fronts goal (joined (front_at walk.fronts goal) point);
  current = walk.current;
  reached = walk.reached || is_new (front_at walk.fronts goal);
  lost = walk.lost || loses_some (front_at walk.fronts goal) point;
}

abbrev pub joined_where : Option ℕ → Point → Walk → Walk
joined_where None point walk = walk
joined_where (Some goal) point walk = joined_at goal point walk

-- ---- in front of a row: where it is a goal, what is known there
abbrev pub front_entered : Option Point → Option Point → Option Point
front_entered None current = None
front_entered (Some front) None = Some front
front_entered (Some front) (Some point) = Some (met front point)

abbrev pub lost_entered : Option Point → Option Point → Bool
lost_entered None current = false
lost_entered (Some front) None = false
lost_entered (Some front) (Some point) = has_less front point

abbrev pub here : Option Point → Option Point → Option Point
here None current = current
here (Some front) current = Some front

abbrev pub entered : ℕ → Walk → Walk
entered at walk = record {
  fronts = slice_set walk.fronts at (front_entered (front_at walk.fronts at) walk.current);
  current = here (front_entered (front_at walk.fronts at) walk.current) walk.current;
  reached = walk.reached;
  lost = walk.lost || lost_entered (front_at walk.fronts at) walk.current;
}

-- ---- behind a row
abbrev pub goal_of : Instr → Option ℕ
goal_of (instr.Jump goal) = Some goal
goal_of (instr.Unless expr goal line) = Some goal
goal_of row = None

abbrev pub falls : Instr → Bool
falls (instr.Jump goal) = false
falls (instr.Trap kind line) = false
falls instr.End = false
falls row = true

abbrev pub next_where : Bool → Point → Option Point
next_where true point = Some point
next_where false point = None

abbrev pub passed : Instr → Point → Walk → Walk
passed row point walk =
    record (joined_where (goal_of row) point walk) { current = next_where (falls row) point }

abbrev pub left_with : Tables → Instr → Option Point → Walk → Walk
left_with code row None walk = walk
left_with code row (Some front) walk = passed row (behind code front row) walk

abbrev pub left : Tables → Instr → Walk → Walk
left code row walk = left_with code row walk.current walk

abbrev pub walked : Tables → ℕ → List Instr → Walk → Walk
walked code at [] walk = walk
walked code at (row ∷ rows) walk = walked code (suc at) rows (left code row (entered at walk))
