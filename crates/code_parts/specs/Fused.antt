-- Loops that stand one behind the other are one loop, where their groups can be joined.
use Rattle.std.specs.Prelude.{◌≡◌, ℕ, ◌==◌, Bool, true, false, not, ◌&&◌, Option, Some}
use Rattle.std.specs.Prelude.{None, List, ◌∷◌, ◌++◌}
use Rattle.std.specs.List.{AllByRecursion}
use Rattle.node_form.specs.declared.instructions.Instr.{Instr}
use Rattle.node_form.specs.declared.instructions.Instr.TheVariants as instr
use Rattle.node_form.specs.declared.tables.Tables.{Tables}
use Rattle.code_parts.specs.Uses.{share, has_loops, put_arrays, shifted_arrays}
use Rattle.code_parts.specs.Uses.{accumulated, read_scalars}
use Rattle.code_parts.specs.Stretch.{IsStretch, is_right_throughout}

-- Neither group has `while` or `repeat`, no array that one puts is read with a shift by the other,
-- and no scalar that one accumulates is read or accumulated by the other.
abbrev pub are_joinable : Tables → ℕ → ℕ → Bool
are_joinable tables one other =
    not (has_loops tables one) && not (has_loops tables other)
    && not (share (put_arrays tables one) (shifted_arrays tables other))
    && not (share (put_arrays tables other) (shifted_arrays tables one))
    && not (share (accumulated tables one) (read_scalars tables other))
    && not (share (accumulated tables other) (read_scalars tables one))
    && not (share (accumulated tables one) (accumulated tables other))

-- the rows that may stand between two loops that count as neighbours
abbrev pub is_between_loops : Instr → Bool
is_between_loops (instr.Vote group) = true
is_between_loops (instr.TreeVote group) = true
is_between_loops (instr.Start exchange) = true
is_between_loops (instr.Finish exchange) = true
is_between_loops row = false

-- a loop, and later another one over the same slot, with votes and exchanges alone between them, and
-- with joinable groups
pub record HasJoinable (tables : Tables) (rows : List Instr) : Type 0 where
  pub slot : ℕ
  pub one : ℕ
  pub other : ℕ
  pub before : List Instr
  pub between : List Instr
  pub after : List Instr
  pub place : rows ≡ before ++ instr.Loop slot one ∷ (between ++ instr.Loop slot other ∷ after)
  pub near : AllByRecursion (λ row. is_between_loops row ≡ true) between
  pub joinable : are_joinable tables one other ≡ true

-- no stretch has two such loops
abbrev pub IsFused : Tables → Type 0
IsFused tables = (rows : List Instr) → IsStretch tables.code rows → ¬ HasJoinable tables rows

-- ---- by a walk: what is known is the slot and the group of the last loop, with votes and exchanges
-- alone behind it
abbrev pub last_loop : Option (ℕ × ℕ) → Instr → Option (ℕ × ℕ)
last_loop last (instr.Loop slot group) = Some (slot, group)
last_loop last (instr.Vote group) = last
last_loop last (instr.TreeVote group) = last
last_loop last (instr.Start exchange) = last
last_loop last (instr.Finish exchange) = last
last_loop last row = None

abbrev pub joins_last : Tables → Option (ℕ × ℕ) → ℕ → ℕ → Bool
joins_last tables None slot group = false
joins_last tables (Some last) slot group = (last.0 == slot) && are_joinable tables last.1 group

abbrev pub begins_anew : Tables → Option (ℕ × ℕ) → Instr → Bool
begins_anew tables last (instr.Loop slot group) = not (joins_last tables last slot group)
begins_anew tables last row = true

abbrev pub is_fused : Tables → Bool
is_fused tables = is_right_throughout None last_loop (begins_anew tables) tables.code
