-- What passes promise each other.
use Rattle.std.specs.Prelude.{ℕ, ◌≤◌, Bool, true, false, not, ◌&&◌, List, All, count_by}
use Rattle.node_form.specs.declared.members.Member.{Member}
use Rattle.node_form.specs.declared.instructions.Instr.{Instr}
use Rattle.node_form.specs.declared.instructions.Instr.TheVariants as instr
use Rattle.node_form.specs.declared.tables.Tables.{Tables}
use Rattle.code_parts.specs.Counts.{is_loop}
use Rattle.code_parts.specs.Uses.{is_turning}

-- how many `while` and `repeat` a group has
abbrev pub loops_in : List Member → ℕ
loops_in group = count_by is_turning group

-- no group has more than so many
abbrev pub HasLoopsUpTo : ℕ → Tables → Type 0
HasLoopsUpTo most tables = All (λ group. loops_in group ≤ most) tables.groups

abbrev pub is_room : Instr → Bool
is_room (instr.Room array slot) = true
is_room row = false

-- rows other than rooms and loops
abbrev pub is_other : Instr → Bool
is_other row = not (is_room row) && not (is_loop row)
