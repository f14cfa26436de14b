-- Rows with their groups inline: a loop has its members, and expressions have their numbers.
use Rattle.std.specs.Prelude.{ℕ, ◌+◌, List, [], ◌∷◌, flat_map, length, map, sum_by}
use Rattle.flat_form.specs.of_row_runs.Cut.{passed}
use Rattle.flat_form.specs.of_node_form.declared.members.Member.{Member}
use Rattle.flat_form.specs.of_node_form.declared.instructions.Instr.{Instr}
use Rattle.flat_form.specs.of_node_form.declared.instructions.Instr.TheVariants as instr
use Rattle.flat_form.specs.of_node_form.declared.tables.Tables.{Tables}
use Rattle.flat_form.specs.of_code_parts.Uses.{members_of}
use Rattle.flat_passes.specs.Rewritten.{stretches_of, with_moved_goal}

pub data Grouped : Type 0 where
  Runs : (slot : ℕ) (group : List Member) → Grouped
  Plain : (row : Instr) → Grouped

abbrev pub grouped : Tables → Instr → Grouped
grouped tables (instr.Loop slot group) = Runs slot (members_of tables group)
grouped tables row = Plain row

-- ---- and back: each loop has a group of its own, in the order of the code
abbrev pub group_of : Grouped → List (List Member)
group_of (Runs slot group) = group ∷ []
group_of (Plain row) = []

abbrev pub groups_of : List Grouped → List (List Member)
groups_of rows = flat_map group_of rows

abbrev pub numbered : ℕ → Grouped → Instr
numbered n (Runs slot group) = instr.Loop slot n
numbered n (Plain row) = row

-- groups have numbers from n on
abbrev pub all_numbered : ℕ → List Grouped → List Instr
all_numbered n [] = []
all_numbered n (row ∷ rows) = numbered n row ∷ all_numbered (n + length (group_of row)) rows

-- the tables with these rows for their code, and with their groups
abbrev pub with_grouped : Tables → List Grouped → Tables
with_grouped tables rows =
    record tables { groups = groups_of rows; code = all_numbered 0 rows }

-- ---- the rows of each stretch rewritten
abbrev pub ended_by : (ℕ → ℕ) → Instr → Grouped
ended_by moved row = Plain (with_moved_goal moved row)

abbrev pub rewritten_rows : Tables → (List Grouped → List Grouped) → List Grouped
rewritten_rows tables rewrite =
    passed (λ rows. rewrite (map (grouped tables) rows)) ended_by (stretches_of tables.code)

-- ---- how many members a row runs, and the loops of a program
abbrev pub members_run : Grouped → ℕ
members_run (Runs slot group) = length group
members_run (Plain row) = 0

abbrev pub loop_members : Tables → ℕ
loop_members tables = sum_by (λ row. members_run (grouped tables row)) tables.code
