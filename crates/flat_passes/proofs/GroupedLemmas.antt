-- Rows with their groups inline, and by numbers.
use Rattle.std.proofs.Common.{◌≡◌, refl, sym, ap, ◌∙◌, arith, ℕ, ◌+◌, Bool, false}
use Rattle.std.proofs.Common.{List, [], ◌∷◌, length}
use Rattle.std.specs.Prelude.{cond, count_by, map, sum_by, Option, Some, None}
use Rattle.std.specs.Option.{option_map}
use Rattle.std.proofs.lemmas.List.Sums.{sum_by-cons}
use Rattle.flat_form.specs.of_row_runs.Cut.{as_list}
use Rattle.flat_form.specs.of_node_form.declared.instructions.Instr.{Instr}
use Rattle.flat_form.specs.of_node_form.declared.instructions.Instr.TheVariants as instr
use Rattle.flat_form.specs.of_node_form.declared.tables.Tables.{Tables}
use Rattle.flat_passes.specs.Rewritten.{has_goal}
use Rattle.flat_passes.specs.Grouped.{Grouped, Runs, Plain, all_numbered, ended_by}
use Rattle.flat_passes.specs.Grouped.{group_of, grouped, groups_of, members_run, numbered}

-- a jump or a test
abbrev pub leads : Grouped → Bool
leads (Runs slot group) = false
leads (Plain row) = has_goal row

pub numbered_length : (n : ℕ) (rows : List Grouped) → length (all_numbered n rows) ≡ length rows
numbered_length n [] = refl
numbered_length n (row ∷ rows) =
    omega (arith, numbered_length (n + length (group_of row)) rows)

pub numbered_goals : (n : ℕ) (rows : List Grouped)
    → count_by has_goal (all_numbered n rows) ≡ count_by leads rows
numbered_goals n [] = refl
numbered_goals n (row ∷ rows) =
    sum_by-cons (λ row. cond (has_goal row) 1 0) (numbered n row)
    (all_numbered (n + length (group_of row)) rows)
    ∙ by row (numbered_goals (n + length (group_of row)) rows)
    ∙ sym (sum_by-cons (λ row. cond (leads row) 1 0) row rows)
  where
    by : (row : Grouped)
        → count_by has_goal (all_numbered (n + length (group_of row)) rows) ≡ count_by leads rows
        → cond (has_goal (numbered n row)) 1 0
        + count_by has_goal (all_numbered (n + length (group_of row)) rows)
        ≡ cond (leads row) 1 0 + count_by leads rows
    by (Runs slot group) e = omega (arith, e)
    by (Plain row) e = omega (arith, e)

pub members_in_groups : (rows : List Grouped)
    → sum_by (λ group. length group) (groups_of rows) ≡ sum_by members_run rows
members_in_groups [] = refl
members_in_groups (Runs slot group ∷ rows) =
    sum_by-cons (λ group. length group) group (groups_of rows)
    ∙ omega (arith, members_in_groups rows, sum_by-cons members_run (Runs slot group) rows)
members_in_groups (Plain row ∷ rows) =
    omega (arith, members_in_groups rows, sum_by-cons members_run (Plain row) rows)

-- ---- rows of tables
grouped_leads : (tables : Tables) (row : Instr) → leads (grouped tables row) ≡ has_goal row
grouped_leads tables (instr.Loop slot group) = refl
grouped_leads tables row = refl

pub all_grouped_lead : (tables : Tables) (rows : List Instr)
    → count_by leads (map (grouped tables) rows) ≡ count_by has_goal rows
all_grouped_lead tables [] = refl
all_grouped_lead tables (row ∷ rows) =
    sum_by-cons (λ row. cond (leads row) 1 0) (grouped tables row) (map (grouped tables) rows)
    ∙ omega (arith, all_grouped_lead tables rows, ap count (grouped_leads tables row))
    ∙ sym (sum_by-cons (λ row. cond (has_goal row) 1 0) row rows)
  where
    count : Bool → ℕ
    count b = cond b 1 0

pub all_grouped_members : (tables : Tables) (rows : List Instr)
    → sum_by members_run (map (grouped tables) rows)
    ≡ sum_by (λ row. members_run (grouped tables row)) rows
all_grouped_members tables [] = refl
all_grouped_members tables (row ∷ rows) =
    sum_by-cons members_run (grouped tables row) (map (grouped tables) rows)
    ∙ omega (arith, all_grouped_members tables rows)
    ∙ sym (sum_by-cons (λ row. members_run (grouped tables row)) row rows)

-- ---- the rows that end stretches
ended_lead : (moved : ℕ → ℕ) (row : Instr) → leads (ended_by moved row) ≡ has_goal row
ended_lead moved (instr.Jump goal) = refl
ended_lead moved (instr.Unless expr goal line) = refl
ended_lead moved row = refl

pub all_ended_lead : (moved : ℕ → ℕ) (last : Option Instr)
    → count_by leads (as_list (option_map (ended_by moved) last))
    ≡ count_by has_goal (as_list last)
all_ended_lead moved None = refl
all_ended_lead moved (Some row) = ap count (ended_lead moved row)
  where
    count : Bool → ℕ
    count b = 0 + cond b 1 0
