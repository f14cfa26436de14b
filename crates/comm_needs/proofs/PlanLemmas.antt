-- The plan of a flat program, one row after another.
use Rattle.std.proofs.Common.{◌≡◌, refl, sym, ap, subst, ◌∙◌, ℕ, ◌+◌, ◌≤◌, Bool, true, false}
use Rattle.std.proofs.Common.{true≢false}
use Rattle.std.proofs.Common.{List, [], ◌∷◌, ◌++◌, length, map}
use Rattle.std.specs.Prelude.{Some, None, Option, flat_map, slice_get}
use Rattle.std.specs.List.{AllByRecursion}
use Rattle.std.proofs.lemmas.Grind.{flat_map-append}
use Rattle.plan_form.specs.of_node_form.declared.arrays.Item.{Item}
use Rattle.plan_form.specs.of_node_form.declared.instructions.Instr.{Instr}
use Rattle.plan_form.specs.of_node_form.declared.instructions.Instr.TheVariants as instr
use Rattle.plan_form.specs.of_node_form.declared.tables.Tables.{Tables}
use Rattle.plan_form.specs.of_code_parts.Stretch.{ends_stretch, is_goal}
use Rattle.plan_form.proofs.of_flat_passes.StretchLemmas.{every_append}
use Rattle.plan_form.specs.Units.{PlanUnit, Exchange, Single, unit_of, unit_rows, units_of}
use Rattle.plan_form.specs.Rewrite.{rows_by, with_units}
use Rattle.plan_form.specs.Draft.{empty_draft, plan_of, with_number, written}
use Rattle.plan_form.specs.declared.draft.PlanDraft.{PlanDraft}
use Rattle.plan_form.proofs.PassLemmas as pass
use Rattle.plan_form.proofs.PassLemmas.{IsStraightUnit}
use Rattle.comm_needs.specs.Needs.{is_voted_on, loop_with_needs, needed_alone, needs_of, planned}
use Rattle.comm_needs.specs.Needs.{row_with_needs, vote_if, with_needs}

-- nothing is known in front of a row
abbrev pub Nothing : Type 0
Nothing = Unit {0}

abbrev pub step : Tables → Nothing → Instr → List PlanUnit
step tables facts row = row_with_needs tables row

abbrev pub learn : Nothing → Instr → Nothing
learn facts row = tt

abbrev pub close : Nothing → List PlanUnit
close facts = []

-- the draft of the rows in front of one
abbrev pub IsPlanned : Tables → PlanDraft → ℕ → Type 0
IsPlanned tables draft at = pass.IsWalked {F = Nothing} tables tt (step tables) learn close draft tt at

pub plan_begins : (tables : Tables) → IsPlanned tables empty_draft 0
plan_begins tables = pass.walk_begins {F = Nothing} tables tt (step tables) learn close

-- a row that ends a stretch stays as it is
ends_alone : (tables : Tables) (row : Instr) → ends_stretch row ≡ true
    → row_with_needs tables row ≡ Single row ∷ []
ends_alone tables (instr.Jump goal) ends = refl
ends_alone tables (instr.Unless expr goal line) ends = refl
ends_alone tables (instr.Trap kind line) ends = refl
ends_alone tables instr.End ends = refl
ends_alone tables row ends = absurd (true≢false (sym ends))

pub plan_steps : (tables : Tables) (draft : PlanDraft) (at : ℕ) (row : Instr)
    → slice_get tables.code at ≡ Some row → IsPlanned tables draft at
    → IsPlanned tables (written (with_number draft) (row_with_needs tables row)) (at + 1)
plan_steps tables draft at row there w =
    by (is_goal tables.code at) (ends_stretch row) refl
    (pass.walk_steps {F = Nothing} tables tt (step tables) learn close draft tt at row there
    (is_goal tables.code at) refl w)
  where
    by : (b e : Bool) → ends_stretch row ≡ e
        → pass.IsWalked {F = Nothing} tables tt (step tables) learn close
        (written (with_number (written draft (pass.front_units {F = Nothing} tables tt (step tables) learn close b tt)))
        (pass.put_units {F = Nothing} tables tt (step tables) learn close e
        (pass.known {F = Nothing} tables tt (step tables) learn close b tt) row))
        (pass.learnt {F = Nothing} tables tt (step tables) learn close e
        (pass.known {F = Nothing} tables tt (step tables) learn close b tt) row) (at + 1)
        → IsPlanned tables (written (with_number draft) (row_with_needs tables row)) (at + 1)
    by true true ends walked =
        subst (λ units. IsPlanned tables (written (with_number draft) units) (at + 1))
        (sym (ends_alone tables row ends)) walked
    by false true ends walked =
        subst (λ units. IsPlanned tables (written (with_number draft) units) (at + 1))
        (sym (ends_alone tables row ends)) walked
    by true false ends walked = walked
    by false false ends walked = walked

-- ---- what rows become is straight
alone_straight : (items : List Item) → AllByRecursion IsStraightUnit (map needed_alone items)
alone_straight [] = tt
alone_straight (item ∷ items) = (tt, alone_straight items)

vote_straight : (b : Bool) (group : ℕ) → AllByRecursion IsStraightUnit (vote_if b group)
vote_straight true group = (refl, tt)
vote_straight false group = tt

straight : (tables : Tables) (facts : Nothing) (row : Instr) → ends_stretch row ≡ false
    → AllByRecursion IsStraightUnit (step tables facts row)
straight tables facts (instr.Loop slot group) ends =
    every_append IsStraightUnit (loop_with_needs tables slot group) []
    (every_append IsStraightUnit (map needed_alone (needs_of tables slot group))
    (Single (instr.Loop slot group) ∷ vote_if (is_voted_on tables group) group)
    (alone_straight (needs_of tables slot group))
    (refl, vote_straight (is_voted_on tables group) group)) tt
straight tables facts (instr.Start exchange) ends = (tt, tt)
straight tables facts (instr.Finish exchange) ends = tt
straight tables facts row ends = (ends, tt)

same_rows : (tables : Tables) (rows : List Instr)
    → rows_by tables (flat_map (with_needs tables)) rows
    ≡ pass.closed_rows {F = Nothing} tables tt (step tables) learn close rows
same_rows tables [] = refl
same_rows tables (row ∷ rows) =
    ap (flat_map unit_rows) (flat_map-append (with_needs tables) (unit_of tables row) (units_of tables rows))
    ∙ (flat_map-append unit_rows (row_with_needs tables row) (flat_map (with_needs tables) (units_of tables rows))
    ∙ ap (λ l. flat_map unit_rows (row_with_needs tables row) ++ l) (same_rows tables rows))

pub plan_ends : (grid : List ℕ) (tables : Tables) (draft : PlanDraft) (at : ℕ)
    → length tables.code ≤ at → IsPlanned tables draft at
    → record (plan_of draft tables) { grid = grid } ≡ planned grid tables
plan_ends grid tables draft at past w =
    ap (λ (plan : Tables). record plan { grid = grid })
    (pass.walk_passes {F = Nothing} tables tt (step tables) learn close refl (λ facts. tt)
    (straight tables) (flat_map (with_needs tables)) (same_rows tables) draft tt at past w)
