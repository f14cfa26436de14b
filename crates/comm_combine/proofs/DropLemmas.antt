-- Exchanges without what is fresh, one row after another.
use Rattle.std.proofs.Common.{◌≡◌, refl, sym, ap, subst, ◌∙◌, ℕ, ◌+◌, ◌≤◌, Bool, true, false, not}
use Rattle.std.proofs.Common.{List, [], ◌∷◌, ◌++◌, length}
use Rattle.std.specs.Prelude.{Some, filter, flat_map, slice_get}
use Rattle.std.specs.List.{AllByRecursion}
use Rattle.std.proofs.lemmas.Grind.{flat_map-append}
use Rattle.last_writes.specs.of_node_form.declared.arrays.Item.{Item}
use Rattle.last_writes.specs.of_node_form.declared.instructions.Instr.{Instr}
use Rattle.last_writes.specs.of_node_form.declared.instructions.Instr.TheVariants as instr
use Rattle.last_writes.specs.of_node_form.declared.tables.Tables.{Tables}
use Rattle.last_writes.specs.of_code_parts.Exchanged.{is_among, stales}
use Rattle.last_writes.specs.of_code_parts.Stretch.{ends_stretch, is_goal}
use Rattle.last_writes.specs.of_code_parts.Uses.{items_of}
use Rattle.last_writes.specs.of_row_runs.Straight.{rewritten}
use Rattle.last_writes.specs.of_plan_form.Units.{PlanUnit, Single, unit_rows, units_of}
use Rattle.last_writes.specs.of_plan_form.Rewrite.{rows_by}
use Rattle.last_writes.specs.of_plan_form.Draft.{empty_draft, plan_of, with_number, written}
use Rattle.last_writes.specs.of_plan_form.declared.draft.PlanDraft.{PlanDraft}
use Rattle.last_writes.proofs.of_plan_form.PassLemmas as pass
use Rattle.last_writes.proofs.of_plan_form.PassLemmas.{IsStraightUnit}
use Rattle.comm_combine.specs.Fresh.{AreExchanged, IsAt, IsBehind, IsNew, is_fresh, units_by}
use Rattle.comm_combine.specs.Repeats.{exchange_if_any, fresh_after, repeats_dropped, stale_items}
use Rattle.comm_combine.specs.Repeats.{without_fresh}
use Rattle.comm_combine.specs.declared.fresh.Fresh.{Fresh}
use Rattle.comm_combine.proofs.FreshLemmas.{Knows, exchange_known, later_known, new_known}
use Rattle.comm_combine.proofs.FreshLemmas.{same_stale, write_known}

-- ---- what a row becomes, and what is fresh behind it
abbrev pub step : Tables → List Item → Instr → List PlanUnit
step tables known row = units_by (is_among known) tables row

abbrev pub learn : Tables → List Item → Instr → List Item
learn tables known (instr.Start exchange) =
    stale_items known (items_of tables exchange) ++ known
learn tables known (instr.Finish exchange) = known
learn tables known row = filter (λ item. not (stales tables item row)) known

abbrev pub close : List Item → List PlanUnit
close known = []

abbrev pub rewriting : Tables → List Item → List PlanUnit → List PlanUnit
rewriting tables known units = rewritten without_fresh (fresh_after tables) known units

-- the same of the rows of a stretch
single_row : (tables : Tables) (known : List Item) (row : Instr) (rows : List Instr)
    → rows_by tables (rewriting tables (fresh_after tables known (Single row))) rows
    ≡ pass.closed_from {F = List Item} tables [] (step tables) (learn tables) close
    (fresh_after tables known (Single row)) rows
    → flat_map unit_rows (Single row ∷ rewriting tables (fresh_after tables known (Single row))
    (units_of tables rows))
    ≡ flat_map unit_rows (Single row ∷ [])
    ++ pass.closed_from {F = List Item} tables [] (step tables) (learn tables) close
    (fresh_after tables known (Single row)) rows
single_row tables known row rows later =
    flat_map-append unit_rows (Single row ∷ [])
    (rewriting tables (fresh_after tables known (Single row)) (units_of tables rows))
    ∙ ap (λ l. flat_map unit_rows (Single row ∷ []) ++ l) later

pub all_rows : (tables : Tables) (known : List Item) (rows : List Instr)
    → rows_by tables (rewriting tables known) rows
    ≡ pass.closed_from {F = List Item} tables [] (step tables) (learn tables) close known rows
all_rows tables known [] = refl
all_rows tables known (instr.Start exchange ∷ rows) =
    flat_map-append unit_rows (exchange_if_any (stale_items known (items_of tables exchange)))
    (rewriting tables (stale_items known (items_of tables exchange) ++ known) (units_of tables rows))
    ∙ ap (λ l. flat_map unit_rows
    (exchange_if_any (stale_items known (items_of tables exchange))) ++ l)
    (all_rows tables (stale_items known (items_of tables exchange) ++ known) rows)
all_rows tables known (instr.Finish exchange ∷ rows) = all_rows tables known rows
all_rows tables known (row ∷ rows) =
    single_row tables known row rows
    (all_rows tables (fresh_after tables known (Single row)) rows)

-- ---- what is written is straight
any_straight : (items : List Item) → AllByRecursion IsStraightUnit (exchange_if_any items)
any_straight [] = tt
any_straight (item ∷ items) = (tt, tt)

straight : (tables : Tables) (known : List Item) (row : Instr) → ends_stretch row ≡ false
    → AllByRecursion IsStraightUnit (step tables known row)
straight tables known (instr.Start exchange) ends =
    any_straight (stale_items known (items_of tables exchange))
straight tables known (instr.Finish exchange) ends = tt
straight tables known row ends = (ends, tt)

-- ---- the draft of the rows in front of one, and what is fresh there
abbrev IsWalked : Tables → PlanDraft → List Item → ℕ → Type 0
IsWalked tables draft known at =
    pass.IsWalked {F = List Item} tables [] (step tables) (learn tables) close draft known at

pub record IsDropping (tables : Tables) (draft : PlanDraft) (fresh : Fresh) (at : ℕ) : Type 0 where
  pub known : List Item
  pub knows : Knows fresh known at
  pub walked : IsWalked tables draft known at

pub drop_begins : (tables : Tables) (fresh : Fresh) → IsNew fresh
    → IsDropping tables empty_draft fresh 0
drop_begins tables fresh new = record {
  known = [];
  knows = new_known fresh 0 new;
  walked = pass.walk_begins {F = List Item} tables [] (step tables) (learn tables) close;
}

-- in front of a row, whether it is a goal
abbrev known_at : Tables → Bool → List Item → List Item
known_at tables = pass.known {F = List Item} tables [] (step tables) (learn tables) close

at_front : (tables : Tables) (b : Bool) (old new : Fresh) (known : List Item) (at : ℕ)
    → IsAt b old new → Knows old known at → Knows new (known_at tables b known) at
at_front tables true old new known at is knows = new_known new at is
at_front tables false old new known at is knows = subst (λ f. Knows f known at) (sym is) knows

-- behind a row
abbrev known_behind : Tables → Bool → List Item → Instr → List Item
known_behind tables = pass.learnt {F = List Item} tables [] (step tables) (learn tables) close

behind : (tables : Tables) (row : Instr) (old new : Fresh) (known : List Item) (at : ℕ)
    → IsBehind tables old row (at + 1) new → Knows old known at
    → Knows new (known_behind tables (ends_stretch row) known row) (at + 1)
behind tables (instr.Start exchange) old new known at is knows =
    exchange_known old new known (stale_items known (items_of tables exchange)) at
    (subst (λ items. AreExchanged old items (at + 1) new)
    (same_stale old known at knows (items_of tables exchange)) is) knows
behind tables (instr.Finish exchange) old new known at is knows =
    subst (λ f. Knows f known (at + 1)) (sym is) (later_known old known at knows)
behind tables (instr.Jump goal) old new known at is knows = new_known new (at + 1) is
behind tables (instr.Unless expr goal line) old new known at is knows = new_known new (at + 1) is
behind tables (instr.Trap kind line) old new known at is knows = new_known new (at + 1) is
behind tables instr.End old new known at is knows = new_known new (at + 1) is
behind tables row old new known at is knows = write_known tables row old new known at is knows

abbrev put_units : Tables → Bool → List Item → Instr → List PlanUnit
put_units tables = pass.put_units {F = List Item} tables [] (step tables) (learn tables) close

same_units : (tables : Tables) (row : Instr) (old : Fresh) (known : List Item) (at : ℕ)
    → Knows old known at
    → units_by (is_fresh old) tables row ≡ put_units tables (ends_stretch row) known row
same_units tables (instr.Start exchange) old known at knows =
    ap exchange_if_any (same_stale old known at knows (items_of tables exchange))
same_units tables row old known at knows = refl

pub drop_one : (tables : Tables) (old noted new : PlanDraft) (fresh front now : Fresh) (at : ℕ)
    (row : Instr) (b : Bool) → slice_get tables.code at ≡ Some row → is_goal tables.code at ≡ b
    → IsAt b fresh front → noted ≡ with_number old
    → new ≡ written noted (units_by (is_fresh front) tables row)
    → IsBehind tables front row (at + 1) now
    → IsDropping tables old fresh at → IsDropping tables new now (at + 1)
drop_one tables old noted new fresh front now at row b there goal in_front noted_is new_is is w =
    record {
      known = known_behind tables (ends_stretch row) (known_at tables b w.known) row;
      knows = behind tables row front now (known_at tables b w.known) at is knows;
      walked = subst (λ d. IsWalked tables d (known_behind tables (ends_stretch row)
          (known_at tables b w.known) row) (at + 1)) (sym same) (by b walked);
    }
  where
    knows : Knows front (known_at tables b w.known) at
    knows = at_front tables b fresh front w.known at in_front w.knows

    same : new ≡ written (with_number old)
        (put_units tables (ends_stretch row) (known_at tables b w.known) row)
    same =
        new_is
        ∙ (ap (λ d. written d (units_by (is_fresh front) tables row)) noted_is
        ∙ ap (written (with_number old))
        (same_units tables row front (known_at tables b w.known) at knows))

    walked : IsWalked tables (written (with_number (written old
        (pass.front_units {F = List Item} tables [] (step tables) (learn tables) close b w.known)))
        (put_units tables (ends_stretch row) (known_at tables b w.known) row))
        (known_behind tables (ends_stretch row) (known_at tables b w.known) row) (at + 1)
    walked =
        pass.walk_steps {F = List Item} tables [] (step tables) (learn tables) close old w.known at
        row there b goal w.walked

    by : (b : Bool) → IsWalked tables (written (with_number (written old
        (pass.front_units {F = List Item} tables [] (step tables) (learn tables) close b w.known)))
        (put_units tables (ends_stretch row) (known_at tables b w.known) row))
        (known_behind tables (ends_stretch row) (known_at tables b w.known) row) (at + 1)
        → IsWalked tables (written (with_number old)
        (put_units tables (ends_stretch row) (known_at tables b w.known) row))
        (known_behind tables (ends_stretch row) (known_at tables b w.known) row) (at + 1)
    by true walked = walked
    by false walked = walked

pub drop_ends : (tables : Tables) (draft : PlanDraft) (fresh : Fresh) (at : ℕ)
    → length tables.code ≤ at → IsDropping tables draft fresh at
    → plan_of draft tables ≡ repeats_dropped tables
drop_ends tables draft fresh at past w =
    pass.walk_passes {F = List Item} tables [] (step tables) (learn tables) close refl (λ known. tt)
    (straight tables) (rewriting tables []) (all_rows tables []) draft w.known at past w.walked
