-- Assignments, calls and prints: each loop in their code may stand anywhere.
use Rattle.std.proofs.Common.{◌≡◌, ◌⊎◌, inl, inr, ℕ, zero, suc, ◌+◌, ◌<◌, ◌≤◌, Bool, true, false, List, [], ◌∷◌, ◌++◌, length, sym, ap, subst, arith}
use Rattle.std.specs.Prelude.{Option, Some, None, slice_get}
use Rattle.zpl_nums.specs.declared.operators.Op.{Op}
use Rattle.zpl_nums.specs.declared.ends.Border.{Border as BorderKind}
use Rattle.zpl_tree.specs.Syntax.{Name, Expr, Dir, ForHead, Item, Str, Value}
use Rattle.zpl_names.specs.Kinds.{Rank, Kind, Config, Constant, Region as RegionKind, Direction, Scalar as ScalarKind, Array as ArrayKind, Procedure}
use Rattle.zpl_names.specs.Scope.{kind_of}
use Rattle.zpl_names.specs.Ranks.{array_rank}
use Rattle.zpl_names.specs.Sites.{Test, Printed, Assigned, target_rank}
use Rattle.zpl_names.specs.Types.{type_of}
use Rattle.zpl_meaning.specs.Store.{Thing, Scalar, ArrayAt, Fixed, thing_of}
use Rattle.zpl_meaning.specs.Context.{Currents, Edge}
use Rattle.zpl_meaning.specs.Regions.{vector_in}
use Rattle.zpl_meaning.specs.Points.{assigned_expr}
use Rattle.zpl_meaning.specs.Proper.{HasCurrent, IsTarget, IsPlainAssign}
use Rattle.meaning_ranks.specs.Ranked.{TakesRank, IsRankedValue}
use Rattle.node_form.specs.declared.instructions.Instr.TheVariants as instr
use Rattle.node_form.specs.declared.instructions.RegionForm.TheVariants as form
use Rattle.node_form.specs.Expression.{Expression, Variable}
use Rattle.row_runs.specs.Structured as piece
use Rattle.row_runs.specs.Structured.{Piece}
use Rattle.lowering_fits.specs.of_flat_form.Row as row
use Rattle.lowering_fits.specs.of_flat_form.Row.{Row}
use Rattle.lowering_fits.specs.of_zpl_lowering.Check.{Check}
use Rattle.lowering_fits.specs.of_zpl_lowering.Where.{Stored, Slotted, slotted_at, SlotEdge, Where, Next, rank_in, rank_for, line_of}
use Rattle.lowering_fits.specs.of_zpl_lowering.Slate.{Placed}
use Rattle.lowering_fits.specs.of_zpl_lowering.Lowered.{Lowered, rows_alone, behind, Phased, phased, first_left, check_of}
use Rattle.lowering_fits.specs.of_zpl_lowering.Statement.{placed_in, test_of, set_row, lowered_scalar, lowered_to, value_rows, with_values, border_rows, border_thing, each_border, source_shift, lowered_borders, Counter, counter_from, enters, is_done, step_row, counted, head_exprs, lowered_for, scalar_of, Shown, shown_at, shown_of, Prints, newline, items_of, lowered_write, printed_exprs, is_truth}
use Rattle.lowering_fits.specs.Reach.{place_at}
use Rattle.lowering_checks.specs.Walked.{Since, behind_rows, AreChecked, HasChecks}
use Rattle.lowering_checks.proofs.WalkLemmas.{checked_both, rows_check, then_check, when_check, repeat_check}
use Rattle.lowering_checks.proofs.SlateLemmas.{IsQuiet, AllQuiet, quiet_both, quiet_checked, settled_reads}
use Rattle.lowering_checks.proofs.PhaseLemmas.{phases_check, array_checks}

pub quiet_rows : (rows : List Row) → AllQuiet rows → HasChecks (piece.Rows rows)
quiet_rows rows quiet = rows_check rows (λ last. quiet_checked last rows quiet)

pub set_quiet : (line : ℕ) (tree : Expression) (target : Option ℕ) → AllQuiet (set_row line tree target)
set_quiet line tree None = tt
set_quiet line tree (Some scalar) = (tt, tt)

pub values_quiet : (line scalar : ℕ) (left : List Expression) → AllQuiet (value_rows line scalar left)
values_quiet line scalar [] = tt
values_quiet line scalar (one ∷ left) = (tt, values_quiet line (suc scalar) left)

pub test_checks : (w : Where) (next : Next) (one : Expr) (at : ℕ) →
    HasChecks (test_of w next one at).before.code
test_checks w next one at =
    phases_check w (line_of w at) next [] [] (placed_in w Test one ∷ [])

pub scalar_checks : (w : Where) (line : ℕ) (next : Next) (value : Placed) (target : Option ℕ) →
    HasChecks (lowered_scalar w line next value target).code
scalar_checks w line next value target =
    let phases : Phased = phased w line next (value ∷ []) in
    let rows : List Row = set_row line (first_left phases.left) target in
    then_check phases.lowered.code (piece.Rows rows)
    (phases_check w line next [] [] (value ∷ []))
    (quiet_rows rows (set_quiet line (first_left phases.left) target))

pub values_check : (w : Where) (line scalar : ℕ) (next : Next) (placed : List Placed) →
    HasChecks (with_values line scalar (phased w line next placed)).code
values_check w line scalar next placed =
    let phases : Phased = phased w line next placed in
    then_check phases.lowered.code (piece.Rows (value_rows line scalar phases.left))
    (phases_check w line next [] [] placed)
    (quiet_rows (value_rows line scalar phases.left) (values_quiet line scalar phases.left))

-- ---- assignments

-- the value's elements are read under the slot that the array is put under
same_slot : (w : Where) (currents : Currents) (prefix own : Rank) (kind : Option Kind) →
    (own ≡ Some 0) ⊎ (array_rank kind ≡ own) → HasCurrent currents own →
    (slotted_at w.currents own).slot ≡ (slotted_at w.currents (target_rank prefix kind)).slot
same_slot w currents prefix own kind (inl scalar) has =
    absurd (subst (HasCurrent currents) scalar has)
same_slot w currents prefix own (Some (ArrayKind base shape)) (inr same) has =
    ap (λ rank. (slotted_at w.currents rank).slot) (sym same)
same_slot w currents prefix own (Some (Config base)) (inr same) has =
    absurd (subst (HasCurrent currents) (sym same) has)
same_slot w currents prefix own (Some (Constant base)) (inr same) has =
    absurd (subst (HasCurrent currents) (sym same) has)
same_slot w currents prefix own (Some (RegionKind shape)) (inr same) has =
    absurd (subst (HasCurrent currents) (sym same) has)
same_slot w currents prefix own (Some (Direction rank)) (inr same) has =
    absurd (subst (HasCurrent currents) (sym same) has)
same_slot w currents prefix own (Some (ScalarKind base)) (inr same) has =
    absurd (subst (HasCurrent currents) (sym same) has)
same_slot w currents prefix own (Some (Procedure signature)) (inr same) has =
    absurd (subst (HasCurrent currents) (sym same) has)
same_slot w currents prefix own None (inr same) has =
    absurd (subst (HasCurrent currents) (sym same) has)

module _ (w : Where) (result : ℕ) (currents : Currents) (edge : Option Edge)
    (vectors : (dir : Dir) → length (vector_in w.setup.known dir) ≡ 3) (line : ℕ) (next : Next)
    (below : (rank : Rank) → HasCurrent currents rank →
    (slotted_at w.currents rank).slot < next.slots) where
  pub plain_checks : (name : Name) (op : Option Op) (value : Expr) →
      IsPlainAssign (place_at w result currents edge) name op value →
      IsRankedValue (place_at w result currents edge) name op value →
      HasChecks (lowered_to w (Assigned name op) line next (assigned_expr name op value)
      (thing_of w.environment name.text)).code
  plain_checks name op value proper ranked =
      by (thing_of w.environment name.text) proper.0 ranked.0
    where
      one : Placed
      one = placed_in w (Assigned name op) (assigned_expr name op value)

      by : (thing : Option Thing) →
          IsTarget currents (rank_for w (Assigned name op)) thing →
          TakesRank (place_at w result currents edge) name thing
          (rank_in w (Assigned name op) (assigned_expr name op value)) →
          HasChecks (lowered_to w (Assigned name op) line next (assigned_expr name op value)
          thing).code
      by None is takes = absurd is
      by (Some (Fixed number)) is takes = absurd is
      by (Some (Scalar target)) is takes =
          scalar_checks w line next one (slice_get w.numbers.scalars target)
      by (Some (ArrayAt target home)) is takes =
          let rank : Rank = rank_for w (Assigned name op) in
          let over : Slotted = slotted_at w.currents rank in
          array_checks w line next over one (slice_get w.numbers.arrays target) (below rank is)
          (settled_reads over.slot w result currents edge vectors line
          (rank_in w (Assigned name op) (assigned_expr name op value))
          (same_slot w currents w.prefix
          (rank_in w (Assigned name op) (assigned_expr name op value)) (kind_of w.scope name) takes)
          next (assigned_expr name op value) proper.1)

-- ---- borders

rows_quiet : (kind : BorderKind) (edge : SlotEdge) (border source line : ℕ) (stored : Option Stored) →
    AllQuiet (border_rows kind edge border source line stored)
rows_quiet kind edge border source line None = tt
rows_quiet kind edge border source line (Some stored) = (tt, (tt, (tt, tt)))

thing_quiet : (w : Where) (kind : BorderKind) (edge : SlotEdge) (border source line : ℕ)
    (thing : Option Thing) → AllQuiet (border_thing w.numbers kind edge border source line thing)
thing_quiet w kind edge border source line None = tt
thing_quiet w kind edge border source line (Some (Scalar place)) = tt
thing_quiet w kind edge border source line (Some (Fixed value)) = tt
thing_quiet w kind edge border source line (Some (ArrayAt place home)) =
    rows_quiet kind edge border source line (slice_get w.numbers.arrays place)

pub edges_quiet : (w : Where) (kind : BorderKind) (edge : SlotEdge) (border source line : ℕ)
    (names : List Name) → AllQuiet (each_border w kind edge border source line names)
edges_quiet w kind edge border source line [] = tt
edges_quiet w kind edge border source line (name ∷ names) =
    quiet_both
    (border_thing w.numbers kind edge border source line (thing_of w.environment name.text))
    (each_border w kind edge border source line names)
    (thing_quiet w kind edge border source line (thing_of w.environment name.text))
    (edges_quiet w kind edge border source line names)

pub borders_check : (w : Where) (kind : BorderKind) (edge : Option SlotEdge) (line : ℕ) (next : Next)
    (names : List Name) → HasChecks (lowered_borders w kind edge line next names).code
borders_check w kind None line next names = quiet_rows [] tt
borders_check w kind (Some edge) line next names =
    let over : Slotted = slotted_at w.currents w.prefix in
    quiet_rows (row.Plain (instr.Fits edge.slot edge.shift line)
    ∷ row.Plain
    (instr.Formed form.Inside next.slots edge.slot (source_shift kind edge.shift) line)
    ∷ each_border w kind edge over.slot next.slots line names)
    (tt, (tt, edges_quiet w kind edge over.slot next.slots line names))

-- ---- prints

shown_checks : (last : Option Since) (line : ℕ) (truth : Bool) (scalar temp : ℕ) (over : Slotted)
    (rank : Rank) (expr : Expression) →
    AreChecked last (shown_at line truth scalar temp over rank expr).values
shown_checks last line truth scalar temp over None expr = (tt, tt)
shown_checks last line truth scalar temp over (Some zero) expr = (tt, tt)
shown_checks last line truth scalar temp over (Some (suc rank)) expr = (tt, (tt, tt))

values_are : (w : Where) (line : ℕ) (ends : Bool) (items : List Item) (scalar temp : ℕ)
    (left : List Expression) (last : Option Since) →
    AreChecked last (items_of w line scalar temp ends items left).values
values_are w line ends [] scalar temp left last = tt
values_are w line ends (Str bytes ∷ items) scalar temp left last =
    values_are w line ends items scalar temp left last
values_are w line ends (Value expr ∷ items) scalar temp [] last =
    values_are w line ends items scalar temp [] last
values_are w line ends (Value expr ∷ items) scalar temp (first ∷ left) last =
    let shown : Shown = shown_of w line scalar temp expr first in
    let rest : Prints = items_of w line (scalar + shown.scalars) (temp + length shown.temps) ends
    items left in
    checked_both last shown.values rest.values
    (shown_checks last line (is_truth (type_of w.scope expr)) scalar temp
    (slotted_at w.currents (rank_in w Printed expr)) (rank_in w Printed expr) first)
    (values_are w line ends items (scalar + shown.scalars) (temp + length shown.temps) left
    (behind_rows last shown.values))

pub print_quiet : (line : ℕ) (truth : Bool) (scalar temp : ℕ) (over : Slotted) (rank : Rank)
    (expr : Expression) → IsQuiet (shown_at line truth scalar temp over rank expr).print
print_quiet line true scalar temp over None expr = tt
print_quiet line false scalar temp over None expr = tt
print_quiet line true scalar temp over (Some zero) expr = tt
print_quiet line false scalar temp over (Some zero) expr = tt
print_quiet line truth scalar temp over (Some (suc rank)) expr = tt

newline_quiet : (ends : Bool) → AllQuiet (newline ends)
newline_quiet true = (tt, tt)
newline_quiet false = tt

pub prints_quiet : (w : Where) (line : ℕ) (ends : Bool) (items : List Item) (scalar temp : ℕ)
    (left : List Expression) → AllQuiet (items_of w line scalar temp ends items left).prints
prints_quiet w line ends [] scalar temp left = newline_quiet ends
prints_quiet w line ends (Str bytes ∷ items) scalar temp left =
    (tt, prints_quiet w line ends items scalar temp left)
prints_quiet w line ends (Value expr ∷ items) scalar temp [] =
    prints_quiet w line ends items scalar temp []
prints_quiet w line ends (Value expr ∷ items) scalar temp (first ∷ left) =
    let shown : Shown = shown_of w line scalar temp expr first in (
      print_quiet line (is_truth (type_of w.scope expr)) scalar temp
          (slotted_at w.currents (rank_in w Printed expr)) (rank_in w Printed expr) first,
      prints_quiet w line ends items (scalar + shown.scalars) (temp + length shown.temps) left,
    )

pub write_checks : (w : Where) (line : ℕ) (next : Next) (ends : Bool) (items : List Item) →
    HasChecks (lowered_write w line next ends items).code
write_checks w line next ends items =
    let phases : Phased = phased w line next (printed_exprs w items) in
    let after : Next = behind next phases.lowered in
    let all : Prints = items_of w line after.scalars after.temps ends items phases.left in
    then_check phases.lowered.code (piece.Rows (all.values ++ all.prints))
    (phases_check w line next [] [] (printed_exprs w items))
    (rows_check (all.values ++ all.prints) (λ last.
    checked_both last all.values all.prints
    (values_are w line ends items after.scalars after.temps phases.left last)
    (quiet_checked (behind_rows last all.values) all.prints
    (prints_quiet w line ends items after.scalars after.temps phases.left))))

-- ---- `for`

pub for_checks : (w : Where) (line : ℕ) (next : Next) (head : ForHead) (body : Next → Lowered) →
    ((after : Next) → next.slots ≤ after.slots → HasChecks (body after).code) →
    HasChecks (lowered_for w line next head body).code
for_checks w line next head body bodies =
    let phases : Phased = phased w line next (head_exprs w head) in
    let scalar : ℕ = next.scalars + phases.lowered.scalars in
    let values : Lowered = with_values line scalar phases in
    let after : Next = behind next values in
    let target = scalar_of w.numbers (thing_of w.environment head.name.text) in
    let sets : Lowered = rows_alone (set_row line (Variable scalar) target) in
    let inside : Lowered = body (behind after sets) in
    let counter : Counter = counter_from scalar in
    let step : List Row = step_row head.down counter line ∷ [] in
    let turn : Piece Row Check = piece.Then sets.code inside.code in
    let done : Check = check_of (is_done head.down counter) line in
    then_check values.code (counted head.down counter line target after body).code
    (values_check w line scalar next (head_exprs w head))
    (when_check (check_of (enters head.down counter) line)
    (piece.Repeat (piece.Then turn (piece.Rows step)) (piece.Rows []) done)
    (repeat_check (piece.Then turn (piece.Rows step)) (piece.Rows []) done
    (then_check turn (piece.Rows step)
    (then_check sets.code inside.code
    (quiet_rows (set_row line (Variable scalar) target)
    (set_quiet line (Variable scalar) target))
    (bodies (behind after sets) (omega arith)))
    (quiet_rows step (tt, tt)))
    (quiet_rows [] tt)))
