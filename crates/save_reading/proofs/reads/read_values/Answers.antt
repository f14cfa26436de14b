use Rattle.std.proofs.Common.{◌≡◌, ◌∙◌, ℕ, ◌+◌, List, drop, map, subst, refl, arith}
use Rattle.std.specs.Prelude.{IfErr}
use Rattle.node_form.specs.declared.arrays.ArrayRow.{ArrayRow}
use Rattle.node_form.specs.declared.tables.Tables.{Tables}
use Rattle.node_local.specs.Standing.{array_in}
use Rattle.save_lines.specs.declared.lines.SavedLine.{SavedLine}
use Rattle.save_lines.specs.declared.lines.SavedLine.TheVariants.{Scalars, Cells}
use Rattle.grid_save.specs.Reads.{AreValues, BreaksValues, AtProc, AtScalars, AtSlot, AtCells, AtStore, EachBreaks, First, IsProc, IsSlotLine, IsStoreLine, NoFirst}
use Rattle.save_reading.specs.Fault.{FaultAt}
use Rattle.save_reading.specs.Place.{placed}
use Rattle.save_reading.proofs.ReadLemmas.{fault_passed, values_of}
use Rattle.save_reading.proofs.reads.read_values.Goals as goal

pub returns-in_err-place-clause-err : goal.returns-in_err-place-clause-err
returns-in_err-place-clause-err c =
    let lines = c.args.lines.now in
    let start = drop c.args.from lines in
    let t = c.tables-tables.result.now in
    subst (λ (code : Tables). IfErr c.from_residual.result (FaultAt (BreaksValues code c.args.p start) lines)) c.tables-tables.ensures.same
    (fault_passed (NoFirst (IsProc t c.args.p) start) (BreaksValues t c.args.p start) lines _ _ c.from_residual.ensures.1 c.in_err-place.ensures.err (λ left none. AtProc left none))

pub returns-in_err-scalars-clause-err : goal.returns-in_err-scalars-clause-err
returns-in_err-scalars-clause-err c =
    let lines = c.args.lines.now in
    let start = drop c.args.from lines in
    let one = drop (c.args.from + 1) lines in
    let t = c.tables-tables.result.now in
    subst (λ (code : Tables). IfErr c.from_residual-in_err-scalars.result (FaultAt (BreaksValues code c.args.p start) lines)) c.tables-tables.ensures.same
    (fault_passed (NoFirst (AreValues Scalars t.scalars) one) (BreaksValues t c.args.p start) lines _ _ c.from_residual-in_err-scalars.ensures.1 c.in_err-scalars.ensures.err
    (λ left none. AtScalars (placed c.in_ok-place.place) one left c.in_ok-place.ensures.ok none))

pub returns-in_err-slots-clause-err : goal.returns-in_err-slots-clause-err
returns-in_err-slots-clause-err c =
    let lines = c.args.lines.now in
    let start = drop c.args.from lines in
    let one = drop (c.args.from + 1) lines in
    let two = drop (c.args.from + 2) lines in
    let t = c.tables-tables.result.now in
    let next : c.args.from + 1 + 1 ≡ c.args.from + 2 = omega arith in
    let scalars = subst (λ n. First (AreValues Scalars t.scalars) one c.in_ok-scalars.scalars (drop n lines)) next c.in_ok-scalars.ensures.ok in
    subst (λ (code : Tables). IfErr c.from_residual-in_err-slots.result (FaultAt (BreaksValues code c.args.p start) lines)) c.tables-tables.ensures.same
    (fault_passed (EachBreaks (λ (rank : ℕ). First (IsSlotLine rank)) (λ (rank : ℕ). NoFirst (IsSlotLine rank)) t.slots two) (BreaksValues t c.args.p start) lines _ _
    c.from_residual-in_err-slots.ensures.1 c.in_err-slots.ensures.err
    (λ left breaks. AtSlot (placed c.in_ok-place.place) c.in_ok-scalars.scalars one two left c.in_ok-place.ensures.ok scalars breaks))

pub returns-in_err-cells-clause-err : goal.returns-in_err-cells-clause-err
returns-in_err-cells-clause-err c =
    let lines = c.args.lines.now in
    let start = drop c.args.from lines in
    let one = drop (c.args.from + 1) lines in
    let two = drop (c.args.from + 2) lines in
    let behind = drop c.in_ok-slots.behind lines in
    let t = c.tables-tables.result.now in
    let next : c.args.from + 1 + 1 ≡ c.args.from + 2 = omega arith in
    let scalars = subst (λ n. First (AreValues Scalars t.scalars) one c.in_ok-scalars.scalars (drop n lines)) next c.in_ok-scalars.ensures.ok in
    subst (λ (code : Tables). IfErr c.from_residual-in_err-cells.result (FaultAt (BreaksValues code c.args.p start) lines)) c.tables-tables.ensures.same
    (fault_passed (NoFirst (AreValues Cells t.cells) behind) (BreaksValues t c.args.p start) lines _ _ c.from_residual-in_err-cells.ensures.1 c.in_err-cells.ensures.err
    (λ left none. AtCells (placed c.in_ok-place.place) c.in_ok-scalars.scalars c.in_ok-slots.slots.items one two behind left c.in_ok-place.ensures.ok scalars c.in_ok-slots.ensures.ok none))

pub returns-in_err-stores-clause-err : goal.returns-in_err-stores-clause-err
returns-in_err-stores-clause-err c =
    let lines = c.args.lines.now in
    let start = drop c.args.from lines in
    let one = drop (c.args.from + 1) lines in
    let two = drop (c.args.from + 2) lines in
    let three = drop c.in_ok-slots.behind lines in
    let four = drop (c.in_ok-slots.behind + 1) lines in
    let t = c.tables-tables.result.now in
    let next : c.args.from + 1 + 1 ≡ c.args.from + 2 = omega arith in
    let scalars = subst (λ n. First (AreValues Scalars t.scalars) one c.in_ok-scalars.scalars (drop n lines)) next c.in_ok-scalars.ensures.ok in
    subst (λ (code : Tables). IfErr c.from_residual-in_err-stores.result (FaultAt (BreaksValues code c.args.p start) lines)) c.tables-tables.ensures.same
    (fault_passed (EachBreaks (λ (row : ArrayRow). First (IsStoreLine t c.args.p row)) (λ (row : ArrayRow). NoFirst (IsStoreLine t c.args.p row)) t.arrays four) (BreaksValues t c.args.p start) lines _ _
    c.from_residual-in_err-stores.ensures.1 c.in_err-stores.ensures.err
    (λ left breaks. AtStore (placed c.in_ok-place.place) c.in_ok-scalars.scalars c.in_ok-slots.slots.items c.in_ok-cells.cells one two three four left
    c.in_ok-place.ensures.ok scalars c.in_ok-slots.ensures.ok c.in_ok-cells.ensures.ok breaks))

pub returns-clause-ok : goal.returns-clause-ok
returns-clause-ok c =
    let lines = c.args.lines.now in
    let start = drop c.args.from lines in
    let one = drop (c.args.from + 1) lines in
    let t = c.tables-tables.result.now in
    let next : c.args.from + 1 + 1 ≡ c.args.from + 2 = omega arith in
    let scalars = subst (λ n. First (AreValues Scalars t.scalars) one c.in_ok-scalars.scalars (drop n lines)) next c.in_ok-scalars.ensures.ok in
    values_of t c.args.code.now c.args.p start _ (drop c.in_ok-stores.behind lines) c.tables-tables.ensures.same
    (record {
      placed = placed c.in_ok-place.place;
      behind_proc = one;
      proc = c.in_ok-place.ensures.ok;
      scalars = c.in_ok-scalars.scalars;
      behind_scalars = drop (c.args.from + 2) lines;
      scalars_are = scalars;
      slots = c.in_ok-slots.slots.items;
      behind_slots = drop c.in_ok-slots.behind lines;
      slots_are = c.in_ok-slots.ensures.ok;
      cells = c.in_ok-cells.cells;
      behind_cells = drop (c.in_ok-slots.behind + 1) lines;
      cells_are = c.in_ok-cells.ensures.ok;
      stores = map array_in c.in_ok-stores.stores.items;
      stores_are = c.in_ok-stores.ensures.ok;
      made = rw (c.of.ensures, c.of-2.ensures, c.of-3.ensures, c.new.ensures.items) refl;
    })
