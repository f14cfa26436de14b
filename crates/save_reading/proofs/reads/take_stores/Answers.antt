use Rattle.std.proofs.Common.{◌≡◌, ◌∙◌, ap, map, ◌+◌, List, [], ◌∷◌, ◌++◌, drop, length, rules, arith}
use Rattle.std.proofs.lemmas.List.{drop_all, map-append}
use Rattle.node_form.specs.declared.arrays.ArrayRow.{ArrayRow}
use Rattle.node_local.specs.Standing.{array_in}
use Rattle.grid_save.specs.Reads.{EachBreaks, First, IsStoreLine, NoFirst}
use Rattle.save_reading.proofs.ReadLemmas.{along_on, along_over, along_stop, fault_passed}
use Rattle.save_reading.proofs.reads.take_stores.Goals as goal

pub returns-in_err-store-clause-err : goal.returns-in_err-store-clause-err
returns-in_err-store-clause-err c =
    let lines = c.args.lines.now in
    let start = drop c.args.from lines in
    let rows = c.args.code.now.arrays in
    let here = drop c.loop-i.at lines in
    fault_passed (NoFirst (IsStoreLine c.args.code.now c.args.p c.array_row-row.result.now) here)
    (EachBreaks (λ (row : ArrayRow). First (IsStoreLine c.args.code.now c.args.p row)) (λ (row : ArrayRow). NoFirst (IsStoreLine c.args.code.now c.args.p row)) rows start) lines _ _ c.from_residual.ensures.1 c.in_err-store.ensures.err
    (λ left none. along_stop (λ (row : ArrayRow). First (IsStoreLine c.args.code.now c.args.p row)) (λ (row : ArrayRow). NoFirst (IsStoreLine c.args.code.now c.args.p row)) rows start (map array_in c.loop-i.stores.items)
    (drop c.loop-i.i rows) (drop (c.loop-i.i + 1) rows) here left c.array_row-row.result.now c.loop-i.invariant.along c.array_row-row.ensures.next none)

pub loop-i-preserved : goal.loop-i-preserved
loop-i-preserved c =
    let lines = c.args.lines.now in
    let start = drop c.args.from lines in
    let rows = c.args.code.now.arrays in
    let grown : c.keep.new.list.items ≡ c.loop-i.stores.items ++ c.in_ok-store.store ∷ [] = search rules in
    let told = ap (map array_in) grown ∙ map-append array_in c.loop-i.stores.items (c.in_ok-store.store ∷ []) in
    let inside = c.in_ok-store.ensures.inside in
    record {
      along = along_on (λ (row : ArrayRow). First (IsStoreLine c.args.code.now c.args.p row)) (λ (row : ArrayRow). NoFirst (IsStoreLine c.args.code.now c.args.p row)) rows start (map array_in c.loop-i.stores.items) (map array_in c.keep.new.list.items)
          (drop c.loop-i.i rows) (drop (c.loop-i.i + 1) rows) (drop c.loop-i.at lines) (drop (c.loop-i.at + 1) lines) c.array_row-row.result.now (array_in c.in_ok-store.store)
          c.loop-i.invariant.along c.array_row-row.ensures.next c.in_ok-store.ensures.ok told;
      inside = omega arith;
    }

pub returns-clause-ok : goal.returns-clause-ok
returns-clause-ok c =
    let lines = c.args.lines.now in
    let rows = c.args.code.now.arrays in
    along_over (λ (row : ArrayRow). First (IsStoreLine c.args.code.now c.args.p row)) (λ (row : ArrayRow). NoFirst (IsStoreLine c.args.code.now c.args.p row)) rows (drop c.args.from lines) (map array_in c.loop-i.stores.items)
    (drop c.loop-i.i rows) (drop c.loop-i.at lines) c.loop-i.invariant.along (drop_all c.loop-i.i rows (omega arith))
