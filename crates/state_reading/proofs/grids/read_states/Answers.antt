use Rattle.std.proofs.Common.{◌≡◌, ◌∙◌, ◌+◌, [], ◌∷◌, ◌++◌, ap, drop, length, map, rules, arith}
use Rattle.std.proofs.lemmas.List.{length-append, map-append}
use Rattle.grid_meaning.specs.Local.{processor_numbers, processors}
use Rattle.save_reading.specs.of_grid_save.Reads.{AtState, BreaksGrid, BreaksState, ReadsState}
use Rattle.save_reading.proofs.ReadLemmas.{along_on, along_stop, fault_passed}
use Rattle.state_reading.specs.Read.{state_in}
use Rattle.state_reading.proofs.GridLemmas.{grid_broken, grid_read, next_number, ready_more}
use Rattle.state_reading.proofs.grids.read_states.Goals as goal

pub returns-in_err-state-clause-err : goal.returns-in_err-state-clause-err
returns-in_err-state-clause-err c =
    let lines = c.args.lines.now in
    let code = c.args.code.now in
    let numbers = processor_numbers code in
    let p = c.loop-p.p in
    let here = drop c.loop-p.at lines in
    let many = c.processor_count-count.ensures ∙ ap processors c.tables.ensures.same in
    fault_passed (BreaksState code p here) (BreaksGrid code lines) lines _ _ c.from_residual.ensures.1 c.in_err-state.ensures.err
    (λ left breaks. AtState left (along_stop (ReadsState code) (BreaksState code) numbers lines (map state_in c.loop-p.states.items) (drop p numbers) (drop (p + 1) numbers) here left p
    c.loop-p.invariant.along (next_number code p (omega (arith, many))) breaks))

pub loop-p-preserved : goal.loop-p-preserved
loop-p-preserved c =
    let lines = c.args.lines.now in
    let code = c.args.code.now in
    let numbers = processor_numbers code in
    let p = c.loop-p.p in
    let before = c.loop-p.invariant in
    let state = c.in_ok-state.state in
    let many = c.processor_count-count.ensures ∙ ap processors c.tables.ensures.same in
    let grown : c.keep.new.list.items ≡ c.loop-p.states.items ++ state ∷ [] = search rules in
    let told = ap (map state_in) grown ∙ map-append state_in c.loop-p.states.items (state ∷ []) in
    record {
      along = along_on (ReadsState code) (BreaksState code) numbers lines (map state_in c.loop-p.states.items) (map state_in c.keep.new.list.items)
          (drop p numbers) (drop (p + 1) numbers) (drop c.loop-p.at lines) (drop c.in_ok-state.behind lines) p (state_in state)
          before.along (next_number code p (omega (arith, many))) c.in_ok-state.ensures.ok told;
      inside = c.in_ok-state.ensures.inside;
      many = simp (length-append) at (ap length grown) ∙ ap (λ n. n + 1) before.many;
      ready = ready_more code c.loop-p.states.items c.keep.new.list.items state p before.ready before.many c.in_ok-state.ensures.ready grown;
    }

pub returns-then-at-lines-clause-err : goal.returns-then-at-lines-clause-err
returns-then-at-lines-clause-err c =
    let lines = c.args.lines.now in
    let code = c.args.code.now in
    let many = c.processor_count-count.ensures ∙ ap processors c.tables.ensures.same in
    rw c.bad_state.ensures
    (grid_broken code lines (map state_in c.loop-p.states.items) c.loop-p.p c.loop-p.at (omega (arith, many)) c.loop-p.invariant.along (omega arith))

pub returns-clause-ok : goal.returns-clause-ok
returns-clause-ok c =
    let lines = c.args.lines.now in
    let code = c.args.code.now in
    let many = c.processor_count-count.ensures ∙ ap processors c.tables.ensures.same in
    grid_read code lines (map state_in c.loop-p.states.items) c.loop-p.p c.loop-p.at (omega (arith, many)) c.loop-p.invariant.along (omega arith)
