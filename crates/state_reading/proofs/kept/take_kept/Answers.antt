use Rattle.std.proofs.Common.{◌≡◌, ◌∙◌, ℕ, ◌+◌, ℤ, false, List, [], ◌∷◌, ◌++◌, ap, drop, map, sym, subst, rules, arith}
use Rattle.std.specs.Prelude.{IsTrue, is_some}
use Rattle.std.proofs.lemmas.List.{map-append}
use Rattle.grid_meaning.specs.Local.{processors}
use Rattle.node_local.specs.Standing.{entry_of}
use Rattle.node_local.specs.Workplace.{Workplace}
use Rattle.row_progress.specs.Begun.{stands}
use Rattle.save_reading.specs.of_grid_save.Reads as read
use Rattle.save_reading.specs.of_grid_save.Reads.{begins, IsFar, IsKeptLine, MayBegin, RunBreaks, told_kept}
use Rattle.save_reading.proofs.ReadLemmas.{fault_here, going_on, going_over, going_stop}
use Rattle.state_reading.proofs.KeptLemmas.{is_kept_line, not_begun, not_found}
use Rattle.state_reading.proofs.kept.take_kept.Goals as goal

pub returns-in_default-2-clause-err : goal.returns-in_default-2-clause-err
returns-in_default-2-clause-err c =
    let lines = c.args.lines.now in
    let start = drop c.args.from lines in
    let code = c.args.code.now in
    let p = c.args.p in
    let v = stands c.args.begun.now.local c.args.far.now in
    let done = map entry_of c.loop-line.kept.items in
    let before = c.loop-line.invariant in
    let line = c.in-Some.line.now in
    let many = c.processor_count-count.ensures ∙ ap processors c.tables.ensures.same in
    rw c.bad_state.ensures (fault_here (RunBreaks read.is_kept (IsKeptLine code p v) [] start) lines c.loop-line.at before.inside
    (going_stop read.is_kept (IsKeptLine code p v) start done (drop c.loop-line.at lines) line (drop (c.loop-line.at + 1) lines) before.going c.in-Some.ensures.1 c.in-Some.ensures.0
    (λ entry told. not_found code p v done line c.processor_count-count.result _ many c.requires.begun.ready.state.number c.in_ok-one.ensures.found c.in_default-2.is entry told)))

pub begins_kept-requires-clause-far : goal.begins_kept-requires-clause-far
begins_kept-requires-clause-far c =
    let told = told_kept (drop c.args.from c.args.lines.now) in
    (told, subst (λ (b : Workplace). IsFar c.args.code.now c.args.p (stands b.local c.args.far.now) told (is_some b.local.ended)) (sym c.loop-line.invariant.same) c.requires.far)

pub returns-then-not-begins-clause-err : goal.returns-then-not-begins-clause-err
returns-then-not-begins-clause-err c =
    let lines = c.args.lines.now in
    let start = drop c.args.from lines in
    let code = c.args.code.now in
    let p = c.args.p in
    let far = c.args.far.now in
    let v = stands c.args.begun.now.local far in
    let done = map entry_of c.loop-line.kept.items in
    let before = c.loop-line.invariant in
    let line = c.in-Some.line.now in
    let one = c.in-Some-2.one in
    let written = rw c.in-Some-2.is at c.in_ok-one.ensures.right in
    let grown : c.as_slice.result.now ≡ c.loop-line.kept.items ++ one ∷ [] = search rules in
    let told = ap (map entry_of) grown ∙ map-append entry_of c.loop-line.kept.items (one ∷ []) in
    let no : c.in_ok-begins.begins ≡ false = search rules in
    rw c.bad_state-then-not-begins.ensures (fault_here (RunBreaks read.is_kept (IsKeptLine code p v) [] start) lines c.loop-line.at before.inside
    (going_stop read.is_kept (IsKeptLine code p v) start done (drop c.loop-line.at lines) line (drop (c.loop-line.at + 1) lines) before.going c.in-Some.ensures.1 c.in-Some.ensures.0
    (not_begun code p v done line (entry_of one) written
    (λ begins.
    let words = subst (λ (l : List (ℕ × List ℤ)). MayBegin code p v l) (sym told) begins in
    let moved = subst (λ (b : Workplace). MayBegin code p (stands b.local far) (map entry_of c.as_slice.result.now)) (sym before.same) words in
    let yes : IsTrue c.in_ok-begins.begins = c.in_ok-begins.ensures.begins.1 moved in
    absurd cc))))

pub loop-line-preserved : goal.loop-line-preserved
loop-line-preserved c =
    let lines = c.args.lines.now in
    let start = drop c.args.from lines in
    let code = c.args.code.now in
    let p = c.args.p in
    let v = stands c.args.begun.now.local c.args.far.now in
    let done = map entry_of c.loop-line.kept.items in
    let before = c.loop-line.invariant in
    let line = c.in-Some.line.now in
    let one = c.in-Some-2.one in
    let written = rw c.in-Some-2.is at c.in_ok-one.ensures.right in
    let grown : c.keep.new.list.items ≡ c.loop-line.kept.items ++ one ∷ [] = search rules in
    let told = ap (map entry_of) grown ∙ map-append entry_of c.loop-line.kept.items (one ∷ []) in
    let slice : c.as_slice.result.now ≡ c.loop-line.kept.items ++ one ∷ [] = search rules in
    let words = ap (map entry_of) slice ∙ map-append entry_of c.loop-line.kept.items (one ∷ []) in
    let yes : IsTrue c.in_ok-begins.begins = search rules in
    let begins = c.in_ok-begins.ensures.begins.0 yes in
    let moved = subst (λ (b : Workplace). MayBegin code p (stands b.local c.args.far.now) (map entry_of c.as_slice.result.now)) before.same begins in
    let is = is_kept_line code p v done line (entry_of one) written (subst (λ (l : List (ℕ × List ℤ)). MayBegin code p v l) words moved) in
    let inside = c.in-Some.ensures.2 in
    record {
      going = going_on read.is_kept (IsKeptLine code p v) start done (map entry_of c.keep.new.list.items) (drop c.loop-line.at lines) line (drop (c.loop-line.at + 1) lines) (entry_of one)
          before.going c.in-Some.ensures.1 c.in-Some.ensures.0 is told;
      inside = omega arith;
      same = c.in_ok-begins.ensures.same ∙ before.same;
    }

pub returns-clause-ok : goal.returns-clause-ok
returns-clause-ok c =
    let lines = c.args.lines.now in
    let v = stands c.args.begun.now.local c.args.far.now in
    let stop : begins read.is_kept (drop c.loop-line.at lines) ≡ false = search rules in
    going_over read.is_kept (IsKeptLine c.args.code.now c.args.p v) (drop c.args.from lines) (map entry_of c.loop-line.kept.items) (drop c.loop-line.at lines) c.loop-line.invariant.going stop
