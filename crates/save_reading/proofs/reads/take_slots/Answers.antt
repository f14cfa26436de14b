use Rattle.std.proofs.Common.{◌≡◌, ℕ, ◌+◌, List, [], ◌∷◌, ◌++◌, drop, length, rules, arith}
use Rattle.std.proofs.lemmas.List.{drop_all}
use Rattle.grid_save.specs.Reads.{EachBreaks, First, IsSlotLine, NoFirst}
use Rattle.save_reading.proofs.ReadLemmas.{along_on, along_over, along_stop, fault_passed}
use Rattle.save_reading.proofs.reads.take_slots.Goals as goal

pub returns-in_err-region-clause-err : goal.returns-in_err-region-clause-err
returns-in_err-region-clause-err c =
    let lines = c.args.lines.now in
    let start = drop c.args.from lines in
    let rows = c.args.code.now.slots in
    let here = drop c.loop-i.at lines in
    fault_passed (NoFirst (IsSlotLine c.slot_rank-rank.result) here)
    (EachBreaks (λ (rank : ℕ). First (IsSlotLine rank)) (λ (rank : ℕ). NoFirst (IsSlotLine rank)) rows start) lines _ _ c.from_residual.ensures.1 c.in_err-region.ensures.err
    (λ left none. along_stop (λ (rank : ℕ). First (IsSlotLine rank)) (λ (rank : ℕ). NoFirst (IsSlotLine rank)) rows start c.loop-i.regions.items
    (drop c.loop-i.i rows) (drop (c.loop-i.i + 1) rows) here left c.slot_rank-rank.result c.loop-i.invariant.along c.slot_rank-rank.ensures.next none)

pub loop-i-preserved : goal.loop-i-preserved
loop-i-preserved c =
    let lines = c.args.lines.now in
    let start = drop c.args.from lines in
    let rows = c.args.code.now.slots in
    let grown : c.keep.new.list.items ≡ c.loop-i.regions.items ++ c.in_ok-region.region ∷ [] = search rules in
    let inside = c.in_ok-region.ensures.inside in
    record {
      along = along_on (λ (rank : ℕ). First (IsSlotLine rank)) (λ (rank : ℕ). NoFirst (IsSlotLine rank)) rows start c.loop-i.regions.items c.keep.new.list.items
          (drop c.loop-i.i rows) (drop (c.loop-i.i + 1) rows) (drop c.loop-i.at lines) (drop (c.loop-i.at + 1) lines) c.slot_rank-rank.result c.in_ok-region.region
          c.loop-i.invariant.along c.slot_rank-rank.ensures.next c.in_ok-region.ensures.ok grown;
      inside = omega arith;
    }

pub returns-clause-ok : goal.returns-clause-ok
returns-clause-ok c =
    let lines = c.args.lines.now in
    let rows = c.args.code.now.slots in
    along_over (λ (rank : ℕ). First (IsSlotLine rank)) (λ (rank : ℕ). NoFirst (IsSlotLine rank)) rows (drop c.args.from lines) c.loop-i.regions.items
    (drop c.loop-i.i rows) (drop c.loop-i.at lines) c.loop-i.invariant.along (drop_all c.loop-i.i rows (omega arith))
