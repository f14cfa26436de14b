use Rattle.std.proofs.Common.{◌≡◌, ◌/◌, ◌<◌, Vec, Global, w64, to_z, of_z, ℤ, pos, None, get_or, set, length, replicate, sym, ◌∙◌, ap, arith, rules}
use Rattle.std.proofs.lemmas.Int.{ints}
use Rattle.zpl_nums.specs.Fold.{joined, unit_of}
use Rattle.zpl_region.specs.Region.{members}
use Rattle.scan_plan.specs.Line.{line_dim, line_number, value_at}
use Rattle.scan_plan.proofs.GoneLemmas.{appended, none_from_default}
use Rattle.scan_plan.proofs.LineLemmas.{along_of, inner_of}
use Rattle.scan_plan.proofs.ScanLemmas.{LinesTold, folds_all, folds_none, folds_one, length-folds, lines_told, no_totals, number_told}
use Rattle.scan_plan.proofs.StepLemmas.{stepped}
use Rattle.scan_plan.proofs.sums.totals.Goals as goal
use Rattle.scan_plan.proofs.SumLemmas.{get_or_any}
use Rattle.scan_plan.proofs.sums.totals.Goals.{After-of-lines, in-Some, in_default}

pub returns-then-is_empty-clause-ok : goal.returns-then-is_empty-clause-ok
returns-then-is_empty-clause-ok c =
    let none : length c.args.values.now ≡ 0 = search rules in
    no_totals c.args.fold c.args.along c.args.block.now (value_at c.args.block.now c.args.values.now) c.args.into.now.items c.requires.block (sym c.requires.filled ∙ none)

told : (c : After-of-lines) → LinesTold c.args.block.now c.args.along c.of-lines.result.along c.of-lines.result.inner
told c =
    let some : 0 < length c.args.values.now = search rules in
    lines_told c.args.block.now c.args.along c.line_dim.result _ _ c.requires.block c.requires.along c.of-lines.ensures.dims (omega (arith, some, c.requires.filled)) c.line_dim.ensures c.of-lines.ensures.along c.of-lines.ensures.inner

pub nonzero_div-count : goal.nonzero_div-count
nonzero_div-count c = (told (goal.at.nonzero_div-count c).After-of-lines).some

pub loop-i-init : goal.loop-i-init
loop-i-init c =
    let t = told (goal.at.loop-i-init c).After-of-lines in
    let unit_is : to_z w64 (of_z w64 c.unit.result) ≡ unit_of c.args.fold = omega (arith, ints, c.unit.ensures) in
    folds_none c.args.fold c.args.along _ c.args.block.now c.args.values.now c.in_ok-totals.totals.items (ap (λ n. n / c.of-lines.result.along) c.requires.filled ∙ t.count)
    (c.in_ok-totals.ensures.items_if_clones_equal (λ y e. e) ∙ ap (replicate _) unit_is)

pub number-line-requires-clause-along : goal.number-line-requires-clause-along
number-line-requires-clause-along c = (told (goal.at.number-line-requires-clause-along c).After-of-lines).some

pub number-line-requires-clause-inner : goal.number-line-requires-clause-inner
number-line-requires-clause-inner c = (told (goal.at.number-line-requires-clause-inner c).After-of-lines).more

pub number-line-requires-clause-fits : goal.number-line-requires-clause-fits
number-line-requires-clause-fits c = let t = told (goal.at.number-line-requires-clause-fits c).After-of-lines in omega (arith, t.few, c.requires.filled)

pub index-requires : goal.index-requires
index-requires c =
    let t = told (goal.at.index-requires c).After-of-lines in
    let long = length-folds c.args.fold c.args.along c.args.block.now c.args.values.now c.loop-i.totals.items c.loop-i.i c.loop-i.invariant in
    let line = t.number_below c.loop-i.i (omega (arith, c.requires.filled)) in
    omega (arith, long, line, c.number-line.ensures.number)

pub index_mut-requires : goal.index_mut-requires
index_mut-requires c =
    let t = told (goal.at.index_mut-requires c).After-of-lines in
    let long = length-folds c.args.fold c.args.along c.args.block.now c.args.values.now c.loop-i.totals.items c.loop-i.i c.loop-i.invariant in
    let line = t.number_below c.loop-i.i (omega (arith, c.requires.filled)) in
    omega (arith, long, line, c.number-line.ensures.number)

pub loop-i-preserved : goal.loop-i-preserved
loop-i-preserved c =
    let op = c.args.fold in
    let r = c.args.block.now in
    let values = c.args.values.now in
    let folds = c.loop-i.totals.items in
    let i = c.loop-i.i in
    let t = told (goal.at.loop-i-preserved c).After-of-lines in
    let inside : c.loop-i.i < length (members r) = omega (arith, c.requires.filled) in
    let long = length-folds op c.args.along r values folds i c.loop-i.invariant in
    elim c.match-value.branch [
      | in-Some w ↦
          (let line = w.number-line.result in
          let below : w.number-line.result < length folds = omega (arith, long, t.number_below i inside, w.number-line.ensures.number) in
          let value_is : to_z w64 (of_z w64 w.in-Some.value) ≡ w.in-Some.value = omega (arith, ints) in
          let result_is : to_z w64 (of_z w64 w.join.result) ≡ w.join.result = omega (arith, ints) in
          let old_is : to_z w64 (of_z w64 w.index.result.now) ≡ w.index.result.now = omega (arith, ints) in
          let old : w.index.result.now ≡ get_or folds line (pos 0) = w.index.ensures ∙ get_or_any folds line w.index.result.now (pos 0) below in
          let joined_is : to_z w64 (of_z w64 w.join.result) ≡ joined op (get_or folds line (pos 0)) w.in-Some.value =
          result_is ∙ (w.join.ensures ∙ (ap (λ z. joined op z (to_z w64 (of_z w64 w.in-Some.value))) (old_is ∙ old) ∙ ap (joined op (get_or folds line (pos 0))) value_is)) in
          let number = number_told r c.args.along _ _ i line t w.number-line.ensures.number in
          folds_one op c.args.along r values folds c.match-value.totals.items i c.requires.block t.dim_below inside c.loop-i.invariant
          (ap (λ (v : Vec ℤ Global). v.items) w.totals-is
          ∙ (ap (set folds line) joined_is
          ∙ (ap (λ o. stepped op line o folds) (sym w.in-Some.is) ∙ ap (λ j. stepped op j (get_or values i None) folds) number))))
      | in_default w ↦
          (let none : get_or values i None ≡ None = none_from_default (get_or values i None) w.in_default.not-Some in
          folds_one op c.args.along r values folds c.match-value.totals.items i c.requires.block t.dim_below inside c.loop-i.invariant
          (ap (λ (v : Vec ℤ Global). v.items) w.totals-is ∙ sym (ap (λ o. stepped op (line_number (along_of (line_dim r.rank c.args.along) r.dims) (inner_of (line_dim r.rank c.args.along) r.dims) i) o folds) none)))
    ]

pub returns-clause-ok : goal.returns-clause-ok
returns-clause-ok c =
    appended c.extend_from_slice.result c.extend_from_slice.new.self.items c.args.into.now.items c.deref.result.now _ c.extend_from_slice.ensures.items
    (c.deref.ensures.value ∙ folds_all c.args.fold c.args.along c.args.block.now c.args.values.now c.loop-i.totals.items c.loop-i.i (omega (arith, c.requires.filled)) c.loop-i.invariant)
