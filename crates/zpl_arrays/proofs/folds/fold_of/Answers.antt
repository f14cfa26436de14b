use Rattle.std.proofs.Common.{◌≡◌, w64, to_z, of_z, get_or, None, sym, ◌∙◌, ap, arith}
use Rattle.std.specs.List.{fold}
use Rattle.std.proofs.lemmas.Int.{ints}
use Rattle.zpl_nums.specs.Fold.{joined}
use Rattle.zpl_arrays.specs.Row.{joined_with, kept_values}
use Rattle.zpl_arrays.proofs.RowLemmas.{fold_ends, fold_goes_on}
use Rattle.zpl_arrays.proofs.folds.fold_of.Goals as goal
use Rattle.zpl_arrays.proofs.folds.fold_of.Goals.{Joined-value, in-Some, in_default}

pub loop-value-init : goal.loop-value-init
loop-value-init c = ap (λ z. fold (joined c.args.fold) z (kept_values c.args.values.now)) (omega (arith, ints, c.unit-so_far.ensures))

next_is : (c : Joined-value) → to_z w64 c.match-value.so_far-bits ≡ joined_with c.args.fold (to_z w64 c.loop-value.so_far-bits) (get_or c.args.values.now c.loop-value.value-index None)
next_is c = elim c.match-value.branch [
  | in-Some w ↦
      (let result_is : to_z w64 (of_z w64 w.join-so_far.result) ≡ w.join-so_far.result = omega (arith, ints) in
      let value_is : to_z w64 (of_z w64 w.in-Some.value) ≡ w.in-Some.value = omega (arith, ints) in
      w.so_far-is ∙ (result_is ∙ (w.join-so_far.ensures ∙ (ap (joined c.args.fold (to_z w64 c.loop-value.so_far-bits)) value_is ∙ sym (ap (joined_with c.args.fold (to_z w64 c.loop-value.so_far-bits)) w.in-Some.is)))))
  | in_default w ↦ w.so_far-is ∙ sym (ap (joined_with c.args.fold (to_z w64 c.loop-value.so_far-bits)) w.in_default.is)
]

pub loop-value-preserved : goal.loop-value-preserved
loop-value-preserved c =
    fold_goes_on c.args.fold c.args.values.now c.loop-value.value-index None (to_z w64 c.loop-value.so_far-bits) (to_z w64 c.match-value.so_far-bits) _ c.loop-value-test.true (next_is c) c.loop-value.invariant

pub returns : goal.returns
returns c = fold_ends c.args.fold c.args.values.now (to_z w64 c.loop-value.so_far-bits) _ c.loop-value.value-index (omega arith) c.loop-value.invariant
