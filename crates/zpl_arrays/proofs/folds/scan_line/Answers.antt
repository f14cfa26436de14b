use Rattle.std.proofs.Common.{◌≡◌, w64, to_z, of_z, get_or, None, refl, sym, ◌∙◌, ap, arith}
use Rattle.std.proofs.lemmas.Int.{ints}
use Rattle.zpl_nums.specs.Fold.{joined}
use Rattle.zpl_arrays.specs.Row.{joined_with, running}
use Rattle.zpl_arrays.proofs.RowLemmas.{scan_ends, scan_goes_on}
use Rattle.zpl_arrays.proofs.folds.scan_line.Goals as goal
use Rattle.zpl_arrays.proofs.folds.scan_line.Goals.{Joined-values-i, in-Some, in_default}

pub loop-i-init : goal.loop-i-init
loop-i-init c = refl

next_is : (c : Joined-values-i) → to_z w64 c.match-values-i.so_far-bits ≡ joined_with c.args.fold (to_z w64 c.loop-i.so_far-bits) (get_or c.args.values.now c.loop-i.i None)
next_is c = elim c.match-values-i.branch [
  | in-Some w ↦
      (let result_is : to_z w64 (of_z w64 w.join-so_far.result) ≡ w.join-so_far.result = omega (arith, ints) in
      let value_is : to_z w64 (of_z w64 w.in-Some.value) ≡ w.in-Some.value = omega (arith, ints) in
      w.so_far-is ∙ (result_is ∙ (w.join-so_far.ensures ∙ (ap (joined c.args.fold (to_z w64 c.loop-i.so_far-bits)) value_is ∙ sym (ap (joined_with c.args.fold (to_z w64 c.loop-i.so_far-bits)) w.in-Some.is)))))
  | in_default w ↦ w.so_far-is ∙ sym (ap (joined_with c.args.fold (to_z w64 c.loop-i.so_far-bits)) w.in_default.is)
]

pub loop-i-preserved : goal.loop-i-preserved
loop-i-preserved c =
    scan_goes_on c.args.fold c.args.values.now c.loop-i.into _ c.loop-i.i None (to_z w64 c.loop-i.so_far-bits) (to_z w64 c.match-values-i.so_far-bits) (omega (arith, c.requires)) (omega (arith, c.loop-i.auto.into)) (next_is c) c.loop-i.invariant

pub returns : goal.returns
returns c =
    let before_is : to_z w64 (of_z w64 c.args.before) ≡ c.args.before = omega (arith, ints) in
    scan_ends c.args.fold c.args.values.now c.loop-i.into _ c.loop-i.i (to_z w64 c.loop-i.so_far-bits) (omega (arith, c.requires)) (omega (arith, c.requires, c.loop-i.auto.into)) c.loop-i.invariant ∙ ap (λ z. running c.args.fold z c.args.values.now) before_is
