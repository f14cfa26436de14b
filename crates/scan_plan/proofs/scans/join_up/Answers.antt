use Rattle.std.proofs.Common.{◌≡◌, w64, to_z, of_z, get_or, pos, ◌∙◌, ap, arith}
use Rattle.std.proofs.lemmas.Int.{ints}
use Rattle.zpl_nums.specs.Fold.{joined}
use Rattle.scan_plan.proofs.SumLemmas.{sums_go_on}
use Rattle.scan_plan.proofs.scans.join_up.Goals as goal

pub loop-value-preserved : goal.loop-value-preserved
loop-value-preserved c =
    let result_is : to_z w64 (of_z w64 c.join-so_far.result) ≡ c.join-so_far.result = omega (arith, ints) in
    let value_is : to_z w64 (of_z w64 (get_or c.loop-value.values c.loop-value.value-index (pos 0))) ≡ get_or c.loop-value.values c.loop-value.value-index (pos 0) = omega (arith, ints) in
    sums_go_on c.args.fold c.loop-value.values _ c.loop-value.value-index (pos 0) (to_z w64 c.loop-value.so_far-bits) _ (omega arith)
    (result_is ∙ (c.join-so_far.ensures ∙ ap (joined c.args.fold (to_z w64 c.loop-value.so_far-bits)) value_is)) c.loop-value.invariant
