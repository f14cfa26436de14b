use Rattle.std.proofs.Common.{◌≡◌, w64, to_z, of_z, ℤ, pos, get_or, slice_get, Some, sym, ◌∙◌, ap, arith}
use Rattle.std.proofs.lemmas.Int.{ints}
use Rattle.grid_layout.specs.of_zpl_region.Region.{members}
use Rattle.grid_layout.proofs.of_zpl_region.HullLemmas.{has_steps}
use Rattle.region_places.specs.of_zpl_nums.Fold.{joined}
use Rattle.region_places.specs.of_zpl_arrays.Array.{element}
use Rattle.reduce_plan.proofs.WalkLemmas.{element_is, fold_one, member_at, none_from_default, within_is_some}
use Rattle.reduce_plan.proofs.folds.fold_at.Goals as goal
use Rattle.reduce_plan.proofs.folds.fold_at.Goals.{in-Some, in_default}

pub loop-i-preserved : goal.loop-i-preserved
loop-i-preserved c = elim c.match-nth.branch [
  | in-Some w ↦
      (let block = c.args.block.now in
      let values = c.args.values.now in
      let ms = members c.args.tuples.now in
      let here : slice_get ms c.loop-i.i ≡ Some w.in-Some.t = sym c.nth.ensures ∙ w.in-Some.is in
      let v : ℤ = get_or values w.place.result (pos 0) in
      let v_is : v ≡ element (record { storage = block; values = values }) w.in-Some.t =
      element_is block values w.in-Some.t w.place.result (has_steps block.dims c.requires.block.dims) c.requires.filled (member_at block ms c.loop-i.i w.in-Some.t c.requires.inside here) w.place.ensures.place in
      let value_is : to_z w64 (of_z w64 v) ≡ v = omega (arith, ints) in
      let result_is : to_z w64 (of_z w64 w.join-so_far.result) ≡ w.join-so_far.result = omega (arith, ints) in
      fold_one c.args.fold (element (record { storage = block; values = values })) ms c.loop-i.i w.in-Some.t (to_z w64 c.loop-i.so_far-bits) (to_z w64 c.match-nth.so_far-bits) v here v_is
      (w.so_far-is ∙ (result_is ∙ (w.join-so_far.ensures ∙ ap (joined c.args.fold (to_z w64 c.loop-i.so_far-bits)) value_is))) c.loop-i.invariant)
  | in_default w ↦
      (let ms = members c.args.tuples.now in
      absurd (within_is_some ms c.loop-i.i (omega (arith, c.count-i-end.ensures)) (sym c.nth.ensures ∙ none_from_default c.nth.result w.in_default.not-Some)))
]
