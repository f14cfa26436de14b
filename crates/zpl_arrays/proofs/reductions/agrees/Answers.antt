use Rattle.std.proofs.Common.{◌≡◌, true, ◌||◌, get_or, pos, refl, sym, ◌∙◌, ap, arith}
use Rattle.std.specs.Ordering.{int_eq}
use Rattle.std.proofs.lemmas.Int.{ints}
use Rattle.zpl_region.specs.declared.dims.Dim.TheVariants.{Flood}
use Rattle.zpl_arrays.specs.Conformity.{is_collapsed}
use Rattle.zpl_arrays.proofs.AgreeLemmas.{agreeing_ends, agreeing_goes_on, same_passes, three_at_most}
use Rattle.zpl_arrays.proofs.reductions.agrees.Goals as goal
use Rattle.zpl_arrays.proofs.reductions.agrees.Goals.{Joined-else-not-collapses, else-not-collapses-via-then-not-collapses+else-t-from, else-not-collapses-via-else-not-collapses}

pub loop-place-init : goal.loop-place-init
loop-place-init c = refl

passes : (c : Joined-else-not-collapses)
    → (is_collapsed (get_or c.args.target.now.dims c.loop-place.place Flood) || int_eq (get_or c.args.t.now c.loop-place.place (pos 0)) (get_or c.args.x.now c.loop-place.place (pos 0))) ≡ true
passes c = elim c.else-not-collapses.branch [
  | else-not-collapses-via-then-not-collapses+else-t-from w ↦
      (let same : get_or c.args.t.now w.from.result (pos 0) ≡ get_or c.args.x.now w.from-then-not-collapses.result (pos 0) = omega (arith, ints, w.if-t-from.false) in
      same_passes (is_collapsed (get_or c.args.target.now.dims c.loop-place.place Flood)) _ _
      (ap (λ k. get_or c.args.t.now k (pos 0)) (sym w.from.ensures) ∙ (same ∙ ap (λ k. get_or c.args.x.now k (pos 0)) w.from-then-not-collapses.ensures)))
  | else-not-collapses-via-else-not-collapses w ↦ ap (λ b. b || int_eq (get_or c.args.t.now c.loop-place.place (pos 0)) (get_or c.args.x.now c.loop-place.place (pos 0))) (sym c.collapses.ensures ∙ w.if-not-collapses.false)
]

pub loop-place-preserved : goal.loop-place-preserved
loop-place-preserved c =
    agreeing_goes_on c.loop-place.place c.args.target.now.dims c.args.x.now c.args.t.now Flood (pos 0) _ (omega arith) (omega arith) (passes c) c.loop-place.invariant

pub returns : goal.returns
returns c =
    let few = three_at_most c.args.target.now.rank c.args.target.now.dims c.requires.rank_below c.requires.padded in
    agreeing_ends c.loop-place.place c.args.target.now.dims c.args.x.now c.args.t.now _ (omega arith) c.loop-place.invariant
