use Rattle.std.proofs.Common.{inl, inr, ◌∙◌}
use Rattle.site_faults.specs.Reach.{reach_of}
use Rattle.site_faults.proofs.CallLemmas.{fixed-end, fixed-next}
use Rattle.site_faults.proofs.calls.tell_fixed.Goals as goal

pub returns-then-place-formals-clause-told : goal.returns-then-place-formals-clause-told
returns-then-place-formals-clause-told c =
    fixed-end (reach_of c.args.reach.now) c.args.formals.now c.args.actuals.now c.loop-place.place _
    _ (inl c.if-place-formals.true) c.loop-place.invariant.0

pub loop-place-preserved : goal.loop-place-preserved
loop-place-preserved c = (
  fixed-next (reach_of c.args.reach.now) c.args.formals.now c.args.actuals.now c.loop-place.place _
      _ _ _ _ c.if-place-formals.false c.loop-place-test.true c.tell_fixed_actual.ensures.told
      c.loop-place.invariant.0,
  c.tell_fixed_actual.ensures.reached ∙ c.loop-place.invariant.1,
)

pub returns-clause-told : goal.returns-clause-told
returns-clause-told c =
    fixed-end (reach_of c.args.reach.now) c.args.formals.now c.args.actuals.now c.loop-place.place _
    _ (inr c.loop-place-test.false) c.loop-place.invariant.0
