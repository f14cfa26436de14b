use Rattle.std.proofs.Common.{◌<◌, ◌++◌, ◌∷◌, [], Option, refl, sym, ◌∙◌, ap, subst}
use Rattle.grid_timetable.specs.declared.places.Place.{Place}
use Rattle.grid_timetable.specs.declared.segments.Segment.{Segment}
use Rattle.grid_timetable.specs.Trace.{cause_of}
use Rattle.grid_timetable.proofs.TraceLemmas.{IsThere, IsTracing, left_of, tracing-begin, tracing-step, tracing-end_by, tracing-less}
use Rattle.grid_timetable.proofs.chain.trace.Goals as goal

pub loop-next-init : goal.loop-next-init
loop-next-init c = tracing-begin c.args.stretches.now c.args.last c.args.into.now.items c.requires.there c.requires.empty

pub segment_to-requires : goal.segment_to-requires
segment_to-requires c = subst (IsThere c.args.stretches.now) c.in-Some.is c.loop-next.invariant.there

pub loop-next-smaller : goal.loop-next-smaller
loop-next-smaller c =
    subst (λ (next : Option Place). left_of (cause_of c.args.stretches.now c.in-Some.place) < left_of next) (sym c.in-Some.is)
    (tracing-less c.args.stretches.now c.requires.caused c.in-Some.place
    (subst (IsThere c.args.stretches.now) c.in-Some.is c.loop-next.invariant.there) _ refl)

pub loop-next-preserved : goal.loop-next-preserved
loop-next-preserved c =
    subst (IsTracing c.args.stretches.now c.args.last (cause_of c.args.stretches.now c.in-Some.place))
    (sym (c.in_ok-push.ensures.items ∙ ap (λ (s : Segment). c.loop-next.into.items ++ s ∷ []) c.segment_to.ensures))
    (tracing-step c.args.stretches.now c.args.last c.in-Some.place c.loop-next.into.items c.requires.caused
    (subst (λ (next : Option Place). IsTracing c.args.stretches.now c.args.last next c.loop-next.into.items) c.in-Some.is c.loop-next.invariant))

pub returns : goal.returns
returns c =
    tracing-end_by c.args.stretches.now c.args.last c.loop-next.next c.loop-next.into.items c.in_default.not-Some c.loop-next.invariant
