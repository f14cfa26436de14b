use Rattle.std.proofs.Common.{ap}
use Rattle.lower_frames.proofs.OpeningLemmas.{numbers_next, scalars_next}
use Rattle.lower_frames.proofs.openings.add_scalars.Goals as goal

pub loop-scalar-preserved : goal.loop-scalar-preserved
loop-scalar-preserved c = record {
  draft = scalars_next c.loop-scalar.draft c.add_scalar.new.self _ c.args.count
      c.loop-scalar._scalar c.loop-scalar-test.true c.in_ok-scalar.ensures.added
      c.loop-scalar.invariant.draft;
  numbers = numbers_next c.loop-scalar.numbers c.add_scalar-in-loop-scalar.new.self _
      c.in_ok-scalar.scalar c.loop-scalar.draft.next.scalars c.add_scalar.new.self.next.scalars
      c.args.count c.loop-scalar._scalar c.loop-scalar-test.true c.in_ok-scalar.ensures.number
      (ap (λ d. d.next.scalars) c.in_ok-scalar.ensures.added) c.in_ok-add_scalar.ensures
      c.loop-scalar.invariant.numbers;
}
