use Rattle.std.proofs.Common.{◌≡◌, ◌-◌}
use Rattle.lower_draft.specs.Drafted.{with_scalars}
use Rattle.lower_frames.specs.Openings.{scalars_added}
use Rattle.lower_frames.proofs.openings.add_scalars.Given as goal

abbrev pub invariant-loop-scalar : goal.invariant-loop-scalar
invariant-loop-scalar l = record {
  draft : with_scalars l.draft (l.count - l._scalar) ≡ with_scalars l.initial.draft l.count;
  numbers : scalars_added l.numbers l.draft.next.scalars (l.count - l._scalar)
      ≡ scalars_added l.initial.numbers l.initial.draft.next.scalars l.count;
}
