use Rattle.std.proofs.Common.{◌≡◌, drop, map}
use Rattle.zpl_lowering.specs.Lowered.{Lowered}
use Rattle.zpl_lowering.specs.Program.{Framed}
use Rattle.zpl_lowering.specs.Where.{Next}
use Rattle.lower_draft.specs.Drafted.{grown}
use Rattle.lower_frames.specs.Frames.{framed_of, given_of}
use Rattle.lower_frames.specs.Rows.{named_givens}
use Rattle.lower_frames.proofs.givens.with_givens.Given as goal

abbrev pub invariant-loop-at : goal.invariant-loop-at
invariant-loop-at l =
    (rest : Framed → Next → Lowered) →
    grown l.draft (named_givens l.line (map (λ name. name.now) (drop l.at l.names))
    (map given_of (drop l.at l.givens)) (framed_of l.framed) l.draft.next rest)
    ≡ grown l.initial.draft (named_givens l.line (map (λ name. name.now) l.names)
    (map given_of l.givens) (framed_of l.initial.framed) l.initial.draft.next rest)
