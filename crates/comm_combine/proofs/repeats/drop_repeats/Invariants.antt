use Rattle.comm_combine.proofs.DropLemmas.{IsDropping}
use Rattle.comm_combine.proofs.repeats.drop_repeats.Given as goal

abbrev pub invariant-loop-i : goal.invariant-loop-i
invariant-loop-i l = IsDropping l.plan l.draft l.fresh l.i
