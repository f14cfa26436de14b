use Rattle.node_form.proofs.NestLemmas.{IsWalked}
use Rattle.node_form.proofs.nests.is_nest.Given as goal

-- each member so far may stand behind those in front of it
abbrev pub invariant-loop-i : goal.invariant-loop-i
invariant-loop-i l = record { walked : IsWalked l.members l.i }
