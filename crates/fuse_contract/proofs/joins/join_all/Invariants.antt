use Rattle.fuse_contract.proofs.JoinedLemmas.{IsFusing}
use Rattle.fuse_contract.proofs.joins.join_all.Given as goal

abbrev pub invariant-loop-i : goal.invariant-loop-i
invariant-loop-i l = IsFusing l.tables l.walk l.numbers l.i
