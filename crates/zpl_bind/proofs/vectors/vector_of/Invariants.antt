use Rattle.zpl_bind.specs.Tables.{computed, listed}
use Rattle.zpl_bind.proofs.VectorLemmas.{IsSoFar}
use Rattle.zpl_bind.proofs.vectors.vector_of.Given as goal

abbrev pub invariant-loop-place : goal.invariant-loop-place
invariant-loop-place l =
    IsSoFar (computed (listed l.values)) l.parts l.place l.vector l.within
