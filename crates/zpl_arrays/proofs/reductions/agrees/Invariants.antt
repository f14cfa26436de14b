use Rattle.std.proofs.Common.{◌≡◌}
use Rattle.zpl_arrays.specs.Fold.{agrees}
use Rattle.zpl_arrays.proofs.AgreeLemmas.{agrees_from}
use Rattle.zpl_arrays.proofs.reductions.agrees.Given as goal

-- what is left to compare decides
abbrev pub invariant-loop-place : goal.invariant-loop-place
invariant-loop-place l = agrees_from l.place l.target.dims l.x l.t ≡ agrees l.target.dims l.x l.t
