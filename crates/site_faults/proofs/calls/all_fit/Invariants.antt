use Rattle.std.proofs.Common.{◌≡◌, drop, map}
use Rattle.zpl_tree.specs.View.{exprs_of}
use Rattle.name_kinds.specs.of_zpl_names.Faults.{all_fit}
use Rattle.name_kinds.specs.Seen.{formal_of}
use Rattle.site_faults.specs.Reach.{reach_of}
use Rattle.site_faults.proofs.calls.all_fit.Given as goal

-- whether the rest fits is whether all do
abbrev pub invariant-loop-place : goal.invariant-loop-place
invariant-loop-place l =
    all_fit (reach_of l.reach) (map formal_of (drop l.place l.formals))
    (exprs_of (drop l.place l.actuals)) ≡
    all_fit (reach_of l.reach) (map formal_of l.formals) (exprs_of l.actuals)
