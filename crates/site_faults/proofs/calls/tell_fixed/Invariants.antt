use Rattle.std.proofs.Common.{◌≡◌, drop, map}
use Rattle.zpl_tree.specs.View.{exprs_of}
use Rattle.name_kinds.specs.of_zpl_names.Accepted as kind
use Rattle.name_kinds.specs.of_zpl_names.Faults.{fixed_actuals}
use Rattle.name_kinds.specs.Seen.{formal_of}
use Rattle.site_faults.specs.Findings.{tells}
use Rattle.site_faults.specs.Reach.{reach_of}
use Rattle.site_faults.specs.Walk.{state_of}
use Rattle.site_faults.proofs.calls.tell_fixed.Given as goal

-- what is told and what is left to tell are the whole
abbrev pub invariant-loop-place : goal.invariant-loop-place
invariant-loop-place l =
    (tells kind.NotAssignable
    (fixed_actuals (reach_of l.reach) (map formal_of (drop l.place l.formals))
    (exprs_of (drop l.place l.actuals))) (state_of l.findings) ≡
    tells kind.NotAssignable
    (fixed_actuals (reach_of l.reach) (map formal_of l.formals) (exprs_of l.actuals))
    (state_of l.initial.findings)) ×
    ((state_of l.findings).reached ≡ (state_of l.initial.findings).reached)
