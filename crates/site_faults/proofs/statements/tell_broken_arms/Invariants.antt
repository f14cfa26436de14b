use Rattle.std.proofs.Common.{◌≡◌, drop}
use Rattle.zpl_tree.specs.View.{arms_of}
use Rattle.name_kinds.specs.of_zpl_names.Accepted as kind
use Rattle.name_kinds.specs.of_zpl_names.Faults.{broken_arms}
use Rattle.site_faults.specs.Findings.{tells}
use Rattle.site_faults.specs.Reach.{reach_of}
use Rattle.site_faults.specs.Walk.{state_of}
use Rattle.site_faults.proofs.statements.tell_broken_arms.Given as goal

-- what is told and what is left to tell are the whole
abbrev pub invariant-loop-arm : goal.invariant-loop-arm
invariant-loop-arm l =
    (tells kind.ShatterBody
    (broken_arms (reach_of l.reach) l.rank (arms_of (drop l.arm-index l.arms)))
    (state_of l.findings) ≡
    tells kind.ShatterBody (broken_arms (reach_of l.reach) l.rank (arms_of l.arms))
    (state_of l.initial.findings)) ×
    ((state_of l.findings).reached ≡ (state_of l.initial.findings).reached)
