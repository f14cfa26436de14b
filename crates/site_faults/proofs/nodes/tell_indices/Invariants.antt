use Rattle.std.proofs.Common.{◌≡◌, Some, drop}
use Rattle.zpl_tree.specs.View.{exprs_of}
use Rattle.name_kinds.specs.of_zpl_names.Accepted as kind
use Rattle.name_kinds.specs.of_zpl_names.Faults.{index_clashes}
use Rattle.site_faults.specs.Findings.{tells}
use Rattle.site_faults.specs.Reach.{reach_of}
use Rattle.site_faults.specs.Walk.{state_of}
use Rattle.site_faults.proofs.nodes.tell_indices.Given as goal

-- what is told and what is left to tell are the whole
abbrev pub invariant-loop-index : goal.invariant-loop-index
invariant-loop-index l =
    (tells kind.RankClash
    (index_clashes (reach_of l.reach) l.before (exprs_of (drop l.index-index l.indices)))
    (state_of l.findings) ≡
    tells kind.RankClash (index_clashes (reach_of l.reach) (Some 0) (exprs_of l.indices))
    (state_of l.initial.findings)) ×
    ((state_of l.findings).reached ≡ (state_of l.initial.findings).reached)
