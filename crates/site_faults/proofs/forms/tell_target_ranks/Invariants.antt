use Rattle.std.proofs.Common.{◌≡◌, drop, map}
use Rattle.std.specs.List.{flat_map}
use Rattle.zpl_tree.specs.View.{name_of}
use Rattle.name_kinds.specs.of_zpl_names.Accepted as kind
use Rattle.name_kinds.specs.of_zpl_names.Faults.{at_if, kind_at}
use Rattle.name_kinds.specs.of_zpl_names.Ranks.{array_rank, ranks_clash}
use Rattle.site_faults.specs.Findings.{tells}
use Rattle.site_faults.specs.Reach.{reach_of}
use Rattle.site_faults.specs.Walk.{state_of}
use Rattle.site_faults.proofs.forms.tell_target_ranks.Given as goal

-- what is told and what is left to tell are the whole
abbrev pub invariant-loop-name : goal.invariant-loop-name
invariant-loop-name l =
    (tells kind.RankClash (flat_map (λ name. at_if (ranks_clash l.reach.prefix (array_rank (kind_at (reach_of l.reach) name))) name.at) (map name_of (drop l.name-index l.names)))
    (state_of l.findings) ≡
    tells kind.RankClash (flat_map (λ name. at_if (ranks_clash l.reach.prefix (array_rank (kind_at (reach_of l.reach) name))) name.at) (map name_of l.names))
    (state_of l.initial.findings)) ×
    ((state_of l.findings).reached ≡ (state_of l.initial.findings).reached)
