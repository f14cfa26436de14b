use Rattle.std.proofs.Common.{◌≡◌, drop, map, Some}
use Rattle.zpl_tree.specs.View.{pre_of}
use Rattle.name_kinds.specs.of_zpl_names.Accepted as kind
use Rattle.site_faults.specs.Findings.{tells}
use Rattle.site_faults.specs.Reach.{reach_of}
use Rattle.site_faults.specs.Regions.{clashes_behind}
use Rattle.site_faults.specs.Walk.{state_of}
use Rattle.site_faults.proofs.regions.tell_pre_clashes.Given as goal

-- what is told and what is left to tell are the whole
abbrev pub invariant-loop-one : goal.invariant-loop-one
invariant-loop-one l =
    tells kind.RankClash (clashes_behind (reach_of l.reach) l.before l.rank (map pre_of (drop l.one-index l.pre)) l.base)
    (state_of l.findings) ≡
    tells kind.RankClash (clashes_behind (reach_of l.reach) (Some 0) l.rank (map pre_of l.pre) l.base)
    (state_of l.initial.findings)
