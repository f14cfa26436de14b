use Rattle.std.proofs.Common.{◌≡◌, drop, map}
use Rattle.std.specs.List.{flat_map}
use Rattle.zpl_tree.specs.View.{pre_of}
use Rattle.name_kinds.specs.of_zpl_names.Accepted as kind
use Rattle.name_kinds.specs.of_zpl_names.Faults.{unless_taken}
use Rattle.name_kinds.specs.of_zpl_names.Scope.{is_direction}
use Rattle.site_faults.specs.Findings.{tells}
use Rattle.site_faults.specs.Reach.{reach_of}
use Rattle.site_faults.specs.Walk.{state_of}
use Rattle.site_faults.proofs.regions.tell_pres.Given as goal

-- what is told and what is left to tell are the whole
abbrev pub invariant-loop-one : goal.invariant-loop-one
invariant-loop-one l =
    tells kind.UnknownName (flat_map (λ pre. unless_taken (reach_of l.reach) is_direction pre.dir) (map pre_of (drop l.one-index l.pre)))
    (state_of l.findings) ≡
    tells kind.UnknownName (flat_map (λ pre. unless_taken (reach_of l.reach) is_direction pre.dir) (map pre_of l.pre))
    (state_of l.initial.findings)
