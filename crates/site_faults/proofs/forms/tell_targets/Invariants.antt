use Rattle.std.proofs.Common.{◌≡◌, drop, map}
use Rattle.std.specs.List.{flat_map}
use Rattle.zpl_tree.specs.View.{name_of}
use Rattle.name_kinds.specs.of_zpl_names.Accepted as kind
use Rattle.name_kinds.specs.of_zpl_names.Faults.{unless_taken}
use Rattle.name_kinds.specs.of_zpl_names.Scope.{is_array}
use Rattle.site_faults.specs.Findings.{tells}
use Rattle.site_faults.specs.Reach.{reach_of}
use Rattle.site_faults.specs.Walk.{state_of}
use Rattle.site_faults.proofs.forms.tell_targets.Given as goal

-- what is told and what is left to tell are the whole
abbrev pub invariant-loop-name : goal.invariant-loop-name
invariant-loop-name l =
    (tells kind.UnknownName (flat_map (unless_taken (reach_of l.reach) is_array) (map name_of (drop l.name-index l.names)))
    (state_of l.findings) ≡
    tells kind.UnknownName (flat_map (unless_taken (reach_of l.reach) is_array) (map name_of l.names))
    (state_of l.initial.findings)) ×
    ((state_of l.findings).reached ≡ (state_of l.initial.findings).reached)
