use Rattle.std.proofs.Common.{◌≡◌, drop, cond, []}
use Rattle.zpl_tree.specs.View.{dims_of}
use Rattle.name_kinds.specs.of_zpl_names.Accepted as kind
use Rattle.name_kinds.specs.of_zpl_names.Faults.{blanks}
use Rattle.site_faults.specs.Findings.{tells}
use Rattle.site_faults.specs.Walk.{state_of}
use Rattle.site_faults.proofs.regions.tell_blanks.Given as goal

-- what is told and what is left to tell are the whole
abbrev pub invariant-loop-dim : goal.invariant-loop-dim
invariant-loop-dim l =
    tells kind.NoRegion (cond l.lacks (blanks (dims_of (drop l.dim-index l.dims))) [])
    (state_of l.findings) ≡
    tells kind.NoRegion (cond l.lacks (blanks (dims_of l.dims)) [])
    (state_of l.initial.findings)
