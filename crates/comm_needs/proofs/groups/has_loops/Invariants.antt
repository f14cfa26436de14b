use Rattle.std.proofs.Common.{◌≡◌, false, take}
use Rattle.std.specs.List.{list_any}
use Rattle.plan_form.specs.of_code_parts.Uses.{is_turning}
use Rattle.comm_needs.proofs.groups.has_loops.Given as goal

abbrev pub invariant-loop-member : goal.invariant-loop-member
invariant-loop-member l = list_any is_turning (take l.member-index l.member-items) ≡ false
