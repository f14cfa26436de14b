use Rattle.std.proofs.Common.{◌≡◌, [], take}
use Rattle.std.specs.Prelude.{flat_map}
use Rattle.plan_form.specs.of_code_parts.Uses.{member_words}
use Rattle.comm_needs.specs.Needs.{with_needed}
use Rattle.comm_needs.proofs.groups.needs_of.Given as goal

abbrev pub invariant-loop-member : goal.invariant-loop-member
invariant-loop-member l =
    l.items
    ≡ with_needed l.slot []
    (flat_map (member_words l.tables) (take l.member-index l.member-items))
