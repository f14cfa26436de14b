use Rattle.std.proofs.Common.{◌≡◌, false, take}
use Rattle.std.specs.Prelude.{flat_map}
use Rattle.std.specs.List.{list_any}
use Rattle.plan_form.specs.of_code_parts.Uses.{divides_in, member_words}
use Rattle.comm_needs.proofs.groups.divides.Given as goal

abbrev pub invariant-loop-member : goal.invariant-loop-member
invariant-loop-member l =
    list_any divides_in (flat_map (member_words l.tables) (take l.member-index l.member-items)) ≡ false
