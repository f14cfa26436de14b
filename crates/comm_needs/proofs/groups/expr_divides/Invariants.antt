use Rattle.std.proofs.Common.{◌≡◌, false, take}
use Rattle.std.specs.List.{list_any}
use Rattle.plan_form.specs.of_code_parts.Uses.{divides_in}
use Rattle.comm_needs.proofs.groups.expr_divides.Given as goal

abbrev pub invariant-loop-word : goal.invariant-loop-word
invariant-loop-word l = list_any divides_in (take l.word-index l.word-items) ≡ false
