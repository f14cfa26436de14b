use Rattle.std.proofs.Common.{◌≡◌, take, false}
use Rattle.std.specs.List.{list_any}
use Rattle.code_parts.specs.Uses.{divides_in}
use Rattle.node_check.proofs.demands.may_divide.Given as goal

abbrev pub invariant-loop-word : goal.invariant-loop-word
invariant-loop-word l =
    list_any divides_in (take l.word-index l.word-items) ≡ false
