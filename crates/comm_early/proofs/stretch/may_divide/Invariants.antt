use Rattle.std.proofs.Common.{◌≡◌, take, false}
use Rattle.std.specs.List.{list_any}
use Rattle.last_writes.specs.of_code_parts.Uses.{divides_in}
use Rattle.comm_early.proofs.stretch.may_divide.Given as goal

abbrev pub invariant-loop-word : goal.invariant-loop-word
invariant-loop-word l = list_any divides_in (take l.word-index l.word-items) ≡ false
