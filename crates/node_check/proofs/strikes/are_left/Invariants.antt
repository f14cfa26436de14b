use Rattle.std.proofs.Common.{◌≡◌, ◌*◌, not, take, true}
use Rattle.std.specs.Prelude.{flat_map}
use Rattle.std.specs.List.{list_all}
use Rattle.bit_sets.specs.Bits.{bit_of}
use Rattle.code_parts.specs.Uses.{scalars_in}
use Rattle.node_check.proofs.strikes.are_left.Given as goal

abbrev pub invariant-loop-word : goal.invariant-loop-word
invariant-loop-word l =
    list_all (λ scalar. not (bit_of l.lost (2 * scalar)))
    (flat_map scalars_in (take l.word-index l.word-items)) ≡ true
