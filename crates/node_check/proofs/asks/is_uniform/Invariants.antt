use Rattle.std.proofs.Common.{◌≡◌, take, true}
use Rattle.std.specs.Prelude.{flat_map}
use Rattle.std.specs.List.{list_all, list_any}
use Rattle.node_check.specs.Learn.{tells_uniform}
use Rattle.code_parts.specs.Uses.{scalars_in}
use Rattle.node_check.proofs.asks.is_uniform.Given as goal

abbrev pub invariant-loop-word : goal.invariant-loop-word
invariant-loop-word l =
    list_all (λ scalar. list_any (tells_uniform scalar) l.facts)
    (flat_map scalars_in (take l.word-index l.word-items)) ≡ true
