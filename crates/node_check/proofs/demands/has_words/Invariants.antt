use Rattle.std.proofs.Common.{◌≡◌, take, true}
use Rattle.std.specs.List.{list_all}
use Rattle.std.specs.Prelude.{flat_map}
use Rattle.node_check.specs.Demand.{has_place, places_in}
use Rattle.node_check.proofs.demands.has_words.Given as goal

abbrev pub invariant-loop-word : goal.invariant-loop-word
invariant-loop-word l =
    list_all (has_place l.tables l.facts l.slot)
    (flat_map places_in (take l.word-index l.words)) ≡ true
