use Rattle.std.proofs.Common.{◌≡◌, drop, nat_lt}
use Rattle.grid_meaning.specs.Exchange.{word_count}
use Rattle.node_stages.specs.Slots.{at_slots}
use Rattle.node_stages.proofs.exchanges.has_words.Given as goal

abbrev pub invariant-loop-item : goal.invariant-loop-item
invariant-loop-item l =
    nat_lt 0 (word_count l.code (at_slots l.slots) l.items l.from l.to)
    ≡ nat_lt 0 (word_count l.code (at_slots l.slots) (drop l.item-index l.items) l.from l.to)
