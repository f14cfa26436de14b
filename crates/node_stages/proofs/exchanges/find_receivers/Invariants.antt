use Rattle.std.proofs.Common.{◌-◌}
use Rattle.grid_meaning.specs.Exchange.{word_count}
use Rattle.node_stages.specs.Slots.{at_slots}
use Rattle.node_stages.proofs.WalkLemmas.{Listed, is_partner}
use Rattle.node_stages.proofs.exchanges.find_receivers.Given as goal

abbrev pub invariant-loop-q : goal.invariant-loop-q
invariant-loop-q l = Listed (is_partner l.p (word_count l.code (at_slots l.slots) l.items l.p)) l.count l.q l.found

abbrev pub decreases-loop-q : goal.decreases-loop-q
decreases-loop-q l = l.count - l.q
