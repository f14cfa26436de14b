use Rattle.std.proofs.Common.{◌-◌, length}
use Rattle.std.specs.Prelude.{map}
use Rattle.node_messages.specs.of_node_local.Standing.{entry_of}
use Rattle.gather_text.proofs.GatherLemmas.{AreFound}
use Rattle.gather_text.proofs.rows.senders.Given as goal

-- the first entries among those that were looked at
abbrev pub invariant-loop-i : goal.invariant-loop-i
invariant-loop-i l = AreFound (map entry_of l.kept) (length l.kept - l.i) l.places
