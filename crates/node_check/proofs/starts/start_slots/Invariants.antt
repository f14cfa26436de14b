use Rattle.std.proofs.Common.{◌≡◌, ◌++◌, drop}
use Rattle.std.specs.Prelude.{All}
use Rattle.node_check.specs.Front.{HasRegion}
use Rattle.node_check.specs.Learn.{start_slots}
use Rattle.node_check.proofs.starts.start_slots.Given as goal

abbrev pub invariant-loop-i : goal.invariant-loop-i
invariant-loop-i l =
    record {
      facts :
          l.facts.items ++ start_slots l.i (drop l.i l.tables.slots)
          ≡ l.initial.facts.items ++ start_slots 0 l.tables.slots;
      regions : All HasRegion l.facts.items;
    }
