use Rattle.std.proofs.Common.{◌≡◌, map}
use Rattle.std.specs.Prelude.{All}
use Rattle.node_check.specs.Front.{HasRegion}
use Rattle.std.specs.List.{range_with_len}
use Rattle.node_check.specs.Fact.{Uniform}
use Rattle.node_check.proofs.starts.start_scalars.Given as goal

abbrev pub invariant-loop-scalar : goal.invariant-loop-scalar
invariant-loop-scalar l =
    record {
      facts : l.facts.items ≡ map Uniform (range_with_len 0 l.scalar);
      regions : All HasRegion l.facts.items;
    }
