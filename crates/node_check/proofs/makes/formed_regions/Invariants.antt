use Rattle.std.proofs.Common.{◌≡◌, take}
use Rattle.std.specs.Prelude.{All, flat_map}
use Rattle.node_check.specs.Front.{HasRegion, formed_in}
use Rattle.node_check.proofs.makes.formed_regions.Given as goal

abbrev pub invariant-loop-fact : goal.invariant-loop-fact
invariant-loop-fact l =
    record {
      facts :
          l.made.items
          ≡ flat_map (formed_in l.forming.form l.forming.slot l.forming.from l.forming.shift)
          (take l.fact-index l.facts);
      regions : All HasRegion l.made.items;
    }
