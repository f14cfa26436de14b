use Rattle.std.proofs.Common.{◌≡◌, drop, map}
use Rattle.zpl_tree.specs.View.{region_of}
use Rattle.zpl_parts.specs.of_zpl_binding.Declarations.{with_all, with_region}
use Rattle.zpl_bind.specs.Known.{IsKnown, known_in}
use Rattle.zpl_bind.proofs.known.Known.add_regions.Given as goal

abbrev pub invariant-loop-region : goal.invariant-loop-region
invariant-loop-region l = record {
  known : IsKnown l.self;
  rest : with_all with_region (known_in l.self) (map region_of (drop l.region-index l.regions))
      ≡ with_all with_region (known_in l.initial.self) (map region_of l.regions);
}
