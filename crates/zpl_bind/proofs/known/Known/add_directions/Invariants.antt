use Rattle.std.proofs.Common.{◌≡◌, drop, map}
use Rattle.zpl_tree.specs.View.{direction_of}
use Rattle.zpl_parts.specs.of_zpl_binding.Declarations.{with_all, with_direction}
use Rattle.zpl_bind.specs.Known.{IsKnown, known_in}
use Rattle.zpl_bind.proofs.known.Known.add_directions.Given as goal

abbrev pub invariant-loop-direction : goal.invariant-loop-direction
invariant-loop-direction l = record {
  known : IsKnown l.self;
  rest : with_all with_direction (known_in l.self) (map direction_of (drop l.direction-index l.directions))
      ≡ with_all with_direction (known_in l.initial.self) (map direction_of l.directions);
}
