use Rattle.std.proofs.Common.{◌≡◌, ◌++◌, drop, map}
use Rattle.zpl_parts.specs.of_zpl_binding.Outcome.{Gives}
use Rattle.zpl_parts.specs.of_zpl_binding.Vectors.{vector_of}
use Rattle.zpl_parts.specs.View.{part_of}
use Rattle.zpl_bind.specs.Known.{known_in}
use Rattle.zpl_bind.specs.Storages.{vectors_among}
use Rattle.zpl_bind.proofs.bind.vectors_of.Given as goal

abbrev pub invariant-loop-part : goal.invariant-loop-part
invariant-loop-part l =
    map Gives l.vectors.items
    ++ map (vector_of (known_in l.known).values) (vectors_among (map part_of (drop l.part-index l.parts)))
    ≡ map (λ one. one.outcome) (known_in l.known).directions
    ++ map (vector_of (known_in l.known).values) (vectors_among (map part_of l.parts))
