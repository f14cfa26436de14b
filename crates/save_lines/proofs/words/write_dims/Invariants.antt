use Rattle.std.proofs.Common.{◌≡◌, ◌++◌, drop, map}
use Rattle.std.specs.List.{flat_map}
use Rattle.listing_lines.specs.Line.{spaced}
use Rattle.save_lines.specs.Line.{dim_word}
use Rattle.save_lines.proofs.words.write_dims.Given as goal

abbrev pub invariant-loop-dim : goal.invariant-loop-dim
invariant-loop-dim l =
    l.into.items ++ flat_map spaced (map dim_word (drop l.dim-index l.dims))
    ≡ l.initial.into.items ++ flat_map spaced (map dim_word l.dims)
