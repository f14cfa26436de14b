use Rattle.std.proofs.Common.{◌≡◌, ℤ, List, map, take, drop, ◌++◌}
use Rattle.grid_meaning.specs.Collective.{kept_with}
use Rattle.node_local.specs.Standing.{entry_of}
use Rattle.node_local.proofs.steps.place_for.Given as goal

abbrev pub invariant-loop-i : goal.invariant-loop-i
invariant-loop-i l =
    (words : List ℤ) → kept_with l.from words (map entry_of l.kept)
    ≡ take l.i (map entry_of l.kept) ++ kept_with l.from words (drop l.i (map entry_of l.kept))
