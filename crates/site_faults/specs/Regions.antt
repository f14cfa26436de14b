-- The forms of dimensions and of regions, and the directions before a region.
use Rattle.std.specs.Prelude.{ℕ, Bool, true, false, List, [], ◌∷◌, ◌++◌}
use Rattle.zpl_tree.specs.Syntax.{DimText, Blank, Pre, RegionBase, NamedRegion, Ditto}
use Rattle.name_kinds.specs.of_zpl_names.Kinds.{Rank}
use Rattle.name_kinds.specs.of_zpl_names.Ranks.{direction_rank, ranks_clash}
use Rattle.name_kinds.specs.of_zpl_names.Faults.{at_if, kind_at}
use Rattle.name_kinds.specs.of_zpl_names.Sites.{Reach}

abbrev pub is_blank : DimText → Bool
is_blank (Blank at) = true
is_blank dim = false

abbrev pub is_ditto : RegionBase → Bool
is_ditto (NamedRegion name) = false
is_ditto (Ditto at) = true

-- the clashes of a direction and of those behind it, each at what follows it
abbrev pub clashes_behind : Reach → Rank → Rank → List Pre → ℕ → List ℕ
clashes_behind reach before rank [] base = at_if (ranks_clash before rank) base
clashes_behind reach before rank (pre ∷ rest) base =
    at_if (ranks_clash before rank) pre.dir.at ++
    clashes_behind reach (direction_rank (kind_at reach pre.dir)) rank rest base
