-- Regions that are written by their dimensions.
use Rattle.std.specs.Prelude.{◌≤◌, Some}
use Rattle.zpl_tree.specs.Syntax.{Inner, Dims}
use Rattle.zpl_names.specs.Kinds.{Rank}
use Rattle.zpl_names.specs.Ranks.{dims_count}

-- where it has a rank, its dimensions are no more than three
abbrev pub HasFewDims : Rank → Inner → Type 0
HasFewDims (Some rank) (Dims dims) = dims_count dims ≤ 3
HasFewDims _ _ = Unit {0}
