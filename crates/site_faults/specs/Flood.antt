-- Arrays under the current region of their rank.
use Rattle.std.specs.Prelude.{Bool, ◌||◌, Option}
use Rattle.name_kinds.specs.of_zpl_names.Kinds.{Kind}
use Rattle.name_kinds.specs.of_zpl_names.Ranks.{array_rank, array_shape}
use Rattle.name_kinds.specs.of_zpl_names.Sites.{Reach}
use Rattle.name_kinds.specs.of_zpl_names.Faults.{both_known, reaches_beyond, shape_at}

-- an array without a flood dimension is read under a region that has it
abbrev pub is_flood_read : Reach → Option Kind → Bool
is_flood_read reach kind =
    both_known reaches_beyond (shape_at reach (array_rank kind)) (array_shape kind)

-- an array is written under a region with other flood dimensions
abbrev pub is_flood_written : Reach → Option Kind → Bool
is_flood_written reach kind =
    both_known reaches_beyond (shape_at reach (array_rank kind)) (array_shape kind) ||
    both_known reaches_beyond (array_shape kind) (shape_at reach (array_rank kind))
