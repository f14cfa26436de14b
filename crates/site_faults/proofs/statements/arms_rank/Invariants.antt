use Rattle.std.proofs.Common.{◌≡◌, drop}
use Rattle.zpl_tree.specs.View.{arms_of}
use Rattle.name_kinds.specs.of_zpl_names.Ranks.{first_rank}
use Rattle.name_kinds.specs.of_zpl_names.Sites.{arms_rank}
use Rattle.site_faults.specs.Reach.{reach_of}
use Rattle.site_faults.proofs.statements.arms_rank.Given as goal

-- the rank so far, else that of the rest, is that of all
abbrev pub invariant-loop-arm : goal.invariant-loop-arm
invariant-loop-arm l =
    first_rank l.rank (arms_rank (reach_of l.reach) (arms_of (drop l.arm-index l.arms))) ≡
    arms_rank (reach_of l.reach) (arms_of l.arms)
