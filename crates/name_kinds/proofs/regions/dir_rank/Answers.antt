use Rattle.std.proofs.Common.{ap, sym, ◌∙◌}
use Rattle.zpl_tree.specs.View.{dir_of}
use Rattle.zpl_tree.proofs.Views.{dir_of-Vector}
use Rattle.zpl_names.specs.Ranks.{at_most_three, dir_rank}
use Rattle.name_kinds.specs.Reach.{scope_of}
use Rattle.name_kinds.proofs.RegionLemmas.{exprs_count-slice}
use Rattle.name_kinds.proofs.regions.dir_rank.Goals as goal

pub returns-in-Vector : goal.returns-in-Vector
returns-in-Vector c =
    c.small_rank.ensures ∙ ap at_most_three (sym (exprs_count-slice c.in-Vector.parts.now)) ∙
    ap (dir_rank (scope_of c.args.scope.now))
    (sym (ap dir_of c.in-Vector.is ∙ dir_of-Vector c.in-Vector.parts))
