use Rattle.std.proofs.Common.{ap, ◌∙◌}
use Rattle.zpl_tree.specs.View.{expr_of}
use Rattle.name_kinds.specs.of_zpl_names.Sites.{Test}
use Rattle.site_faults.specs.Reach.{reach_of}
use Rattle.site_faults.specs.Whole.{rank_at}
use Rattle.site_faults.proofs.WholeLemmas.{rank-at}
use Rattle.site_faults.proofs.statements.test_rank.Goals as goal

pub returns : goal.returns
returns c =
    let reach = reach_of c.args.reach.now in
    c.rank_at.ensures ∙ ap (rank_at reach Test) c.part_of.ensures ∙
    rank-at reach Test (expr_of c.args.test.now)
