use Rattle.std.proofs.Common.{ap, sym, ◌∙◌}
use Rattle.zpl_tree.specs.View.{expr_of, item_of}
use Rattle.name_kinds.specs.of_zpl_names.Faults.{item_rank}
use Rattle.name_kinds.specs.of_zpl_names.Sites.{Printed}
use Rattle.site_faults.specs.Reach.{reach_of}
use Rattle.site_faults.specs.Whole.{rank_at}
use Rattle.site_faults.proofs.WholeLemmas.{rank-at}
use Rattle.site_faults.proofs.statements.item_rank.Goals as goal

pub returns-in-Value : goal.returns-in-Value
returns-in-Value c =
    let reach = reach_of c.args.reach.now in
    c.rank_at.ensures ∙ ap (rank_at reach Printed) c.part_of.ensures ∙
    rank-at reach Printed (expr_of c.in-Value.value.now) ∙
    ap (λ item. item_rank reach (item_of item)) (sym c.in-Value.is)
