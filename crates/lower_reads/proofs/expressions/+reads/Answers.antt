use Rattle.std.proofs.Common.{◌+◌, sym, ◌∙◌, ap}
use Rattle.zpl_lowering.specs.of_zpl_tree.View.{inner_of}
use Rattle.zpl_lowering.proofs.of_zpl_tree.Views.{rexpr_of-parts}
use Rattle.lower_reads.specs.Reads.{inner_reads}
use Rattle.lower_reads.proofs.expressions.+reads.Goals as goal

pub count_inner-returns-in_ok-count_posts-in-Rexpr : goal.count_inner-returns-in_ok-count_posts-in-Rexpr
count_inner-returns-in_ok-count_posts-in-Rexpr t c =
    c.in_ok-count_posts-in-Rexpr.ensures
    ∙ sym (ap (λ inner. c.args.count.now + inner_reads inner)
    (ap inner_of c.in-Rexpr.is ∙ rexpr_of-parts c.in-Rexpr.rexpr))
