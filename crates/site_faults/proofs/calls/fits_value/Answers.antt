use Rattle.std.proofs.Common.{ap, ap₂, not, ◌&&◌, ◌∙◌}
use Rattle.zpl_tree.specs.View.{expr_of}
use Rattle.name_kinds.specs.of_zpl_names.Ranks.{is_above_zero}
use Rattle.name_kinds.specs.of_zpl_names.Sites.{Actual}
use Rattle.site_faults.specs.Reach.{reach_of}
use Rattle.site_faults.specs.Whole.{is_integer_type, rank_at}
use Rattle.site_faults.proofs.WholeLemmas.{part-integer, rank-at}
use Rattle.site_faults.proofs.calls.fits_value.Goals as goal

pub returns : goal.returns
returns c =
    let reach = reach_of c.args.reach.now in
    let actual = expr_of c.args.actual.now in
    ap₂ (λ above wrong. not above && not wrong)
    (c.is_above_zero.ensures ∙
    ap is_above_zero
    (c.rank_at.ensures ∙ ap (rank_at reach Actual) c.part_of-part.ensures ∙
    rank-at reach Actual actual))
    (ap₂ (λ one two. one && two) c.is_boolean.ensures
    (c.is_integer.ensures ∙ ap (λ part. is_integer_type part.base) c.part_of-part.ensures ∙
    part-integer reach.scope reach.prefix actual))
