use Rattle.std.proofs.Common.{ap, ap₂, not, refl, sym, ◌&&◌, ◌||◌, ◌∙◌}
use Rattle.zpl_tree.specs.View.{expr_of}
use Rattle.name_kinds.specs.of_zpl_names.Ranks.{ranks_clash}
use Rattle.name_kinds.specs.of_zpl_names.Sites.{Test}
use Rattle.name_kinds.proofs.PartLemmas.{part-elementwise}
use Rattle.site_faults.specs.Reach.{reach_of}
use Rattle.site_faults.specs.Whole.{rank_at}
use Rattle.site_faults.proofs.FindingLemmas.{at_of-expr, tells-same}
use Rattle.site_faults.proofs.WholeLemmas.{rank-at}
use Rattle.site_faults.proofs.statements.tell_broken_test.Goals as goal

pub returns-clause-told : goal.returns-clause-told
returns-clause-told c =
    let reach = reach_of c.args.reach.now in
    let test = expr_of c.args.test.now in
    c.add_if.ensures.told ∙
    tells-same _ _ _ _ _ _ _
    (ap₂ (λ above broken. above && broken) c.is_above_zero.ensures
    (ap₂ (λ plain clash. not plain || clash)
    (ap (λ part. part.is_elementwise) c.part_of-part.ensures ∙
    part-elementwise reach.scope reach.prefix test)
    (c.ranks_clash-clashes.ensures ∙
    ap (ranks_clash c.args.rank)
    (c.rank_at.ensures ∙ ap (rank_at reach Test) c.part_of-part.ensures ∙
    rank-at reach Test test)))) (sym (at_of-expr c.args.test.now)) refl
