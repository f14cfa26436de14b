use Rattle.std.proofs.Common.{ap, refl, sym, ◌∙◌}
use Rattle.zpl_tree.specs.View.{expr_of}
use Rattle.site_faults.specs.Reach.{reach_of, role_of}
use Rattle.site_faults.specs.Walk.{state_of}
use Rattle.site_faults.specs.Whole.{rank_at, rankless_at, wrong_rank_for, wrong_type_at}
use Rattle.site_faults.proofs.FindingLemmas.{at_of-expr, tells-same}
use Rattle.site_faults.proofs.WholeLemmas.{rank-at, rankless, whole_told, wrong-rank, wrong-type}
use Rattle.site_faults.proofs.whole.tell_whole.Goals as goal

pub returns : goal.returns
returns c =
    let reach = reach_of c.args.reach.now in
    let role = role_of c.args.role in
    let expr = expr_of c.args.expr.now in
    let at = sym (at_of-expr c.args.expr.now) in
    c.add_if-3.ensures.told ∙
    tells-same _ _ _ _ _ _ _
    (c.is_rankless.ensures ∙ ap (rankless_at reach role) c.requires ∙ rankless reach role expr) at
    (c.add_if-2.ensures.told ∙
    tells-same _ _ _ _ _ _ _
    (c.is_wrong_rank.ensures ∙
    ap (wrong_rank_for reach role)
    (c.rank_at-rank.ensures ∙ ap (rank_at reach role) c.requires ∙ rank-at reach role expr) ∙
    wrong-rank reach role expr) at
    (c.add_if.ensures.told ∙
    tells-same _ _ _ _ _ _ _
    (c.is_wrong_type.ensures ∙ ap (wrong_type_at reach role) c.requires ∙
    wrong-type reach role expr) at refl)) ∙
    sym (whole_told (state_of c.args.findings.now) reach role expr)
