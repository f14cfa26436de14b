use Rattle.std.proofs.Common.{ap, ap₂, map, refl, sym, ◌∙◌}
use Rattle.std.specs.List.{fold}
use Rattle.std.proofs.lemmas.List.Sums.{fold-append}
use Rattle.zpl_tree.specs.Syntax as plain
use Rattle.zpl_tree.specs.View.{base_of, bracket_of, dims_of, dir_of, expr_of, exprs_of, form_of, inner_of, posts_of, pre_of}
use Rattle.zpl_tree.specs.declared.regions.Rexpr.{out-Rexpr}
use Rattle.zpl_tree.proofs.Views.{dir_of-Vector, form_of-Call, form_of-Remap, inner_of-Dims}
use Rattle.name_kinds.specs.of_zpl_names.Sites as sites
use Rattle.name_kinds.specs.Part.{call_part, part_of, remap_part}
use Rattle.name_kinds.specs.Reach.{scope_of}
use Rattle.name_kinds.proofs.PartLemmas.{part-own}
use Rattle.name_kinds.proofs.RegionLemmas.{inner_of-parts}
use Rattle.site_faults.specs.Findings.{after}
use Rattle.site_faults.specs.Reach.{reach_of, role_of}
use Rattle.site_faults.specs.Walk.{state_of}
use Rattle.site_faults.specs.Whole.{rank_at}
use Rattle.site_faults.proofs.OrderLemmas.{late}
use Rattle.site_faults.proofs.WalkRules.{actual-other, actuals-step, late_two, no-name, on_ok-map, over-walk}
use Rattle.site_faults.proofs.WholeLemmas.{rank-at}
use Rattle.site_faults.proofs.walk.+walk.Goals as goal

pub walk_actual-returns-in-Named : goal.walk_actual-returns-in-Named
walk_actual-returns-in-Named t c =
    let reach = reach_of c.args.reach.now in
    c.tell_actual_name.ensures ∙
    ap
    (λ form. fold after (state_of c.args.findings.now)
    (sites.actuals_sites reach (plain.ThenExpr (form_of c.args.actual.now.at form) plain.NoExpr)))
    (sym c.in-Named.is)

pub walk_actual-returns : goal.walk_actual-returns
walk_actual-returns t c =
    c.in_ok-walk_whole.ensures.sites ∙
    ap (fold after (state_of c.args.findings.now))
    (actual-other (reach_of c.args.reach.now) (expr_of c.args.actual.now)
    (no-name c.args.actual.now.at c.args.actual.now.form c.in_default.not-Named))

pub walk_actuals-loop-actual-preserved : goal.walk_actuals-loop-actual-preserved
walk_actuals-loop-actual-preserved t c =
    actuals-step (reach_of c.args.reach.now) c.args.actuals.now c.loop-actual.actual-index _ _ _ _
    c.loop-actual-test.true c.in_ok-walk_actual.ensures c.loop-actual.invariant

pub walk_dir-returns-in-Vector : goal.walk_dir-returns-in-Vector
walk_dir-returns-in-Vector t c =
    let reach = reach_of c.args.reach.now in
    let state = state_of c.args.findings.now in
    let parts = exprs_of c.in-Vector.parts.now in
    let is = ap dir_of c.in-Vector.is ∙ dir_of-Vector c.in-Vector.parts in
    on_ok-map c.walk_components.result
    (λ walked. walked ∙
    ap (λ within. fold after (state_of c.tell_dir.new.findings) (sites.components_sites within parts))
    c.in_vector.ensures ∙
    ap (λ s. fold after s (sites.components_sites (sites.in_vector reach) parts))
    (c.tell_dir.ensures ∙ ap (λ dir. after state (sites.AtDir reach dir)) is) ∙
    ap (λ dir. fold after state (sites.dir_sites reach dir)) (sym is)) c.walk_components.ensures

pub walk_expr-returns-in_ok-walk_exprs-in-Remap-clause-part :
    goal.walk_expr-returns-in_ok-walk_exprs-in-Remap-clause-part
walk_expr-returns-in_ok-walk_exprs-in-Remap-clause-part t c =
    let is = ap (form_of c.args.expr.now.at) c.in-Remap.is ∙
    form_of-Remap c.args.expr.now.at c.in-Remap.name c.in-Remap.indices in
    c.remap.ensures ∙
    ap₂ (λ kind parts. remap_part kind parts) c.kind-kind-in-Remap.ensures c.parts_of.ensures ∙
    ap (part_of (scope_of c.args.reach.now.scope) c.args.reach.now.prefix) (sym is)

pub walk_expr-returns-in_ok-walk_exprs-in-Remap-clause-sites :
    goal.walk_expr-returns-in_ok-walk_exprs-in-Remap-clause-sites
walk_expr-returns-in_ok-walk_exprs-in-Remap-clause-sites t c =
    let reach = reach_of c.args.reach.now in
    let state = state_of c.args.findings.now in
    let is = ap (form_of c.args.expr.now.at) c.in-Remap.is ∙
    form_of-Remap c.args.expr.now.at c.in-Remap.name c.in-Remap.indices in
    c.in_ok-walk_exprs-in-Remap.ensures ∙
    ap
    (λ s. fold after s
    (sites.exprs_sites reach c.args.rank (exprs_of c.in-Remap.indices.now)))
    c.tell_remap.ensures ∙
    ap (λ expr. fold after state (sites.expr_sites reach c.args.rank expr)) (sym is)

pub walk_expr-returns-in_ok-walk_actuals-in-Call-clause-part :
    goal.walk_expr-returns-in_ok-walk_actuals-in-Call-clause-part
walk_expr-returns-in_ok-walk_actuals-in-Call-clause-part t c =
    let is = ap (form_of c.args.expr.now.at) c.in-Call.is ∙
    form_of-Call c.args.expr.now.at c.in-Call.name c.in-Call.actuals in
    c.call.ensures ∙
    ap₂ (λ kind parts. call_part kind parts) c.kind.ensures c.parts_of-parts.ensures ∙
    ap (part_of (scope_of c.args.reach.now.scope) c.args.reach.now.prefix) (sym is)

pub walk_expr-returns-in_ok-walk_actuals-in-Call-clause-sites :
    goal.walk_expr-returns-in_ok-walk_actuals-in-Call-clause-sites
walk_expr-returns-in_ok-walk_actuals-in-Call-clause-sites t c =
    let reach = reach_of c.args.reach.now in
    let state = state_of c.args.findings.now in
    let is = ap (form_of c.args.expr.now.at) c.in-Call.is ∙
    form_of-Call c.args.expr.now.at c.in-Call.name c.in-Call.actuals in
    c.in_ok-walk_actuals-in-Call.ensures ∙
    ap (λ s. fold after s (sites.actuals_sites reach (exprs_of c.in-Call.actuals.now)))
    c.in_ok-tell_call-in-Call.ensures ∙
    ap (λ expr. fold after state (sites.expr_sites reach c.args.rank expr)) (sym is)

pub walk_expr-returns-in_ok-part-in-Not-clause-sites :
    goal.walk_expr-returns-in_ok-part-in-Not-clause-sites
walk_expr-returns-in_ok-part-in-Not-clause-sites t c =
    let reach = reach_of c.args.reach.now in
    let state = state_of c.args.findings.now in
    let at = c.args.expr.now.at in
    let operand = expr_of c.in-Not.operand.now in
    let x = sites.AtExpr reach c.args.rank (plain.Not at operand) in
    c.tell_not.ensures ∙ ap (λ s. after s x) c.in_ok-part-in-Not.ensures.sites ∙
    late state x (sites.expr_sites reach c.args.rank operand) refl ∙
    ap (λ form. fold after state (sites.expr_sites reach c.args.rank (form_of at form)))
    (sym c.in-Not.is)

pub walk_expr-returns-in_ok-two-in-Pair-clause-sites :
    goal.walk_expr-returns-in_ok-two-in-Pair-clause-sites
walk_expr-returns-in_ok-two-in-Pair-clause-sites t c =
    let reach = reach_of c.args.reach.now in
    let state = state_of c.args.findings.now in
    let at = c.args.expr.now.at in
    let left = expr_of c.in-Pair.left.now in
    let right = expr_of c.in-Pair.right.now in
    let x = sites.AtExpr reach c.args.rank (plain.Pair at c.in-Pair.op left right) in
    let one = sites.expr_sites reach c.args.rank left in
    let two = sites.expr_sites reach c.args.rank right in
    c.tell_pair.ensures ∙
    ap (λ s. after s x)
    (c.in_ok-two-in-Pair.ensures.sites ∙
    ap (λ s. fold after s two) c.in_ok-one-in-Pair.ensures.sites) ∙
    late_two state x one two refl ∙
    ap (λ form. fold after state (sites.expr_sites reach c.args.rank (form_of at form)))
    (sym c.in-Pair.is)

pub walk_reduce-returns-in_ok-part-in-None-clause-sites :
    goal.walk_reduce-returns-in_ok-part-in-None-clause-sites
walk_reduce-returns-in_ok-part-in-None-clause-sites t c =
    let reach = reach_of c.args.reach.now in
    let state = state_of c.args.findings.now in
    let operand = expr_of c.args.operand.now in
    let x = sites.AtExpr reach c.args.rank
    (plain.Reduce c.args.at c.args.operator plain.NoBracket operand) in
    c.tell_reduce.ensures ∙ ap (λ s. after s x) c.in_ok-part-in-None.ensures.sites ∙
    late state x (sites.whole_sites reach sites.Operand operand) refl ∙
    ap
    (λ over. fold after state (sites.expr_sites reach c.args.rank
    (plain.Reduce c.args.at c.args.operator (bracket_of over) operand))) (sym c.in-None.is)

pub walk_reduce-returns-in_ok-walk_over-in-Some-clause-sites :
    goal.walk_reduce-returns-in_ok-walk_over-in-Some-clause-sites
walk_reduce-returns-in_ok-walk_over-in-Some-clause-sites t c =
    let reach = reach_of c.args.reach.now in
    let state = state_of c.args.findings.now in
    let source = inner_of c.in-Some.source in
    let operand = expr_of c.args.operand.now in
    let x = sites.AtExpr reach c.args.rank
    (plain.Reduce c.args.at c.args.operator (plain.Bracketed source) operand) in
    over-walk reach x source operand c.part_of-part.result.own c.inner_rank-over.result state
    (state_of c.tell_partial.new.findings) (state_of c.walk_over.new.findings)
    (ap (λ part. part.own) c.part_of-part.ensures ∙
    part-own reach.scope reach.prefix operand) c.inner_rank-over.ensures c.tell_partial.ensures
    c.in_ok-walk_over-in-Some.ensures ∙
    ap
    (λ over. fold after state (sites.expr_sites reach c.args.rank
    (plain.Reduce c.args.at c.args.operator (bracket_of over) operand))) (sym c.in-Some.is)

pub walk_expr-returns-in_ok-part-in-Scan-clause-sites :
    goal.walk_expr-returns-in_ok-part-in-Scan-clause-sites
walk_expr-returns-in_ok-part-in-Scan-clause-sites t c =
    let reach = reach_of c.args.reach.now in
    let state = state_of c.args.findings.now in
    let at = c.args.expr.now.at in
    let operand = expr_of c.in-Scan.operand.now in
    let x = sites.AtExpr reach c.args.rank
    (plain.Scan at c.in-Scan.operator c.in-Scan.along operand) in
    c.tell_scan.ensures ∙ ap (λ s. after s x) c.in_ok-part-in-Scan.ensures.sites ∙
    late state x (sites.expr_sites reach c.args.rank operand) refl ∙
    ap (λ form. fold after state (sites.expr_sites reach c.args.rank (form_of at form)))
    (sym c.in-Scan.is)

pub walk_expr-returns-in_ok-walk_over-in-Flood-clause-sites :
    goal.walk_expr-returns-in_ok-walk_over-in-Flood-clause-sites
walk_expr-returns-in_ok-walk_over-in-Flood-clause-sites t c =
    let reach = reach_of c.args.reach.now in
    let state = state_of c.args.findings.now in
    let at = c.args.expr.now.at in
    let source = inner_of c.in-Flood.source in
    let operand = expr_of c.in-Flood.operand.now in
    let x = sites.AtExpr reach c.args.rank (plain.Flood at source operand) in
    over-walk reach x source operand c.part_of-part.result.own
    c.inner_rank-over.result state (state_of c.tell_flood.new.findings)
    (state_of c.walk_over.new.findings)
    (ap (λ part. part.own) c.part_of-part.ensures ∙
    part-own reach.scope reach.prefix operand) c.inner_rank-over.ensures
    c.tell_flood.ensures c.in_ok-walk_over-in-Flood.ensures ∙
    ap (λ form. fold after state (sites.expr_sites reach c.args.rank (form_of at form)))
    (sym c.in-Flood.is)

pub walk_region-returns-in-Rexpr : goal.walk_region-returns-in-Rexpr
walk_region-returns-in-Rexpr t c =
    let reach = reach_of c.args.reach.now in
    let state = state_of c.args.findings.now in
    let parts = out-Rexpr c.in-Rexpr.rexpr in
    let is = inner_of-parts c.args.region.now c.in-Rexpr.rexpr parts.base c.in-Rexpr.is refl in
    let pre = map pre_of parts.pre.now in
    let base = base_of parts.base in
    let posts = posts_of parts.post.now in
    let x = sites.AtRegion reach c.args.hint (plain.Rexpr pre base posts) in
    let index = sites.index_sites reach pre base posts in
    let rest = sites.posts_sites reach posts in
    on_ok-map c.walk_posts.result
    (λ walked. walked ∙
    ap (λ s. fold after s rest)
    (c.walk_index.ensures ∙
    ap (λ s. fold after s index)
    (c.tell_region.ensures ∙
    ap (λ region. after state (sites.AtRegion reach c.args.hint region)) is)) ∙
    sym (fold-append after (after state x) index rest) ∙
    ap (λ region. fold after state (sites.region_sites reach c.args.hint region)) (sym is))
    c.walk_posts.ensures

pub walk_region-returns-in-Dims : goal.walk_region-returns-in-Dims
walk_region-returns-in-Dims t c =
    let reach = reach_of c.args.reach.now in
    let state = state_of c.args.findings.now in
    let is = ap inner_of c.in-Dims.is ∙ inner_of-Dims c.in-Dims.dims in
    on_ok-map c.walk_dims.result
    (λ walked. walked ∙
    ap (λ s. fold after s (sites.dims_sites reach (dims_of c.in-Dims.dims.now)))
    (c.tell_region.ensures ∙
    ap (λ region. after state (sites.AtRegion reach c.args.hint region)) is) ∙
    ap (λ region. fold after state (sites.region_sites reach c.args.hint region)) (sym is))
    c.walk_dims.ensures

pub walk_whole-returns-clause-sites : goal.walk_whole-returns-clause-sites
walk_whole-returns-clause-sites t c =
    let reach = reach_of c.args.reach.now in
    let role = role_of c.args.role in
    let expr = expr_of c.args.expr.now in
    on_ok-map c.walk_expr.result
    (λ walked. walked ∙
    ap₂ (λ rank s. fold after s (sites.expr_sites reach rank expr))
    (c.rank_at.ensures ∙ ap (rank_at reach role) c.part_of-part.ensures ∙ rank-at reach role expr)
    c.tell_whole.ensures) c.walk_expr.ensures.sites
