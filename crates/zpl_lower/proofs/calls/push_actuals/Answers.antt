use Rattle.std.proofs.Common.{◌≡◌, List, map, ap, ◌∙◌}
use Rattle.zpl_tree.specs.View.{exprs_of, name_of}
use Rattle.zpl_names.specs.Scope.{kind_of}
use Rattle.zpl_meaning.specs.Calls.{formals_in}
use Rattle.node_form.specs.Expression.{words_of}
use Rattle.zpl_lowering.specs.Lowered.{phased}
use Rattle.zpl_lowering.specs.Slate.{Placed}
use Rattle.zpl_lowering.specs.Statement.{value_exprs}
use Rattle.lower_draft.specs.Drafted.{grown}
use Rattle.lower_statements.specs.of_lower_operators.View.{all_placed}
use Rattle.lower_frames.specs.of_lower_places.View.{where_of}
use Rattle.lower_statements.proofs.RowLemmas.{values_grown}
use Rattle.zpl_lower.proofs.calls.push_actuals.Goals as goal

pub returns-clause-values : goal.returns-clause-values
returns-clause-values c =
    let w = where_of c.args.place.now in
    let draft = c.args.draft.now in
    let actuals = exprs_of c.args.actuals.now in
    let exprs = value_exprs w (formals_in (kind_of w.scope (name_of c.args.name.now))) actuals in
    let same : all_placed c.deref.result.now ≡ exprs =
    ap all_placed c.deref.ensures.value
    ∙ c.in_ok-exprs.ensures.exprs
    ∙ ap (λ formals. value_exprs w formals actuals)
    (c.formals_in-formals.ensures ∙ ap formals_in c.find.ensures) in
    values_grown draft c.phases.new.draft c.push_values.new.draft c.args.line
    (phased w c.args.line draft.next exprs) c.in_ok-left.left.items
    (c.in_ok-left.ensures.left
    ∙ ap (λ (e : List Placed). map words_of (phased w c.args.line draft.next e).left) same)
    (c.in_ok-left.ensures.code
    ∙ ap (λ (e : List Placed). grown draft (phased w c.args.line draft.next e).lowered) same)
    c.in_ok-push_values.ensures
