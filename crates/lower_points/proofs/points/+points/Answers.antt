use Rattle.std.proofs.Common.{◌≡◌, [], ◌∷◌, ◌++◌, ◌+◌, None, Some, drop, length, refl, sym, ap, ◌∙◌, arith}
use Rattle.std.proofs.lemmas.List.{length-map}
use Rattle.zpl_tree.specs.Syntax.{Else}
use Rattle.zpl_tree.specs.View.{arms_of, expr_of, stmts_of}
use Rattle.zpl_tree.specs.declared.statements.Arm.{out-Arm}
use Rattle.flat_form.specs.Row as row
use Rattle.lower_operators.specs.of_lower_draft.Inline.{member_of}
use Rattle.lower_operators.specs.Once.{with_references}
use Rattle.lower_points.specs.Inside.{arms_at, form_at, members_in, stmts_at, value_at}
use Rattle.lower_points.proofs.FormLemmas.{choice_else, repeat_is, while_is}
use Rattle.lower_points.proofs.PointLemmas.{arms_first, branches_closed, opened_closed, references_after, references_three}
use Rattle.lower_points.proofs.points.+points.Goals as goal

pub push_arms-returns-clause-members : goal.push_arms-returns-clause-members
push_arms-returns-clause-members t c =
    let at = c.args.at.now in
    let arm = out-Arm c.index-arms-from.result in
    let old = members_in c.args.members.now.items in
    let o = Else (stmts_of c.args.otherwise.now) in
    branches_closed old (members_in c.push.new.members.items)
    (members_in c.push_stmts-2.new.members.items) (members_in c.push-2.new.members.items)
    (members_in c.push_arms.new.members.items) (members_in c.close_if.new.members.items)
    (stmts_at at (stmts_of arm.body.now)).members
    (arms_at at (arms_of (drop (c.args.from + 1) c.args.arms.now)) o).members _
    (row.OpenIf c.in_ok-expr.expr None at.line)
    (row.OpenIf (value_at at (expr_of arm.test.now)).expr None at.line) c.len-behind.result
    c.in_ok-push.ensures (ap (λ w. row.OpenIf w None at.line) c.in_ok-expr.ensures.words)
    c.in_ok-push_stmts-2.ensures.members c.in_ok-push-2.ensures
    (let e : c.len-behind.result ≡ length (members_in c.push-2.new.members.items) =
    omega (arith, c.len-behind.ensures, length-map c.push-2.new.members.items member_of) in e)
    c.in_ok-push_arms.ensures.members c.in_ok-close_if.ensures
    (ap (λ i. old ++ i.members) (sym (arms_first at c.args.arms.now c.args.from
    c.index-arms-from.result o (omega arith) c.index-arms-from.is)))

pub push_arms-returns-clause-references : goal.push_arms-returns-clause-references
push_arms-returns-clause-references t c =
    let at = c.args.at.now in
    let arm = out-Arm c.index-arms-from.result in
    let o = Else (stmts_of c.args.otherwise.now) in
    let body = (stmts_at at (stmts_of arm.body.now)).references in
    let rest = (arms_at at (arms_of (drop (c.args.from + 1) c.args.arms.now)) o).references in
    c.in_ok-push_arms.ensures.references
    ∙ ap (λ l. with_references l rest) (c.in_ok-push_stmts-2.ensures.references
    ∙ ap (λ l. with_references l body) c.in_ok-expr.ensures.references)
    ∙ references_three c.args.references.now (value_at at (expr_of arm.test.now)).references body
    rest
    ∙ ap (λ i. with_references c.args.references.now i.references) (sym (arms_first at
    c.args.arms.now c.args.from c.index-arms-from.result o (omega arith) c.index-arms-from.is))

pub push_form-returns-in_ok-push-in-While-2-clause-members :
    goal.push_form-returns-in_ok-push-in-While-2-clause-members
push_form-returns-in_ok-push-in-While-2-clause-members t c =
    let at = c.args.at.now in
    let old = members_in c.args.members.now.items in
    opened_closed old (members_in c.push.new.members.items)
    (members_in c.push_stmts-in-While.new.members.items)
    (members_in c.push-in-While.new.members.items)
    (stmts_at at (stmts_of c.in-While.body.now)).members (row.CloseWhile ∷ []) _
    (row.OpenWhile c.in_ok-expr-in-While.expr None at.line)
    (row.OpenWhile (value_at at (expr_of c.in-While.test.now)).expr None at.line)
    c.in_ok-push-in-While.ensures
    (ap (λ w. row.OpenWhile w None at.line) c.in_ok-expr-in-While.ensures.words)
    c.in_ok-push_stmts-in-While.ensures.members c.in_ok-push-in-While-2.ensures
    (ap (λ f. old ++ (form_at at f).members)
    (sym (while_is c.args.form.now c.in-While.test c.in-While.body c.in-While.is)))

pub push_form-returns-in_ok-push-in-While-2-clause-references :
    goal.push_form-returns-in_ok-push-in-While-2-clause-references
push_form-returns-in_ok-push-in-While-2-clause-references t c =
    let at = c.args.at.now in
    references_after c.args.references.now c.value.new.references
    c.push_stmts-in-While.new.references (value_at at (expr_of c.in-While.test.now)).references
    (stmts_at at (stmts_of c.in-While.body.now)).references _
    c.in_ok-expr-in-While.ensures.references c.in_ok-push_stmts-in-While.ensures.references
    (ap (λ f. with_references c.args.references.now (form_at at f).references)
    (sym (while_is c.args.form.now c.in-While.test c.in-While.body c.in-While.is)))

pub push_form-returns-in_ok-push-in-Repeat-2-clause-members :
    goal.push_form-returns-in_ok-push-in-Repeat-2-clause-members
push_form-returns-in_ok-push-in-Repeat-2-clause-members t c =
    let at = c.args.at.now in
    let old = members_in c.args.members.now.items in
    let inside = members_in c.push_stmts-in-Repeat.new.members.items in
    opened_closed old (members_in c.push-in-Repeat.new.members.items) inside
    (members_in c.push-in-Repeat-2.new.members.items)
    (stmts_at at (stmts_of c.in-Repeat.body.now)).members
    (row.Until (value_at at (expr_of c.in-Repeat.test.now)).expr ∷ []) _
    (row.OpenRepeat None at.line) (row.OpenRepeat None at.line) c.in_ok-push-in-Repeat.ensures refl
    c.in_ok-push_stmts-in-Repeat.ensures.members
    (c.in_ok-push-in-Repeat-2.ensures
    ∙ ap (λ w. inside ++ row.Until w ∷ []) c.in_ok-expr-in-Repeat.ensures.words)
    (ap (λ f. old ++ (form_at at f).members)
    (sym (repeat_is c.args.form.now c.in-Repeat.body c.in-Repeat.field-1 c.in-Repeat.test
    c.in-Repeat.is)))

pub push_form-returns-in_ok-push-in-Repeat-2-clause-references :
    goal.push_form-returns-in_ok-push-in-Repeat-2-clause-references
push_form-returns-in_ok-push-in-Repeat-2-clause-references t c =
    let at = c.args.at.now in
    references_after c.args.references.now c.value-in-Repeat.new.references
    c.push_stmts-in-Repeat.new.references (value_at at (expr_of c.in-Repeat.test.now)).references
    (stmts_at at (stmts_of c.in-Repeat.body.now)).references _
    c.in_ok-expr-in-Repeat.ensures.references c.in_ok-push_stmts-in-Repeat.ensures.references
    (ap (λ f. with_references c.args.references.now (form_at at f).references)
    (sym (repeat_is c.args.form.now c.in-Repeat.body c.in-Repeat.field-1 c.in-Repeat.test
    c.in-Repeat.is)))

pub push_form-returns-in_ok-push_arms-in-Some-clause-members :
    goal.push_form-returns-in_ok-push_arms-in-Some-clause-members
push_form-returns-in_ok-push_arms-in-Some-clause-members t c =
    c.in_ok-push_arms-in-Some.ensures.members
    ∙ ap (λ f. members_in c.args.members.now.items ++ (form_at c.args.at.now f).members)
    (sym (choice_else c.args.form.now c.in-If.arms c.in-If.otherwise (Some c.in-Some.body) c.in-If.is
    c.in-Some.is))

pub push_form-returns-in_ok-push_arms-in-Some-clause-references :
    goal.push_form-returns-in_ok-push_arms-in-Some-clause-references
push_form-returns-in_ok-push_arms-in-Some-clause-references t c =
    c.in_ok-push_arms-in-Some.ensures.references
    ∙ ap (λ f. with_references c.args.references.now (form_at c.args.at.now f).references)
    (sym (choice_else c.args.form.now c.in-If.arms c.in-If.otherwise (Some c.in-Some.body) c.in-If.is
    c.in-Some.is))

pub push_form-returns-in_ok-push_arms-in-None-clause-members :
    goal.push_form-returns-in_ok-push_arms-in-None-clause-members
push_form-returns-in_ok-push_arms-in-None-clause-members t c =
    c.in_ok-push_arms-in-None.ensures.members
    ∙ ap (λ f. members_in c.args.members.now.items ++ (form_at c.args.at.now f).members)
    (sym (choice_else c.args.form.now c.in-If.arms c.in-If.otherwise None c.in-If.is
    c.in-None.is))

pub push_form-returns-in_ok-push_arms-in-None-clause-references :
    goal.push_form-returns-in_ok-push_arms-in-None-clause-references
push_form-returns-in_ok-push_arms-in-None-clause-references t c =
    c.in_ok-push_arms-in-None.ensures.references
    ∙ ap (λ f. with_references c.args.references.now (form_at c.args.at.now f).references)
    (sym (choice_else c.args.form.now c.in-If.arms c.in-If.otherwise None c.in-If.is
    c.in-None.is))
