use Rattle.std.proofs.Common.{◌≡◌, ◌≤◌, true, false, sym, ap, ◌∙◌, subst, rules, arith}
use Rattle.std.specs.Prelude.{Ok}
use Rattle.node_form.specs.Group as group
use Rattle.node_form.specs.Group.{GoesOn, chosen, value_at, with_found, with_store, with_value}
use Rattle.zpl_nums.specs.Integer.{is_true}
use Rattle.grid_meaning.specs.Loop.{access_at, point_of}
use Rattle.node_local.specs.Workplace.{Workplace}
use Rattle.node_loop.specs.Step.{depth_after, step_of}
use Rattle.node_loop.proofs.StepLemmas.{none_of_value, of_value, still}
use Rattle.node_loop.proofs.members.open.Goals as goal

pub returns-in_err-value : goal.returns-in_err-value
returns-in_err-value c =
    let passes : c.in_ok-passes.field-0 ≡ true = search rules in
    let none = c.in_err-value.field-0.0 in
    none_of_value c.in_ok-passes.field-0 none _ _ _ _ c.args.local.now c.value.new.local c.from_residual-in_err-value.result
    (c.in_ok-passes.ensures.mask (group.Skips 0 false) _) passes
    (ap (λ (w : Workplace). value_at c.args.code.now (access_at c.args.index.now) (point_of w.local) c.args.expr) (sym c.in_ok-passes.ensures.same)
    ∙ c.in_err-value.ensures.value)
    (c.in_err-value.ensures.same ∙ c.in_ok-passes.ensures.same) (search rules)

pub returns-then-branch-ne0 : goal.returns-then-branch-ne0
returns-then-branch-ne0 c =
    let v = c.in_ok-value.field-0 in
    let passes : c.in_ok-passes.field-0 ≡ true = search rules in
    let truth : is_true v ≡ true = search rules in
    still _ 0 c.args.local.now c.value.new.local _ (c.in_ok-value.ensures.same ∙ c.in_ok-passes.ensures.same)
    (of_value c.in_ok-passes.field-0 v _ _ _ _ (c.in_ok-passes.ensures.mask (group.Skips 0 false) _) passes
    (ap (λ (w : Workplace). value_at c.args.code.now (access_at c.args.index.now) (point_of w.local) c.args.expr) (sym c.in_ok-passes.ensures.same)
    ∙ c.in_ok-value.ensures.value)
    ∙ ap (λ b. chosen c.args.code.now (access_at c.args.index.now) (point_of c.args.local.now.local) b c.args.to_else) truth)
    (search rules)

pub returns-else-branch-ne0 : goal.returns-else-branch-ne0
returns-else-branch-ne0 c =
    let v = c.in_ok-value.field-0 in
    let passes : c.in_ok-passes.field-0 ≡ true = search rules in
    let truth : is_true v ≡ false = search rules in
    let came = c.skips-else-branch-ne0.ensures in
    still _ 0 c.args.local.now c.value.new.local _ (c.in_ok-value.ensures.same ∙ c.in_ok-passes.ensures.same)
    (of_value c.in_ok-passes.field-0 v _ _ _ _ (c.in_ok-passes.ensures.mask (group.Skips 0 false) _) passes
    (ap (λ (w : Workplace). value_at c.args.code.now (access_at c.args.index.now) (point_of w.local) c.args.expr) (sym c.in_ok-passes.ensures.same)
    ∙ c.in_ok-value.ensures.value)
    ∙ (ap (λ b. chosen c.args.code.now (access_at c.args.index.now) (point_of c.args.local.now.local) b c.args.to_else) truth
    ∙ ap (λ next. step_of (Ok next) (point_of c.args.local.now.local)) (sym came)))
    (subst (λ next. depth_after (Ok next) ≤ 0) (sym came) (omega arith))
