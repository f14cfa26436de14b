use Rattle.std.proofs.Common.{◌≡◌, true, sym, ap, ◌∙◌, rules, w64, to_z, of_z}
use Rattle.std.specs.Prelude.{FitsSigned}
use Rattle.std.proofs.lemmas.Int.{to_z-of_z}
use Rattle.node_form.specs.Group as group
use Rattle.node_form.specs.Group.{GoesOn, chosen, value_at, with_found, with_store, with_value}
use Rattle.grid_meaning.specs.Loop.{access_at, point_of}
use Rattle.node_local.specs.Workplace.{Workplace}
use Rattle.grid_meaning.specs.Place as place
use Rattle.node_loop.proofs.StepLemmas.{none_of_value, of_value, value_put}
use Rattle.node_loop.proofs.members.put.Goals as goal

pub returns-in_err-value : goal.returns-in_err-value
returns-in_err-value c =
    let passes : c.in_ok-passes.field-0 ≡ true = search rules in
    let none = c.in_err-value.field-0.0 in
    none_of_value c.in_ok-passes.field-0 none _ _ _ _ c.args.local.now c.value.new.local c.from_residual-in_err-value.result
    (c.in_ok-passes.ensures.mask group.Runs _) passes
    (ap (λ (w : Workplace). value_at c.args.code.now (access_at c.args.index.now) (point_of w.local) c.args.expr) (sym c.in_ok-passes.ensures.same)
    ∙ c.in_err-value.ensures.value)
    (c.in_err-value.ensures.same ∙ c.in_ok-passes.ensures.same) (search rules)

pub returns-then-log_value : goal.returns-then-log_value
returns-then-log_value c =
    let v = c.in_ok-value.value in
    let passes : c.in_ok-passes.field-0 ≡ true = search rules in
    let fits : FitsSigned w64 v = search rules in
    let w = c.args.local.now in
    let t = c.args.index.now in
    let same : c.value.new.local ≡ w = c.in_ok-value.ensures.same ∙ c.in_ok-passes.ensures.same in
    value_put w c.value.new.local c.log_value.new.self c.log_value.new.self.local.stores _ same
    c.if-log_value.ensures.stores c.if-log_value.ensures.back c.if-log_value.ensures.long
    (of_value c.in_ok-passes.field-0 v _ _ _ _ (c.in_ok-passes.ensures.mask group.Runs _) passes
    (ap (λ (x : Workplace). value_at c.args.code.now (access_at t) (point_of x.local) c.args.expr) (sym c.in_ok-passes.ensures.same)
    ∙ c.in_ok-value.ensures.value)
    ∙ (ap (λ x. with_found (with_store c.args.code.now (access_at t) (point_of w.local) (place.with_value w.local.stores c.args.array t x)))
    (sym (to_z-of_z w64 v fits))
    ∙ (ap (λ (x : Workplace). with_found (with_store c.args.code.now (access_at t) (point_of w.local)
    (place.with_value x.local.stores c.args.array t (to_z w64 (of_z w64 v))))) (sym same)
    ∙ ap (λ o. with_found (with_store c.args.code.now (access_at t) (point_of w.local) o)) c.if-log_value.ensures.held)))
