use Rattle.std.proofs.Common.{◌≡◌, true, set, sym, ap, ◌∙◌, rules, w64}
use Rattle.std.specs.Prelude.{FitsSigned}
use Rattle.std.proofs.lemmas.Int.{to_z-of_z}
use Rattle.node_form.specs.Group as group
use Rattle.node_form.specs.Group.{GoesOn, chosen, value_at, with_found, with_store, with_value}
use Rattle.grid_meaning.specs.Loop.{access_at, point_of}
use Rattle.node_local.specs.Workplace.{Workplace}
use Rattle.node_loop.proofs.StepLemmas.{cell_kept, none_of_value, of_value}
use Rattle.node_loop.proofs.members.keep.Goals as goal

pub returns-in_err-value : goal.returns-in_err-value
returns-in_err-value c =
    let passes : c.in_ok-passes.field-0 ≡ true = search rules in
    let none = c.in_err-value.field-0.0 in
    none_of_value c.in_ok-passes.field-0 none _ _ _ _ c.args.local.now c.value.new.local c.from_residual-in_err-value.result
    (c.in_ok-passes.ensures.mask group.Runs _) passes
    (ap (λ (w : Workplace). value_at c.args.code.now (access_at c.args.index.now) (point_of w.local) c.args.expr) (sym c.in_ok-passes.ensures.same)
    ∙ c.in_err-value.ensures.value)
    (c.in_err-value.ensures.same ∙ c.in_ok-passes.ensures.same) (search rules)

pub returns : goal.returns
returns c =
    let v = c.in_ok-value.value in
    let passes : c.in_ok-passes.field-0 ≡ true = search rules in
    let fits : FitsSigned w64 v = search rules in
    let w = c.args.local.now in
    cell_kept c.args.local.now c.value.new.local c.log_cell.new.self c.args.cell _ _
    (c.in_ok-value.ensures.same ∙ c.in_ok-passes.ensures.same) c.log_cell.ensures.cells c.log_cell.ensures.back c.log_cell.ensures.long
    (of_value c.in_ok-passes.field-0 v _ _ _ _ (c.in_ok-passes.ensures.mask group.Runs _) passes
    (ap (λ (w : Workplace). value_at c.args.code.now (access_at c.args.index.now) (point_of w.local) c.args.expr) (sym c.in_ok-passes.ensures.same)
    ∙ c.in_ok-value.ensures.value)
    ∙ ap (λ x. GoesOn group.Runs (record (point_of w.local) { cells = set w.local.cells c.args.cell x })) (sym (to_z-of_z w64 v fits)))
