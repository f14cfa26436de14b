use Rattle.std.proofs.Common.{◌≡◌, ◌∙◌, ◌+◌, ap, subst, sym, rules, arith, Some}
use Rattle.std.specs.Prelude.{slice_get}
use Rattle.plan_form.specs.of_node_form.declared.tables.Tables.{Tables}
use Rattle.plan_form.specs.Draft.{written}
use Rattle.comm_needs.specs.Needs.{row_with_needs}
use Rattle.comm_needs.proofs.PlanLemmas.{IsPlanned, plan_begins, plan_ends, plan_steps}
use Rattle.comm_needs.proofs.plans.add_needs.Goals as goal

pub loop-i-init : goal.loop-i-init
loop-i-init c =
    subst (λ draft. IsPlanned c.args.tables draft 0) (sym c.new-draft.ensures)
    (plan_begins c.args.tables)

pub loop-i-preserved : goal.loop-i-preserved
loop-i-preserved c =
    subst (λ draft. IsPlanned c.args.tables draft (c.loop-i.i + 1))
    (sym (c.in_ok-add_row.ensures
    ∙ ap (λ draft. written draft (row_with_needs c.args.tables c.unwrap-row.result.now))
    c.in_ok-begin_row.ensures))
    (plan_steps c.args.tables c.loop-i.draft c.loop-i.i c.unwrap-row.result.now (search rules)
    c.loop-i.invariant)

pub returns : goal.returns
returns c =
    ap (λ (plan : Tables). record plan { grid = c.args.grid.now }) c.in_ok-plan.ensures
    ∙ plan_ends c.args.grid.now c.args.tables c.loop-i.draft c.loop-i.i (omega arith)
    c.loop-i.invariant
