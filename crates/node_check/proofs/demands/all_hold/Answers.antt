use Rattle.std.proofs.Common.{◌≡◌, ◌∙◌, sym, ap, subst, arith, true, false}
use Rattle.node_form.specs.Value.{unmoved}
use Rattle.code_parts.specs.Uses.{as_list}
use Rattle.node_check.specs.Demand.{is_held}
use Rattle.node_check.proofs.EachLemmas.{all_found}
use Rattle.node_check.proofs.demands.all_hold.Goals as goal

pub returns-then-not-hold : goal.returns-then-not-hold
returns-then-not-hold c =
    sym (all_found (λ one. is_held c.args.tables.now c.args.facts.now one unmoved c.args.slot) as_list
    c.args.arrays.now c.loop-array.array-index _ (omega arith)
    (sym c.hold.ensures ∙ c.if-not-hold.true))
