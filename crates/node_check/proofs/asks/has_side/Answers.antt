use Rattle.std.proofs.Common.{◌≡◌, ◌∙◌, sym, ap, subst, arith, true, false}
use Rattle.std.specs.List.{list_any}
use Rattle.node_check.proofs.EachLemmas.{any_found}
use Rattle.node_form.specs.Value.{unmoved}
use Rattle.node_check.specs.Demand.{is_held, made_in}
use Rattle.node_check.proofs.asks.has_side.Goals as goal

pub returns-then-holds_side : goal.returns-then-holds_side
returns-then-holds_side c =
    sym (any_found (is_held c.args.tables.now c.args.facts.now c.args.array unmoved) (made_in c.args.side.now.form c.args.side.now.from c.args.side.now.shift) c.args.facts.now c.loop-fact.fact-index _ (omega arith)
    (sym c.holds_side.ensures ∙ c.if-holds_side.true))
