use Rattle.std.proofs.Common.{◌≡◌, ◌∙◌, sym, ap, subst, arith, true, false}
use Rattle.std.specs.List.{list_any}
use Rattle.node_check.proofs.EachLemmas.{any_found}
use Rattle.node_form.specs.Control.{conforms}
use Rattle.node_check.specs.Learn.{region_in}
use Rattle.node_check.proofs.asks.any_conforms.Goals as goal

pub returns-then-source_conforms : goal.returns-then-source_conforms
returns-then-source_conforms c =
    sym (any_found (conforms c.args.pair.now.kind c.args.target.now) (region_in c.args.pair.now.source) c.args.facts.now c.loop-fact.fact-index _ (omega arith)
    (sym c.source_conforms.ensures ∙ c.if-source_conforms.true))
