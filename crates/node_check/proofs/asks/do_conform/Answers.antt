use Rattle.std.proofs.Common.{◌≡◌, ◌∙◌, sym, ap, subst, arith, true, false}
use Rattle.std.specs.List.{list_any}
use Rattle.node_check.proofs.EachLemmas.{any_found}
use Rattle.node_form.specs.Control.{conforms}
use Rattle.node_check.specs.Learn.{region_in, regions_of}
use Rattle.node_check.proofs.asks.do_conform.Goals as goal

pub returns-then-target_conforms : goal.returns-then-target_conforms
returns-then-target_conforms c =
    sym (any_found (λ region. list_any (conforms c.args.pair.now.kind region)
    (regions_of c.args.facts.now c.args.pair.now.source)) (region_in c.args.pair.now.target) c.args.facts.now c.loop-fact.fact-index _ (omega arith)
    (sym c.target_conforms.ensures ∙ c.if-target_conforms.true))
