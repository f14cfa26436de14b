use Rattle.std.proofs.Common.{◌≡◌, ◌∙◌, sym, ap, subst, arith, true, false}
use Rattle.std.specs.List.{list_any}
use Rattle.node_check.proofs.EachLemmas.{any_found}
use Rattle.zpl_arrays.specs.Border.{border_conforms}
use Rattle.node_check.specs.Learn.{region_in}
use Rattle.node_check.proofs.asks.conforms_border.Goals as goal

pub returns-then-stands_conforms : goal.returns-then-stands_conforms
returns-then-stands_conforms c =
    sym (any_found (border_conforms c.args.shift.now) (region_in c.args.number) c.args.facts.now c.loop-fact.fact-index _ (omega arith)
    (sym c.stands_conforms.ensures ∙ c.if-stands_conforms.true))
