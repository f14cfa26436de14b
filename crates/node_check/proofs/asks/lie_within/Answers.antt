use Rattle.std.proofs.Common.{◌≡◌, ◌∙◌, sym, ap, subst, arith, true, false}
use Rattle.std.specs.List.{list_any}
use Rattle.node_check.proofs.EachLemmas.{any_found}
use Rattle.std.specs.Prelude.{Some}
use Rattle.code_parts.specs.Needs.{is_within}
use Rattle.node_check.specs.Learn.{region_in}
use Rattle.node_check.proofs.asks.lie_within.Goals as goal

pub returns-then-stands_within : goal.returns-then-stands_within
returns-then-stands_within c =
    sym (any_found (λ region. is_within c.args.place.now.shift region (Some c.args.row.now)) (region_in c.args.place.now.slot) c.args.facts.now c.loop-fact.fact-index _ (omega arith)
    (sym c.stands_within.ensures ∙ c.if-stands_within.true))
