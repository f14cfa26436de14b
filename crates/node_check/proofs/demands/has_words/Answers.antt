use Rattle.std.proofs.Common.{◌≡◌, ◌∙◌, sym, ap, subst, arith, true, false}
use Rattle.node_check.specs.Demand.{has_place, places_in}
use Rattle.node_check.proofs.EachLemmas.{all_found}
use Rattle.node_check.proofs.demands.has_words.Goals as goal

pub returns-then-not-has_read : goal.returns-then-not-has_read
returns-then-not-has_read c =
    sym (all_found (has_place c.args.tables.now c.args.facts.now c.args.slot) places_in
    c.args.words.now c.loop-word.word-index _ (omega arith)
    (sym c.has_read.ensures ∙ c.if-not-has_read.true))
