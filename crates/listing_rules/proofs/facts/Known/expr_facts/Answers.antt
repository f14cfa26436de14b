use Rattle.listing_rules.proofs.facts.Known.expr_facts.Goals as goal

pub returns : goal.returns
returns c = record {
  ranks = record { one = c.words_fit.ensures; two = c.words_fit-2.ensures; three = c.words_fit-3.ensures };
  scalar = c.are_scalar.ensures;
}
