use Rattle.std.proofs.Common.{List, [], sym, subst}
use Rattle.node_form.specs.declared.members.Member.{Member}
use Rattle.listing_rules.specs.declared.facts.Ranks.{Ranks}
use Rattle.listing_rules.specs.Facts.{AreGroupFacts, Tell}
use Rattle.listing_rules.proofs.FactsLemmas.{tell_none}
use Rattle.listing_rules.proofs.tables.known_of.Goals as goal

pub returns-clause-knows : goal.returns-clause-knows
returns-clause-knows c =
    let t = c.args.tables in
    record {
      slots = c.requires.slots;
      exprs = c.in_ok-known.ensures;
      groups = subst (λ (rows : List (List Member)). Tell (AreGroupFacts t) rows c.new-2.result) (sym c.requires.groups)
          (subst (λ (facts : List Ranks). Tell (AreGroupFacts t) [] facts) (sym c.new-2.ensures) (tell_none (AreGroupFacts t)));
    }
