use Rattle.lowering_fits.proofs.BodyLemmas.{body_fits}
use Rattle.meaning_ranks.specs.of_zpl_meaning.Visited.{first_setup}
use Rattle.lowering_fits.proofs.laws.bodies_fit.Goals as goal

pub returns : goal.returns
returns c = λ program settings grammar clean tables call calls.
    body_fits tables (first_setup program settings) call
    (record {
      limits = λ region steps. c.tests_tell_the_facts.ensures.limit region steps;
      right = λ place stmt visited. (
        c.no_stand_in_is_met.ensures program settings grammar clean place stmt visited,
        c.ranks_agree.ensures program settings grammar clean place stmt visited,
      );
      calls = calls;
    })
