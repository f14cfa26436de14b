use Rattle.meaning_ranks.proofs.AnswerLemmas.{answer_comes}
use Rattle.meaning_ranks.proofs.laws.answers_come_of_returns.Goals as goal

pub returns : goal.returns
returns c = λ program settings n grammar clean deeper place inner at prefixes target name offset
    actuals store called before. answer_comes program settings (record {
      ranks = record {
        expressions = c.ranks_are_at_most_three.ensures.expressions;
        operands = c.ranks_are_at_most_three.ensures.operands;
        regions = c.ranks_are_at_most_three.ensures.regions;
      };
      none = c.faultless_programs_have_faultless_sites.ensures.reached program clean;
      under = c.faultless_programs_have_faultless_sites.ensures.under program clean;
      known = c.faultless_programs_leave_nothing_open.ensures.sites program clean;
      names = c.faultless_programs_leave_nothing_open.ensures.names program clean;
      ranked = c.declared_ranks_are_at_most_three.ensures program;
      callees = c.procedures_are_there.ensures program;
    }) grammar clean n (c.faultless_programs_have_faultless_sites.ensures.text program clean)
    (c.answers_have_places.ensures.given program settings n clean) deeper place inner at prefixes
    target name offset actuals store called before
    (c.no_run_comes_to_the_end_of_calls.ensures.depth program settings n clean)
