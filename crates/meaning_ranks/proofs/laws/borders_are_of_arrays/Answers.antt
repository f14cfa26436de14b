use Rattle.meaning_runs.specs.of_zpl_tree.Syntax.{Border}
use Rattle.meaning_ranks.proofs.MetLemmas.{met_bordered}
use Rattle.meaning_ranks.proofs.laws.borders_are_of_arrays.Goals as goal

pub returns : goal.returns
returns c = λ program settings n grammar clean deeper place inner at prefixes kind names store.
    met_bordered program settings (record {
      ranks = record {
        expressions = c.ranks_are_at_most_three.ensures.expressions;
        operands = c.ranks_are_at_most_three.ensures.operands;
        regions = c.ranks_are_at_most_three.ensures.regions;
      };
      none = c.faultless_programs_have_faultless_sites.ensures.reached program clean;
      under = c.faultless_programs_have_faultless_sites.ensures.under program clean;
      known = c.faultless_programs_leave_nothing_open.ensures.sites program clean;
      names = c.faultless_programs_leave_nothing_open.ensures.names program clean;
      ranked = c.declared_ranks_are_at_most_three.ensures program;
      callees = c.procedures_are_there.ensures program;
    }) grammar clean n deeper place inner at prefixes kind names store
    (c.stores_have_what_names_stand_for.ensures.behind program settings n deeper place inner at
    prefixes (Border kind names) store)
