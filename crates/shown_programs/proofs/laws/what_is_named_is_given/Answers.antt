use Rattle.zpl_names.specs.Accepted.{IsFaultless}
use Rattle.zpl_names.specs.Declared.{routines_of}
use Rattle.zpl_names.proofs.ListLemmas.{among_from_Contains}
use Rattle.zpl_meaning.proofs.VisitLemmas.{Laws}
use Rattle.zpl_lowering.specs.Tables.{flat_tables}
use Rattle.zpl_tree.specs.Syntax.{Program}
use Rattle.shown_programs.proofs.KnownLemmas.{knows_given, vectors_given}
use Rattle.shown_programs.proofs.laws.what_is_named_is_given.Goals as goal

pub returns : goal.returns
returns c = record {
  names = λ program settings grammar clean accepted routine there.
      knows_given program settings (laws program clean) grammar clean
      (c.what_is_computed_has_a_value.ensures.regions program settings accepted)
      (c.what_is_computed_has_a_value.ensures.directions program settings accepted) routine
      (among_from_Contains (routines_of program) routine there) (flat_tables program settings);
  vectors = λ program settings grammar clean accepted routine there.
      vectors_given program settings (laws program clean) grammar clean
      (c.what_is_computed_has_a_value.ensures.regions program settings accepted)
      (c.what_is_computed_has_a_value.ensures.directions program settings accepted) routine
      (among_from_Contains (routines_of program) routine there) (flat_tables program settings);
}
  where
    laws : (program : Program) → IsFaultless program → Laws program
    laws program clean = record {
      ranks = record {
        expressions = c.ranks_are_at_most_three.ensures.expressions;
        operands = c.ranks_are_at_most_three.ensures.operands;
        regions = c.ranks_are_at_most_three.ensures.regions;
      };
      none = c.faultless_programs_have_faultless_sites.ensures.reached program clean;
      under = c.faultless_programs_have_faultless_sites.ensures.under program clean;
      known = c.faultless_programs_leave_nothing_open.ensures.sites program clean;
      names = c.faultless_programs_leave_nothing_open.ensures.names program clean;
      ranked = c.declared_ranks_are_at_most_three.ensures program;
      callees = c.procedures_are_there.ensures program;
    }
