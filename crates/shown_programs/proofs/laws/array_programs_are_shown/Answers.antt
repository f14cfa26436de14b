use Rattle.std.proofs.Common.{ℕ, List}
use Rattle.zpl_tree.specs.Grammar.{IsProgram}
use Rattle.zpl_tree.specs.Syntax.{Program}
use Rattle.zpl_names.specs.Accepted.{IsFaultless}
use Rattle.zpl_binding.specs.Bound.{IsAcceptedWith}
use Rattle.zpl_binding.specs.Declarations.{known_of}
use Rattle.zpl_binding.specs.Settings.{Setting}
use Rattle.zpl_names.proofs.ListLemmas.{Contains-from_among}
use Rattle.zpl_names.specs.Declared.{routines_of}
use Rattle.zpl_meaning.proofs.VisitLemmas.{Laws}
use Rattle.zpl_meaning.specs.Program.{outcome_of}
use Rattle.flat_form.specs.Act.{flat_run}
use Rattle.zpl_lowering.specs.Tables.{flat_tables}
use Rattle.served_places.specs.of_lowering_runs.Shown.{Shows}
use Rattle.served_places.proofs.of_lowering_runs.WrongLemmas.{never_wrong}
use Rattle.meaning_ranks.proofs.PlaceLemmas.{found_routine}
use Rattle.lowered_flat.proofs.of_lowering_fits.BracketLemmas.{LimitsAreTold}
use Rattle.lowered_flat.specs.Apart.{NamesStandApart}
use Rattle.lowered_flat.proofs.ToldLemmas.{frame_told, read_within}
use Rattle.shown_programs.specs.Text.{IsShownProgram}
use Rattle.shown_programs.proofs.KnownLemmas.{knows_given, vectors_given, vectors_long}
use Rattle.shown_programs.proofs.PostLemmas.{routine_given}
use Rattle.shown_programs.proofs.RoutineLemmas.{AreAccepted}
use Rattle.shown_programs.proofs.ProgramLemmas.{program_shows}
use Rattle.shown_programs.proofs.laws.array_programs_are_shown.Goals as goal

pub returns : goal.returns
returns c = record {
  shown = each;
  right = λ program settings grammar clean apart accepted shown.
      never_wrong (flat_tables program settings) (outcome_of program settings) (λ n.
      each program settings grammar clean apart accepted shown n);
}
  where
    each : (program : Program) (settings : List Setting) → IsProgram program → IsFaultless program
        → NamesStandApart program → IsAcceptedWith program settings
        → IsShownProgram program settings → (n : ℕ)
        → Shows (λ a. flat_run (flat_tables program settings) a n) n (outcome_of program settings n)
    each program settings grammar clean apart accepted shown n =
        let laws : Laws program = record {
          ranks = record {
            expressions = c.ranks_are_at_most_three.ensures.expressions;
            operands = c.ranks_are_at_most_three.ensures.operands;
            regions = c.ranks_are_at_most_three.ensures.regions;
          };
          none = c.faultless_programs_have_faultless_sites.ensures.reached program clean;
          under = c.faultless_programs_have_faultless_sites.ensures.under program clean;
          known = c.faultless_programs_leave_nothing_open.ensures.sites program clean;
          names = c.faultless_programs_leave_nothing_open.ensures.names program clean;
          ranked = c.declared_ranks_are_at_most_three.ensures program;
          callees = c.procedures_are_there.ensures program;
        } in
        let regions = c.what_is_computed_has_a_value.ensures.regions program settings accepted in
        let directions = c.what_is_computed_has_a_value.ensures.directions program settings accepted in
        let limits : LimitsAreTold = λ region steps. c.tests_tell_the_facts.ensures.limit region
        steps in
        let storages = c.what_is_computed_has_a_value.ensures.storages program settings accepted in
        let homes = c.what_is_computed_has_a_value.ensures.homes program settings accepted in
        let declared = c.declarations_fit.ensures program settings grammar clean accepted in
        let tables = flat_tables program settings in
        let facts : AreAccepted program settings laws grammar clean = record {
          proper = c.no_stand_in_is_met.ensures program settings grammar clean;
          ranked = c.ranks_agree.ensures program settings grammar clean;
          given = λ routine among.
              knows_given program settings laws grammar clean regions directions routine among tables;
          vectors = λ routine among.
              vectors_given program settings laws grammar clean regions directions routine among tables;
          declared = λ routine among.
              declared.locals routine (Contains-from_among (routines_of program) routine among);
          long = λ routine among.
              vectors_long program settings laws grammar clean regions directions routine among
              tables;
          posts = λ text routine named.
              let among = found_routine program settings laws grammar clean text routine named in
              routine_given program (known_of program settings) text routine named directions
              (c.what_is_computed_has_a_value.ensures.vectors program settings accepted) clean among
              (c.regions_have_been_computed.ensures.sites program settings clean routine
              (Contains-from_among (routines_of program) routine among));
          homes = frame_told program settings grammar clean limits accepted storages homes apart
              declared;
          copies = λ text called name shift home there told.
              read_within program settings grammar clean limits accepted storages homes apart
              declared text called name.text shift home there told;
        } in
        program_shows program settings laws grammar clean facts declared shown
        (c.lowered_rows_are_inline.ensures program settings grammar clean accepted)
        (c.all_code_is_numbered.ensures program settings grammar clean) n
