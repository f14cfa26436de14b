use Rattle.lowering_fits.specs.of_zpl_meaning.Program.{outcome_of}
use Rattle.lowering_fits.specs.of_zpl_lowering.Tables.{flat_tables}
use Rattle.lowering_runs.proofs.ProgramLemmas.{program_shows}
use Rattle.lowering_runs.proofs.WrongLemmas.{never_wrong}
use Rattle.lowering_runs.proofs.laws.scalar_programs_are_shown.Goals as goal

pub returns : goal.returns
returns c = record {
  shown = λ program settings grammar clean scalar n.
      program_shows program settings scalar (c.no_stand_in_is_met.ensures program settings grammar clean)
      (c.all_code_is_numbered.ensures program settings grammar clean) n;
  right = λ program settings grammar clean scalar.
      never_wrong (flat_tables program settings) (outcome_of program settings) (λ n.
      program_shows program settings scalar (c.no_stand_in_is_met.ensures program settings grammar clean)
      (c.all_code_is_numbered.ensures program settings grammar clean) n);
}
