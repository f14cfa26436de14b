use Rattle.meaning_phases.proofs.StatementLemmas.{scalar_assigned, array_assigned, printed, bordered}
use Rattle.meaning_phases.proofs.StatementLemmas.{answered, split_run}
use Rattle.meaning_phases.proofs.laws.statements_go_through_their_phases.Goals as goal

pub returns : goal.returns
returns c = record {
  scalars = scalar_assigned;
  arrays = array_assigned;
  prints = printed;
  borders = bordered;
  shattered = split_run;
  answers = answered;
}
