use Rattle.meaning_runs.proofs.KeepLemmas.{exec_keeps, all_keep, point_keeps, points_keep}
use Rattle.meaning_runs.proofs.KeepLemmas.{borders_keep, calls_keep, answers_keep}
use Rattle.meaning_runs.proofs.HeldLemmas.{later_places}
use Rattle.meaning_runs.proofs.MetLemmas.{test_longer, turn_longer, value_longer}
use Rattle.meaning_runs.proofs.laws.runs_keep_what_there_is.Goals as goal

pub returns : goal.returns
returns c = record {
  statements = λ context n calls stmt. exec_keeps n context.call calls stmt context.place;
  bodies = λ context n calls stmts. all_keep n context.call calls stmts context.place;
  borders = borders_keep;
  calls = calls_keep;
  answers = answers_keep;
  tuples = point_keeps;
  tuple_bodies = points_keep;
  tests = test_longer;
  turns = turn_longer;
  values = value_longer;
  places = later_places;
}
