use Rattle.meaning_runs.specs.Met.{opening_of}
use Rattle.meaning_runs.proofs.VisitedLemmas.{met_visited}
use Rattle.meaning_runs.proofs.laws.met_statements_are_visited.Goals as goal

pub returns : goal.returns
returns c = λ program settings n. met_visited (opening_of program settings n)
