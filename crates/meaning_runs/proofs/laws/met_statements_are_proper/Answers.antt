use Rattle.meaning_runs.specs.Met.{opening_of}
use Rattle.meaning_runs.proofs.VisitedLemmas.{met_visited}
use Rattle.meaning_runs.proofs.laws.met_statements_are_proper.Goals as goal

pub returns : goal.returns
returns c = λ program settings grammar clean n deeper place stmt store met.
    c.no_stand_in_is_met.ensures program settings grammar clean place stmt
    (met_visited (opening_of program settings n) deeper place stmt store met)
