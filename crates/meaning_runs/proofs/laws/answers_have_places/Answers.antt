use Rattle.meaning_runs.proofs.ResultLemmas.{return_there, answer_taken}
use Rattle.meaning_runs.proofs.laws.answers_have_places.Goals as goal

pub returns : goal.returns
returns c = record { given = return_there; taken = answer_taken }
