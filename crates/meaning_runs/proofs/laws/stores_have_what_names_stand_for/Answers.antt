use Rattle.meaning_runs.proofs.MetLemmas.{places_there, inner_there, tuples_there}
use Rattle.meaning_runs.proofs.laws.stores_have_what_names_stand_for.Goals as goal

pub returns : goal.returns
returns c = record {
  statements = places_there;
  behind = inner_there;
  tuples = tuples_there;
}
