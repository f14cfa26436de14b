use Rattle.meaning_runs.proofs.DepthLemmas.{never_deepest, called_there}
use Rattle.meaning_runs.proofs.laws.no_run_comes_to_the_end_of_calls.Goals as goal

pub returns : goal.returns
returns c = record { depth = never_deepest; there = called_there }
