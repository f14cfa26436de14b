use Rattle.zpl_names.proofs.ReachedLemmas.{no_recursion, no_deep_call}
use Rattle.zpl_names.proofs.laws.falling_numbers_bound_calls.Goals as goal

pub returns : goal.returns
returns c = record { recursion = no_recursion; deep = no_deep_call }
