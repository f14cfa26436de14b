use Rattle.grid_meaning.proofs.GridLemmas.{length-given, IsOrder-given}
use Rattle.grid_meaning.proofs.laws.given_turns_are_orders.Goals as goal

pub returns : goal.returns
returns c = record { many = length-given; below = IsOrder-given }
