use Rattle.served_places.proofs.ToldLemmas.{array_served}
use Rattle.served_places.proofs.laws.assigned_arrays_are_served.Goals as goal

pub returns : goal.returns
returns c = array_served
