use Rattle.zpl_arrays.proofs.ArrayLemmas.{only_place, place_of_tuple}
use Rattle.zpl_arrays.proofs.laws.tuples_stand_at_their_places.Goals as goal

pub returns : goal.returns
returns c = record { stands = λ r t h z. place_of_tuple r.dims t h z; only = only_place }
