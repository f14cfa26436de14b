use Rattle.zpl_arrays.proofs.ReferenceLemmas.{lies_in_places, places_lie_in, reference_places}
use Rattle.zpl_arrays.proofs.laws.references_lie_where_their_tuples_do.Goals as goal

pub returns : goal.returns
returns c = record { places = lies_in_places; lies = places_lie_in; moved = reference_places }
