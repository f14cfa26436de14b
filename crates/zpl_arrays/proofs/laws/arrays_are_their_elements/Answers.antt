use Rattle.zpl_arrays.proofs.ArrayLemmas.{array_of-element, same_elements, value_at_place}
use Rattle.zpl_arrays.proofs.laws.arrays_are_their_elements.Goals as goal

pub returns : goal.returns
returns c = record { at_place = value_at_place; made = array_of-element; same = same_elements }
