use Rattle.zpl_arrays.proofs.ArrayLemmas.{array_of_is_array, element-array_of, element_of_member, element_outside}
use Rattle.zpl_arrays.proofs.laws.elements_are_the_values_given.Goals as goal

pub returns : goal.returns
returns c = record { array = array_of_is_array; inside = element-array_of; member = element_of_member; outside = element_outside }
