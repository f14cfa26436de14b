use Rattle.zpl_arrays.proofs.ArrayLemmas.{updated_elsewhere, updated_here, updated_is_array}
use Rattle.zpl_arrays.proofs.laws.updates_change_one_element.Goals as goal

pub returns : goal.returns
returns c = record { array = updated_is_array; here = updated_here; elsewhere = updated_elsewhere }
