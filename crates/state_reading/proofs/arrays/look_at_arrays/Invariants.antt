use Rattle.std.proofs.Common.{ℕ, ◌<◌, get_or}
use Rattle.node_form.specs.declared.arrays.ArrayRow.{ArrayRow}
use Rattle.save_reading.specs.Three.{HasThree}
use Rattle.state_reading.proofs.arrays.look_at_arrays.Given as goal

abbrev pub invariant-loop-i : goal.invariant-loop-i
invariant-loop-i l = (k : ℕ) (row : ArrayRow) → k < l.i → HasThree (get_or l.code.arrays k row)
