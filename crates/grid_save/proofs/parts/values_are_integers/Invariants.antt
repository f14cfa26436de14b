use Rattle.std.proofs.Common.{take}
use Rattle.std.specs.Prelude.{All}
use Rattle.zpl_nums.specs.Integer.{IsInteger}
use Rattle.grid_save.proofs.parts.values_are_integers.Given as goal

abbrev pub invariant-loop-i : goal.invariant-loop-i
invariant-loop-i l = All IsInteger (take l.i l.values)
