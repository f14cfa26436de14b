-- A run behind a condition, which traps where it doesn't hold.
use Rattle.std.specs.Prelude.{Bool, true, false, ℕ}
use Rattle.zpl_nums.specs.declared.ends.End.TheVariants.{Trap}
use Rattle.zpl_nums.specs.declared.ends.TrapKind.{TrapKind}
use Rattle.row_runs.specs.Run.{Ends}
use Rattle.row_runs.specs.Structured.{Course, Over, closes}
use Rattle.flat_form.specs.Whole.{Whole}

abbrev pub guard : TrapKind → Bool → ℕ → Whole → Course Whole → Course Whole
guard kind true line whole course = course
guard kind false line whole course = closes (Over (Ends (Trap kind line))) whole
