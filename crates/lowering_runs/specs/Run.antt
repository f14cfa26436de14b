-- Structured code of a flat program: what its rows and tests do.
use Rattle.std.specs.Prelude.{ℕ, true, false}
use Rattle.node_form.specs.declared.tables.Tables.{Tables}
use Rattle.row_runs.specs.Run.{Step, Goes, Stops, Wrong, Effect, Does, Leaps, Passes}
use Rattle.row_runs.specs.Code.{Decision, Says, Fails}
use Rattle.row_runs.specs.Structured.{Piece, Course, doing}
use Rattle.lowering_fits.specs.of_flat_form.Row as row
use Rattle.lowering_fits.specs.of_flat_form.Row.{Row}
use Rattle.lowering_fits.specs.of_flat_form.Whole.{Whole}
use Rattle.lowering_fits.specs.of_flat_form.Act.{act}
use Rattle.lowering_fits.specs.of_zpl_lowering.Check.{Check}

-- no straight row leaps
abbrev pub straight : Effect Whole → Step Whole
straight (Does step) = step
straight (Leaps goal) = Stops Wrong
straight Passes = Stops Wrong

-- a test passes, or leaps, or stops the run
abbrev pub decision : Effect Whole → Decision
decision (Does (Goes bytes state)) = Fails Wrong
decision (Does (Stops stop)) = Fails stop
decision (Leaps goal) = Says false
decision Passes = Says true

module _ (tables : Tables) (n : ℕ) where
  abbrev pub step : Row → Whole → Step Whole
  step one whole = straight (act tables n one whole)

  abbrev pub decide : Check → Whole → Decision
  decide check whole = decision (act tables n (row.Unless check.expr 0 check.line) whole)

  -- what a piece of code does, where each loop that is entered may make n turns
  abbrev pub does : Piece Row Check → Whole → Course Whole
  does code whole = doing step decide n code whole
