-- Calls, as the definitions see them.
use Rattle.std.specs.Prelude.{ℕ, suc, true, false, List, [], map}
use Rattle.zpl_tree.specs.declared.names.Name.{Name}
use Rattle.zpl_names.specs.Declared.{Routine}
use Rattle.zpl_names.specs.Kinds.{ArrayFormal, Formal, ScalarFormal}
use Rattle.zpl_meaning.specs.Context.{Setup}
use Rattle.zpl_lowering.specs.Program.{Framed, where_in}
use Rattle.zpl_lowering.specs.Statement as statement
use Rattle.zpl_lowering.specs.Where.{SlotCurrents, Where}
use Rattle.lower_frames.specs.of_lower_places.View.{currents_of}
use Rattle.lower_frames.specs.declared.givens.Given.{Given}
use Rattle.lower_frames.specs.Frames.{given_of}
use Rattle.zpl_lower.specs.declared.runs.Site.{Site}

abbrev pub calling_in : Site → List ℕ → List Given → statement.Calling
calling_in site name givens = record {
  name = name;
  actuals = map given_of givens;
  currents = currents_of site.currents;
  result = site.result;
  numbers = site.numbers.now;
  line = site.line;
}

abbrev pub calling_of : Site → Name → List Given → statement.Calling
calling_of site name givens = calling_in site name.text.now givens

-- the next scalar for values
abbrev pub scalar_behind : ℕ → Formal → ℕ
scalar_behind scalar (ScalarFormal false base) = suc scalar
scalar_behind scalar (ScalarFormal true base) = scalar
scalar_behind scalar (ArrayFormal by_ref base shape) = scalar

-- where the body of a procedure is lowered
abbrev pub body_at : Setup → Routine → SlotCurrents → ℕ → Framed → Where
body_at setup routine currents result frame =
    where_in setup routine
    (record {
      name = [];
      actuals = [];
      currents = currents;
      result = result;
      numbers = frame.numbers;
      line = 0;
    }) frame
