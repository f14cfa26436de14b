-- Calls: what is called goes as its code does.
use Rattle.std.specs.Prelude.{◌≡◌, ℕ, List, length, map}
use Rattle.lowering_fits.specs.of_zpl_meaning.Store.{Store}
use Rattle.lowering_fits.specs.of_zpl_meaning.Context.{Setup}
use Rattle.lowering_fits.specs.of_zpl_meaning.Calls.{Called}
use Rattle.lowering_fits.specs.of_zpl_meaning.Program.{call_at}
use Rattle.node_form.specs.declared.tables.Tables.{Tables}
use Rattle.lowering_fits.specs.of_zpl_lowering.Program.{call_code}
use Rattle.lowering_fits.specs.of_zpl_meaning.Visited.{IsVisitedCall}
use Rattle.lowering_fits.specs.of_flat_form.Whole.{Whole}
use Rattle.lowering_fits.specs.of_zpl_lowering.Where.{Where, Next}
use Rattle.lowering_fits.specs.of_zpl_lowering.Statement.{Given, Calling}
use Rattle.lowering_runs.specs.Seen.{Spot, numbered, seen_currents}
use Rattle.lowering_runs.specs.Run.{does}
use Rattle.lowering_runs.specs.Agrees.{Agrees}
use Rattle.lowering_runs.specs.Stands.{IsBefore, Stands, HasRoom, IsLike}
use Rattle.lowering_runs.specs.Frames.{seen_given, AreGiven}
use Rattle.lowering_runs.specs.Goes.{World}

-- a call that code makes at a place, and the same in the meaning
abbrev pub calling_at : Where → List ℕ → List Given → ℕ → ℕ → Calling
calling_at w name givens result line = record {
  name = name;
  actuals = givens;
  currents = w.currents;
  result = result;
  numbers = w.numbers;
  line = line;
}

abbrev pub called_at : List Spot → Where → Whole → Whole → List ℕ → List Given → ℕ → Called
called_at spots w start whole name givens result = record {
  name = name;
  actuals = map (seen_given spots whole) givens;
  currents = seen_currents start w.currents;
  result = result;
}

-- Calls of procedures without a result, whose parameters take what stands between two numbers.
pub record CallsAgree (world : World) (setup : Setup) (IsServed : List ℕ → Type 0) : Type 0 where
  pub by : (spots : List Spot) (w : Where) (low next : Next) (start : Whole) (name : List ℕ)
      (givens : List Given) (line : ℕ) → w.setup ≡ setup → Stands spots w low
      → IsBefore low next → IsServed name
      → AreGiven (length (numbered spots)) (length w.numbers.arrays) low.scalars givens next.scalars
      → HasRoom world.tables next (world.code (calling_at w name givens 0 line) next)
      → (store : Store) (now : Whole) → IsLike world.tables spots w low start store now
      → IsVisitedCall setup (called_at spots w start now name givens 0)
      → Agrees (IsLike world.tables spots w low start) world.turns 0
      (world.call (called_at spots w start now name givens 0) store)
      (does world.tables world.turns (world.code (calling_at w name givens 0 line) next).code now)

-- what calls do and become down a chain of so many
abbrev pub world_at : Tables → ℕ → Setup → ℕ → World
world_at tables n setup depth = record {
  tables = tables;
  turns = n;
  call = call_at setup n depth;
  code = call_code setup depth;
}
