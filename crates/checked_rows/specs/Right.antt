-- Rows that aren't wrong where their demand is met.
--
--   is_alone      a row that each processor does by itself
--   Faces         a row in front of which facts describe the state
--   WantsNone     a loop in which no processor wants a further turn
--   Meets         a row whose demand is met in a state that its facts describe
--   IsRight       such a row isn't wrong there
--   Fares         it isn't, or all processors end at it, whatever is on the links: a plan's meaning
--                 takes an end with an exchange open for wrong
--   KeepsFlights  behind such a row what is on its way is that of the open exchanges
use Rattle.std.specs.Prelude.{◌≡◌, ◌≢◌, ℕ, ◌<◌, Bool, true, false, List, [], length, slice_get, Option, None}
use Rattle.std.specs.Prelude.{Some, ⊤}
use Rattle.zpl_nums.specs.declared.ends.End.{End}
use Rattle.grid_links.specs.Machine.{Goes as Moves}
use Rattle.node_form.specs.declared.instructions.Instr.{Instr}
use Rattle.node_form.specs.declared.instructions.Instr.TheVariants as instr
use Rattle.node_form.specs.declared.members.Member.{Member}
use Rattle.node_form.specs.declared.tables.Tables.{Tables}
use Rattle.node_form.specs.Nest.{Nest}
use Rattle.nest_meaning.specs.Tree.{nest_of}
use Rattle.nest_meaning.specs.Units.{units_of}
use Rattle.grid_meaning.specs.Action.{ended_as}
use Rattle.grid_meaning.specs.Local.{processors}
use Rattle.grid_meaning.specs.Turn.{act_at}
use Rattle.row_orders.specs.Rows.{HasRoom}
use Rattle.row_runs.specs.Run.{Goes, Stops, Wrong, Does}
use Rattle.plan_meaning.specs.Abreast.{Abreast}
use Rattle.plan_meaning.specs.Act.{row_does}
use Rattle.plan_meaning.specs.Loops.{WantsTurn, shared}
use Rattle.plan_orders.specs.Brings.{standing_at}
use Rattle.node_check.specs.Demand.{is_met}
use Rattle.node_check.specs.declared.facts.Fact.{Fact}
use Rattle.node_check.specs.Path.{open_behind}
use Rattle.checked_rows.specs.Faced.{AreFlightsOf, IsFaced}

-- with at most n turns of each loop within the group that is entered
abbrev pub WantsNone : Tables → ℕ → Instr → Abreast → Type 0
WantsNone code n (instr.Loop slot group) all =
    (members : List Member) (nest : Nest) (p : ℕ) → slice_get code.groups group ≡ Some members
    → nest_of members ≡ Some nest → p < processors code
    → shared code n (units_of nest) slot all p ≢ WantsTurn
WantsNone code n row all = ⊤

-- a row that each processor does by itself
abbrev pub is_alone : Instr → Bool
is_alone (instr.Start exchange) = false
is_alone (instr.Finish exchange) = false
is_alone (instr.Edge kind array slot shift) = false
is_alone (instr.Flood array target from source) = false
is_alone (instr.Part array target fold from source) = false
is_alone (instr.Scan array slot fold along from mask) = false
is_alone (instr.Gather truth array slot) = false
is_alone (instr.Remap array slot from parts) = false
is_alone (instr.Vote group) = false
is_alone (instr.TreeVote group) = false
is_alone (instr.Fold scalar fold) = false
is_alone (instr.TreeFold scalar fold) = false
is_alone row = true

-- The row is the code's, and these facts describe the state in front of it.
pub record Faces (code : Tables) (row : Instr) (opened : List ℕ) (facts : List Fact) (all : Abreast)
    : Type 0 where
  pub at : ℕ
  pub here : slice_get code.code at ≡ Some row
  pub faced : IsFaced code opened facts all

-- The row is the code's, its demand is met by these facts, which describe the state, and links have
-- room for the exchanges that are open behind it.
pub record Meets (code : Tables) (links : Option ℕ) (row : Instr) (opened : List ℕ)
    (facts : List Fact) (all : Abreast) : Type 0 where
  pub at : ℕ
  pub here : slice_get code.code at ≡ Some row
  pub faced : IsFaced code opened facts all
  pub met : is_met code facts opened row ≡ true
  pub room : HasRoom links (length (open_behind opened row))

-- for every row behind it
abbrev pub IsRight : Tables → Option ℕ → ℕ → Instr → Type 0
IsRight code links n row =
    (next : Option Instr) (opened : List ℕ) (facts : List Fact) (all : Abreast)
    → Meets code links row opened facts all
    → row_does code links n row next all ≢ Does (Stops Wrong)

-- wherever the row stands
pub data Fares (code : Tables) (links : Option ℕ) (n : ℕ) (row : Instr) (next : Option Instr)
    (all : Abreast) : Type 0 where
  GoesRight : row_does code links n row next all ≢ Does (Stops Wrong)
      → Fares code links n row next all
  AllEndThere : (ending : End)
      → ((at p : ℕ) → p < processors code
      → act_at code p (standing_at at (all.shares p)) (Some row)
      ≡ Moves (ended_as (standing_at at (all.shares p)) ending) None [])
      → Fares code links n row next all

abbrev pub RowFares : Tables → Option ℕ → ℕ → Instr → Type 0
RowFares code links n row =
    (next : Option Instr) (opened : List ℕ) (facts : List Fact) (all : Abreast)
    → Meets code links row opened facts all → WantsNone code n row all
    → Fares code links n row next all

abbrev pub KeepsFlights : Tables → Option ℕ → ℕ → Instr → Type 0
KeepsFlights code links n row =
    (next : Option Instr) (opened : List ℕ) (facts : List Fact) (all after : Abreast)
    (bytes : List ℕ) → Meets code links row opened facts all
    → row_does code links n row next all ≡ Does (Goes bytes after)
    → AreFlightsOf code after (open_behind opened row) after.flights
