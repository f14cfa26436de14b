-- Where a statement is lowered, and what calls come of it.
use Rattle.std.specs.Prelude.{◌≡◌, ℕ, ◌+◌, ◌<◌, ◌≤◌, Bool, true, List, length, Option}
use Rattle.meaning_ranks.specs.of_zpl_tree.Syntax.{Name, Exprs, Prefix, Prefixed, Form, Assign}
use Rattle.meaning_ranks.specs.of_zpl_names.Scope.{kind_of}
use Rattle.meaning_ranks.specs.of_zpl_meaning.Context.{Currents, Edge, Setup, Place}
use Rattle.meaning_ranks.specs.of_zpl_meaning.Calls.{formals_in}
use Rattle.meaning_ranks.specs.of_zpl_meaning.Proper.{IsProperCall}
use Rattle.meaning_ranks.specs.of_zpl_meaning.Visited.{IsUnder, IsCall, IsVisited}
use Rattle.meaning_ranks.specs.Ranked.{IsRankedCall}
use Rattle.stored_shifts.specs.of_node_form.declared.tables.Tables.{Tables}
use Rattle.lower_numbers.specs.of_zpl_lowering.Where.{Where, Next}
use Rattle.lower_numbers.specs.of_zpl_lowering.Lowered.{Lowered}
use Rattle.lower_numbers.specs.of_zpl_lowering.Statement.{Calling, value_exprs, given_to}
use Rattle.lowering_fits.specs.Reach.{place_at, IsReach}
use Rattle.lowering_fits.specs.Lowerings.{IsLaidOut, FitsLowered, FitsEdge}

-- ---- a place where a statement is lowered

pub record IsStanding (tables : Tables) (setup : Setup) (answers : Bool) (w : Where)
    (currents : Currents) : Type 0 where
  pub reach : IsReach tables w currents
  pub edges : FitsEdge tables w currents w.edge
  pub own : w.setup ≡ setup
  pub answer : answers ≡ true → w.result < tables.scalars

-- ---- calls

-- where an answer is taken, there is a scalar for it
abbrev pub HasAnswer : Tables → ℕ → Form → Type 0
HasAnswer tables target (Assign name op value) = target < tables.scalars
HasAnswer tables target form = Unit {0}

-- what is called from a place
abbrev pub calling_of : Where → Name → Exprs → ℕ → ℕ → ℕ → Calling
calling_of w name actuals scalar target line = record {
  name = name.text;
  actuals = given_to w scalar (formals_in (kind_of w.scope name)) actuals;
  currents = w.currents;
  result = target;
  numbers = w.numbers;
  line = line;
}

-- A call from a visited statement.
pub record IsCalled (tables : Tables) (setup : Setup) (w : Where) (name : Name) (actuals : Exprs)
    (scalar target : ℕ) : Type 0 where
  pub result : ℕ
  pub currents : Currents
  pub edge : Option Edge
  pub start : Place
  pub at : ℕ
  pub prefixes : List Prefix
  pub form : Form
  pub visited : IsVisited setup start (Prefixed at prefixes form)
  pub under : IsUnder prefixes start (place_at w result currents edge)
  pub is : IsCall form name actuals
  pub reach : IsReach tables w currents
  pub own : w.setup ≡ setup
  pub proper : IsProperCall (place_at w result currents edge) name actuals
  pub ranked : IsRankedCall (place_at w result currents edge) name actuals
  pub answer : HasAnswer tables target form
  pub values : scalar + length (value_exprs w (formals_in (kind_of w.scope name)) actuals)
      ≤ tables.scalars

-- what is called so fits
abbrev pub CallsFit : Tables → Setup → (Calling → Next → Lowered) → Type 0
CallsFit tables setup call =
    (w : Where) (name : Name) (actuals : Exprs) (scalar target line : ℕ) (next : Next) →
    IsCalled tables setup w name actuals scalar target →
    IsLaidOut tables next (call (calling_of w name actuals scalar target line) next) →
    FitsLowered tables (call (calling_of w name actuals scalar target line) next)
