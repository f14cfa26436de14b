-- What is known at goals, and when it is settled.
use Rattle.std.specs.Prelude.{◌≡◌, ◌<◌, ◌≤◌, ℕ, suc, ◌+◌, ◌*◌, false, List, [], ◌∷◌, Option, Some, None, length, slice_get}
use Rattle.code_parts.proofs.ListLemmas.{In}
use Rattle.node_form.specs.declared.instructions.Instr.{Instr}
use Rattle.node_form.specs.declared.tables.Tables.{Tables}
use Rattle.node_check.specs.Fact.{Fact}
use Rattle.node_check.specs.Front.{Point}
use Rattle.node_check.specs.Learn.{start_facts}
use Rattle.node_check.specs.Path.{AreFacts, Comes}
use Rattle.node_check.specs.Walk.{begun, front_at, goal_of, walked}

-- some path leads there with these open exchanges, and no sets of facts have more there
pub record IsGood (code : Tables) (at : ℕ) (point : Point) : Type 0 where
  pub comes : Comes code at point.opened
  pub bounds : (facts : ℕ → List Fact) → AreFacts code facts → (fact : Fact) → In (facts at) fact
      → In point.facts fact

abbrev pub IsGoodAt : Tables → ℕ → Option Point → Type 0
IsGoodAt code at None = Unit {0}
IsGoodAt code at (Some point) = IsGood code at point

-- in front of the first row nothing is open, and only what stands at the start is known
pub record IsStart (code : Tables) (point : Point) : Type 0 where
  pub opened : point.opened ≡ []
  pub facts : (fact : Fact) → In point.facts fact → In (start_facts code) fact

abbrev pub StartsWith : Tables → Option Point → Type 0
StartsWith code None = ⊥
StartsWith code (Some point) = IsStart code point

pub record IsRight (code : Tables) (fronts : List (Option Point)) : Type 0 where
  pub good : (at : ℕ) → IsGoodAt code at (front_at fronts at)
  pub many : length fronts ≡ length code.code + 1
  pub start : StartsWith code (front_at fronts 0)

-- ---- Each exchange that is open was opened by a row, and no row is walked twice before some number
-- is reached for the first time.
-- so much is left for numbers that aren't reached so far
abbrev pub room : ℕ → List (Option Point) → ℕ
room n [] = 0
room n (None ∷ fronts) = n + room n fronts
room n (Some front ∷ fronts) = room n fronts

abbrev pub IsOpenWithin : ℕ → ℕ → Option Point → Type 0
IsOpenWithin limit left None = Unit {0}
IsOpenWithin limit left (Some point) = length point.opened + left ≤ limit

abbrev pub IsBounded : ℕ → ℕ → List (Option Point) → Type 0
IsBounded n limit fronts = (at : ℕ) → IsOpenWithin limit (room n fronts) (front_at fronts at)

-- so many exchanges may be open behind as many rows
abbrev pub most_open : Tables → ℕ
most_open code = (length code.code + 1) * length code.code

pub record IsKept (code : Tables) (fronts : List (Option Point)) : Type 0 where
  pub right : IsRight code fronts
  pub bounded : IsBounded (length code.code) (most_open code) fronts

-- a further walk would change nothing
pub record IsSettled (code : Tables) (fronts : List (Option Point)) : Type 0 where
  pub kept : IsKept code fronts
  pub none_reached : (walked code 0 code.code (begun fronts)).reached ≡ false
  pub none_lost : (walked code 0 code.code (begun fronts)).lost ≡ false

abbrev pub GoesWithin : ℕ → Instr → Type 0
GoesWithin many row = (goal : ℕ) → goal_of row ≡ Some goal → goal < many

-- how many numbers aren't reached so far
abbrev pub none_of : Option Point → ℕ
none_of None = 1
none_of (Some point) = 0

abbrev pub nones : List (Option Point) → ℕ
nones [] = 0
nones (front ∷ fronts) = none_of front + nones fronts

-- how many facts are known at goals
abbrev pub size_of : Option Point → ℕ
size_of None = 0
size_of (Some point) = length point.facts

abbrev pub sizes : List (Option Point) → ℕ
sizes [] = 0
sizes (front ∷ fronts) = size_of front + sizes fronts
