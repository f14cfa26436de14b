-- What the members of a group do at one index.
use Rattle.std.specs.Prelude.{ℕ, zero, suc, ◌+◌, ◌-◌, Bool, true, false, ℤ, Option, Some, None, List, [], ◌∷◌, ◌++◌, take, drop, slice_get, slice_set, unwrap_or, if◌then◌else◌}
use Rattle.zpl_arrays.specs.of_zpl_nums.Integer.{is_true}
use Rattle.zpl_arrays.specs.of_zpl_nums.Fold.{joined}
use Rattle.node_form.specs.declared.members.Member.{Member}
use Rattle.node_form.specs.declared.members.Member.TheVariants.{Put, Cell, Acc, OpenIf, Otherwise, CloseIf, OpenWhile, CloseWhile, OpenRepeat, Until}
use Rattle.node_form.specs.declared.tables.Tables.{Tables}
use Rattle.node_form.specs.Value.{Computed, Gives, Divides, Lacks, and_then, read, Operands, value_of}

-- ---- an index, and what is known there
-- How the arrays in a store are reached at an index: the index; the value of an array at the index
-- moved by a vector, where that place is held; and the store with a new value of an array at the
-- index, where that place is held.
pub record Access (S : Type 0) : Type 0 where
  pub index : List ℤ
  pub element : S → ℕ → List ℤ → Option ℤ
  pub with_element : S → ℕ → ℤ → Option S

-- what members change: scalars, the cells at the index, and the store
pub record Point (S : Type 0) : Type 0 where
  pub scalars : List ℤ
  pub cells : List ℤ
  pub store : S

abbrev pub operands_at : {S : Type 0} → Access S → Point S → Operands
operands_at access point = record {
  scalars = point.scalars;
  cells = point.cells;
  index = access.index;
  element = λ array shift. access.element point.store array shift;
}

-- the value of an expression by its number
abbrev pub value_at : {S : Type 0} → Tables → Access S → Point S → ℕ → Computed ℤ
value_at tables access point expr = and_then (value_of (operands_at access point)) (read (slice_get tables.exprs expr))

-- ---- members that open and close
-- Members are run, or skipped up to the one that closes an opening: so many more are open within
-- it, and the skipping ends at its `else` too, where it has to.
pub data Mode : Type 0 where
  Runs : Mode
  Skips : (depth : ℕ) (to_else : Bool) → Mode

-- the mode behind a skipped member
abbrev pub skipped_else : ℕ → Bool → Mode
skipped_else zero true = Runs
skipped_else zero false = Skips zero false
skipped_else (suc depth) to_else = Skips (suc depth) to_else

abbrev pub skipped_closing : ℕ → Bool → Mode
skipped_closing zero to_else = Runs
skipped_closing (suc depth) to_else = Skips depth to_else

abbrev pub skipped : ℕ → Bool → Member → Mode
skipped depth to_else (Put array expr mask line) = Skips depth to_else
skipped depth to_else (Cell cell expr mask line) = Skips depth to_else
skipped depth to_else (Acc scalar fold expr mask line) = Skips depth to_else
skipped depth to_else (OpenIf expr mask line) = Skips (suc depth) to_else
skipped depth to_else Otherwise = skipped_else depth to_else
skipped depth to_else CloseIf = skipped_closing depth to_else
skipped depth to_else (OpenWhile expr mask line) = Skips (suc depth) to_else
skipped depth to_else CloseWhile = skipped_closing depth to_else
skipped depth to_else (OpenRepeat mask line) = Skips (suc depth) to_else
skipped depth to_else (Until expr) = skipped_closing depth to_else

-- the numbers of the members that are open, the innermost first: behind one member, and behind
-- members from a number on
abbrev pub open_numbers : ℕ → List ℕ → Member → List ℕ
open_numbers number numbers (Put array expr mask line) = numbers
open_numbers number numbers (Cell cell expr mask line) = numbers
open_numbers number numbers (Acc scalar fold expr mask line) = numbers
open_numbers number numbers (OpenIf expr mask line) = number ∷ numbers
open_numbers number numbers Otherwise = numbers
open_numbers number numbers CloseIf = drop 1 numbers
open_numbers number numbers (OpenWhile expr mask line) = number ∷ numbers
open_numbers number numbers CloseWhile = drop 1 numbers
open_numbers number numbers (OpenRepeat mask line) = number ∷ numbers
open_numbers number numbers (Until expr) = drop 1 numbers

abbrev pub open_from : ℕ → List ℕ → List Member → List ℕ
open_from number numbers [] = numbers
open_from number numbers (member ∷ members) = open_from (number + 1) (open_numbers number numbers member) members

-- those that are open in front of the member with a number
abbrev pub open_before : List Member → ℕ → List ℕ
open_before members number = open_from 0 [] (take number members)

abbrev pub last_or : ℕ → List ℕ → ℕ
last_or number [] = number
last_or number (first ∷ numbers) = last_or first numbers

-- the innermost of them, and the outermost; or the member itself
abbrev pub innermost_of : List Member → ℕ → ℕ
innermost_of members number = unwrap_or (slice_get (open_before members number) 0) number

abbrev pub outermost_of : List Member → ℕ → ℕ
outermost_of members number = last_or number (open_before members number)

-- ---- one member
-- What a member does: the members behind it go on in a mode; or those from its opening on are run
-- again, in the next turn; or it met a zero divisor; or a place that isn't held.
pub data Step (S : Type 0) : Type 0 where
  GoesOn : (mode : Mode) (point : Point S) → Step S
  GoesBack : (point : Point S) → Step S
  DividesHere : Step S
  LacksHere : Step S

-- What members do at an index, up to the end of the turn: all is done; or the next turn begins at
-- this member; or this member, or the outermost one that encloses it, met a zero divisor, and the
-- rest is left out; or a place isn't held.
pub data Ran (S : Type 0) : Type 0 where
  Through : (point : Point S) → Ran S
  Again : (member : ℕ) (point : Point S) → Ran S
  Divided : (member : ℕ) (point : Point S) → Ran S
  Unheld : Ran S

abbrev pub with_value : {S : Type 0} → Computed ℤ → (ℤ → Step S) → Step S
with_value (Gives value) next = next value
with_value Divides next = DividesHere
with_value Lacks next = LacksHere

-- what is found there, or that it isn't held
abbrev pub with_found : {S : Type 0} → Option (Point S) → Step S
with_found (Some point) = GoesOn Runs point
with_found None = LacksHere

module _ {S : Type 0} (tables : Tables) (access : Access S) where
  abbrev pub with_store : Point S → Option S → Option (Point S)
  with_store point (Some store) = Some (record point { store = store })
  with_store point None = None

  -- a member whose mask is 0 is skipped
  abbrev pub masked : Point S → Option ℕ → Mode → Step S → Step S
  masked point None skip run = run
  masked point (Some mask) skip run =
      with_value (value_at tables access point mask) (λ value. if is_true value then run else GoesOn skip point)

  -- goes on inside, or behind
  abbrev pub chosen : Point S → Bool → Bool → Step S
  chosen point true to_else = GoesOn Runs point
  chosen point false to_else = GoesOn (Skips 0 to_else) point

  abbrev pub run_member : Point S → Member → Step S
  run_member point (Put array expr mask line) =
      masked point mask Runs
      (with_value (value_at tables access point expr) (λ value.
      with_found (with_store point (access.with_element point.store array value))))
  run_member point (Cell cell expr mask line) =
      masked point mask Runs
      (with_value (value_at tables access point expr) (λ value.
      GoesOn Runs (record point { cells = slice_set point.cells cell value })))
  run_member point (Acc scalar fold expr mask line) =
      masked point mask Runs
      (with_value (value_at tables access point expr) (λ value.
      with_value (read (slice_get point.scalars scalar)) (λ own.
      GoesOn Runs (record point { scalars = slice_set point.scalars scalar (joined fold own value) }))))
  run_member point (OpenIf expr mask line) =
      masked point mask (Skips 0 false)
      (with_value (value_at tables access point expr) (λ value. chosen point (is_true value) true))
  run_member point Otherwise = GoesOn (Skips 0 false) point
  run_member point CloseIf = GoesOn Runs point
  run_member point (OpenWhile expr mask line) =
      masked point mask (Skips 0 false)
      (with_value (value_at tables access point expr) (λ value. chosen point (is_true value) false))
  run_member point CloseWhile = GoesBack point
  run_member point (OpenRepeat mask line) = masked point mask (Skips 0 false) (GoesOn Runs point)
  run_member point (Until expr) =
      with_value (value_at tables access point expr) (λ value. if is_true value then GoesOn Runs point else GoesBack point)

  abbrev pub member_step : Mode → Point S → Member → Step S
  member_step Runs point member = run_member point member
  member_step (Skips depth to_else) point member = GoesOn (skipped depth to_else member) point

  -- ---- members one after another
  abbrev pub goes_on : List Member → ℕ → Point S → Step S → (Mode → Point S → Ran S) → Ran S
  goes_on all number before (GoesOn mode point) next = next mode point
  goes_on all number before (GoesBack point) next = Again (innermost_of all number) point
  goes_on all number before DividesHere next = Divided (outermost_of all number) before
  goes_on all number before LacksHere next = Unheld

  -- the members of `all` from this number on, which are `rest`
  abbrev pub ran : List Member → ℕ → Mode → List Member → Point S → Ran S
  ran all number mode [] point = Through point
  ran all number mode (member ∷ rest) point =
      goes_on all number point (member_step mode point member) (λ mode point. ran all (number + 1) mode rest point)

  -- a turn that begins at the member with this number
  abbrev pub ran_from : List Member → ℕ → Point S → Ran S
  ran_from all number point = ran all number Runs (drop number all) point

-- ---- units
-- how many members are open behind one
abbrev pub depth_behind : ℕ → Member → ℕ
depth_behind depth (Put array expr mask line) = depth
depth_behind depth (Cell cell expr mask line) = depth
depth_behind depth (Acc scalar fold expr mask line) = depth
depth_behind depth (OpenIf expr mask line) = depth + 1
depth_behind depth Otherwise = depth
depth_behind depth CloseIf = depth - 1
depth_behind depth (OpenWhile expr mask line) = depth + 1
depth_behind depth CloseWhile = depth - 1
depth_behind depth (OpenRepeat mask line) = depth + 1
depth_behind depth (Until expr) = depth - 1

-- a unit ends behind a member where nothing is open
abbrev pub next_unit : ℕ → List Member → (ℕ → List Member → List (List Member)) → List (List Member)
next_unit zero unit rest = unit ∷ rest 0 []
next_unit (suc depth) unit rest = rest (suc depth) unit

abbrev pub units_from : ℕ → List Member → List Member → List (List Member)
units_from depth unit [] = []
units_from depth unit (member ∷ members) =
    next_unit (depth_behind depth member) (unit ++ member ∷ []) (λ depth unit. units_from depth unit members)

-- The units of a group: its outermost members, each with all that it encloses. Node code runs them
-- one after another at each index; a flat program runs each of them over all indices.
abbrev pub units : List Member → List (List Member)
units members = units_from 0 [] members
