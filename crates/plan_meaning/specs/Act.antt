-- What each row of node code does on all processors in lock step, and bounded runs of plans.
use Rattle.std.specs.Prelude.{ℕ, ◌==◌, Bool, true, false, ◌&&◌, ℤ, List, [], ◌∷◌, ◌++◌, Option}
use Rattle.std.specs.Prelude.{Some, None, slice_get, slice_set}
use Rattle.std.specs.Cmp.Lexicographic.{pointwise}
use Rattle.std.specs.List.{filter_map}
use Rattle.std.specs.Ordering.{int_eq}
use Rattle.zpl_nums.specs.declared.ends.End.{End}
use Rattle.zpl_nums.specs.declared.ends.End.TheVariants.{Done, Trap}
use Rattle.zpl_nums.specs.declared.ends.TrapKind.{TrapKind}
use Rattle.zpl_nums.specs.declared.ends.TrapKind.TheVariants as kind
use Rattle.zpl_nums.specs.declared.folds.Fold.{Fold}
use Rattle.zpl_nums.specs.Fold.{joined}
use Rattle.zpl_region.specs.declared.dims.Dim.{Dim}
use Rattle.zpl_region.specs.declared.dims.Dim.TheVariants as dim
use Rattle.zpl_region.specs.declared.regions.Region.{Region}
use Rattle.flat_form.specs.of_node_form.declared.instructions.Instr.{Instr}
use Rattle.flat_form.specs.of_node_form.declared.instructions.Instr.TheVariants as instr
use Rattle.flat_form.specs.of_node_form.declared.tables.Tables.{Tables}
use Rattle.flat_form.specs.of_node_form.Control as control
use Rattle.flat_form.specs.of_node_form.Control.{Control, Registers}
use Rattle.grid_links.specs.Machine.{Goes as Moves}
use Rattle.flat_form.specs.of_grid_meaning.Action.{Action}
use Rattle.flat_form.specs.of_grid_meaning.Collective.{flag_word, group_line, least_flag, scalar_at, word_flag}
use Rattle.flat_form.specs.of_grid_meaning.Delivery as delivery
use Rattle.flat_form.specs.of_grid_meaning.Exchange as exchange
use Rattle.flat_form.specs.of_grid_meaning.Gather as gather
use Rattle.flat_form.specs.of_grid_meaning.Local.{processors}
use Rattle.flat_form.specs.of_grid_meaning.Remap as remap
use Rattle.flat_form.specs.of_grid_meaning.Scan as scan
use Rattle.flat_form.specs.of_grid_meaning.Turn as turn
use Rattle.row_orders.specs.Agreement.{joined_over}
use Rattle.flat_form.specs.of_row_runs.Run.{Step, Goes, Stops, Ends, Wrong, Effect, Does, Leaps, Passes, Result}
use Rattle.flat_form.specs.of_row_runs.Run.{runs}
use Rattle.plan_meaning.specs.Abreast.{Abreast, Share, every, go_where, is_quiet, locals_of}
use Rattle.plan_meaning.specs.Abreast.{share_of, start_abreast}
use Rattle.plan_meaning.specs.Loops.{looped}
use Rattle.plan_meaning.specs.Messages.{delivered, finished, leaves_row, next_or, remapped}
use Rattle.plan_meaning.specs.Messages.{shown_of}
use Rattle.plan_meaning.specs.Messages.{started}

-- what isn't there may not be named
abbrev pub found : {X : Type 0} → Option X → (X → Step Abreast) → Step Abreast
found (Some x) next = next x
found None next = Stops Wrong

-- ---- rows that need scalars and slots alone: all processors go the same way
abbrev pub kind_number : TrapKind → ℕ
kind_number kind.DivideByZero = 1
kind_number kind.OutsideStorage = 2
kind_number kind.RegionLimit = 3
kind_number kind.RegionMismatch = 4

abbrev pub is_ending : End → End → Bool
is_ending Done Done = true
is_ending (Trap kind line) (Trap other at) =
    (kind_number kind == kind_number other) && (line == at)
is_ending one other = false

-- regions that are told alike
abbrev pub is_dim : Dim → Dim → Bool
is_dim (dim.Range lo hi step align) (dim.Range low high by at) =
    int_eq lo low && (int_eq hi high && (int_eq step by && int_eq align at))
is_dim dim.Flood dim.Flood = true
is_dim one other = false

abbrev pub is_region : Region → Region → Bool
is_region one other = (one.rank == other.rank) && pointwise is_dim one.dims other.dims

-- on, with the same regions in all slots; to one goal; or to one end
abbrev pub is_way : Control → Control → Bool
is_way (control.Steps one) (control.Steps other) = pointwise is_region one.slots other.slots
is_way (control.Leaps goal) (control.Leaps other) = goal == other
is_way (control.Ends ending) (control.Ends other) = is_ending ending other
is_way one other = false

abbrev pub registers_or : Control → Registers → Registers
registers_or (control.Steps registers) before = registers
registers_or other before = before

abbrev pub registers_of : Share → Registers
registers_of share = record { scalars = share.scalars; slots = share.slots }

abbrev pub with_registers : Share → Registers → Share
with_registers share registers =
    record share { scalars = registers.scalars; slots = registers.slots }

-- an end leaves no exchange open
abbrev pub ends_where : Bool → End → Step Abreast
ends_where true ending = Stops (Ends ending)
ends_where false ending = Stops Wrong

abbrev pub leaps_where : Bool → ℕ → Effect Abreast
leaps_where true goal = Leaps goal
leaps_where false goal = Does (Stops Wrong)

module _ (code : Tables) (row : Instr) (all : Abreast) where
  abbrev pub control_of : ℕ → Control
  control_of p = control.control code (registers_of (all.shares p)) row

  abbrev pub go_one_way : Bool
  go_one_way = every code (λ p. is_way (control_of 0) (control_of p))

  abbrev pub shares_on : Abreast
  shares_on = record all {
    shares = λ p.
        with_registers (all.shares p) (registers_or (control_of p) (registers_of (all.shares p)));
  }

  abbrev pub controlled_as : Control → Effect Abreast
  controlled_as (control.Steps registers) = Does (go_where go_one_way [] shares_on)
  controlled_as (control.Leaps goal) = leaps_where go_one_way goal
  controlled_as (control.Ends ending) = Does (ends_where (go_one_way && is_quiet all) ending)
  controlled_as control.Outside = Does (Stops Wrong)

  abbrev pub controlled : Effect Abreast
  controlled = controlled_as (control_of 0)

-- a test that goes on passes
abbrev pub tested : Effect Abreast → Effect Abreast
tested (Does (Goes bytes all)) = Passes
tested effect = effect

-- ---- rows of one turn, on each processor by itself: `room`, `clear` and prints
module _ (code : Tables) (row : Instr) (all : Abreast) where
  abbrev pub action_of : ℕ → Action
  action_of p = turn.act_at code p (locals_of all p) (Some row)

  abbrev pub alone : Step Abreast
  alone =
      go_where (every code (λ p. leaves_row (action_of p))) (shown_of (action_of 0))
      (record all { shares = λ p. share_of (next_or (locals_of all p) (action_of p)) })

-- a print of a value, which a zero divisor ends at line 0
abbrev pub ended_by : Action → Option End
ended_by (Moves next sent shown) = next.ended
ended_by action = None

abbrev pub is_ended_as : End → Option End → Bool
is_ended_as ending (Some other) = is_ending ending other
is_ended_as ending None = false

abbrev pub print_ends : Tables → Instr → Abreast → Option End → Step Abreast
print_ends code row all (Some ending) =
    ends_where
    (is_quiet all && every code (λ p. is_ended_as ending (ended_by (action_of code row all p))))
    ending
print_ends code row all None = alone code row all

abbrev pub value_printed : Tables → Instr → Abreast → Step Abreast
value_printed code row all = print_ends code row all (ended_by (action_of code row all 0))

-- ---- rows in which all come to one value, along a tree or not
module _ (code : Tables) (all : Abreast) where
  abbrev pub folded : ℕ → Fold → Step Abreast
  folded scalar f =
      let value : ℤ =
      joined_over (processors code) (joined f) (scalar_at scalar) (locals_of all) in
      go_where (is_quiet all) []
      (record all {
        shares = λ p. record (all.shares p) {
          scalars = slice_set (all.shares p).scalars scalar value;
        };
      })

  -- the flag is cleared; or all end, at the line of the least member that met a zero divisor
  abbrev pub voted_as : ℕ → Option ℕ → Step Abreast
  voted_as group None =
      go_where (is_quiet all) []
      (record all { shares = λ p. record (all.shares p) { flag = None } })
  voted_as group (Some member) =
      ends_where (is_quiet all) (Trap kind.DivideByZero (group_line code group member))

  abbrev pub voted : ℕ → Step Abreast
  voted group =
      voted_as group (word_flag
      (joined_over (processors code) least_flag (λ local. flag_word local.flag) (locals_of all)))

-- ---- all rows. A row is seen with the one behind it.
pub record Followed : Type 0 where
  pub row : Instr
  pub next : Option Instr

abbrev pub all_followed : List Instr → List Followed
all_followed [] = []
all_followed (row ∷ []) = record { row = row; next = None } ∷ []
all_followed (row ∷ next ∷ rows) =
    record { row = row; next = Some next } ∷ all_followed (next ∷ rows)

abbrev pub is_vote_of : ℕ → Option Instr → Bool
is_vote_of group (Some (instr.Vote other)) = group == other
is_vote_of group (Some (instr.TreeVote other)) = group == other
is_vote_of group next = false

-- over links that hold so many messages, with at most n turns of each loop within a group
module _ (code : Tables) (links : Option ℕ) (n : ℕ) where
  abbrev pub loop_does : ℕ → ℕ → Option Instr → Abreast → Step Abreast
  loop_does slot group next all =
      found (slice_get code.groups group) (λ members.
      looped code n (is_vote_of group next) slot members all)

  abbrev pub row_does : Instr → Option Instr → Abreast → Effect Abreast
  row_does (instr.Loop slot group) next all = Does (loop_does slot group next all)
  row_does (instr.Start number) next all =
      Does (found (slice_get code.exchanges number) (λ items.
      started code (λ p. exchange.started code p number items) all links number))
  row_does (instr.Finish number) next all =
      Does (found (slice_get code.exchanges number) (λ items.
      finished code (λ p. exchange.finished code p number items) all number))
  row_does (instr.Edge border array slot shift) next all =
      Does (delivered code (λ p. delivery.edged code p border array slot shift) all)
  row_does (instr.Flood array target from source) next all =
      Does (delivered code (λ p. delivery.flooded code p array target from source) all)
  row_does (instr.Part array target f from source) next all =
      Does (delivered code (λ p. delivery.parted code p array target f from source) all)
  row_does (instr.Scan array slot f along from mask) next all =
      Does (delivered code (λ p. scan.scanned_row code p f along from mask array slot) all)
  row_does (instr.Gather truth array slot) next all =
      Does (delivered code (λ p. gather.gathered code p truth array slot) all)
  row_does (instr.Remap array slot from parts) next all =
      Does (found (slice_get code.arrays from) (λ row.
      remapped code
      (λ p. remap.remapped code p array slot from (filter_map (λ part. part) parts) row) all))
  row_does (instr.Vote group) next all = Does (voted code all group)
  row_does (instr.TreeVote group) next all = Does (voted code all group)
  row_does (instr.Fold scalar f) next all = Does (folded code all scalar f)
  row_does (instr.TreeFold scalar f) next all = Does (folded code all scalar f)
  row_does (instr.Room array slot) next all = Does (alone code (instr.Room array slot) all)
  row_does (instr.Clear array) next all = Does (alone code (instr.Clear array) all)
  row_does (instr.Print text) next all = Does (alone code (instr.Print text) all)
  row_does (instr.Number expr) next all = Does (value_printed code (instr.Number expr) all)
  row_does (instr.Truth expr) next all = Does (value_printed code (instr.Truth expr) all)
  row_does (instr.Unless expr goal line) next all =
      tested (controlled code (instr.Unless expr goal line) all)
  row_does row next all = controlled code row all

  abbrev pub plan_act : Followed → Abreast → Effect Abreast
  plan_act one all = row_does one.row one.next all

-- behind the last row is the end
abbrev pub plan_rows : Tables → List Followed
plan_rows code = all_followed (code.code ++ instr.End ∷ [])

-- The run of a plan from its start, which stops directly behind the a-th jump or test, and at a
-- group that wants a further turn behind the n-th of a loop.
abbrev pub plan_run : Tables → Option ℕ → ℕ → ℕ → Result
plan_run code links a n = runs (plan_act code links n) (plan_rows code) a 0 (start_abreast code)
