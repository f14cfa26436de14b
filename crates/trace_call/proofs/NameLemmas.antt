-- Whom a processor has a message for, or awaits one of, is whom its stage names.
use Rattle.std.proofs.Common.{ℕ, zero, suc, Bool, List, refl, ℤ}
use Rattle.std.specs.Prelude.{Option, Some, None, slice_get, option_and_then}
use Rattle.std.specs.Fmt.{signed_decimal}
use Rattle.std.specs.Option.{option_map}
use Rattle.node_form.specs.of_zpl_nums.declared.ends.End.{End}
use Rattle.node_form.specs.of_zpl_nums.declared.folds.Fold.{Fold}
use Rattle.node_form.specs.of_zpl_arrays.Array.{Array}
use Rattle.node_form.specs.of_zpl_arrays.ArrayText.{truth_text}
use Rattle.node_form.specs.Control.{Control, Steps, Leaps, Ends, Outside, control}
use Rattle.node_form.specs.Group as group
use Rattle.node_form.specs.Group.{Ran, Through, Again, Divided}
use Rattle.node_form.specs.Value.{Computed, Gives, Divides, Lacks}
use Rattle.node_form.specs.declared.arrays.ArrayRow.{ArrayRow}
use Rattle.node_form.specs.declared.instructions.Instr.{Instr}
use Rattle.node_form.specs.declared.instructions.Instr.TheVariants as instr
use Rattle.node_form.specs.declared.members.Member.{Member}
use Rattle.node_form.specs.declared.tables.Tables.{Tables}
use Rattle.grid_layout.specs.of_zpl_region.declared.regions.Region.{Region}
use Rattle.grid_meaning.specs.Action.{Action, prints}
use Rattle.grid_meaning.specs.Collective.{Collective, Stage, Alone, Sends, TakesFrom, Last, decided, folded, voted, star, tree, stage_of}
use Rattle.grid_meaning.specs.Delivery.{edged, flooded, parted}
use Rattle.grid_meaning.specs.Exchange.{started, finished}
use Rattle.grid_meaning.specs.Gather.{gather_last, gathered, prints_gathered}
use Rattle.grid_meaning.specs.Local.{Local}
use Rattle.grid_meaning.specs.Loop.{after_members, looped, turn_at_index}
use Rattle.grid_meaning.specs.Owner.{region_in, tuples_of}
use Rattle.grid_meaning.specs.Place.{values_at}
use Rattle.grid_meaning.specs.Remap.{remapped}
use Rattle.grid_meaning.specs.Room.{cleared, roomed}
use Rattle.grid_meaning.specs.Rows.{collective}
use Rattle.grid_meaning.specs.Scan.{scan_done, scanned_row}
use Rattle.grid_meaning.specs.Turn.{act, act_at, act_in, act_together, controlled, expression_value, prints_text, prints_value, registers_of, sends, steps_on, unless_ended}
use Rattle.trace_call.specs.Stages.{NamesAs, stage_at, stage_running}

-- an action that names none, so that each stage will do
abbrev NamesNone : Action → Type 0
NamesNone action = (at : Option Stage) → NamesAs at action

-- ---- rows in which a processor works by itself
none-controlled : (local : Local) (c : Control) → NamesNone (controlled local c)
none-controlled local (Steps registers) at = tt
none-controlled local (Leaps goal) at = tt
none-controlled local (Ends ending) at = tt
none-controlled local Outside at = tt

none-prints : (p : ℕ) (local : Local) (bytes : List ℕ) → NamesNone (prints p local bytes)
none-prints zero local bytes at = tt
none-prints (suc p) local bytes at = tt

none-text : (p : ℕ) (local : Local) (text : Option (List ℕ)) → NamesNone (prints_text p local text)
none-text p local (Some text) at = none-prints p local text at
none-text p local None at = tt

none-value : (p : ℕ) (local : Local) (value : Computed ℤ) (text : ℤ → List ℕ)
    → NamesNone (prints_value p local value text)
none-value p local (Gives value) text at = none-prints p local (text value) at
none-value p local Divides text at = tt
none-value p local Lacks text at = tt

none-ran : (local : Local) (ran : Ran (List Array)) → NamesNone (after_members local ran)
none-ran local (Through point) at = tt
none-ran local (Again member point) at = tt
none-ran local (Divided member point) at = tt
none-ran local group.Unheld at = tt

none-index : (code : Tables) (local : Local) (all : List Member) (t : Option (List ℤ))
    → NamesNone (turn_at_index code all local t)
none-index code local all (Some t) at = none-ran local _ at
none-index code local all None at = tt

none-loop : (code : Tables) (p : ℕ) (local : Local) (region : Option Region)
    (all : Option (List Member)) → NamesNone (looped code p local region all)
none-loop code p local None None at = tt
none-loop code p local None (Some all) at = tt
none-loop code p local (Some region) None at = tt
none-loop code p local (Some region) (Some all) at = none-index code local all _ at

none-room : (code : Tables) (p : ℕ) (local : Local) (array : ℕ) (row : Option ArrayRow)
    (region : Option Region) → NamesNone (roomed code p local array row region)
none-room code p local array None None at = tt
none-room code p local array None (Some region) at = tt
none-room code p local array (Some row) None at = tt
none-room code p local array (Some row) (Some region) at = tt

none-clear : (local : Local) (array : ℕ) (store : Option Array)
    → NamesNone (cleared local array store)
none-clear local array None at = tt
none-clear local array (Some store) at = tt

-- ---- the last turn of rows in which processors work together
none-decided : (code : Tables) (number : ℕ) (local : Local) (flag : Option ℕ)
    → NamesNone (decided code number local flag)
none-decided code number local None at = tt
none-decided code number local (Some member) at = tt

none-gather : (code : Tables) (p : ℕ) (truth : Bool) (array : ℕ) (region : Region) (local : Local)
    → NamesNone (gather_last code p truth array region local)
none-gather code zero truth array region local at =
    by (values_at local.stores array (tuples_of code 0 region))
  where
    by : (own : Option (List ℤ)) → NamesAs at (prints_gathered code truth region local own)
    by (Some own) = tt
    by None = tt
none-gather code (suc p) truth array region local at = tt

none-scan : (code : Tables) (p : ℕ) (f : Fold) (along from : ℕ) (mask : Option ℕ)
    (done : Option Local) → NamesNone (scan_done code p f along from mask done)
none-scan code p f along from mask (Some local) at = tt
none-scan code p f along from mask None at = tt

-- ---- by the stage
module _ (code : Tables) (p : ℕ) (local : Local) where
  abbrev StageOf : Option Collective → Option Stage
  StageOf found = option_and_then (λ row. stage_of row local) found

  named_sends : (row : Collective) (to : ℕ) (words : Option (List ℤ))
      → NamesAs (Some (Sends to)) (sends row local to words)
  named_sends row to (Some words) = refl
  named_sends row to None = tt

  none_alone : (next : Option Local) → NamesNone (steps_on next)
  none_alone (Some next) at = tt
  none_alone None at = tt

  named_in : (row : Collective) → NamesNone (row.last local) → (at : Option Stage)
      → NamesAs at (act_in row local at)
  named_in row last (Some Alone) = none_alone (row.alone local) (Some Alone)
  named_in row last (Some (Sends to)) = named_sends row to (row.words_to local to)
  named_in row last (Some (TakesFrom from)) = refl
  named_in row last (Some Last) = last (Some Last)
  named_in row last None = tt

  module _ (own : Control) where
    named_row : (row : Collective) → NamesNone (row.last local)
        → NamesAs (StageOf (Some row)) (act_together (Some row) local own)
    named_row row last = named_in row last (stage_of row local)

    named_found : {X : Type 0} (found : Option X) (row : X → Collective)
        → ((x : X) → NamesNone ((row x).last local))
        → NamesAs (StageOf (option_map row found)) (act_together (option_map row found) local own)
    named_found None row last = none-controlled local own _
    named_found (Some x) row last = named_row (row x) (last x)

  abbrev own : Instr → Control
  own row = control code (registers_of local) row

  -- ---- each row
  named_at : (found : Option Instr)
      → NamesAs (StageOf (option_and_then (collective code p) found)) (act_at code p local found)
  named_at None = tt
  named_at (Some (instr.Loop slot number)) =
      none-loop code p local (slice_get local.slots slot) (slice_get code.groups number) _
  named_at (Some (instr.Room array slot)) =
      none-room code p local array (slice_get code.arrays array) (slice_get local.slots slot) _
  named_at (Some (instr.Clear array)) = none-clear local array (slice_get local.stores array) _
  named_at (Some (instr.Print text)) = none-text p local (slice_get code.texts text) _
  named_at (Some (instr.Number expr)) =
      none-value p local (expression_value code local expr) signed_decimal _
  named_at (Some (instr.Truth expr)) =
      none-value p local (expression_value code local expr) truth_text _
  named_at (Some (instr.Start exchange)) =
      named_found (own (instr.Start exchange)) (slice_get code.exchanges exchange)
      (started code p exchange) (λ items at. tt)
  named_at (Some (instr.Finish exchange)) =
      named_found (own (instr.Finish exchange)) (slice_get code.exchanges exchange)
      (finished code p exchange) (λ items at. tt)
  named_at (Some (instr.Edge kind array slot shift)) =
      named_row (own (instr.Edge kind array slot shift)) (edged code p kind array slot shift)
      (λ at. tt)
  named_at (Some (instr.Flood array target from source)) =
      named_row (own (instr.Flood array target from source))
      (flooded code p array target from source) (λ at. tt)
  named_at (Some (instr.Part array target f from source)) =
      named_row (own (instr.Part array target f from source))
      (parted code p array target f from source) (λ at. tt)
  named_at (Some (instr.Scan array slot f along from mask)) =
      named_row (own (instr.Scan array slot f along from mask))
      (scanned_row code p f along from mask array slot) (none-scan code p f along from mask _)
  named_at (Some (instr.Gather truth array slot)) =
      named_row (own (instr.Gather truth array slot)) (gathered code p truth array slot)
      (none-gather code p truth array (region_in local slot) local)
  named_at (Some (instr.Remap array slot from parts)) =
      named_found (own (instr.Remap array slot from parts)) (slice_get code.arrays from)
      (remapped code p array slot from _) (λ row at. tt)
  named_at (Some (instr.Vote number)) =
      named_row (own (instr.Vote number)) (voted code (star code p) number)
      (none-decided code number local _)
  named_at (Some (instr.TreeVote number)) =
      named_row (own (instr.TreeVote number)) (voted code (tree code p) number)
      (none-decided code number local _)
  named_at (Some (instr.Fold scalar f)) =
      named_row (own (instr.Fold scalar f)) (folded (star code p) scalar f) (λ at. tt)
  named_at (Some (instr.TreeFold scalar f)) =
      named_row (own (instr.TreeFold scalar f)) (folded (tree code p) scalar f) (λ at. tt)
  named_at (Some row) = none-controlled local (own row) None

  named_unless : (ended : Option End) → NamesAs (stage_running code p local ended)
      (unless_ended ended (act_at code p local (slice_get code.code local.at)))
  named_unless (Some ending) = tt
  named_unless None = named_at (slice_get code.code local.at)

  pub named_as : NamesAs (stage_at code p local) (act code p local)
  named_as = named_unless local.ended
