-- No processor ends so that it wants more.
use Rattle.std.proofs.Common.{◌≡◌, ◌≢◌, ℕ, zero, suc, ◌==◌, Bool, true, false, ℤ, List, [], ◌∷◌, length, map, take, Option, Some, None, subst, ap, ◌∙◌, cond}
use Rattle.std.specs.Prelude.{All, slice_get, slice_set, option_and_then, ⊤}
use Rattle.std.specs.Option.{IfSome, option_map}
use Rattle.std.proofs.lemmas.List.Elements.{All-nil, All-cons, All-head, All-tail}
use Rattle.zpl_nums.specs.declared.ends.End.{End}
use Rattle.zpl_nums.specs.declared.ends.End.TheVariants.{Done, Trap, More}
use Rattle.zpl_nums.specs.declared.ends.TrapKind.{TrapKind}
use Rattle.zpl_nums.specs.declared.folds.Fold.{Fold}
use Rattle.zpl_region.specs.declared.regions.Region.{Region}
use Rattle.grid_meaning.specs.of_zpl_arrays.Array.{Array}
use Rattle.grid_links.specs.declared.messages.Message.{Message}
use Rattle.grid_links.specs.Machine.{Ended, Blocked, Goes, Awaits, Takes, Refuses, Heads, Rooms, Moves, Waiting, Over, Stuck, awaits, goes, over_links, takes_from, where_room}
use Rattle.grid_links.specs.Run as run
use Rattle.grid_meaning.specs.of_node_form.declared.arrays.ArrayRow.{ArrayRow}
use Rattle.grid_meaning.specs.of_node_form.declared.arrays.Item.{Item}
use Rattle.grid_meaning.specs.of_node_form.declared.instructions.Instr.{Instr}
use Rattle.grid_meaning.specs.of_node_form.declared.instructions.Instr.TheVariants as instr
use Rattle.grid_meaning.specs.of_node_form.declared.members.Member.{Member}
use Rattle.grid_meaning.specs.of_node_form.declared.tables.Tables.{Tables}
use Rattle.zpl_nums.specs.declared.ends.TrapKind.TheVariants.{OutsideStorage, RegionMismatch}
use Rattle.zpl_nums.specs.Integer.{is_true}
use Rattle.zpl_region.specs.Tests.{is_within_limit}
use Rattle.grid_meaning.specs.of_zpl_arrays.Border.{border_conforms}
use Rattle.grid_meaning.specs.of_zpl_arrays.Reference.{is_reference}
use Rattle.grid_meaning.specs.of_node_form.Fits.{storage_of}
use Rattle.grid_meaning.specs.of_node_form.Control.{Registers, Control, Steps, Leaps, Ends, Outside, conforms, control, formed_by, part_dims, region_of, register_value, with_computed, with_row, with_scalar, checked, limited, branched}
use Rattle.grid_meaning.specs.of_node_form.Group.{Ran, Through, Again, Divided, Unheld}
use Rattle.grid_meaning.specs.of_node_form.Value.{Computed, Gives, Divides, Lacks}
use Rattle.grid_meaning.specs.Action.{Action, Feeding, StuckKind, prints}
use Rattle.grid_meaning.specs.Collective.{Collective, Stage, Alone, Sends, TakesFrom, Last, Kin, decided, folded, keeping, voted}
use Rattle.grid_meaning.specs.Delivery.{Delivery, delivered, each_word, edging, flooding, parting}
use Rattle.grid_meaning.specs.Exchange.{finished, started}
use Rattle.grid_meaning.specs.Gather.{gather_last, gathered, prints_gathered}
use Rattle.grid_meaning.specs.Grid.{EndsAs, Grid, after, after_from, given_turn, next_turn, processors, start_grid, system_over}
use Rattle.grid_meaning.specs.Local.{Local, processor_numbers, start_local}
use Rattle.grid_meaning.specs.Loop.{after_members, looped, turn_at_index}
use Rattle.grid_meaning.specs.Order.{given}
use Rattle.grid_meaning.specs.Owner.{region_in}
use Rattle.grid_meaning.specs.Place.{with_values}
use Rattle.grid_meaning.specs.of_zpl_arrays.Row.{running}
use Rattle.grid_meaning.specs.Remap.{Want, first_values, remap_own, remapped, request_taken, wants, wants_at_once}
use Rattle.grid_meaning.specs.Room.{cleared, roomed}
use Rattle.grid_meaning.specs.Rows.{collective}
use Rattle.grid_meaning.specs.Scan.{before_line, line_dim, line_heads, line_of, line_totals, scan_done, scan_values, scanned_row, with_line, with_lines}
use Rattle.grid_meaning.specs.Turn.{Turn, act, act_at, act_in, act_together, controlled, fed, fed_at, fed_in, fed_together, prints_text, prints_value, sends, steps_on, takes, unless_ended}
use Rattle.grid_runs.specs.Run.{Run, grid_at}

-- ---- what is wanted of states
abbrev pub IsFinal : Local → Type 0
IsFinal local = local.ended ≢ Some More

-- of what a processor does, of what a message makes of it, and of its turns
abbrev Acts : Action → Type 0
Acts Ended = ⊤
Acts (Blocked kind) = ⊤
Acts (Goes next sent shown) = IsFinal next
Acts (Awaits from) = ⊤

abbrev Feeds : Feeding → Type 0
Feeds (Takes next) = IsFinal next
Feeds (Refuses kind) = ⊤

abbrev Turns : Turn → Type 0
Turns (Moves move) = IsFinal move.next
Turns Waiting = ⊤
Turns Over = ⊤
Turns (Stuck kind) = ⊤

abbrev Controls : Control → Type 0
Controls (Steps registers) = ⊤
Controls (Leaps goal) = ⊤
Controls (Ends ending) = ending ≢ More
Controls Outside = ⊤

-- each as a record, which tells what it is said of
record ActsWell (action : Action) : Type 0 where
  it : Acts action

record FeedsWell (feeding : Feeding) : Type 0 where
  it : Feeds feeding

record TurnsWell (turn : Turn) : Type 0 where
  it : Turns turn

record ControlsWell (does : Control) : Type 0 where
  it : Controls does

record GivesWell (next : Option Local) : Type 0 where
  it : IfSome next IsFinal

trapped : (kind : TrapKind) (line : ℕ) → Trap kind line ≢ More
trapped kind line = λ same. cc

done : Done ≢ More
done = λ same. cc

some : (ending : End) → ending ≢ More → Some ending ≢ Some More
some ending fine = λ same. fine (let e : ending ≡ More = cc in e)

-- ---- options
next_if : {X : Type 0} (f : X → Option Local) → ((x : X) → GivesWell (f x)) → (o : Option X)
    → GivesWell (option_and_then f o)
next_if f each (Some x) = each x
next_if f each None = record { it = tt }

with_stores : (local : Local) → IsFinal local → (stores : Option (List Array))
    → GivesWell (option_map (λ stores. record local { stores = stores }) stores)
with_stores local fine (Some stores) = record { it = fine }
with_stores local fine None = record { it = tt }

-- ---- rows that need scalars and slots alone
control_computed : {X : Type 0} (computed : Computed X) (line : ℕ) (next : X → Control)
    → ((x : X) → ControlsWell (next x)) → ControlsWell (with_computed computed line next)
control_computed (Gives x) line next each = each x
control_computed Divides line next each = record { it = trapped _ line }
control_computed Lacks line next each = record { it = tt }

control_row : {X : Type 0} (row : Option X) (next : X → Control) → ((x : X) → ControlsWell (next x))
    → ControlsWell (with_row row next)
control_row (Some x) next each = each x
control_row None next each = record { it = tt }

control_checked : (registers : Registers) (stands : Bool) (kind : TrapKind) (line : ℕ)
    → ControlsWell (checked registers stands kind line)
control_checked registers true kind line = record { it = tt }
control_checked registers false kind line = record { it = trapped kind line }

control_limited : (registers : Registers) (slot line : ℕ) (region : Region) (within : Bool)
    → ControlsWell (limited registers slot line region within)
control_limited registers slot line region true = record { it = tt }
control_limited registers slot line region false = record { it = trapped _ line }

control_branched : (registers : Registers) (stands : Bool) (goal : ℕ)
    → ControlsWell (branched registers stands goal)
control_branched registers true goal = record { it = tt }
control_branched registers false goal = record { it = tt }

controls : (code : Tables) (registers : Registers) (row : Instr) → ControlsWell (control code registers row)
controls code registers (instr.Set scalar expr line) =
    control_computed (register_value code registers expr) line (with_scalar registers scalar) (λ value. record { it = tt })
controls code registers (instr.Fix slot region) = record { it = tt }
controls code registers (instr.Dims slot parts line) =
    control_row (slice_get code.slots slot) _ (λ rank.
    control_computed (part_dims code registers 0 (take rank parts)) line _ (λ dims.
    control_limited registers slot line (region_of rank dims) (is_within_limit (region_of rank dims))))
controls code registers (instr.Formed form slot from shift line) =
    control_row (slice_get registers.slots from) _ (λ region.
    control_limited registers slot line (formed_by form shift region) (is_within_limit (formed_by form shift region)))
controls code registers (instr.Need slot array shift line) =
    control_row (slice_get registers.slots slot) _ (λ region.
    control_row (slice_get code.arrays array) _ (λ row.
    control_checked registers (is_reference shift region (storage_of row)) OutsideStorage line))
controls code registers (instr.Same target source kind line) =
    control_row (slice_get registers.slots target) _ (λ region.
    control_row (slice_get registers.slots source) _ (λ other.
    control_checked registers (conforms kind region other) RegionMismatch line))
controls code registers (instr.Fits slot shift line) =
    control_row (slice_get registers.slots slot) _ (λ region.
    control_checked registers (border_conforms shift region) RegionMismatch line)
controls code registers (instr.Room array slot) = record { it = tt }
controls code registers (instr.Clear array) = record { it = tt }
controls code registers (instr.Loop slot group) = record { it = tt }
controls code registers (instr.Start exchange) = record { it = tt }
controls code registers (instr.Finish exchange) = record { it = tt }
controls code registers (instr.Edge kind array slot shift) = record { it = tt }
controls code registers (instr.Flood array target from source) = record { it = tt }
controls code registers (instr.Part array target f from source) = record { it = tt }
controls code registers (instr.Scan array slot f along from mask) = record { it = tt }
controls code registers (instr.Vote group) = record { it = tt }
controls code registers (instr.Fold scalar f) = record { it = tt }
controls code registers (instr.TreeVote group) = record { it = tt }
controls code registers (instr.TreeFold scalar f) = record { it = tt }
controls code registers (instr.Print text) = record { it = tt }
controls code registers (instr.Number expr) = record { it = tt }
controls code registers (instr.Truth expr) = record { it = tt }
controls code registers (instr.Gather truth array slot) = record { it = tt }
controls code registers (instr.Jump goal) = record { it = tt }
controls code registers (instr.Unless expr goal line) =
    control_computed (register_value code registers expr) line _ (λ value.
    control_branched registers (is_true value) goal)
controls code registers (instr.Trap kind line) = record { it = trapped kind line }
controls code registers instr.End = record { it = done }
controls code registers (instr.Remap array slot from parts) = record { it = tt }

module _ (local : Local) (fine : IsFinal local) where
  acts_controlled : (does : Control) → ControlsWell does → ActsWell (controlled local does)
  acts_controlled (Steps registers) is = record { it = fine }
  acts_controlled (Leaps goal) is = record { it = fine }
  acts_controlled (Ends ending) is = record { it = some ending is.it }
  acts_controlled Outside is = record { it = tt }

  -- ---- rows that print, and those on stores
  acts_prints : (p : ℕ) (bytes : List ℕ) → ActsWell (prints p local bytes)
  acts_prints zero bytes = record { it = fine }
  acts_prints (suc p) bytes = record { it = fine }

  acts_text : (p : ℕ) (text : Option (List ℕ)) → ActsWell (prints_text p local text)
  acts_text p (Some text) = acts_prints p text
  acts_text p None = record { it = tt }

  acts_value : (p : ℕ) (value : Computed ℤ) (text : ℤ → List ℕ) → ActsWell (prints_value p local value text)
  acts_value p (Gives value) text = acts_prints p (text value)
  acts_value p Divides text = record { it = some _ (trapped _ 0) }
  acts_value p Lacks text = record { it = tt }

  acts_roomed : (code : Tables) (p array : ℕ) (row : Option ArrayRow) (region : Option Region)
      → ActsWell (roomed code p local array row region)
  acts_roomed code p array (Some row) (Some region) = record { it = fine }
  acts_roomed code p array (Some row) None = record { it = tt }
  acts_roomed code p array None region = record { it = tt }

  acts_cleared : (array : ℕ) (store : Option Array) → ActsWell (cleared local array store)
  acts_cleared array (Some store) = record { it = fine }
  acts_cleared array None = record { it = tt }

  -- ---- loops
  acts_members : (ran : Ran (List Array)) → ActsWell (after_members local ran)
  acts_members (Through point) = record { it = fine }
  acts_members (Again member point) = record { it = fine }
  acts_members (Divided member point) = record { it = fine }
  acts_members Unheld = record { it = tt }

  acts_index : (code : Tables) (all : List Member) (t : Option (List ℤ)) → ActsWell (turn_at_index code all local t)
  acts_index code all (Some t) = acts_members _
  acts_index code all None = record { it = fine }

  acts_looped : (code : Tables) (p : ℕ) (region : Option Region) (group : Option (List Member))
      → ActsWell (looped code p local region group)
  acts_looped code p (Some region) (Some all) = acts_index code all _
  acts_looped code p (Some region) None = record { it = tt }
  acts_looped code p None group = record { it = tt }

-- ---- rows in which processors work together
record IsFinalRow (row : Collective) (local : Local) : Type 0 where
  alone : GivesWell (row.alone local)
  taken : (from : ℕ) (words : List ℤ) → GivesWell (row.taken local from words)
  last : ActsWell (row.last local)

module _ (local : Local) (fine : IsFinal local) where
  final_folded : (kin : Kin) (scalar : ℕ) (f : Fold)
      → IsFinalRow (folded kin scalar f) local
  final_folded kin scalar f = record { alone = record { it = tt }; taken = λ from words. record { it = fine }; last = record { it = fine } }

  acts_decided : (code : Tables) (group : ℕ) (flag : Option ℕ) → ActsWell (decided code group local flag)
  acts_decided code group None = record { it = fine }
  acts_decided code group (Some member) = record { it = some _ (trapped _ _) }

  final_voted : (code : Tables) (kin : Kin) (group : ℕ) → IsFinalRow (voted code kin group) local
  final_voted code kin group =
      record { alone = record { it = tt }; taken = λ from words. record { it = fine }; last = acts_decided code group _ }

  final_delivered : (code : Tables) (p : ℕ) (d : Delivery) → IsFinalRow (delivered code p d) local
  final_delivered code p d = record {
    alone = next_if _ (λ words. with_stores local fine _) (each_word (d.word local) (d.own local));
    taken = λ from words. with_stores local fine _;
    last = record { it = fine };
  }

  final_started : (code : Tables) (p exchange : ℕ) (items : List Item) → IsFinalRow (started code p exchange items) local
  final_started code p exchange items = record { alone = record { it = tt }; taken = λ from words. record { it = tt }; last = record { it = fine } }

  final_finished : (code : Tables) (p exchange : ℕ) (items : List Item) → IsFinalRow (finished code p exchange items) local
  final_finished code p exchange items =
      record { alone = record { it = tt }; taken = λ from words. with_stores local fine _; last = record { it = fine } }

  acts_gathered : (code : Tables) (truth : Bool) (region : Region) (own : Option (List ℤ))
      → ActsWell (prints_gathered code truth region local own)
  acts_gathered code truth region (Some own) = record { it = fine }
  acts_gathered code truth region None = record { it = tt }

  acts_gather : (code : Tables) (p : ℕ) (truth : Bool) (array : ℕ) (region : Region)
      → ActsWell (gather_last code p truth array region local)
  acts_gather code zero truth array region = acts_gathered code truth region _
  acts_gather code (suc p) truth array region = record { it = fine }

  final_gathered : (code : Tables) (p : ℕ) (truth : Bool) (array slot : ℕ)
      → IsFinalRow (gathered code p truth array slot) local
  final_gathered code p truth array slot =
      record { alone = record { it = tt }; taken = λ from words. record { it = fine }; last = acts_gather code p truth array _ }

  -- remap
  request_final : (words : List ℤ) (q : ℕ) (none : Bool) → IsFinal (cond none local (keeping local q words))
  request_final words q true = fine
  request_final words q false = fine

  final_request : (code : Tables) (p array slot from : ℕ) (parts : List ℕ) (row : ArrayRow) (q : ℕ) (words : List ℤ) (owns : Bool)
      → GivesWell (request_taken code p array slot from parts row local q words owns)
  final_request code p array slot from parts row q words true = record { it = request_final words q (length words == 0) }
  final_request code p array slot from parts row q words false = record { it = tt }

  remap_taken : (asks : Bool) (one other : Option Local) → GivesWell one → GivesWell other → GivesWell (cond asks one other)
  remap_taken true one other is also = is
  remap_taken false one other is also = also

  remap_final : (code : Tables) (p array slot from : ℕ) (parts : List ℕ) (row : ArrayRow) (all : List Want)
      → GivesWell (remap_own code p array slot from parts row local all)
  remap_final code p array slot from parts row all =
      let first = wants_at_once code p array slot from parts row all in
      next_if {X = List ℤ} _
      (λ values. with_stores local fine (with_values array (map (λ (want : Want). want.index) first) values local.stores))
      (first_values code p array slot from parts row local first)

  final_remapped : (code : Tables) (p array slot from : ℕ) (parts : List ℕ) (row : ArrayRow)
      → IsFinalRow (remapped code p array slot from parts row) local
  final_remapped code p array slot from parts row = record {
    alone = next_if {X = List Want} _ (remap_final code p array slot from parts row) (wants code p array slot from parts row local);
    taken = λ q words. remap_taken _ _ _ (final_request code p array slot from parts row q words _) (with_stores local fine _);
    last = record { it = fine };
  }

-- scan
module _ (code : Tables) (p : ℕ) (f : Fold) (along from : ℕ) (mask : Option ℕ) where
  acts_scanned : (next : Option Local) → GivesWell next → ActsWell (scan_done code p f along from mask next)
  acts_scanned (Some next) is = record { it = is.it }
  acts_scanned None is = record { it = tt }

  line_final : (array : ℕ) (old : Local) (region : Region) (own head : List ℤ) (local : Local) → IsFinal local
      → GivesWell (with_line code p f along from mask array old region own head local)
  line_final array old region own head local fine =
      let tuples = line_of code p region (line_dim region along) head in
      next_if {X = List (Option ℤ)} _
      (λ values. with_stores local fine (with_values array tuples (running f (before_line code p f along from mask old region own head) values) local.stores))
      (scan_values old from mask tuples)

  lines_next : (array : ℕ) (old : Local) (region : Region) (own : List ℤ) (heads : List (List ℤ)) (next : Option Local) → GivesWell next
      → ((local : Local) → IsFinal local → GivesWell (with_lines code p f along from mask array old region own heads local))
      → GivesWell (option_and_then (with_lines code p f along from mask array old region own heads) next)
  lines_next array old region own heads (Some next) is each = each next is.it
  lines_next array old region own heads None is each = record { it = tt }

  lines_final : (array : ℕ) (old : Local) (region : Region) (own : List ℤ) (heads : List (List ℤ)) (local : Local) → IsFinal local
      → GivesWell (with_lines code p f along from mask array old region own heads local)
  lines_final array old region own [] local fine = record { it = fine }
  lines_final array old region own (head ∷ heads) local fine =
      lines_next array old region own heads (with_line code p f along from mask array old region own head local)
      (line_final array old region own head local fine) (lines_final array old region own heads)

  final_scanned : (local : Local) → IsFinal local → (array slot : ℕ)
      → IsFinalRow (scanned_row code p f along from mask array slot) local
  final_scanned local fine array slot = record {
    alone = record { it = tt };
    taken = λ q words. record { it = fine };
    last =
        let region = region_in local slot in
        acts_scanned _ (next_if {X = List ℤ} _
        (λ own. lines_final array local region own (line_heads code p region (line_dim region along)) local fine)
        (line_totals code p f along from mask local region));
  }

-- ---- any row
module _ (code : Tables) (p : ℕ) (local : Local) (fine : IsFinal local) where
  record RowWell (row : Option Collective) : Type 0 where
    it : IfSome row (λ c. IsFinalRow c local)

  row_of : {X : Type 0} (row : X → Collective) → ((x : X) → IsFinalRow (row x) local) → (found : Option X)
      → RowWell (option_map row found)
  row_of row each (Some x) = record { it = each x }
  row_of row each None = record { it = tt }

  final_row : (row : Instr) → RowWell (collective code p row)
  final_row (instr.Start exchange) = row_of _ (final_started local fine code p exchange) (slice_get code.exchanges exchange)
  final_row (instr.Finish exchange) = row_of _ (final_finished local fine code p exchange) (slice_get code.exchanges exchange)
  final_row (instr.Edge kind array slot shift) = record { it = final_delivered local fine code p (edging code p kind array slot shift) }
  final_row (instr.Flood array target from source) =
      record { it = final_delivered local fine code p (flooding code p array target from source) }
  final_row (instr.Part array target f from source) =
      record { it = final_delivered local fine code p (parting code p array target f from source) }
  final_row (instr.Scan array slot f along from mask) = record { it = final_scanned code p f along from mask local fine array slot }
  final_row (instr.Gather truth array slot) = record { it = final_gathered local fine code p truth array slot }
  final_row (instr.Remap array slot from parts) =
      row_of _ (final_remapped local fine code p array slot from _) (slice_get code.arrays from)
  final_row (instr.Vote group) = record { it = final_voted local fine code _ group }
  final_row (instr.TreeVote group) = record { it = final_voted local fine code _ group }
  final_row (instr.Fold scalar f) = record { it = final_folded local fine _ scalar f }
  final_row (instr.TreeFold scalar f) = record { it = final_folded local fine _ scalar f }
  final_row row = record { it = tt }

  acts_steps : (next : Option Local) → GivesWell next → ActsWell (steps_on next)
  acts_steps (Some next) is = record { it = is.it }
  acts_steps None is = record { it = tt }

  acts_sends : (row : Collective) (to : ℕ) (words : Option (List ℤ)) → ActsWell (sends row local to words)
  acts_sends row to (Some words) = record { it = fine }
  acts_sends row to None = record { it = tt }

  acts_in : (row : Collective) → IsFinalRow row local → (stage : Option Stage) → ActsWell (act_in row local stage)
  acts_in row is (Some Alone) = acts_steps (row.alone local) is.alone
  acts_in row is (Some (Sends to)) = acts_sends row to (row.words_to local to)
  acts_in row is (Some (TakesFrom from)) = record { it = tt }
  acts_in row is (Some Last) = is.last
  acts_in row is None = record { it = tt }

  acts_together : (row : Option Collective) → RowWell row → (alone : Control) → ControlsWell alone
      → ActsWell (act_together row local alone)
  acts_together (Some row) is alone fits = acts_in row is.it _
  acts_together None is alone fits = acts_controlled local fine alone fits

  acts_row : (row : Instr) → ActsWell (act_together (collective code p row) local (control code (record { scalars = local.scalars; slots = local.slots }) row))
  acts_row row = acts_together (collective code p row) (final_row row) _ (controls code _ row)

  acts_at : (row : Option Instr) → ActsWell (act_at code p local row)
  acts_at None = record { it = some _ done }
  acts_at (Some (instr.Loop slot group)) =
      acts_looped local fine code p (slice_get local.slots slot) (slice_get code.groups group)
  acts_at (Some (instr.Room array slot)) = acts_roomed local fine code p array _ _
  acts_at (Some (instr.Clear array)) = acts_cleared local fine array _
  acts_at (Some (instr.Print text)) = acts_text local fine p _
  acts_at (Some (instr.Number expr)) = acts_value local fine p _ _
  acts_at (Some (instr.Truth expr)) = acts_value local fine p _ _
  acts_at (Some row) = acts_row row

  acts_unless : (ended : Option End) (action : Action) → ActsWell action → ActsWell (unless_ended ended action)
  acts_unless (Some ending) action is = record { it = tt }
  acts_unless None action is = is

  acts : ActsWell (act code p local)
  acts = acts_unless local.ended _ (acts_at (slice_get code.code local.at))

  -- ---- with a message
  feeds_taken : (next : Option Local) → GivesWell next → FeedsWell (takes next)
  feeds_taken (Some next) is = record { it = is.it }
  feeds_taken None is = record { it = tt }

  feeds_if : (stands : Bool) (one : Feeding) (kind : StuckKind) → FeedsWell one → FeedsWell (cond stands one (Refuses kind))
  feeds_if true one kind is = is
  feeds_if false one kind is = record { it = tt }

  feeds_in : (row : Collective) → IsFinalRow row local → (message : Message) (stage : Option Stage)
      → FeedsWell (fed_in row local message stage)
  feeds_in row is message (Some (TakesFrom from)) =
      feeds_if _ _ _ (feeds_if _ _ _ (feeds_taken (row.taken local from message.words) (is.taken from message.words)))
  feeds_in row is message (Some Alone) = record { it = tt }
  feeds_in row is message (Some (Sends to)) = record { it = tt }
  feeds_in row is message (Some Last) = record { it = tt }
  feeds_in row is message None = record { it = tt }

  feeds_together : (row : Option Collective) → RowWell row → (message : Message) → FeedsWell (fed_together row local message)
  feeds_together (Some row) is message = feeds_in row is.it message _
  feeds_together None is message = record { it = tt }

  feeds_at : (message : Message) (row : Option Instr) → FeedsWell (fed_at code p local message row)
  feeds_at message (Some row) = feeds_together (collective code p row) (final_row row) message
  feeds_at message None = record { it = tt }

  -- ---- turns
  turns_if : (room : Bool) (turn : Turn) → TurnsWell turn → TurnsWell (where_room room turn)
  turns_if true turn is = is
  turns_if false turn is = record { it = tt }

  turns_fed : (from : ℕ) (feeding : Feeding) → FeedsWell feeding → TurnsWell (takes_from from feeding)
  turns_fed from (Takes next) is = record { it = is.it }
  turns_fed from (Refuses kind) is = record { it = tt }

  turns_awaits : (from : ℕ) (head : Option Message) → TurnsWell (awaits (fed code p local) from head)
  turns_awaits from (Some message) = turns_fed from (fed code p local message) (feeds_at message (slice_get code.code local.at))
  turns_awaits from None = record { it = tt }

  turns_goes : (next : Local) (sent : Option (ℕ × Message)) (shown : List ℕ) (rooms : Rooms) → IsFinal next
      → TurnsWell (goes next sent shown rooms)
  turns_goes next (Some sent) shown rooms is = turns_if (rooms sent.0) _ (record { it = is })
  turns_goes next None shown rooms is = record { it = is }

  turns_over : (heads : Heads Message) (rooms : Rooms) (action : Action) → ActsWell action
      → TurnsWell (over_links (fed code p local) heads rooms action)
  turns_over heads rooms Ended is = record { it = tt }
  turns_over heads rooms (Blocked kind) is = record { it = tt }
  turns_over heads rooms (Goes next sent shown) is = turns_goes next sent shown rooms is.it
  turns_over heads rooms (Awaits from) is = turns_awaits from (heads from)

  turn_final : (heads : Heads Message) (rooms : Rooms) → TurnsWell (over_links (fed code p local) heads rooms (act code p local))
  turn_final heads rooms = turns_over heads rooms (act code p local) acts

-- ---- grids
abbrev pub AllFinal : List Local → Type 0
AllFinal locals = All IsFinal locals

all_at : (locals : List Local) (p : ℕ) → AllFinal locals → GivesWell (slice_get locals p)
all_at [] p all = record { it = tt }
all_at (local ∷ locals) zero all = record { it = All-head IsFinal local locals all }
all_at (local ∷ locals) (suc p) all = all_at locals p (All-tail IsFinal local locals all)

all_set : (locals : List Local) (p : ℕ) (next : Local) → AllFinal locals → IsFinal next → AllFinal (slice_set locals p next)
all_set [] p next all is = all
all_set (local ∷ locals) zero next all is = All-cons IsFinal next locals is (All-tail IsFinal local locals all)
all_set (local ∷ locals) (suc p) next all is =
    All-cons IsFinal local _ (All-head IsFinal local locals all) (all_set locals p next (All-tail IsFinal local locals all) is)

module _ (code : Tables) (links : Option ℕ) where
  next_final : (world : run.World Local Message) (p : ℕ) (local : Option Local) → GivesWell local
      → TurnsWell (run.turn_or_over (system_over code links) world p local)
  next_final world p (Some local) is = turn_final code p local is.it _ _
  next_final world p None is = record { it = tt }

  world_final : (count p : ℕ) (turn : Turn) (world : run.World Local Message) → TurnsWell turn → AllFinal world.locals
      → AllFinal (run.after_turn count p turn world).locals
  world_final count p (Moves move) world is all = all_set world.locals p move.next all is.it
  world_final count p Waiting world is all = all
  world_final count p Over world is all = all
  world_final count p (Stuck kind) world is all = all

  turn_given : (grid : Grid) (p : ℕ) → AllFinal grid.world.locals → AllFinal (given_turn code links grid p).world.locals
  turn_given grid p all =
      world_final _ p (next_turn code links grid p) grid.world
      (next_final grid.world p (slice_get grid.world.locals p) (all_at grid.world.locals p all)) all

  grids_final : (grid : Grid) (order : List ℕ) → AllFinal grid.world.locals → AllFinal (after_from code links grid order).world.locals
  grids_final grid [] all = all
  grids_final grid (p ∷ order) all = grids_final (given_turn code links grid p) order (turn_given grid p all)

starts_final : (code : Tables) (numbers : List ℕ) → AllFinal (map (start_local code) numbers)
starts_final code [] = All-nil IsFinal
starts_final code (p ∷ numbers) = All-cons IsFinal (start_local code p) _ (λ same. cc) (starts_final code numbers)

ended_final : (local : Option Local) (ending : End) → GivesWell local
    → option_and_then (λ (l : Local). l.ended) local ≡ Some ending → ending ≢ More
ended_final (Some local) ending is ends = λ more. is.it (ends ∙ ap Some more)
ended_final None ending is ends = absurd cc

-- ---- the laws
pub ends_final : (code : Tables) (links : Option ℕ) (order : List ℕ) (ending : End)
    → EndsAs (after code links order) ending → ending ≢ More
ends_final code links order ending ends =
    let all = grids_final code links (start_grid code) order (starts_final code (processor_numbers code)) in
    ended_final _ ending (all_at (after code links order).world.locals 0 all) ends.first

pub run_final : (run : Run) (k : ℕ) (ending : End) → run.start ≡ start_grid run.code
    → EndsAs (grid_at run k) ending → ending ≢ More
run_final run k ending starts ends =
    let turns = given run.order (processors run.code) k in
    ends_final run.code run.capacity turns ending
    (subst (λ grid. EndsAs (after_from run.code run.capacity grid turns) ending) starts ends)

-- of a run from any grid, in which no processor has ended so
pub onward_final : (run : Run) (k : ℕ) (ending : End) → AllFinal run.start.world.locals
    → EndsAs (grid_at run k) ending → ending ≢ More
onward_final run k ending all ends =
    let final = grids_final run.code run.capacity run.start (given run.order (processors run.code) k) all in
    ended_final _ ending (all_at (grid_at run k).world.locals 0 final) ends.first
