-- A processor sends to others alone, keeps words of others, and does not end in wanting more.
use Rattle.std.proofs.Common.{◌≡◌, ◌≢◌, ℕ, zero, suc, ◌==◌, Bool, true, false, ℤ, List, [], ◌∷◌, length, map, take, Option, Some, None, cond, nat_lt, refl}
use Rattle.std.specs.Prelude.{All, slice_get, option_and_then, ⊤}
use Rattle.std.specs.Option.{IfSome, option_map}
use Rattle.std.proofs.lemmas.List.Elements.{All-nil, All-cons, All-head, All-tail}
use Rattle.zpl_nums.specs.declared.ends.End.{End}
use Rattle.zpl_nums.specs.declared.ends.End.TheVariants.{Done, Trap, More}
use Rattle.zpl_nums.specs.declared.ends.TrapKind.{TrapKind}
use Rattle.zpl_nums.specs.declared.folds.Fold.{Fold}
use Rattle.zpl_region.specs.declared.regions.Region.{Region}
use Rattle.grid_meaning.specs.of_zpl_arrays.Array.{Array}
use Rattle.grid_links.specs.declared.messages.Message.{Message}
use Rattle.grid_links.specs.Machine.{Ended, Blocked, Goes, Awaits, Takes, Refuses, Heads, Rooms, Moves, Waiting, Over, Stuck, awaits, goes, over_links, takes_from, where_room}
use Rattle.grid_meaning.specs.of_node_form.declared.arrays.ArrayRow.{ArrayRow}
use Rattle.grid_meaning.specs.of_node_form.declared.arrays.Item.{Item}
use Rattle.grid_meaning.specs.of_node_form.declared.instructions.Instr.{Instr}
use Rattle.grid_meaning.specs.of_node_form.declared.instructions.Instr.TheVariants as instr
use Rattle.grid_meaning.specs.of_node_form.declared.members.Member.{Member}
use Rattle.grid_meaning.specs.of_node_form.declared.tables.Tables.{Tables}
use Rattle.zpl_nums.specs.declared.ends.TrapKind.TheVariants.{OutsideStorage, RegionMismatch}
use Rattle.zpl_nums.specs.Integer.{is_true}
use Rattle.zpl_region.specs.Tests.{is_within_limit}
use Rattle.grid_meaning.specs.of_zpl_arrays.Border.{border_conforms}
use Rattle.grid_meaning.specs.of_zpl_arrays.Reference.{is_reference}
use Rattle.grid_meaning.specs.of_node_form.Fits.{storage_of}
use Rattle.grid_meaning.specs.of_node_form.Control.{Registers, Control, Steps, Leaps, Ends, Outside, conforms, control, formed_by, part_dims, region_of, register_value, with_computed, with_row, with_scalar, checked, limited, branched}
use Rattle.grid_meaning.specs.of_node_form.Group.{Ran, Through, Again, Divided, Unheld}
use Rattle.grid_meaning.specs.of_node_form.Value.{Computed, Gives, Divides, Lacks}
use Rattle.grid_meaning.specs.Action.{Action, Feeding, StuckKind, prints}
use Rattle.grid_meaning.specs.Collective.{Collective, Stage, Alone, Sends, TakesFrom, Last, Kin, decided, folded, keeping, kept_with, stage_of, voted}
use Rattle.grid_meaning.specs.Delivery.{Delivery, delivered, each_word, edging, flooding, parting}
use Rattle.grid_meaning.specs.Exchange.{finished, started}
use Rattle.grid_meaning.specs.Gather.{gather_last, gathered, prints_gathered}
use Rattle.grid_meaning.specs.Local.{Local}
use Rattle.grid_meaning.specs.Loop.{after_members, looped, turn_at_index}
use Rattle.grid_meaning.specs.Owner.{region_in}
use Rattle.grid_meaning.specs.Place.{with_values}
use Rattle.grid_meaning.specs.of_zpl_arrays.Row.{running}
use Rattle.grid_meaning.specs.Remap.{Want, first_values, remap_own, remapped, request_taken, wants, wants_at_once}
use Rattle.grid_meaning.specs.Room.{cleared, roomed}
use Rattle.grid_meaning.specs.Rows.{collective}
use Rattle.grid_meaning.specs.Scan.{before_line, line_dim, line_heads, line_of, line_totals, scan_done, scan_values, scanned_row, with_line, with_lines}
use Rattle.grid_meaning.specs.Turn.{Turn, act, act_at, act_in, act_together, controlled, fed, fed_at, fed_in, fed_together, prints_text, prints_value, sends, steps_on, takes, unless_ended}
use Rattle.grid_save.specs.Onward.{KeepsOthers}
use Rattle.saved_runs.proofs.OtherLemmas.{IsOfOther, OfOthers, row_others}

-- ---- what is wanted of states
-- the processor has not ended in wanting more, and the words that it keeps are of others
abbrev pub IsFine : ℕ → Local → Type 0
IsFine me local = (local.ended ≢ Some More) × KeepsOthers me local

-- of what a processor does, of what a message makes of it, and of its turns
abbrev Acts : ℕ → Action → Type 0
Acts me Ended = ⊤
Acts me (Blocked kind) = ⊤
Acts me (Goes next sent shown) = IsFine me next × IfSome sent (λ one. one.0 ≢ me)
Acts me (Awaits from) = from ≢ me

abbrev Feeds : ℕ → Feeding → Type 0
Feeds me (Takes next) = IsFine me next
Feeds me (Refuses kind) = ⊤

abbrev pub Turns : ℕ → Rooms → Turn → Type 0
Turns me rooms (Moves move) =
    IsFine me move.next × IfSome move.sent (λ one. (one.0 ≢ me) × (rooms one.0 ≡ true))
Turns me rooms Waiting = ⊤
Turns me rooms Over = ⊤
Turns me rooms (Stuck kind) = ⊤

abbrev Controls : Control → Type 0
Controls (Steps registers) = ⊤
Controls (Leaps goal) = ⊤
Controls (Ends ending) = ending ≢ More
Controls Outside = ⊤

-- each as a record, which tells what it is said of
record ActsWell (me : ℕ) (action : Action) : Type 0 where
  it : Acts me action

record FeedsWell (me : ℕ) (feeding : Feeding) : Type 0 where
  it : Feeds me feeding

pub record TurnsWell (me : ℕ) (rooms : Rooms) (turn : Turn) : Type 0 where
  pub it : Turns me rooms turn

record ControlsWell (does : Control) : Type 0 where
  it : Controls does

record GivesWell (me : ℕ) (next : Option Local) : Type 0 where
  it : IfSome next (IsFine me)

trapped : (kind : TrapKind) (line : ℕ) → Trap kind line ≢ More
trapped kind line = λ same. cc

done : Done ≢ More
done = λ same. cc

some : (ending : End) → ending ≢ More → Some ending ≢ Some More
some ending fine = λ same. fine (let e : ending ≡ More = cc in e)

-- no words are kept
none_kept : (me : ℕ) → All (λ (entry : ℕ × List ℤ). entry.0 ≢ me) []
none_kept me = All-nil (λ (entry : ℕ × List ℤ). entry.0 ≢ me)

All-kept : (P : ℕ × List ℤ → Type 0) (from : ℕ) (words : List ℤ) (kept : List (ℕ × List ℤ)) → P (from, words)
    → All P kept → All P (kept_with from words kept)
All-kept P from words [] one all = All-cons P (from, words) [] one all
All-kept P from words (entry ∷ kept) one all =
    by (nat_lt from entry.0) (All-kept P from words kept one (All-tail P entry kept all))
  where
    by : (before : Bool) → All P (kept_with from words kept) → All P (cond before ((from, words) ∷ (entry ∷ kept)) (entry ∷ kept_with from words kept))
    by true rest = All-cons P (from, words) (entry ∷ kept) one all
    by false rest = All-cons P entry (kept_with from words kept) (All-head P entry kept all) rest

-- words of another one are
one_kept : (me : ℕ) (local : Local) (from : ℕ) (words : List ℤ) → IsFine me local → from ≢ me
    → IsFine me (keeping local from words)
one_kept me local from words fine other =
    (fine.0, All-kept (λ (entry : ℕ × List ℤ). entry.0 ≢ me) from words local.kept other fine.1)

-- ---- options
next_if : {X : Type 0} (me : ℕ) (f : X → Option Local) → ((x : X) → GivesWell me (f x)) → (o : Option X)
    → GivesWell me (option_and_then f o)
next_if me f each (Some x) = each x
next_if me f each None = record { it = tt }

with_stores : (me : ℕ) (local : Local) → IsFine me local → (stores : Option (List Array))
    → GivesWell me (option_map (λ stores. record local { stores = stores }) stores)
with_stores me local fine (Some stores) = record { it = fine }
with_stores me local fine None = record { it = tt }

-- ---- rows that need scalars and slots alone
control_computed : {X : Type 0} (computed : Computed X) (line : ℕ) (next : X → Control)
    → ((x : X) → ControlsWell (next x)) → ControlsWell (with_computed computed line next)
control_computed (Gives x) line next each = each x
control_computed Divides line next each = record { it = trapped _ line }
control_computed Lacks line next each = record { it = tt }

control_row : {X : Type 0} (row : Option X) (next : X → Control) → ((x : X) → ControlsWell (next x))
    → ControlsWell (with_row row next)
control_row (Some x) next each = each x
control_row None next each = record { it = tt }

control_checked : (registers : Registers) (stands : Bool) (kind : TrapKind) (line : ℕ)
    → ControlsWell (checked registers stands kind line)
control_checked registers true kind line = record { it = tt }
control_checked registers false kind line = record { it = trapped kind line }

control_limited : (registers : Registers) (slot line : ℕ) (region : Region) (within : Bool)
    → ControlsWell (limited registers slot line region within)
control_limited registers slot line region true = record { it = tt }
control_limited registers slot line region false = record { it = trapped _ line }

control_branched : (registers : Registers) (stands : Bool) (goal : ℕ)
    → ControlsWell (branched registers stands goal)
control_branched registers true goal = record { it = tt }
control_branched registers false goal = record { it = tt }

controls : (code : Tables) (registers : Registers) (row : Instr) → ControlsWell (control code registers row)
controls code registers (instr.Set scalar expr line) =
    control_computed (register_value code registers expr) line (with_scalar registers scalar) (λ value. record { it = tt })
controls code registers (instr.Fix slot region) = record { it = tt }
controls code registers (instr.Dims slot parts line) =
    control_row (slice_get code.slots slot) _ (λ rank.
    control_computed (part_dims code registers 0 (take rank parts)) line _ (λ dims.
    control_limited registers slot line (region_of rank dims) (is_within_limit (region_of rank dims))))
controls code registers (instr.Formed form slot from shift line) =
    control_row (slice_get registers.slots from) _ (λ region.
    control_limited registers slot line (formed_by form shift region) (is_within_limit (formed_by form shift region)))
controls code registers (instr.Need slot array shift line) =
    control_row (slice_get registers.slots slot) _ (λ region.
    control_row (slice_get code.arrays array) _ (λ row.
    control_checked registers (is_reference shift region (storage_of row)) OutsideStorage line))
controls code registers (instr.Same target source kind line) =
    control_row (slice_get registers.slots target) _ (λ region.
    control_row (slice_get registers.slots source) _ (λ other.
    control_checked registers (conforms kind region other) RegionMismatch line))
controls code registers (instr.Fits slot shift line) =
    control_row (slice_get registers.slots slot) _ (λ region.
    control_checked registers (border_conforms shift region) RegionMismatch line)
controls code registers (instr.Room array slot) = record { it = tt }
controls code registers (instr.Clear array) = record { it = tt }
controls code registers (instr.Loop slot group) = record { it = tt }
controls code registers (instr.Start exchange) = record { it = tt }
controls code registers (instr.Finish exchange) = record { it = tt }
controls code registers (instr.Edge kind array slot shift) = record { it = tt }
controls code registers (instr.Flood array target from source) = record { it = tt }
controls code registers (instr.Part array target f from source) = record { it = tt }
controls code registers (instr.Scan array slot f along from mask) = record { it = tt }
controls code registers (instr.Vote group) = record { it = tt }
controls code registers (instr.Fold scalar f) = record { it = tt }
controls code registers (instr.TreeVote group) = record { it = tt }
controls code registers (instr.TreeFold scalar f) = record { it = tt }
controls code registers (instr.Print text) = record { it = tt }
controls code registers (instr.Number expr) = record { it = tt }
controls code registers (instr.Truth expr) = record { it = tt }
controls code registers (instr.Gather truth array slot) = record { it = tt }
controls code registers (instr.Jump goal) = record { it = tt }
controls code registers (instr.Unless expr goal line) =
    control_computed (register_value code registers expr) line _ (λ value.
    control_branched registers (is_true value) goal)
controls code registers (instr.Trap kind line) = record { it = trapped kind line }
controls code registers instr.End = record { it = done }
controls code registers (instr.Remap array slot from parts) = record { it = tt }

module _ (me : ℕ) (local : Local) (fine : IsFine me local) where
  -- the row is left, and nothing is kept
  gone : (local.ended ≢ Some More) × All (λ (entry : ℕ × List ℤ). entry.0 ≢ me) []
  gone = (fine.0, none_kept me)

  acts_controlled : (does : Control) → ControlsWell does → ActsWell me (controlled local does)
  acts_controlled (Steps registers) is = record { it = (gone, tt) }
  acts_controlled (Leaps goal) is = record { it = (gone, tt) }
  acts_controlled (Ends ending) is = record { it = ((some ending is.it, none_kept me), tt) }
  acts_controlled Outside is = record { it = tt }

  -- ---- rows that print, and those on stores
  acts_prints : (p : ℕ) (bytes : List ℕ) → ActsWell me (prints p local bytes)
  acts_prints zero bytes = record { it = (gone, tt) }
  acts_prints (suc p) bytes = record { it = (gone, tt) }

  acts_text : (p : ℕ) (text : Option (List ℕ)) → ActsWell me (prints_text p local text)
  acts_text p (Some text) = acts_prints p text
  acts_text p None = record { it = tt }

  acts_value : (p : ℕ) (value : Computed ℤ) (text : ℤ → List ℕ) → ActsWell me (prints_value p local value text)
  acts_value p (Gives value) text = acts_prints p (text value)
  acts_value p Divides text = record { it = ((some _ (trapped _ 0), none_kept me), tt) }
  acts_value p Lacks text = record { it = tt }

  acts_roomed : (code : Tables) (p array : ℕ) (row : Option ArrayRow) (region : Option Region)
      → ActsWell me (roomed code p local array row region)
  acts_roomed code p array (Some row) (Some region) = record { it = (gone, tt) }
  acts_roomed code p array (Some row) None = record { it = tt }
  acts_roomed code p array None region = record { it = tt }

  acts_cleared : (array : ℕ) (store : Option Array) → ActsWell me (cleared local array store)
  acts_cleared array (Some store) = record { it = (gone, tt) }
  acts_cleared array None = record { it = tt }

  -- ---- loops
  acts_members : (ran : Ran (List Array)) → ActsWell me (after_members local ran)
  acts_members (Through point) = record { it = (fine, tt) }
  acts_members (Again member point) = record { it = (fine, tt) }
  acts_members (Divided member point) = record { it = (fine, tt) }
  acts_members Unheld = record { it = tt }

  acts_index : (code : Tables) (all : List Member) (t : Option (List ℤ)) → ActsWell me (turn_at_index code all local t)
  acts_index code all (Some t) = acts_members _
  acts_index code all None = record { it = (gone, tt) }

  acts_looped : (code : Tables) (p : ℕ) (region : Option Region) (group : Option (List Member))
      → ActsWell me (looped code p local region group)
  acts_looped code p (Some region) (Some all) = acts_index code all _
  acts_looped code p (Some region) None = record { it = tt }
  acts_looped code p None group = record { it = tt }

-- ---- rows in which processors work together
record IsFineRow (me : ℕ) (row : Collective) (local : Local) : Type 0 where
  alone : GivesWell me (row.alone local)
  taken : (from : ℕ) (words : List ℤ) → from ≢ me → GivesWell me (row.taken local from words)
  last : ActsWell me (row.last local)

module _ (me : ℕ) (local : Local) (fine : IsFine me local) where
  -- the row is left
  leaves : (local.ended ≢ Some More) × All (λ (entry : ℕ × List ℤ). entry.0 ≢ me) []
  leaves = (fine.0, none_kept me)

  keeps : (from : ℕ) (words : List ℤ) → from ≢ me → GivesWell me (Some (keeping local from words))
  keeps from words other = record { it = one_kept me local from words fine other }

  final_folded : (kin : Kin) (scalar : ℕ) (f : Fold)
      → IsFineRow me (folded kin scalar f) local
  final_folded kin scalar f = record { alone = record { it = tt }; taken = keeps; last = record { it = (leaves, tt) } }

  acts_decided : (code : Tables) (group : ℕ) (flag : Option ℕ) → ActsWell me (decided code group local flag)
  acts_decided code group None = record { it = (leaves, tt) }
  acts_decided code group (Some member) = record { it = ((some _ (trapped _ _), none_kept me), tt) }

  final_voted : (code : Tables) (kin : Kin) (group : ℕ) → IsFineRow me (voted code kin group) local
  final_voted code kin group =
      record { alone = record { it = tt }; taken = keeps; last = acts_decided code group _ }

  final_delivered : (code : Tables) (p : ℕ) (d : Delivery) → IsFineRow me (delivered code p d) local
  final_delivered code p d = record {
    alone = next_if me _ (λ words. with_stores me local fine _) (each_word (d.word local) (d.own local));
    taken = λ from words other. with_stores me local fine _;
    last = record { it = (leaves, tt) };
  }

  final_started : (code : Tables) (p exchange : ℕ) (items : List Item) → IsFineRow me (started code p exchange items) local
  final_started code p exchange items =
      record { alone = record { it = tt }; taken = λ from words other. record { it = tt }; last = record { it = (leaves, tt) } }

  final_finished : (code : Tables) (p exchange : ℕ) (items : List Item) → IsFineRow me (finished code p exchange items) local
  final_finished code p exchange items =
      record { alone = record { it = tt }; taken = λ from words other. with_stores me local fine _; last = record { it = (leaves, tt) } }

  acts_gathered : (code : Tables) (truth : Bool) (region : Region) (own : Option (List ℤ))
      → ActsWell me (prints_gathered code truth region local own)
  acts_gathered code truth region (Some own) = record { it = (leaves, tt) }
  acts_gathered code truth region None = record { it = tt }

  acts_gather : (code : Tables) (p : ℕ) (truth : Bool) (array : ℕ) (region : Region)
      → ActsWell me (gather_last code p truth array region local)
  acts_gather code zero truth array region = acts_gathered code truth region _
  acts_gather code (suc p) truth array region = record { it = (leaves, tt) }

  final_gathered : (code : Tables) (p : ℕ) (truth : Bool) (array slot : ℕ)
      → IsFineRow me (gathered code p truth array slot) local
  final_gathered code p truth array slot =
      record { alone = record { it = tt }; taken = keeps; last = acts_gather code p truth array _ }

  -- remap
  request_final : (words : List ℤ) (q : ℕ) (none : Bool) → q ≢ me → IsFine me (cond none local (keeping local q words))
  request_final words q true other = fine
  request_final words q false other = one_kept me local q words fine other

  final_request : (code : Tables) (p array slot from : ℕ) (parts : List ℕ) (row : ArrayRow) (q : ℕ) (words : List ℤ) (owns : Bool)
      → q ≢ me → GivesWell me (request_taken code p array slot from parts row local q words owns)
  final_request code p array slot from parts row q words true other = record { it = request_final words q (length words == 0) other }
  final_request code p array slot from parts row q words false other = record { it = tt }

  remap_taken : (asks : Bool) (one other : Option Local) → GivesWell me one → GivesWell me other → GivesWell me (cond asks one other)
  remap_taken true one other is also = is
  remap_taken false one other is also = also

  remap_final : (code : Tables) (p array slot from : ℕ) (parts : List ℕ) (row : ArrayRow) (all : List Want)
      → GivesWell me (remap_own code p array slot from parts row local all)
  remap_final code p array slot from parts row all =
      let first = wants_at_once code p array slot from parts row all in
      next_if {X = List ℤ} me _
      (λ values. with_stores me local fine (with_values array (map (λ (want : Want). want.index) first) values local.stores))
      (first_values code p array slot from parts row local first)

  final_remapped : (code : Tables) (p array slot from : ℕ) (parts : List ℕ) (row : ArrayRow)
      → IsFineRow me (remapped code p array slot from parts row) local
  final_remapped code p array slot from parts row = record {
    alone = next_if {X = List Want} me _ (remap_final code p array slot from parts row) (wants code p array slot from parts row local);
    taken = λ q words other. remap_taken _ _ _ (final_request code p array slot from parts row q words _ other) (with_stores me local fine _);
    last = record { it = (leaves, tt) };
  }

-- scan
module _ (me : ℕ) (code : Tables) (p : ℕ) (f : Fold) (along from : ℕ) (mask : Option ℕ) where
  acts_scanned : (next : Option Local) → GivesWell me next → ActsWell me (scan_done code p f along from mask next)
  acts_scanned (Some next) is = record { it = ((is.it.0, none_kept me), tt) }
  acts_scanned None is = record { it = tt }

  line_final : (array : ℕ) (old : Local) (region : Region) (own head : List ℤ) (local : Local) → IsFine me local
      → GivesWell me (with_line code p f along from mask array old region own head local)
  line_final array old region own head local fine =
      let tuples = line_of code p region (line_dim region along) head in
      next_if {X = List (Option ℤ)} me _
      (λ values. with_stores me local fine (with_values array tuples (running f (before_line code p f along from mask old region own head) values) local.stores))
      (scan_values old from mask tuples)

  lines_next : (array : ℕ) (old : Local) (region : Region) (own : List ℤ) (heads : List (List ℤ)) (next : Option Local) → GivesWell me next
      → ((local : Local) → IsFine me local → GivesWell me (with_lines code p f along from mask array old region own heads local))
      → GivesWell me (option_and_then (with_lines code p f along from mask array old region own heads) next)
  lines_next array old region own heads (Some next) is each = each next is.it
  lines_next array old region own heads None is each = record { it = tt }

  lines_final : (array : ℕ) (old : Local) (region : Region) (own : List ℤ) (heads : List (List ℤ)) (local : Local) → IsFine me local
      → GivesWell me (with_lines code p f along from mask array old region own heads local)
  lines_final array old region own [] local fine = record { it = fine }
  lines_final array old region own (head ∷ heads) local fine =
      lines_next array old region own heads (with_line code p f along from mask array old region own head local)
      (line_final array old region own head local fine) (lines_final array old region own heads)

  final_scanned : (local : Local) → IsFine me local → (array slot : ℕ)
      → IsFineRow me (scanned_row code p f along from mask array slot) local
  final_scanned local fine array slot = record {
    alone = record { it = tt };
    taken = λ q words other. record { it = one_kept me local q words fine other };
    last =
        let region = region_in local slot in
        acts_scanned _ (next_if {X = List ℤ} me _
        (λ own. lines_final array local region own (line_heads code p region (line_dim region along)) local fine)
        (line_totals code p f along from mask local region));
  }

-- ---- any row
module _ (code : Tables) (p : ℕ) (local : Local) (fine : IsFine p local) where
  record RowWell (row : Option Collective) : Type 0 where
    it : IfSome row (λ c. IsFineRow p c local)

  row_of : {X : Type 0} (row : X → Collective) → ((x : X) → IsFineRow p (row x) local) → (found : Option X)
      → RowWell (option_map row found)
  row_of row each (Some x) = record { it = each x }
  row_of row each None = record { it = tt }

  final_row : (row : Instr) → RowWell (collective code p row)
  final_row (instr.Start exchange) = row_of _ (final_started p local fine code p exchange) (slice_get code.exchanges exchange)
  final_row (instr.Finish exchange) = row_of _ (final_finished p local fine code p exchange) (slice_get code.exchanges exchange)
  final_row (instr.Edge kind array slot shift) = record { it = final_delivered p local fine code p (edging code p kind array slot shift) }
  final_row (instr.Flood array target from source) =
      record { it = final_delivered p local fine code p (flooding code p array target from source) }
  final_row (instr.Part array target f from source) =
      record { it = final_delivered p local fine code p (parting code p array target f from source) }
  final_row (instr.Scan array slot f along from mask) = record { it = final_scanned p code p f along from mask local fine array slot }
  final_row (instr.Gather truth array slot) = record { it = final_gathered p local fine code p truth array slot }
  final_row (instr.Remap array slot from parts) =
      row_of _ (final_remapped p local fine code p array slot from _) (slice_get code.arrays from)
  final_row (instr.Vote group) = record { it = final_voted p local fine code _ group }
  final_row (instr.TreeVote group) = record { it = final_voted p local fine code _ group }
  final_row (instr.Fold scalar f) = record { it = final_folded p local fine _ scalar f }
  final_row (instr.TreeFold scalar f) = record { it = final_folded p local fine _ scalar f }
  final_row row = record { it = tt }

  -- ---- its next stage names another one
  record StageWell (stage : Option Stage) : Type 0 where
    other : IfSome stage (IsOfOther p)

  stage_at : (stages : List Stage) (i : ℕ) → OfOthers p stages → StageWell (slice_get stages i)
  stage_at [] i all = record { other = tt }
  stage_at (first ∷ stages) zero all = record { other = All-head (IsOfOther p) first stages all }
  stage_at (first ∷ stages) (suc i) all = stage_at stages i (All-tail (IsOfOther p) first stages all)

  stage_in : (row : Instr) (c : Collective) → collective code p row ≡ Some c → StageWell (stage_of c local)
  stage_in row c is = stage_at (c.stages local) local.made (row_others code p row c local is (λ asking. fine.1))

  -- ---- what a processor does
  acts_steps : (next : Option Local) → GivesWell p next → ActsWell p (steps_on next)
  acts_steps (Some next) is = record { it = (is.it, tt) }
  acts_steps None is = record { it = tt }

  acts_sends : (row : Collective) (to : ℕ) (words : Option (List ℤ)) → to ≢ p → ActsWell p (sends row local to words)
  acts_sends row to (Some words) other = record { it = (fine, other) }
  acts_sends row to None other = record { it = tt }

  acts_in : (row : Collective) → IsFineRow p row local → (stage : Option Stage) → StageWell stage → ActsWell p (act_in row local stage)
  acts_in row is (Some Alone) stage = acts_steps (row.alone local) is.alone
  acts_in row is (Some (Sends to)) stage = acts_sends row to (row.words_to local to) stage.other
  acts_in row is (Some (TakesFrom from)) stage = record { it = stage.other }
  acts_in row is (Some Last) stage = is.last
  acts_in row is None stage = record { it = tt }

  acts_together : (row : Instr) (found : Option Collective) → collective code p row ≡ found → RowWell found
      → (alone : Control) → ControlsWell alone → ActsWell p (act_together found local alone)
  acts_together row (Some c) found is alone fits = acts_in c is.it _ (stage_in row c found)
  acts_together row None found is alone fits = acts_controlled p local fine alone fits

  acts_row : (row : Instr) → ActsWell p (act_together (collective code p row) local (control code (record { scalars = local.scalars; slots = local.slots }) row))
  acts_row row = acts_together row (collective code p row) refl (final_row row) _ (controls code _ row)

  acts_at : (row : Option Instr) → ActsWell p (act_at code p local row)
  acts_at None = record { it = ((some _ done, none_kept p), tt) }
  acts_at (Some (instr.Loop slot group)) =
      acts_looped p local fine code p (slice_get local.slots slot) (slice_get code.groups group)
  acts_at (Some (instr.Room array slot)) = acts_roomed p local fine code p array _ _
  acts_at (Some (instr.Clear array)) = acts_cleared p local fine array _
  acts_at (Some (instr.Print text)) = acts_text p local fine p _
  acts_at (Some (instr.Number expr)) = acts_value p local fine p _ _
  acts_at (Some (instr.Truth expr)) = acts_value p local fine p _ _
  acts_at (Some row) = acts_row row

  acts_unless : (ended : Option End) (action : Action) → ActsWell p action → ActsWell p (unless_ended ended action)
  acts_unless (Some ending) action is = record { it = tt }
  acts_unless None action is = is

  acts : ActsWell p (act code p local)
  acts = acts_unless local.ended _ (acts_at (slice_get code.code local.at))

  -- ---- with a message
  feeds_taken : (next : Option Local) → GivesWell p next → FeedsWell p (takes next)
  feeds_taken (Some next) is = record { it = is.it }
  feeds_taken None is = record { it = tt }

  feeds_if : (stands : Bool) (one : Feeding) (kind : StuckKind) → FeedsWell p one → FeedsWell p (cond stands one (Refuses kind))
  feeds_if true one kind is = is
  feeds_if false one kind is = record { it = tt }

  feeds_in : (row : Collective) → IsFineRow p row local → (message : Message) (stage : Option Stage) → StageWell stage
      → FeedsWell p (fed_in row local message stage)
  feeds_in row is message (Some (TakesFrom from)) stage =
      feeds_if _ _ _ (feeds_if _ _ _ (feeds_taken (row.taken local from message.words) (is.taken from message.words stage.other)))
  feeds_in row is message (Some Alone) stage = record { it = tt }
  feeds_in row is message (Some (Sends to)) stage = record { it = tt }
  feeds_in row is message (Some Last) stage = record { it = tt }
  feeds_in row is message None stage = record { it = tt }

  feeds_together : (row : Instr) (found : Option Collective) → collective code p row ≡ found → RowWell found
      → (message : Message) → FeedsWell p (fed_together found local message)
  feeds_together row (Some c) found is message = feeds_in c is.it message _ (stage_in row c found)
  feeds_together row None found is message = record { it = tt }

  feeds_at : (message : Message) (row : Option Instr) → FeedsWell p (fed_at code p local message row)
  feeds_at message (Some row) = feeds_together row (collective code p row) refl (final_row row) message
  feeds_at message None = record { it = tt }

  -- ---- turns
  turns_fed : (rooms : Rooms) (from : ℕ) (feeding : Feeding) → FeedsWell p feeding → TurnsWell p rooms (takes_from from feeding)
  turns_fed rooms from (Takes next) is = record { it = (is.it, tt) }
  turns_fed rooms from (Refuses kind) is = record { it = tt }

  turns_awaits : (rooms : Rooms) (from : ℕ) (head : Option Message) → TurnsWell p rooms (awaits (fed code p local) from head)
  turns_awaits rooms from (Some message) =
      turns_fed rooms from (fed code p local message) (feeds_at message (slice_get code.code local.at))
  turns_awaits rooms from None = record { it = tt }

  turns_goes : (next : Local) (sent : Option (ℕ × Message)) (shown : List ℕ) (rooms : Rooms) → IsFine p next
      → IfSome sent (λ one. one.0 ≢ p) → TurnsWell p rooms (goes next sent shown rooms)
  turns_goes next (Some sent) shown rooms is other = by (rooms sent.0) refl
    where
      by : (room : Bool) → rooms sent.0 ≡ room
          → TurnsWell p rooms (where_room room (Moves (record { next = next; sent = Some sent; taken = None; shown = shown })))
      by true has = record { it = (is, (other, has)) }
      by false has = record { it = tt }
  turns_goes next None shown rooms is other = record { it = (is, tt) }

  turns_over : (heads : Heads Message) (rooms : Rooms) (action : Action) → ActsWell p action
      → TurnsWell p rooms (over_links (fed code p local) heads rooms action)
  turns_over heads rooms Ended is = record { it = tt }
  turns_over heads rooms (Blocked kind) is = record { it = tt }
  turns_over heads rooms (Goes next sent shown) is = turns_goes next sent shown rooms is.it.0 is.it.1
  turns_over heads rooms (Awaits from) is = turns_awaits rooms from (heads from)

  pub turn_fine : (heads : Heads Message) (rooms : Rooms)
      → TurnsWell p rooms (over_links (fed code p local) heads rooms (act code p local))
  turn_fine heads rooms = turns_over heads rooms (act code p local) acts
