-- Turns that neither wait nor are over.
use Rattle.std.proofs.Common.{◌≡◌, ℕ, zero, suc, ◌+◌, ◌<◌, ◌&&◌, Bool, true, false, cond, List, [], ◌∷◌, length, not, refl, sym, ap, ◌∙◌, subst, ℤ}
use Rattle.std.specs.Prelude.{Option, Some, None, is_some, slice_get}
use Rattle.std.specs.Fmt.{signed_decimal}
use Rattle.std.specs.List.{filter_map}
use Rattle.std.specs.Option.{IfSome, option_map}
use Rattle.std.proofs.lemmas.Bool.{lt-ltb}
use Rattle.zpl_region.specs.declared.regions.Region.{Region}
use Rattle.zpl_region.specs.Region.{members}
use Rattle.zpl_nums.specs.declared.folds.Fold.{Fold}
use Rattle.zpl_nums.specs.declared.ends.End.{End}
use Rattle.zpl_arrays.specs.Array.{Array}
use Rattle.zpl_arrays.specs.ArrayText.{truth_text}
use Rattle.grid_links.specs.declared.messages.Message.{Message}
use Rattle.grid_links.specs.Links.{has_room}
use Rattle.grid_links.specs.Machine.{Ended, Blocked, Goes, Awaits, Fed, Heads, Rooms, Takes, Refuses, Turn as TurnOf, Moves, Waiting, awaits, goes, over_links, takes_from, where_room}
use Rattle.grid_links.specs.Network.{Network, link}
use Rattle.grid_links.specs.Run.{heads_at, rooms_at}
use Rattle.node_form.specs.declared.arrays.ArrayRow.{ArrayRow}
use Rattle.node_form.specs.declared.instructions.Instr.{Instr}
use Rattle.node_form.specs.declared.instructions.Instr.TheVariants as instr
use Rattle.node_form.specs.declared.members.Member.{Member}
use Rattle.node_form.specs.declared.tables.Tables.{Tables}
use Rattle.node_form.specs.Control.{Control, Steps, Leaps, Ends, Outside, control}
use Rattle.node_form.specs.Group.{Ran, Through, Again, Divided}
use Rattle.node_form.specs.Group as group
use Rattle.node_form.specs.Value.{Computed, Gives, Divides, Lacks}
use Rattle.grid_meaning.specs.Action.{Action, Feeding, StuckKind, prints}
use Rattle.grid_meaning.specs.Collective.{Collective, Stage, Alone, Sends, TakesFrom, Last, stage_of, decided, folded, star, tree, voted}
use Rattle.grid_meaning.specs.Delivery.{edged, flooded, parted}
use Rattle.grid_meaning.specs.Exchange.{finished, started}
use Rattle.grid_meaning.specs.Gather.{gather_last, gathered, prints_gathered}
use Rattle.grid_meaning.specs.Local.{Local, processors}
use Rattle.grid_meaning.specs.Loop.{after_members, looped, turn_at_index}
use Rattle.grid_meaning.specs.Owner.{region_in, tuples_of}
use Rattle.grid_meaning.specs.Place.{values_at}
use Rattle.grid_meaning.specs.Room.{cleared, roomed}
use Rattle.grid_meaning.specs.Remap.{remapped}
use Rattle.grid_meaning.specs.Rows.{collective}
use Rattle.grid_meaning.specs.Scan.{scan_done, scanned_row}
use Rattle.grid_meaning.specs.Turn.{Turn, act, act_at, controlled, expression_value, fed, prints_text, prints_value, registers_of, sends, steps_on, unless_ended}
use Rattle.node_local.specs.Workplace.{Workplace}
use Rattle.node_turn.proofs.ActLemmas.{acts_at, acts_in, there}
use Rattle.node_turn.proofs.TurnLemmas.{room_is}
use Rattle.node_turn.specs.Turned.{is_resting, turn_over}
use Rattle.row_turn.proofs.RecordLemmas.{of_row}
use Rattle.row_turn.specs.Placed.{IsAtRow}
use Rattle.row_turn.specs.Together.{IsAlone, IsTogether, OfRow}

-- a move without a message, or being stuck: neither the end nor a message that is awaited
abbrev pub IsQuiet : Action → Type 0
IsQuiet Ended = ⊥
IsQuiet (Blocked kind) = Unit {0}
IsQuiet (Goes next sent shown) = sent ≡ None
IsQuiet (Awaits from) = ⊥

pub quiet_moves : (feed : Message → Feeding) (heads : Heads Message) (rooms : Rooms) (action : Action) → IsQuiet action
    → is_resting (over_links feed heads rooms action) ≡ false
quiet_moves feed heads rooms Ended quiet = absurd quiet
quiet_moves feed heads rooms (Blocked kind) quiet = refl
quiet_moves feed heads rooms (Goes next None shown) quiet = refl
quiet_moves feed heads rooms (Goes next (Some sent) shown) quiet = cc
quiet_moves feed heads rooms (Awaits from) quiet = absurd quiet

-- ---- rows that need no other processor
quiet-controlled : (local : Local) (c : Control) → IsQuiet (controlled local c)
quiet-controlled local (Steps registers) = refl
quiet-controlled local (Leaps goal) = refl
quiet-controlled local (Ends ending) = refl
quiet-controlled local Outside = tt

quiet-prints : (p : ℕ) (local : Local) (bytes : List ℕ) → IsQuiet (prints p local bytes)
quiet-prints zero local bytes = refl
quiet-prints (suc p) local bytes = refl

quiet-text : (p : ℕ) (local : Local) (text : Option (List ℕ)) → IsQuiet (prints_text p local text)
quiet-text p local (Some text) = quiet-prints p local text
quiet-text p local None = tt

quiet-value : (p : ℕ) (local : Local) (value : Computed ℤ) (text : ℤ → List ℕ) → IsQuiet (prints_value p local value text)
quiet-value p local (Gives value) text = quiet-prints p local (text value)
quiet-value p local Divides text = refl
quiet-value p local Lacks text = tt

quiet-ran : (local : Local) (ran : Ran (List Array)) → IsQuiet (after_members local ran)
quiet-ran local (Through point) = refl
quiet-ran local (Again member point) = refl
quiet-ran local (Divided member point) = refl
quiet-ran local group.Unheld = tt

quiet-index : (code : Tables) (local : Local) (all : List Member) (t : Option (List ℤ)) → IsQuiet (turn_at_index code all local t)
quiet-index code local all (Some t) = quiet-ran local _
quiet-index code local all None = refl

quiet-loop : (code : Tables) (p : ℕ) (local : Local) (region : Option Region) (all : Option (List Member)) → IsQuiet (looped code p local region all)
quiet-loop code p local None None = tt
quiet-loop code p local None (Some all) = tt
quiet-loop code p local (Some region) None = tt
quiet-loop code p local (Some region) (Some all) = quiet-index code local all _

quiet-room : (code : Tables) (p : ℕ) (local : Local) (array : ℕ) (row : Option ArrayRow) (region : Option Region)
    → IsQuiet (roomed code p local array row region)
quiet-room code p local array None None = tt
quiet-room code p local array None (Some region) = tt
quiet-room code p local array (Some row) None = tt
quiet-room code p local array (Some row) (Some region) = refl

quiet-clear : (local : Local) (array : ℕ) (store : Option Array) → IsQuiet (cleared local array store)
quiet-clear local array None = tt
quiet-clear local array (Some store) = refl

pub quiet_own : (code : Tables) (p : ℕ) (local : Local) (row : Instr) → IsAlone row → IsQuiet (act_at code p local (Some row))
quiet_own code p local (instr.Loop slot number) is = quiet-loop code p local (slice_get local.slots slot) (slice_get code.groups number)
quiet_own code p local (instr.Room array slot) is = quiet-room code p local array (slice_get code.arrays array) (slice_get local.slots slot)
quiet_own code p local (instr.Clear array) is = quiet-clear local array (slice_get local.stores array)
quiet_own code p local (instr.Print text) is = quiet-text p local (slice_get code.texts text)
quiet_own code p local (instr.Number expr) is = quiet-value p local (expression_value code local expr) signed_decimal
quiet_own code p local (instr.Truth expr) is = quiet-value p local (expression_value code local expr) truth_text
quiet_own code p local (instr.Set scalar expr line) is = quiet-controlled local (control code (registers_of local) (instr.Set scalar expr line))
quiet_own code p local (instr.Fix slot region) is = quiet-controlled local (control code (registers_of local) (instr.Fix slot region))
quiet_own code p local (instr.Dims slot parts line) is = quiet-controlled local (control code (registers_of local) (instr.Dims slot parts line))
quiet_own code p local (instr.Formed form slot from shift line) is = quiet-controlled local (control code (registers_of local) (instr.Formed form slot from shift line))
quiet_own code p local (instr.Need slot array shift line) is = quiet-controlled local (control code (registers_of local) (instr.Need slot array shift line))
quiet_own code p local (instr.Same target source kind line) is = quiet-controlled local (control code (registers_of local) (instr.Same target source kind line))
quiet_own code p local (instr.Fits slot shift line) is = quiet-controlled local (control code (registers_of local) (instr.Fits slot shift line))
quiet_own code p local (instr.Jump goal) is = quiet-controlled local (control code (registers_of local) (instr.Jump goal))
quiet_own code p local (instr.Unless expr goal line) is = quiet-controlled local (control code (registers_of local) (instr.Unless expr goal line))
quiet_own code p local (instr.Trap kind line) is = quiet-controlled local (control code (registers_of local) (instr.Trap kind line))
quiet_own code p local instr.End is = quiet-controlled local (control code (registers_of local) instr.End)
quiet_own code p local row is = absurd is

-- ---- the last turn of rows in which processors work together
quiet-decided : (code : Tables) (number : ℕ) (local : Local) (flag : Option ℕ) → IsQuiet (decided code number local flag)
quiet-decided code number local None = refl
quiet-decided code number local (Some member) = refl

quiet-gather : (code : Tables) (q : ℕ) (truth : Bool) (array : ℕ) (region : Region) (local : Local)
    → IsQuiet (gather_last code q truth array region local)
quiet-gather code zero truth array region local = by (values_at local.stores array (tuples_of code 0 region))
  where
    by : (own : Option (List ℤ)) → IsQuiet (prints_gathered code truth region local own)
    by (Some own) = refl
    by None = tt
quiet-gather code (suc q) truth array region local = refl

quiet-scan : (code : Tables) (p : ℕ) (f : Fold) (along from : ℕ) (mask : Option ℕ) (done : Option Local)
    → IsQuiet (scan_done code p f along from mask done)
quiet-scan code p f along from mask (Some local) = refl
quiet-scan code p f along from mask None = tt

quiet-found : {X : Type 0} (found : Option X) (row : X → Collective) (local : Local) → ((x : X) → IsQuiet ((row x).last local))
    → IfSome (option_map row found) (λ r. IsQuiet (r.last local))
quiet-found None row local quiet = tt
quiet-found (Some x) row local quiet = quiet x

pub quiet_last : (code : Tables) (p : ℕ) (local : Local) (row : Instr) → IsTogether row → OfRow code p row (λ r. IsQuiet (r.last local))
quiet_last code p local (instr.Start exchange) is = quiet-found (slice_get code.exchanges exchange) (started code p exchange) local (λ items. refl)
quiet_last code p local (instr.Finish exchange) is = quiet-found (slice_get code.exchanges exchange) (finished code p exchange) local (λ items. refl)
quiet_last code p local (instr.Edge kind array slot shift) is = refl
quiet_last code p local (instr.Flood array target from source) is = refl
quiet_last code p local (instr.Part array target f from source) is = refl
quiet_last code p local (instr.Scan array slot f along from mask) is = quiet-scan code p f along from mask _
quiet_last code p local (instr.Gather truth array slot) is = quiet-gather code p truth array (region_in local slot) local
quiet_last code p local (instr.Remap array slot from parts) is =
    quiet-found (slice_get code.arrays from) (remapped code p array slot from (filter_map (λ part. part) parts)) local (λ read. refl)
quiet_last code p local (instr.Vote number) is = quiet-decided code number local _
quiet_last code p local (instr.TreeVote number) is = quiet-decided code number local _
quiet_last code p local (instr.Fold scalar f) is = refl
quiet_last code p local (instr.TreeFold scalar f) is = refl
quiet_last code p local row is = absurd is

pub quiet_alone : (next : Option Local) → IsQuiet (steps_on next)
quiet_alone (Some next) = refl
quiet_alone None = tt

-- ---- whether the next turn is a rest
pub rests_ended : (code : Tables) (p : ℕ) (local : Local) (network : Network) → is_some local.ended ≡ true
    → is_resting (turn_over code p local network) ≡ true
rests_ended code p local network ended = by local.ended refl
  where
    by : (o : Option End) → local.ended ≡ o → is_resting (turn_over code p local network) ≡ true
    by None is = let none : false ≡ true = sym (ap is_some is) ∙ ended in cc
    by (Some ending) is =
        ap (λ e. is_resting (over_links (fed code p local) (heads_at network.count network.links p)
        (rooms_at network.capacity network.count network.links p) (unless_ended e (act_at code p local (slice_get code.code local.at))))) is

pub rests_quiet : (code : Tables) (p : ℕ) (local : Local) (network : Network) → IsQuiet (act code p local)
    → is_resting (turn_over code p local network) ≡ false
rests_quiet code p local network quiet =
    quiet_moves (fed code p local) (heads_at network.count network.links p) (rooms_at network.capacity network.count network.links p)
    (act code p local) quiet

-- behind the last row
pub rests_behind : (code : Tables) (p : ℕ) (local : Local) (network : Network) → is_some local.ended ≡ false
    → slice_get code.code local.at ≡ None → is_resting (turn_over code p local network) ≡ false
rests_behind code p local network running behind = by local.ended refl
  where
    by : (o : Option End) → local.ended ≡ o → is_resting (turn_over code p local network) ≡ false
    by (Some ending) is = let none : true ≡ false = sym (ap is_some is) ∙ running in cc
    by None is =
        rests_quiet code p local network
        (subst IsQuiet (sym (ap (λ e. unless_ended e (act_at code p local (slice_get code.code local.at))) is ∙ ap (act_at code p local) behind)) refl)

module _ (code : Tables) (p : ℕ) (w : Workplace) (row : Instr) (at : IsAtRow code p w row) (network : Network) where
  pub rests_own : IsAlone row → is_resting (turn_over code p w.local network) ≡ false
  rests_own is =
      rests_quiet code p w.local network (subst IsQuiet (sym (acts_at code p w row at)) (quiet_own code p w.local row is))

  module _ (is : IsTogether row) where
    pub rests_alone : OfRow code p row (λ r. stage_of r w.local ≡ Some Alone) → is_resting (turn_over code p w.local network) ≡ false
    rests_alone staged =
        rests_quiet code p w.local network
        (subst IsQuiet (sym (acts_in code p w row at is Alone staged)) (quiet_alone ((there code p w row at is).together.alone w.local)))

    pub rests_last : OfRow code p row (λ r. stage_of r w.local ≡ Some Last) → is_resting (turn_over code p w.local network) ≡ false
    rests_last staged =
        rests_quiet code p w.local network
        (subst IsQuiet (sym (acts_in code p w row at is Last staged))
        (of_row code p row (λ r. IsQuiet (r.last w.local)) (there code p w row at is) (quiet_last code p w.local row is)))

    abbrev over : Action → Turn
    over action =
        over_links (fed code p w.local) (heads_at network.count network.links p)
        (rooms_at network.capacity network.count network.links p) action

    taken_moves : (from : ℕ) (feeding : Feeding) → let turn : Turn = takes_from from feeding in is_resting turn ≡ false
    taken_moves from (Takes next) = refl
    taken_moves from (Refuses kind) = refl

    pub rests_without : (from : ℕ) → OfRow code p row (λ r. stage_of r w.local ≡ Some (TakesFrom from))
        → slice_get (link network from p) 0 ≡ None → is_resting (turn_over code p w.local network) ≡ true
    rests_without from staged none =
        ap (λ a. is_resting (over a)) (acts_in code p w row at is (TakesFrom from) staged)
        ∙ ap (λ o. is_resting (awaits (fed code p w.local) from o)) none

    pub moves_with : (from : ℕ) (message : Message) → OfRow code p row (λ r. stage_of r w.local ≡ Some (TakesFrom from))
        → slice_get (link network from p) 0 ≡ Some message → is_resting (turn_over code p w.local network) ≡ false
    moves_with from message staged some =
        ap (λ a. is_resting (over a)) (acts_in code p w row at is (TakesFrom from) staged)
        ∙ (ap (λ o. is_resting (awaits (fed code p w.local) from o)) some ∙ taken_moves from (fed code p w.local message))

    abbrev sent : ℕ → List ℤ → Turn
    sent to words = Moves (record {
      next = record w.local { made = w.local.made + 1 };
      sent = Some (to, record { tag = (there code p w row at is).together.tag w.local; words = words });
      taken = None;
      shown = [];
    })

    sends_by : (to : ℕ) (words : Option (List ℤ)) (room : Bool) (rooms : Rooms) → rooms to ≡ room
        → is_resting (over_links (fed code p w.local) (heads_at network.count network.links p) rooms (sends (there code p w row at is).together w.local to words))
        ≡ (not room && is_some words)
    sends_by to None true rooms same = refl
    sends_by to None false rooms same = refl
    sends_by to (Some words) true rooms same = ap (λ b. is_resting (where_room b (sent to words))) same
    sends_by to (Some words) false rooms same = ap (λ b. is_resting (where_room b (sent to words))) same

    pub rests_full : (to : ℕ) (room held : Bool) → network.count ≡ processors code → to < processors code
        → OfRow code p row (λ r. stage_of r w.local ≡ Some (Sends to)) → has_room network.capacity (link network p to) ≡ room
        → OfRow code p row (λ r. is_some (r.words_to w.local to) ≡ held)
        → is_resting (turn_over code p w.local network) ≡ (not room && held)
    rests_full to room held many below staged full there_are =
        ap (λ a. is_resting (over a)) (acts_in code p w row at is (Sends to) staged)
        ∙ (sends_by to ((there code p w row at is).together.words_to w.local to) room (rooms_at network.capacity network.count network.links p)
        (room_is code p w w network network to many below ∙ full)
        ∙ ap (λ b. not room && b) (of_row code p row (λ r. is_some (r.words_to w.local to) ≡ held) (there code p w row at is) there_are))

    pub moves_out : (to : ℕ) → network.count ≡ processors code → to < processors code
        → OfRow code p row (λ r. stage_of r w.local ≡ Some (Sends to)) → has_room network.capacity (link network p to) ≡ true
        → is_resting (turn_over code p w.local network) ≡ false
    moves_out to many below staged full =
        ap (λ a. is_resting (over a)) (acts_in code p w row at is (Sends to) staged)
        ∙ sends_by to ((there code p w row at is).together.words_to w.local to) true (rooms_at network.capacity network.count network.links p)
        (room_is code p w w network network to many below ∙ full)

pub none_from : {X : Type 0} (found : Option X) → is_some found ≡ false → found ≡ None
none_from None is = refl
none_from (Some x) is = cc
