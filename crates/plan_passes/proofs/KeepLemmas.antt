-- What rows of a stretch leave on all processors, but exchanges: arrays and slots that they don't
-- write, and the storage of each array, but that of a `room`. Slots stay the same on all.
use Rattle.std.proofs.Common.{◌≡◌, ◌≢◌, refl, sym, ◌∙◌, ap, subst, ℕ, zero, suc, ◌<◌, Bool, true, false, ℤ}
use Rattle.std.proofs.Common.{List, [], ◌∷◌, Option, Some, None, true≢false, eqb-true, arith}
use Rattle.std.specs.Prelude.{◌&&◌, ◌||◌, ◌==◌, if◌then◌else◌, not, slice_get, slice_set, unwrap_or}
use Rattle.std.specs.Prelude.{flat_map}
use Rattle.std.specs.List.{filter_map}
use Rattle.std.specs.Option.{option_map}
use Rattle.std.proofs.lemmas.Bool.Decides.{nat_tests}
use Rattle.std.specs.Fmt.{signed_decimal}
use Rattle.zpl_nums.specs.declared.ends.End.{End}
use Rattle.zpl_nums.specs.declared.ends.End.TheVariants.{More}
use Rattle.zpl_region.specs.declared.regions.Region.{Region}
use Rattle.zpl_arrays.specs.Array.{Array}
use Rattle.zpl_arrays.specs.ArrayText.{truth_text}
use Rattle.node_form.specs.Control as control
use Rattle.node_form.specs.Control.{Control, Registers}
use Rattle.node_form.specs.Nest.{Nest}
use Rattle.node_form.specs.Value.{Computed, Gives, Divides, Lacks}
use Rattle.node_form.specs.declared.arrays.ArrayRow.{ArrayRow}
use Rattle.node_form.specs.declared.instructions.Instr.{Instr}
use Rattle.node_form.specs.declared.instructions.Instr.TheVariants as instr
use Rattle.node_form.specs.declared.members.Member.{Member}
use Rattle.node_form.specs.declared.tables.Tables.{Tables}
use Rattle.code_parts.specs.Exchanged.{is_exchange_row}
use Rattle.code_parts.specs.Stretch.{ends_stretch}
use Rattle.code_parts.specs.Uses.{put_by, rows_or_none, written_arrays, written_slots}
use Rattle.grid_meaning.specs.Collective.{Collective}
use Rattle.grid_meaning.specs.Delivery as delivery
use Rattle.grid_meaning.specs.Gather as gather
use Rattle.grid_meaning.specs.Local.{Local, processors}
use Rattle.grid_meaning.specs.Remap as remap
use Rattle.grid_meaning.specs.Room.{cleared, roomed, zeros_at}
use Rattle.grid_meaning.specs.Turn.{expression_value, prints_text, prints_value}
use Rattle.nest_meaning.specs.Tree.{nest_of}
use Rattle.nest_meaning.specs.Units.{units_of}
use Rattle.nest_meaning.proofs.TreeLemmas.{reads_only}
use Rattle.row_orders.specs.Rows.{at_turn}
use Rattle.row_runs.specs.Run.{Goes, Stop, Stops, Ends, Wrong, Effect, Does}
use Rattle.needs_runs.specs.of_plan_meaning.Abreast.{Abreast, Share, every, go_where, is_quiet, locals_of, share_of}
use Rattle.needs_runs.specs.of_plan_meaning.Abreast.{of_processors, standing}
use Rattle.needs_runs.proofs.of_plan_meaning.ThereLemmas.{either_share}
use Rattle.needs_runs.specs.of_plan_meaning.Act.{action_of, alone, control_of, controlled, controlled_as}
use Rattle.needs_runs.specs.of_plan_meaning.Act.{ends_where, folded, found, go_one_way, is_way, print_ends}
use Rattle.needs_runs.specs.of_plan_meaning.Act.{registers_of, registers_or, shares_on, voted_as}
use Rattle.needs_runs.specs.of_plan_meaning.Loops.{LacksPlace, Shared, Through, WantsTurn, lacks, looped}
use Rattle.needs_runs.specs.of_plan_meaning.Loops.{share_behind, shared, tree_looped, wants}
use Rattle.needs_runs.specs.of_plan_meaning.Messages.{answered, asked, begun, behind_answers, delivered}
use Rattle.needs_runs.specs.of_plan_meaning.Messages.{final_of, from_of, heard_by, middle_of, next_or}
use Rattle.needs_runs.specs.of_plan_meaning.Messages.{remapped, starts_alone, took, words_of}
use Rattle.needs_runs.proofs.of_plan_meaning.SlotLemmas.{slots-Decides}
use Rattle.plan_passes.proofs.AwaitLemmas.{Await, Ready, Wanted, looping, ready, ready_act}
use Rattle.plan_passes.proofs.ControlLemmas.{EndsThere, IsStraightly, NotSaid, StepsOn, misses_one}
use Rattle.plan_passes.proofs.ControlLemmas.{other_set, straightly}
use Rattle.plan_passes.proofs.LoopLemmas.{Misses, behind_stays, differs, shared_stays}
use Rattle.plan_passes.proofs.SentLemmas.{every_at}
use Rattle.plan_passes.proofs.ShapeLemmas as shapes
use Rattle.plan_passes.proofs.TakenLemmas.{IfLocal, LocalKept, RowKept, action_kept}
use Rattle.plan_passes.proofs.TakenLemmas.{begun_kept, delivery_kept, gather_kept, local_same, local_trans}
use Rattle.plan_passes.proofs.TakenLemmas.{or_local, remap_kept, scan_kept, taking_kept}
use Rattle.plan_passes.proofs.WriteLemmas.{shape}

-- ---- a share behind a row
pub record ShareKept (arrays made : List ℕ) (one other : Share) : Type 0 where
  pub slots : other.slots ≡ one.slots
  pub stays : (a : ℕ) → Misses a arrays → slice_get other.stores a ≡ slice_get one.stores a
  pub shapes : (a : ℕ) → Misses a made → shape other.stores a ≡ shape one.stores a

same_share : (arrays made : List ℕ) (share : Share) → ShareKept arrays made share share
same_share arrays made share =
    record { slots = refl; stays = λ a misses. refl; shapes = λ a misses. refl }

of_local : (array : ℕ) (one other : Local) → LocalKept array one other
    → ShareKept (array ∷ []) [] (share_of one) (share_of other)
of_local array one other kept = record {
  slots = kept.slots;
  stays = λ a misses. kept.stores.stays a (misses_one a array misses);
  shapes = λ a misses. kept.stores.shapes a;
}

-- ---- a row's effect: what is asked of the state behind it, where there is one
pub data RowKeeps (P : Abreast → Type 0) : Effect Await → Type 0 where
  KeepsOn : {bytes : List ℕ} {next : Abreast} → P next → RowKeeps P (Does (Goes bytes (Ready next)))
  KeepsWanted : {bytes : List ℕ} {group : ℕ} → RowKeeps P (Does (Goes bytes (Wanted group)))
  KeepsStop : {stop : Stop} → RowKeeps P (Does (Stops stop))

where_keeps : (P : Abreast → Type 0) (b : Bool) (bytes : List ℕ) (next : Abreast)
    → (b ≡ true → P next) → RowKeeps P (ready (Does (go_where b bytes next)))
where_keeps P true bytes next is = KeepsOn (is refl)
where_keeps P false bytes next is = KeepsStop

ends_keeps : (P : Abreast → Type 0) (b : Bool) (ending : End)
    → RowKeeps P (ready (Does (ends_where b ending)))
ends_keeps P true ending = KeepsStop
ends_keeps P false ending = KeepsStop

-- each share is kept
abbrev pub AllKept : List ℕ → List ℕ → Abreast → Abreast → Type 0
AllKept arrays made all next = (p : ℕ) → ShareKept arrays made (all.shares p) (next.shares p)

module _ (code : Tables) (all : Abreast) where
  -- ---- rows with messages
  module _ (array : ℕ) (row : ℕ → Collective) (kept : (p : ℕ) → RowKept array (row p)) where
    abbrev locals : ℕ → Local
    locals = locals_of all

    middle_kept : (p : ℕ) → LocalKept array (locals p) (middle_of code row locals p)
    middle_kept p =
        or_local array (locals p) (begun code row locals p) (locals p)
        (begun_kept array (row p) (kept p) (starts_alone ((row p).stages (locals p))) (locals p))
        (local_same array (locals p))

    final_kept : (heard : ℕ → ℕ → List ℤ) (p : ℕ)
        → LocalKept array (locals p) (final_of code row locals heard p)
    final_kept heard p =
        by (took code row locals heard p)
        (taking_kept array (row p) (kept p) (λ q. heard q p) (middle_of code row locals p)
        (from_of code row locals p))
      where
        by : (o : Option Local) → IfLocal array (middle_of code row locals p) o
            → LocalKept array (locals p) (unwrap_or o (middle_of code row locals p))
        by None is = middle_kept p
        by (Some next) is =
            local_trans array (locals p) (middle_of code row locals p) next (middle_kept p) is

    pub delivered_keeps : RowKeeps (AllKept (array ∷ []) [] all)
        (ready (Does (delivered code row all)))
    delivered_keeps =
        where_keeps (AllKept (array ∷ []) [] all) _ _ _ (λ e p.
        of_local array (locals p) _
        (action_kept array (locals p)
        ((row p).last (final_of code row locals (words_of code row locals) p))
        (final_of code row locals (words_of code row locals) p)
        (final_kept (words_of code row locals) p)
        ((kept p).last (final_of code row locals (words_of code row locals) p))))

    -- a remap read
    asking_kept : (p : ℕ) → LocalKept array (locals p) (unwrap_or (asked code row all p) (locals p))
    asking_kept p =
        or_local array (locals p) (asked code row all p) (locals p) ((kept p).alone (locals p))
        (local_same array (locals p))

    turned_kept : (k : ℕ) (one other : Local) → LocalKept array one other
        → LocalKept array one (at_turn k other)
    turned_kept k one other is = record { slots = is.slots; stores = is.stores }

    or_kept : (one middle : Local) (o : Option Local) → LocalKept array one middle
        → IfLocal array middle o → LocalKept array one (unwrap_or o one)
    or_kept one middle None a b = local_same array one
    or_kept one middle (Some next) a b = local_trans array one middle next a b

    heard_kept : (p : ℕ) → LocalKept array (locals p) (unwrap_or (heard_by code row all p) (locals p))
    heard_kept p =
        or_kept (locals p) _ (heard_by code row all p) (turned_kept 1 (locals p) _ (asking_kept p))
        (taking_kept array (row p) (kept p) _ _ _)

    answered_kept : (p : ℕ) → LocalKept array (locals p) (behind_answers code row all p)
    answered_kept p =
        or_kept (locals p) _ (answered code row all p) (turned_kept _ (locals p) _ (heard_kept p))
        (taking_kept array (row p) (kept p) _ _ _)

    pub remapped_keeps : RowKeeps (AllKept (array ∷ []) [] all) (ready (Does (remapped code row all)))
    remapped_keeps =
        where_keeps (AllKept (array ∷ []) [] all) _ _ _ (λ e p.
        of_local array (locals p) _
        (action_kept array (locals p) ((row p).last (behind_answers code row all p))
        (behind_answers code row all p) (answered_kept p)
        ((kept p).last (behind_answers code row all p))))

  -- ---- rows of one turn
  alone_keeps : (row : Instr) (arrays made : List ℕ)
      → ((p : ℕ) → ShareKept arrays made (all.shares p)
      (share_of (next_or (locals_of all p) (action_of code row all p))))
      → RowKeeps (AllKept arrays made all) (ready (Does (alone code row all)))
  alone_keeps row arrays made kept = where_keeps (AllKept arrays made all) _ _ _ (λ e p. kept p)

  room_keeps : (array slot : ℕ) → RowKeeps (AllKept (array ∷ []) (array ∷ []) all)
      (ready (Does (alone code (instr.Room array slot) all)))
  room_keeps array slot =
      alone_keeps (instr.Room array slot) (array ∷ []) (array ∷ [])
      (λ p. by p (slice_get code.arrays array) (slice_get (all.shares p).slots slot))
    where
      by : (p : ℕ) (row : Option ArrayRow) (region : Option Region)
          → ShareKept (array ∷ []) (array ∷ []) (all.shares p)
          (share_of (next_or (locals_of all p) (roomed code p (locals_of all p) array row region)))
      by p None region = same_share (array ∷ []) (array ∷ []) (all.shares p)
      by p (Some row) None = same_share (array ∷ []) (array ∷ []) (all.shares p)
      by p (Some row) (Some region) = record {
        slots = refl;
        stays = λ a misses. other_set (all.shares p).stores array a _ (misses_one a array misses);
        shapes = λ a misses.
            ap (option_map (λ (x : Array). x.storage))
            (other_set (all.shares p).stores array a _ (misses_one a array misses));
      }

  clear_keeps : (array : ℕ) → RowKeeps (AllKept (array ∷ []) [] all)
      (ready (Does (alone code (instr.Clear array) all)))
  clear_keeps array =
      alone_keeps (instr.Clear array) (array ∷ []) []
      (λ p. by p (slice_get (all.shares p).stores array) refl)
    where
      here : {X : Type 0} (xs : List X) (k : ℕ) (x y : X) → slice_get xs k ≡ Some y
          → slice_get (slice_set xs k x) k ≡ Some x
      here [] k x y e = cc
      here (z ∷ xs) zero x y e = refl
      here (z ∷ xs) (suc k) x y e = here xs k x y e

      by : (p : ℕ) (o : Option Array) → slice_get (all.shares p).stores array ≡ o
          → ShareKept (array ∷ []) [] (all.shares p)
          (share_of (next_or (locals_of all p) (cleared (locals_of all p) array o)))
      by p None e = same_share (array ∷ []) [] (all.shares p)
      by p (Some store) e = record {
        slots = refl;
        stays = λ a misses. other_set (all.shares p).stores array a _ (misses_one a array misses);
        shapes = λ a misses. at a (array == a) refl;
      }
        where
          at : (a : ℕ) (b : Bool) → (array == a) ≡ b
              → shape (slice_set (all.shares p).stores array (zeros_at store.storage)) a
              ≡ shape (all.shares p).stores a
          at a true f =
              subst (λ k. shape (slice_set (all.shares p).stores array (zeros_at store.storage)) k
              ≡ shape (all.shares p).stores k) (eqb-true array a f)
              (ap (option_map (λ (x : Array). x.storage))
              (here (all.shares p).stores array (zeros_at store.storage) store e)
              ∙ ap (option_map (λ (x : Array). x.storage)) (sym e))
          at a false f =
              ap (option_map (λ (x : Array). x.storage))
              (other_set (all.shares p).stores array a _ (differs array a f))

  text_kept : (share : Share) (p : ℕ) (text : Option (List ℕ))
      → ShareKept [] [] share (share_of (next_or (standing share) (prints_text p (standing share) text)))
  text_kept share p None = same_share [] [] share
  text_kept share zero (Some text) = same_share [] [] share
  text_kept share (suc p) (Some text) = same_share [] [] share

  value_kept : (share : Share) (p : ℕ) (value : Computed ℤ) (text : ℤ → List ℕ)
      → ShareKept [] [] share
      (share_of (next_or (standing share) (prints_value p (standing share) value text)))
  value_kept share zero (Gives x) text = same_share [] [] share
  value_kept share (suc p) (Gives x) text = same_share [] [] share
  value_kept share p Divides text = same_share [] [] share
  value_kept share p Lacks text = same_share [] [] share

  printed_keeps : (row : Instr) (o : Option End)
      → ((p : ℕ) → ShareKept [] [] (all.shares p)
      (share_of (next_or (locals_of all p) (action_of code row all p))))
      → RowKeeps (AllKept [] [] all) (ready (Does (print_ends code row all o)))
  printed_keeps row None kept = alone_keeps row [] [] kept
  printed_keeps row (Some ending) kept = ends_keeps (AllKept [] [] all) _ ending

  -- ---- votes and folds
  fold_keeps : (scalar : ℕ) (f : _) → RowKeeps (AllKept [] [] all) (ready (Does (folded code all scalar f)))
  fold_keeps scalar f =
      where_keeps (AllKept [] [] all) _ _ _ (λ e p.
      record { slots = refl; stays = λ a misses. refl; shapes = λ a misses. refl })

  vote_keeps : (group : ℕ) (o : Option ℕ)
      → RowKeeps (AllKept [] [] all) (ready (Does (voted_as code all group o)))
  vote_keeps group None =
      where_keeps (AllKept [] [] all) _ _ _ (λ e p.
      record { slots = refl; stays = λ a misses. refl; shapes = λ a misses. refl })
  vote_keeps group (Some member) = ends_keeps (AllKept [] [] all) _ _

-- ---- loops
module _ (code : Tables) (links : Option ℕ) (n slot group : ℕ) (all : Abreast) where
  abbrev puts_of : Option (List Member) → List ℕ
  puts_of o = flat_map put_by (rows_or_none o)

  loop_by : (o : Option (List Member)) → slice_get code.groups group ≡ o
      → RowKeeps (AllKept (written_arrays code (instr.Loop slot group)) [] all)
      (Does (looping group (found o (λ members. looped code n (group == group) slot members all))))
  loop_by None e = KeepsStop
  loop_by (Some members) e = by_tree (nest_of members) refl
    where
      tree_kept : (nest : Nest) → nest_of members ≡ Some nest → (p : ℕ)
          → ShareKept (written_arrays code (instr.Loop slot group)) [] (all.shares p)
          (share_behind code n (all.shares p) (shared code n (units_of nest) slot all p))
      tree_kept nest tree p = record {
        slots = slots_stay (shared code n (units_of nest) slot all p);
        stays = λ a misses.
            behind_stays a (slice_get (all.shares p).stores a) code n (all.shares p) _ refl
            (shared_stays a (slice_get (all.shares p).stores a) code n nest slot all p
            (subst (λ ms. Misses a (flat_map put_by ms)) (sym (reads_only members nest tree))
            (subst (λ o. Misses a (puts_of o)) e misses)) refl);
        shapes = λ a misses.
            shapes.behind_stays a (shape (all.shares p).stores a) code n (all.shares p) _ refl
            (shapes.shared_stays a (shape (all.shares p).stores a) code n nest slot all p refl);
      }
        where
          slots_stay : (some : Shared)
              → (share_behind code n (all.shares p) some).slots ≡ (all.shares p).slots
          slots_stay (Through point flag) = refl
          slots_stay WantsTurn = refl
          slots_stay LacksPlace = refl

      pick : (a w v q : Bool) (shares : ℕ → Share)
          → ((p : ℕ) → ShareKept (written_arrays code (instr.Loop slot group)) [] (all.shares p) (shares p))
          → RowKeeps (AllKept (written_arrays code (instr.Loop slot group)) [] all)
          (Does (looping group (if a then
          (if w then Goes [] (of_processors code all (record all { shares = shares }))
          else (if v && q then Stops (Ends More) else Stops Wrong))
          else Stops Wrong)))
      pick true true v q shares kept =
          KeepsOn (λ p.
          either_share
          (ShareKept (written_arrays code (instr.Loop slot group)) [] (all.shares p)) code all
          (record all { shares = shares }) p
          (same_share (written_arrays code (instr.Loop slot group)) [] (all.shares p)) (kept p))
      pick true false true true shares kept = KeepsWanted
      pick true false true false shares kept = KeepsStop
      pick true false false q shares kept = KeepsStop
      pick false w v q shares kept = KeepsStop

      by_tree : (o : Option Nest) → nest_of members ≡ o
          → RowKeeps (AllKept (written_arrays code (instr.Loop slot group)) [] all)
          (Does (looping group (tree_looped code n (group == group) slot o all)))
      by_tree None f = KeepsStop
      by_tree (Some nest) f =
          pick (every code (λ p. not (lacks code n (shared code n (units_of nest) slot all p))))
          (every code (λ p. not (wants code n (shared code n (units_of nest) slot all p))))
          (group == group) (is_quiet all) _ (tree_kept nest f)

-- ---- rows that need scalars and slots alone
-- slots are the same on all, and those that the row doesn't write are as they were; arrays stay
pub record SlotsKept (code : Tables) (row : Instr) (all next : Abreast) : Type 0 where
  pub same : (p : ℕ) → p < processors code → (next.shares p).slots ≡ (next.shares 0).slots
  pub others : (p slot : ℕ) → Misses slot (written_slots row)
      → slice_get (next.shares p).slots slot ≡ slice_get (all.shares p).slots slot
  pub stores : (p : ℕ) → (next.shares p).stores ≡ (all.shares p).stores
  pub by_control : (registers : Registers) × (control_of code row all 0 ≡ control.Steps registers)
      × ((next.shares 0).slots ≡ registers.slots)

module _ (code : Tables) (row : Instr) (straight : ends_stretch row ≡ false) (all : Abreast) where
  abbrev way : ℕ → Control
  way p = control_of code row all p

  goes_same : (registers : Registers) → way 0 ≡ control.Steps registers
      → go_one_way code row all ≡ true → SlotsKept code row all (shares_on code row all)
  goes_same registers is alike = record {
    same = λ p below.
        one (way 0) (way p) registers is
        (every_at code (λ p. is_way (way 0) (way p)) alike p below)
        (registers_of (all.shares p)) (registers_of (all.shares 0));
    others = λ p slot misses.
        by p slot misses (way p) (straightly code (registers_of (all.shares p)) row straight);
    stores = λ p. refl;
    by_control = (registers, is, ap (λ c. (registers_or c (registers_of (all.shares 0))).slots) is);
  }
    where
      one : (c d : Control) (registers : Registers) → c ≡ control.Steps registers
          → is_way c d ≡ true → (r s : Registers) → (registers_or d r).slots ≡ (registers_or c s).slots
      one (control.Steps x) (control.Steps y) registers e alike r s =
          sym ((slots-Decides x.slots y.slots).0 alike)
      one (control.Steps x) (control.Leaps goal) registers e alike r s = absurd (true≢false (sym alike))
      one (control.Steps x) (control.Ends ending) registers e alike r s = absurd (true≢false (sym alike))
      one (control.Steps x) control.Outside registers e alike r s = absurd (true≢false (sym alike))
      one (control.Leaps goal) d registers e alike r s = cc
      one (control.Ends ending) d registers e alike r s = cc
      one control.Outside d registers e alike r s = cc

      by : (p slot : ℕ) → Misses slot (written_slots row) → (c : Control)
          → IsStraightly (registers_of (all.shares p)) row c
          → slice_get (registers_or c (registers_of (all.shares p))).slots slot
          ≡ slice_get (all.shares p).slots slot
      by p slot misses c (StepsOn same) = same slot misses
      by p slot misses c EndsThere = refl
      by p slot misses c NotSaid = refl

  as_keeps : (c : Control) → way 0 ≡ c
      → IsStraightly (registers_of (all.shares 0)) row c
      → RowKeeps (SlotsKept code row all) (ready (controlled_as code row all c))
  as_keeps c e (StepsOn {next = next} same) =
      where_keeps (SlotsKept code row all) (go_one_way code row all) [] (shares_on code row all)
      (goes_same next e)
  as_keeps c e (EndsThere {ending = ending}) =
      ends_keeps (SlotsKept code row all) (go_one_way code row all && is_quiet all) ending
  as_keeps c e NotSaid = KeepsStop

  pub control_keeps : RowKeeps (SlotsKept code row all) (ready (controlled code row all))
  control_keeps =
      as_keeps (way 0) refl (straightly code (registers_of (all.shares 0)) row straight)

-- ---- each row
abbrev pub made_arrays : Instr → List ℕ
made_arrays (instr.Room array slot) = array ∷ []
made_arrays row = []

pub data Behind (code : Tables) (row : Instr) (all next : Abreast) : Type 0 where
  BySlots : SlotsKept code row all next → Behind code row all next
  ByArrays : AllKept (written_arrays code row) (made_arrays row) all next → Behind code row all next

weaker : {P Q : Abreast → Type 0} {e : Effect Await} → ((next : Abreast) → P next → Q next)
    → RowKeeps P e → RowKeeps Q e
weaker more (KeepsOn is) = KeepsOn (more _ is)
weaker more KeepsWanted = KeepsWanted
weaker more KeepsStop = KeepsStop

module _ (code : Tables) (links : Option ℕ) (n : ℕ) where
  by_slots : (row : Instr) → ends_stretch row ≡ false → (all : Abreast)
      → RowKeeps (Behind code row all) (ready (controlled code row all))
  by_slots row e all = weaker (λ next is. BySlots is) (control_keeps code row e all)

  pub row_keeps : (row : Instr) → ends_stretch row ≡ false → is_exchange_row row ≡ false
      → (all : Abreast) → RowKeeps (Behind code row all) (ready_act code links n row all)
  row_keeps (instr.Set scalar expr line) e f all = by_slots (instr.Set scalar expr line) e all
  row_keeps (instr.Fix slot region) e f all = by_slots (instr.Fix slot region) e all
  row_keeps (instr.Dims slot parts line) e f all = by_slots (instr.Dims slot parts line) e all
  row_keeps (instr.Formed form slot from shift line) e f all =
      by_slots (instr.Formed form slot from shift line) e all
  row_keeps (instr.Need slot array shift line) e f all =
      by_slots (instr.Need slot array shift line) e all
  row_keeps (instr.Same target source kind line) e f all =
      by_slots (instr.Same target source kind line) e all
  row_keeps (instr.Fits slot shift line) e f all = by_slots (instr.Fits slot shift line) e all
  row_keeps (instr.Room array slot) e f all = weaker (λ next is. ByArrays is) (room_keeps code all array slot)
  row_keeps (instr.Clear array) e f all = weaker (λ next is. ByArrays is) (clear_keeps code all array)
  row_keeps (instr.Print text) e f all =
      weaker (λ next is. ByArrays is) (alone_keeps code all (instr.Print text) [] []
      (λ p. text_kept code all (all.shares p) p (slice_get code.texts text)))
  row_keeps (instr.Number expr) e f all =
      weaker (λ next is. ByArrays is) (printed_keeps code all (instr.Number expr) _
      (λ p. value_kept code all (all.shares p) p (expression_value code (locals_of all p) expr)
      signed_decimal))
  row_keeps (instr.Truth expr) e f all =
      weaker (λ next is. ByArrays is) (printed_keeps code all (instr.Truth expr) _
      (λ p. value_kept code all (all.shares p) p (expression_value code (locals_of all p) expr)
      truth_text))
  row_keeps (instr.Loop slot group) e f all =
      weaker (λ next is. ByArrays is) (loop_by code links n slot group all (slice_get code.groups group) refl)
  row_keeps (instr.Edge kind array slot shift) e f all =
      weaker (λ next is. ByArrays is) (delivered_keeps code all array _ (λ p.
      delivery_kept code p (delivery.edging code p kind array slot shift)))
  row_keeps (instr.Flood array target from source) e f all =
      weaker (λ next is. ByArrays is) (delivered_keeps code all array _ (λ p.
      delivery_kept code p (delivery.flooding code p array target from source)))
  row_keeps (instr.Part array target fold from source) e f all =
      weaker (λ next is. ByArrays is) (delivered_keeps code all array _ (λ p.
      delivery_kept code p (delivery.parting code p array target fold from source)))
  row_keeps (instr.Scan array slot fold along from mask) e f all =
      weaker (λ next is. ByArrays is) (delivered_keeps code all array _ (λ p.
      scan_kept code p fold along from mask array slot))
  row_keeps (instr.Remap array slot from parts) e f all = by (slice_get code.arrays from)
    where
      by : (o : Option ArrayRow)
          → RowKeeps (Behind code (instr.Remap array slot from parts) all)
          (ready (Does (found o (λ row. remapped code
          (λ p. remap.remapped code p array slot from (filter_map (λ part. part) parts) row) all))))
      by None = KeepsStop
      by (Some row) =
          weaker (λ next is. ByArrays is) (remapped_keeps code all array _ (λ p.
          remap_kept code p array slot from (filter_map (λ part. part) parts) row))
  row_keeps (instr.Fold scalar fold) e f all = weaker (λ next is. ByArrays is) (fold_keeps code all scalar fold)
  row_keeps (instr.TreeFold scalar fold) e f all = weaker (λ next is. ByArrays is) (fold_keeps code all scalar fold)
  row_keeps (instr.Vote group) e f all = weaker (λ next is. ByArrays is) (vote_keeps code all group _)
  row_keeps (instr.TreeVote group) e f all = weaker (λ next is. ByArrays is) (vote_keeps code all group _)
  row_keeps (instr.Gather truth array slot) e f all =
      weaker (λ next is. ByArrays is) (gather_keeps all)
    where
      gather_keeps : (all : Abreast) → RowKeeps (AllKept [] [] all)
          (ready (Does (delivered code (λ p. gather.gathered code p truth array slot) all)))
      gather_keeps all =
          where_keeps (AllKept [] [] all) _ _ _ (λ e p. record {
            slots = (one p 0).slots;
            stays = λ a misses. (one p (suc a)).stays a (apart a);
            shapes = λ a misses. (one p 0).shapes a misses;
          })
        where
          apart : (a : ℕ) → Misses a (suc a ∷ [])
          apart a =
              let one : (suc a == a) ≡ false = grind (arith, nat_tests) in ap (λ b. b || false) one

          one : (p k : ℕ) → ShareKept (k ∷ []) [] (all.shares p)
              (share_of (next_or
              (final_of code (λ p. gather.gathered code p truth array slot) (locals_of all)
              (words_of code (λ p. gather.gathered code p truth array slot) (locals_of all)) p)
              ((gather.gathered code p truth array slot).last
              (final_of code (λ p. gather.gathered code p truth array slot) (locals_of all)
              (words_of code (λ p. gather.gathered code p truth array slot) (locals_of all)) p))))
          one p k =
              of_local k (locals_of all p) _
              (action_kept k (locals_of all p) _ _
              (final_kept code all k (λ p. gather.gathered code p truth array slot)
              (λ p. gather_kept code p truth array slot k)
              (words_of code (λ p. gather.gathered code p truth array slot) (locals_of all)) p)
              ((gather_kept code p truth array slot k).last
              (final_of code (λ p. gather.gathered code p truth array slot) (locals_of all)
              (words_of code (λ p. gather.gathered code p truth array slot) (locals_of all)) p)))
  row_keeps (instr.Start exchange) e f all = absurd (true≢false f)
  row_keeps (instr.Finish exchange) e f all = absurd (true≢false f)
  row_keeps (instr.Jump goal) e f all = absurd (true≢false e)
  row_keeps (instr.Unless expr goal line) e f all = absurd (true≢false e)
  row_keeps (instr.Trap kind line) e f all = absurd (true≢false e)
  row_keeps instr.End e f all = absurd (true≢false e)
