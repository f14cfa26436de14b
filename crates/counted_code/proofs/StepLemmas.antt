-- The counting cell behind a row, in lock step.
use Rattle.std.proofs.Common.{◌≡◌, ◌≢◌, ◌⊎◌, inl, inr, refl, sym, ◌∙◌, ap, subst, ℕ, zero, suc}
use Rattle.std.proofs.Common.{◌+◌, ◌<◌, ◌≤◌, Bool, true, false, List, [], ◌∷◌, ◌++◌, length, arith}
use Rattle.std.proofs.Common.{pos, ℤ, replicate}
use Rattle.std.specs.Prelude.{⊤, Option, Some, None, slice_get, All, if◌then◌else◌, ◌&&◌}
use Rattle.std.specs.Prelude.{option_and_then, unwrap_or}
use Rattle.std.specs.Option.{option_map}
use Rattle.std.specs.List.{filter_map}
use Rattle.std.specs.Fmt.{signed_decimal}
use Rattle.std.proofs.lemmas.Option.{slice_get-map}
use Rattle.std.proofs.lemmas.List.Elements.{All-cons, All-head, All-nil, All-tail}
use Rattle.zpl_nums.specs.declared.ends.End.{End}
use Rattle.zpl_nums.specs.declared.ends.End.TheVariants.{More}
use Rattle.zpl_region.specs.declared.regions.Region.{Region}
use Rattle.zpl_region.specs.Region.{members}
use Rattle.zpl_arrays.specs.Array.{Array}
use Rattle.zpl_arrays.specs.ArrayText.{truth_text}
use Rattle.grid_links.specs.Machine.{Goes as Moves}
use Rattle.node_form.specs.declared.arrays.ArrayRow.{ArrayRow}
use Rattle.node_form.specs.declared.instructions.Instr.{Instr}
use Rattle.node_form.specs.declared.instructions.Instr.TheVariants as instr
use Rattle.node_form.specs.declared.members.Member.{Member}
use Rattle.node_form.specs.declared.members.Member.TheVariants as member
use Rattle.node_form.specs.declared.tables.Tables.{Tables}
use Rattle.node_form.specs.Control as control
use Rattle.node_form.specs.Control.{Control}
use Rattle.node_form.specs.Fits.{Fits, FitsGroup, FitsMember}
use Rattle.node_form.proofs.GrowthLemmas.{Fits-group-row}
use Rattle.node_form.specs.Group.{Point}
use Rattle.node_form.specs.Nest.{Choosing, ChoosingElse, Joining, Keeping, Looping, Nest, Nothing}
use Rattle.node_form.specs.Nest.{Putting, Repeating, members_of}
use Rattle.node_form.specs.Value.{Computed, Divides, Gives, Lacks}
use Rattle.nest_meaning.specs.Nested.{Fine, Lost, Told, Wants, Zero, nested, ways_of}
use Rattle.nest_meaning.specs.Tree.{nest_of}
use Rattle.nest_meaning.specs.Units.{units_of}
use Rattle.nest_meaning.proofs.TreeLemmas.{reads_again}
use Rattle.grid_meaning.specs.Action.{Action, prints}
use Rattle.grid_meaning.specs.Collective.{Collective}
use Rattle.grid_meaning.specs.Local.{Local, processors}
use Rattle.grid_meaning.specs.Loop.{access_at}
use Rattle.grid_meaning.specs.Place.{own_part}
use Rattle.grid_meaning.specs.Room.{cleared, roomed}
use Rattle.grid_meaning.specs.Turn.{expression_value, prints_text, prints_value}
use Rattle.row_orders.specs.Rows.{Flight, alone_where, at_turn, taken_where, taking}
use Rattle.row_runs.specs.Run.{Does, Effect, Ends, Goes, Leaps, Passes, Step, Stops, Wrong}
use Rattle.plan_meaning.specs.Abreast.{Abreast, Share, go_where, is_quiet, locals_of}
use Rattle.plan_meaning.specs.Abreast.{of_processors, share_of, start_abreast}
use Rattle.plan_meaning.specs.Act.{action_of, alone, control_of, controlled, controlled_as}
use Rattle.plan_meaning.specs.Act.{ends_where, found, go_one_way}
use Rattle.plan_meaning.specs.Act.{is_vote_of, leaps_where, print_ends, row_does}
use Rattle.plan_meaning.specs.Act.{shares_on, tested, voted_as}
use Rattle.plan_meaning.specs.Loops.{LacksPlace, Shared, Through, WantsTurn}
use Rattle.plan_meaning.specs.Loops.{looped, part_shared, point_of}
use Rattle.plan_meaning.specs.Loops.{share_behind, shared, tree_looped, tuple_next, tuples_shared}
use Rattle.plan_meaning.specs.Loops.{unit_next, units_shared, wants}
use Rattle.plan_meaning.specs.Messages.{answered, answering, to_of, words_of, asked}
use Rattle.plan_meaning.specs.Messages.{behind_answers, delivered, final_of, finished, finished_in}
use Rattle.plan_meaning.specs.Messages.{from_of, heard_by, middle_of, next_or}
use Rattle.plan_meaning.specs.Messages.{next_with, remapped, started}
use Rattle.plan_meaning.specs.Messages.{starts_alone, took}
use Rattle.plan_meaning.proofs.ThereLemmas.{either_share}
use Rattle.counted_code.specs.Counted.{counted, counted_group}
use Rattle.counted_code.specs.Within.{AreWithin, IsWithin}
use Rattle.counted_code.proofs.NestLemmas.{AllTame, IsBetween, IsTame, MoreTame, NestFits}
use Rattle.counted_code.proofs.NestLemmas.{NoneTame, counted_nest}
use Rattle.counted_code.proofs.NestLemmas.{nest_members, units_tame}
use Rattle.counted_code.proofs.WornLemmas.{IsLastKept, IsWorn, alone_kept, edging_worn}
use Rattle.counted_code.proofs.WornLemmas.{finished_worn, flooding_worn}
use Rattle.counted_code.proofs.WornLemmas.{gathered_worn, last_kept, parting_worn, remapped_worn}
use Rattle.counted_code.proofs.WornLemmas.{scanned_worn, started_worn}
use Rattle.counted_code.proofs.WornLemmas.{taken_kept}

-- ---- the state behind an effect, where there is one
abbrev pub IfGoes : (Abreast → Type 0) → Effect Abreast → Type 0
IfGoes P (Does (Goes bytes next)) = P next
IfGoes P effect = ⊤

pub goes_to_state : (P : Abreast → Type 0) (e : Effect Abreast) (bytes : List ℕ) (after : Abreast)
    → IfGoes P e → e ≡ Does (Goes bytes after) → P after
goes_to_state P e bytes after is same =
    let there : IfGoes P (Does (Goes bytes after)) = subst (IfGoes P) same is in there

where_goes : (P : Abreast → Type 0) (b : Bool) (bytes : List ℕ) (next : Abreast) → P next
    → IfGoes P (Does (go_where b bytes next))
where_goes P true bytes next is = is
where_goes P false bytes next is = tt

ends_goes : (P : Abreast → Type 0) (b : Bool) (ending : End) → IfGoes P (Does (ends_where b ending))
ends_goes P true ending = tt
ends_goes P false ending = tt

found_goes : {X : Type 0} (P : Abreast → Type 0) (o : Option X) (next : X → Step Abreast)
    → ((x : X) → IfGoes P (Does (next x))) → IfGoes P (Does (found o next))
found_goes P None next is = tt
found_goes P (Some x) next is = is x

tested_goes : (P : Abreast → Type 0) (e : Effect Abreast) → IfGoes P (tested e)
tested_goes P (Does (Goes bytes next)) = tt
tested_goes P (Does (Stops stop)) = tt
tested_goes P (Leaps goal) = tt
tested_goes P Passes = tt

if_weaker : (P Q : Abreast → Type 0) (e : Effect Abreast) → ((next : Abreast) → P next → Q next)
    → IfGoes P e → IfGoes Q e
if_weaker P Q (Does (Goes bytes next)) more is = more next is
if_weaker P Q (Does (Stops stop)) more is = tt
if_weaker P Q (Leaps goal) more is = tt
if_weaker P Q Passes more is = tt

-- ---- cells are as they were
abbrev pub SameCells : Abreast → Abreast → Type 0
SameCells all next = (p : ℕ) → (next.shares p).cells ≡ (all.shares p).cells

-- a row with messages, on one processor
module _ (row : Collective) (is : IsWorn row) where
  begun_cells : (b : Bool) (local : Local) → (unwrap_or (alone_where b row local) local).cells
      ≡ local.cells
  begun_cells false local = refl
  begun_cells true local = by (row.alone local) refl
    where
      by : (o : Option Local) → row.alone local ≡ o → (unwrap_or o local).cells ≡ local.cells
      by None e = refl
      by (Some next) e = (alone_kept row is local next e).cells

  abbrev IfCells : Local → Option Local → Type 0
  IfCells local None = ⊤
  IfCells local (Some next) = next.cells ≡ local.cells

  one_cells : (b : Bool) (local : Local) (q : ℕ) (words : List ℤ)
      → IfCells local (taken_where b (row.taken local q words))
  one_cells false local q words = tt
  one_cells true local q words = by (row.taken local q words) refl
    where
      by : (o : Option Local) → row.taken local q words ≡ o → IfCells local o
      by None e = tt
      by (Some next) e = (taken_kept row is local next q words e).cells

  taking_cells : (words : ℕ → List ℤ) (from : List ℕ) (local : Local)
      → IfCells local (taking row words local from)
  taking_cells words [] local = refl
  taking_cells words (q ∷ from) local =
      by (taken_where (row.awaits local q (length (words q))) (row.taken local q (words q)))
      (one_cells (row.awaits local q (length (words q))) local q (words q))
      (taking_cells words from)
    where
      later : (local next : Local) (o : Option Local) → next.cells ≡ local.cells → IfCells next o
          → IfCells local o
      later local next None e rest = tt
      later local next (Some last) e rest = rest ∙ e

      by : (o : Option Local) → IfCells local o
          → ((next : Local) → IfCells next (taking row words next from))
          → IfCells local (option_and_then (λ next. taking row words next from) o)
      by None e rest = tt
      by (Some next) e rest = later local next (taking row words next from) e (rest next)

  or_cells : (one local : Local) (o : Option Local) → local.cells ≡ one.cells → IfCells local o
      → (unwrap_or o local).cells ≡ one.cells
  or_cells one local None e is = e
  or_cells one local (Some next) e is = is ∙ e

  or_first : (one middle : Local) (o : Option Local) → middle.cells ≡ one.cells → IfCells middle o
      → (unwrap_or o one).cells ≡ one.cells
  or_first one middle None e is = refl
  or_first one middle (Some next) e is = is ∙ e

  last_cells : (one local : Local) → local.cells ≡ one.cells
      → (share_of (next_or local (row.last local))).cells ≡ one.cells
  last_cells one local e = by (row.last local) (last_kept row is local)
    where
      by : (action : Action) → IsLastKept local action → (share_of (next_or local action)).cells
          ≡ one.cells
      by (Moves next sent shown) is = is ∙ e
      by action is = e

module _ (code : Tables) (all : Abreast) where
  -- ---- rows with messages
  module _ (row : ℕ → Collective) (is : (p : ℕ) → IsWorn (row p)) where
    abbrev locals : ℕ → Local
    locals = locals_of all

    final_cells : (heard : ℕ → ℕ → List ℤ) (p : ℕ)
        → (final_of code row locals heard p).cells ≡ (all.shares p).cells
    final_cells heard p =
        or_cells (row p) (is p) (locals p) (middle_of code row locals p)
        (took code row locals heard p)
        (begun_cells (row p) (is p) (starts_alone ((row p).stages (locals p))) (locals p))
        (taking_cells (row p) (is p) (λ q. heard q p) (from_of code row locals p)
        (middle_of code row locals p))

    with_cells : (heard : ℕ → ℕ → List ℤ) (flights : List Flight)
        → SameCells all (next_with code row locals heard flights)
    with_cells heard flights p =
        last_cells (row p) (is p) (locals p) (final_of code row locals heard p)
        (final_cells heard p)

    delivered_cells : IfGoes (SameCells all) (Does (delivered code row all))
    delivered_cells = where_goes (SameCells all) _ _ _ (with_cells _ [])

    started_cells : (links : Option ℕ) (number : ℕ)
        → IfGoes (SameCells all) (Does (started code row all links number))
    started_cells links number =
        where_goes (SameCells all) _ _ (next_with code row locals (λ p q. []) flights)
        (with_cells (λ p q. []) flights)
      where
        flights : List Flight
        flights = all.flights ++ record {
          exchange = number;
          to = to_of code row locals;
          words = words_of code row locals;
        } ∷ []

    finished_cells : (number : ℕ) → IfGoes (SameCells all) (Does (finished code row all number))
    finished_cells number = by all.flights
      where
        by : (flights : List Flight)
            → IfGoes (SameCells all) (Does (finished_in code row all number flights))
        by [] = tt
        by (flight ∷ flights) =
            where_goes (SameCells all) _ _ _ (λ p.
            either_share (λ share. share.cells ≡ (all.shares p).cells) code all
            (next_with code row locals flight.words flights) p refl
            (with_cells flight.words flights p))

    asking_cells : (p : ℕ) → (unwrap_or (asked code row all p) (locals p)).cells
        ≡ (all.shares p).cells
    asking_cells p = begun_cells (row p) (is p) true (locals p)

    heard_cells : (p : ℕ) → (unwrap_or (heard_by code row all p) (locals p)).cells
        ≡ (all.shares p).cells
    heard_cells p =
        or_first (row p) (is p) (locals p) (at_turn 1 (unwrap_or (asked code row all p) (locals p)))
        (heard_by code row all p) (asking_cells p) (taking_cells (row p) (is p) _ _ _)

    answered_cells : (p : ℕ) → (behind_answers code row all p).cells ≡ (all.shares p).cells
    answered_cells p =
        or_first (row p) (is p) (locals p) (answering code row all p) (answered code row all p)
        (heard_cells p)
        (taking_cells (row p) (is p) _ _ _)

    remapped_cells : IfGoes (SameCells all) (Does (remapped code row all))
    remapped_cells =
        where_goes (SameCells all) _ _ _ (λ p.
        last_cells (row p) (is p) (locals p) (behind_answers code row all p) (answered_cells p))

  -- ---- rows of one turn
  alone_cells : (row : Instr)
      → ((p : ℕ) → (share_of (next_or (locals_of all p) (action_of code row all p))).cells
      ≡ (all.shares p).cells)
      → IfGoes (SameCells all) (Does (alone code row all))
  alone_cells row kept = where_goes (SameCells all) _ _ _ kept

  room_cells : (array : ℕ) (row : Option ArrayRow) (region : Option Region) (p : ℕ)
      → (share_of (next_or (locals_of all p)
      (roomed code p (locals_of all p) array row region))).cells
      ≡ (all.shares p).cells
  room_cells array None region p = refl
  room_cells array (Some row) None p = refl
  room_cells array (Some row) (Some region) p = refl

  clear_cells : (array : ℕ) (store : Option Array) (p : ℕ)
      → (share_of (next_or (locals_of all p) (cleared (locals_of all p) array store))).cells
      ≡ (all.shares p).cells
  clear_cells array None p = refl
  clear_cells array (Some store) p = refl

  prints_cells : (bytes : List ℕ) (q p : ℕ)
      → (share_of (next_or (locals_of all p) (prints q (locals_of all p) bytes))).cells
      ≡ (all.shares p).cells
  prints_cells bytes zero p = refl
  prints_cells bytes (suc q) p = refl

  text_cells : (text : Option (List ℕ)) (p : ℕ)
      → (share_of (next_or (locals_of all p) (prints_text p (locals_of all p) text))).cells
      ≡ (all.shares p).cells
  text_cells None p = refl
  text_cells (Some text) p = prints_cells text p p

  value_cells : (value : Computed ℤ) (text : ℤ → List ℕ) (p : ℕ)
      → (share_of (next_or (locals_of all p) (prints_value p (locals_of all p) value text))).cells
      ≡ (all.shares p).cells
  value_cells (Gives value) text p = prints_cells (text value) p p
  value_cells Divides text p = refl
  value_cells Lacks text p = refl

  printed_cells : (row : Instr) (o : Option End)
      → ((p : ℕ) → (share_of (next_or (locals_of all p) (action_of code row all p))).cells
      ≡ (all.shares p).cells)
      → IfGoes (SameCells all) (Does (print_ends code row all o))
  printed_cells row None kept = alone_cells row kept
  printed_cells row (Some ending) kept = ends_goes (SameCells all) _ ending

  -- ---- rows that need scalars and slots alone
  control_cells : (row : Instr) → IfGoes (SameCells all) (controlled code row all)
  control_cells row = by (control_of code row all 0)
    where
      leaps : (b : Bool) (goal : ℕ) → IfGoes (SameCells all) (leaps_where b goal)
      leaps true goal = tt
      leaps false goal = tt

      by : (c : Control) → IfGoes (SameCells all) (controlled_as code row all c)
      by (control.Steps registers) =
          where_goes (SameCells all) (go_one_way code row all) [] (shares_on code row all)
          (λ p. refl)
      by (control.Leaps goal) = leaps (go_one_way code row all) goal
      by (control.Ends ending) = ends_goes (SameCells all) _ ending
      by control.Outside = tt

  vote_cells : (group : ℕ) (o : Option ℕ)
      → IfGoes (SameCells all) (Does (voted_as code all group o))
  vote_cells group None = where_goes (SameCells all) _ _ _ (λ p. refl)
  vote_cells group (Some k) = ends_goes (SameCells all) _ _

abbrev pub is_loop_row : Instr → Bool
is_loop_row (instr.Loop slot group) = true
is_loop_row row = false

pub row_cells : (code : Tables) (links : Option ℕ) (m : ℕ) (row : Instr) (next : Option Instr)
    (all : Abreast)
    → is_loop_row row ≡ false → IfGoes (SameCells all) (row_does code links m row next all)
row_cells code links m (instr.Loop slot group) next all e = cc
row_cells code links m (instr.Start number) next all e =
    found_goes (SameCells all) (slice_get code.exchanges number) _ (λ items.
    started_cells code all _ (λ p. started_worn code p number items) links number)
row_cells code links m (instr.Finish number) next all e =
    found_goes (SameCells all) (slice_get code.exchanges number) _ (λ items.
    finished_cells code all _ (λ p. finished_worn code p number items) number)
row_cells code links m (instr.Edge border array slot shift) next all e =
    delivered_cells code all _ (λ p. edging_worn code p border array slot shift)
row_cells code links m (instr.Flood array target from source) next all e =
    delivered_cells code all _ (λ p. flooding_worn code p array target from source)
row_cells code links m (instr.Part array target f from source) next all e =
    delivered_cells code all _ (λ p. parting_worn code p array target f from source)
row_cells code links m (instr.Scan array slot f along from mask) next all e =
    delivered_cells code all _ (λ p. scanned_worn code p f along from mask array slot)
row_cells code links m (instr.Gather truth array slot) next all e =
    delivered_cells code all _ (λ p. gathered_worn code p truth array slot)
row_cells code links m (instr.Remap array slot from parts) next all e =
    found_goes (SameCells all) (slice_get code.arrays from) _ (λ row.
    remapped_cells code all _ (λ p. remapped_worn code p array slot from
    (filter_map (λ part. part) parts) row))
row_cells code links m (instr.Vote group) next all e = vote_cells code all group _
row_cells code links m (instr.TreeVote group) next all e = vote_cells code all group _
row_cells code links m (instr.Fold scalar f) next all e =
    where_goes (SameCells all) _ _ _ (λ p. refl)
row_cells code links m (instr.TreeFold scalar f) next all e =
    where_goes (SameCells all) _ _ _ (λ p. refl)
row_cells code links m (instr.Room array slot) next all e =
    alone_cells code all (instr.Room array slot)
    (λ p. room_cells code all array (slice_get code.arrays array)
    (slice_get (all.shares p).slots slot) p)
row_cells code links m (instr.Clear array) next all e =
    alone_cells code all (instr.Clear array)
    (λ p. clear_cells code all array (slice_get (all.shares p).stores array) p)
row_cells code links m (instr.Print text) next all e =
    alone_cells code all (instr.Print text) (text_cells code all (slice_get code.texts text))
row_cells code links m (instr.Number expr) next all e =
    printed_cells code all (instr.Number expr) _
    (λ p. value_cells code all (expression_value code (locals_of all p) expr) signed_decimal p)
row_cells code links m (instr.Truth expr) next all e =
    printed_cells code all (instr.Truth expr) _
    (λ p. value_cells code all (expression_value code (locals_of all p) expr) truth_text p)
row_cells code links m (instr.Unless expr goal line) next all e =
    tested_goes (SameCells all) (controlled code (instr.Unless expr goal line) all)
row_cells code links m row next all e = control_cells code all row

-- ---- loops
all_front : (P : Member → Type 0) (xs ys : List Member) → All P (xs ++ ys) → All P xs
all_front P [] ys all = All-nil P
all_front P (x ∷ xs) ys all =
    All-cons P x xs (All-head P x (xs ++ ys) all) (all_front P xs ys (All-tail P x (xs ++ ys) all))

all_back : (P : Member → Type 0) (xs ys : List Member) → All P (xs ++ ys) → All P ys
all_back P [] ys all = all
all_back P (x ∷ xs) ys all = all_back P xs ys (All-tail P x (xs ++ ys) all)

module _ (n : ℕ) (code : Tables) where
  abbrev real : Tables
  real = counted n code

  abbrev Fit : ℕ → Member → Type 0
  Fit rank one = FitsMember code rank one

  -- within a bracket, and behind it
  within : (rank : ℕ) (one : Member) (body rest : List Member)
      → All (Fit rank) (one ∷ (body ++ rest))
      → All (Fit rank) body × All (Fit rank) rest
  within rank one body rest fits =
      let more = All-tail (Fit rank) one (body ++ rest) fits in
      (all_front (Fit rank) body rest more, all_back (Fit rank) body rest more)

  nest_fits : (rank : ℕ) (nest : Nest) → All (Fit rank) (members_of nest) → NestFits code rank nest
  nest_fits rank Nothing fits = tt
  nest_fits rank (Putting array expr mask line after) fits =
      nest_fits rank after (All-tail (Fit rank) (member.Put array expr mask line) (members_of after)
      fits)
  nest_fits rank (Keeping cell expr mask line after) fits = (
    (All-head (Fit rank) (member.Cell cell expr mask line) (members_of after) fits).0,
    nest_fits rank after (All-tail (Fit rank) (member.Cell cell expr mask line) (members_of after)
        fits),
  )
  nest_fits rank (Joining scalar f expr mask line after) fits =
      nest_fits rank after (All-tail (Fit rank) (member.Acc scalar f expr mask line)
      (members_of after) fits)
  nest_fits rank (Choosing expr mask line body after) fits =
      let two = within rank (member.OpenIf expr mask line) (members_of body)
      (member.CloseIf ∷ members_of after) fits in (
        nest_fits rank body two.0,
        nest_fits rank after (All-tail (Fit rank) member.CloseIf (members_of after) two.1),
      )
  nest_fits rank (ChoosingElse expr mask line body otherwise after) fits =
      let two =
      within rank (member.OpenIf expr mask line) (members_of body)
      (member.Otherwise ∷ (members_of otherwise ++ member.CloseIf ∷ members_of after)) fits in
      let three = within rank member.Otherwise (members_of otherwise)
      (member.CloseIf ∷ members_of after) two.1 in (
        nest_fits rank body two.0,
        nest_fits rank otherwise three.0,
        nest_fits rank after (All-tail (Fit rank) member.CloseIf (members_of after) three.1),
      )
  nest_fits rank (Looping expr mask line body after) fits =
      let two = within rank (member.OpenWhile expr mask line) (members_of body)
      (member.CloseWhile ∷ members_of after) fits in (
        (All-head (Fit rank) (member.OpenWhile expr mask line)
            (members_of body ++ member.CloseWhile ∷ members_of after) fits).0,
        nest_fits rank body two.0,
        nest_fits rank after (All-tail (Fit rank) member.CloseWhile (members_of after) two.1),
      )
  nest_fits rank (Repeating mask line body until after) fits =
      let two = within rank (member.OpenRepeat mask line) (members_of body)
      (member.Until until ∷ members_of after) fits in (
        All-head (Fit rank) (member.Until until) (members_of after) two.1,
        nest_fits rank body two.0,
        nest_fits rank after (All-tail (Fit rank) (member.Until until) (members_of after) two.1),
      )

  -- the tree of a group of the counted code
  pub record IsTree (nest : Nest) : Type 0 where
    pub old : Nest
    pub rank : ℕ
    pub same : counted_nest n code old ≡ nest
    pub fits : NestFits code rank old

  tree_of : (members there : List Member) (nest : Nest) → FitsGroup code members
      → counted_group n code members ≡ there
      → nest_of there ≡ Some nest → IsTree nest
  tree_of members there nest fits same e =
      let read : nest_of there ≡ Some (counted_nest n code fits.nest.tree) =
      ap nest_of (sym same ∙ ap (counted_group n code) (sym fits.nest.spelled)
      ∙ sym (nest_members n code fits.nest.tree))
      ∙ reads_again (counted_nest n code fits.nest.tree) in
      let one : counted_nest n code fits.nest.tree ≡ nest = cc in
      record {
        old = fits.nest.tree;
        rank = fits.rank;
        same = one;
        fits = nest_fits fits.rank fits.nest.tree
            (subst (All (Fit fits.rank)) (sym fits.nest.spelled) fits.fit);
      }

  pub group_tree : Fits code → (group : ℕ) (there : List Member) (nest : Nest)
      → slice_get real.groups group ≡ Some there → nest_of there ≡ Some nest → IsTree nest
  group_tree fits group there nest e read =
      by (slice_get code.groups group) refl
      (sym (slice_get-map (counted_group n code) code.groups group) ∙ e)
    where
      by : (o : Option (List Member)) → slice_get code.groups group ≡ o
          → option_map (counted_group n code) o ≡ Some there → IsTree nest
      by None f is = cc
      by (Some members) f is =
          let same : counted_group n code members ≡ there = cc in
          tree_of members there nest (Fits-group-row code group members fits f) same read

  module _ (m : ℕ) (above : n < m) where
    abbrev Grid : Type 0
    Grid = List Array

    abbrev TameShared : ℕ → Shared → Type 0
    TameShared least (Through point flag) = IsBetween n code least point
    TameShared least WantsTurn = ⊥
    TameShared least LacksPlace = ⊤

    less_shared : (less least : ℕ) (r : Shared) → less ≤ least → TameShared least r
        → TameShared less r
    less_shared less least (Through point flag) up is = record {
      count = is.count;
      more = omega (arith, up, is.more);
      few = is.few;
      here = is.here;
    }
    less_shared less least WantsTurn up is = is
    less_shared less least LacksPlace up is = tt

    abbrev FromHere : (Point Grid → Shared) → Type 0
    FromHere does =
        (count : ℕ) (point : Point Grid) → count ≤ n → slice_get point.cells code.cells
        ≡ Some (pos count)
        → TameShared count (does point)

    units_ends : (t : List ℤ) (units : List Nest) → AllTame n code (access_at t) m above units
        → (number : ℕ)
        → FromHere (units_shared real m number units t)
    units_ends t _ NoneTame number count point few here =
        record { count = count; more = omega arith; few = few; here = here }
    units_ends t _ (MoreTame {unit = unit} {units = units} tame rest) number count point few here =
        by (nested (ways_of real (access_at t)) m unit point) (tame count point few here)
        (units_ends t units rest (number + length (members_of unit)))
      where
        by : (told : Told (Point Grid)) → IsTame n code count told
            → FromHere (units_shared real m (number + length (members_of unit)) units t)
            → TameShared count (unit_next number told
            (units_shared real m (number + length (members_of unit)) units t))
        by (Fine behind) is ends =
            less_shared count is.count _ is.more (ends is.count behind is.few is.here)
        by (Zero behind) is ends = is
        by Wants is ends = absurd is
        by Lost is ends = tt

    tuples_ends : (units : List Nest) → ((t : List ℤ) → AllTame n code (access_at t) m above units)
        → (tuples : List (List ℤ)) (flag : Option ℕ)
        → FromHere (tuples_shared real m units tuples flag)
    tuples_ends units tame [] flag count point few here =
        record { count = count; more = omega arith; few = few; here = here }
    tuples_ends units tame (t ∷ tuples) flag count point few here =
        by (units_shared real m 0 units t point)
        (units_ends t units (tame t) 0 count point few here)
        (λ flag. tuples_ends units tame tuples flag)
      where
        by : (r : Shared) → TameShared count r
            → ((flag : Option ℕ) → FromHere (tuples_shared real m units tuples flag))
            → TameShared count (tuple_next flag r
            (λ point flag. tuples_shared real m units tuples flag point))
        by (Through behind more) is ends =
            less_shared count is.count _ is.more (ends _ is.count behind is.few is.here)
        by WantsTurn is ends = absurd is
        by LacksPlace is ends = tt

    pub shared_ends : (nest : Nest) → IsTree nest → (slot p : ℕ) (all : Abreast)
        → (own : IsWithin n code.cells (all.shares p))
        → TameShared own.count (shared real m (units_of nest) slot all p)
    shared_ends nest tree slot p all own =
        subst (λ nest. TameShared own.count (shared real m (units_of nest) slot all p)) tree.same
        (by (slice_get (all.shares p).slots slot))
      where
        by : (o : Option Region)
            → TameShared own.count (part_shared real m (units_of (counted_nest n code tree.old))
            (all.shares p) p o)
        by None = tt
        by (Some region) =
            tuples_ends (units_of (counted_nest n code tree.old))
            (λ t. units_tame n code (access_at t) m above tree.rank tree.old tree.fits)
            (members (own_part real p region)) (all.shares p).flag own.count
            (point_of real m (all.shares p)) own.few own.here

    -- no loop wants a turn
    pub wants_none : Fits code → (group slot p : ℕ) (there : List Member) (nest : Nest)
        (all : Abreast)
        → slice_get real.groups group ≡ Some there → nest_of there ≡ Some nest
        → IsWithin n code.cells (all.shares p)
        → shared real m (units_of nest) slot all p ≢ WantsTurn
    wants_none fits group slot p there nest all e read own wants =
        subst (TameShared own.count) wants
        (shared_ends nest (group_tree fits group there nest e read) slot p all own)

    -- and the cell stays where it is to be
    behind_within : (share : Share) (own : IsWithin n code.cells share) (r : Shared)
        → TameShared own.count r
        → IsWithin n code.cells (share_behind real m share r)
    behind_within share own (Through point flag) is =
        record { count = is.count; few = is.few; here = is.here }
    behind_within share own WantsTurn is = own
    behind_within share own LacksPlace is = own

    module _ (fits : Fits code) (slot : ℕ) (all : Abreast) (own : AreWithin n code all) where
      abbrev Stay : Abreast → Type 0
      Stay next = AreWithin n code next

      pick : (a b : Bool) (stop : Step Abreast) (shares : ℕ → Share) → stop
          ≡ Stops (Ends More) ⊎ stop ≡ Stops Wrong
          → ((p : ℕ) → p < processors code → IsWithin n code.cells (shares p))
          → IfGoes Stay (Does (if a then (if b then Goes []
          (of_processors real all (record all { shares = shares }))
          else stop) else Stops Wrong))
      pick true true stop shares which kept = λ p below.
          either_share (λ share. IsWithin n code.cells share) real all
          (record all { shares = shares }) p
          (own p below) (kept p below)
      pick true false stop shares (inl e) kept = subst (λ s. IfGoes Stay (Does s)) (sym e) tt
      pick true false stop shares (inr e) kept = subst (λ s. IfGoes Stay (Does s)) (sym e) tt
      pick false b stop shares which kept = tt

      abbrev wanting : Bool → Step Abreast
      wanting b = if b then Stops (Ends More) else Stops Wrong

      stops : (b : Bool) → (wanting b ≡ Stops (Ends More)) ⊎ (wanting b ≡ Stops Wrong)
      stops true = inl refl
      stops false = inr refl

      tree_within : (group : ℕ) (vote : Bool) (there : List Member) → slice_get real.groups group
          ≡ Some there
          → (o : Option Nest) → nest_of there ≡ o
          → IfGoes Stay (Does (tree_looped real m vote slot o all))
      tree_within group vote there e None read = tt
      tree_within group vote there e (Some nest) read =
          pick _ _ _ _ (stops (vote && is_quiet all)) (λ p below.
          behind_within (all.shares p) (own p below) (shared real m (units_of nest) slot all p)
          (shared_ends nest (group_tree fits group there nest e read) slot p all (own p below)))

      pub loop_within : (group : ℕ) (vote : Bool)
          → IfGoes Stay (Does (found (slice_get real.groups group)
          (λ members. looped real m vote slot members all)))
      loop_within group vote = by (slice_get real.groups group) refl
        where
          by : (o : Option (List Member)) → slice_get real.groups group ≡ o
              → IfGoes Stay (Does (found o (λ members. looped real m vote slot members all)))
          by None e = tt
          by (Some there) e = tree_within group vote there e (nest_of there) refl

    -- behind every row
    within_same : (all next : Abreast) → AreWithin n code all → SameCells all next
        → AreWithin n code next
    within_same all next own same p below =
        let is = own p below in
        record {
          count = is.count;
          few = is.few;
          here =
              ap (λ cells. slice_get cells code.cells) (same p) ∙ is.here;
        }

    row_within : Fits code → (links : Option ℕ) (row : Instr) (next : Option Instr) (all : Abreast)
        → AreWithin n code all
        → IfGoes (AreWithin n code) (row_does real links m row next all)
    row_within fits links (instr.Loop slot group) next all own =
        loop_within fits slot all own group (is_vote_of group next)
    row_within fits links row next all own =
        if_weaker (SameCells all) (AreWithin n code) (row_does real links m row next all)
        (λ after same. within_same all after own same) (row_cells real links m row next all refl)

    pub within_behind : Fits code → (links : Option ℕ) (row : Instr) (next : Option Instr)
        (all after : Abreast)
        (bytes : List ℕ) → AreWithin n code all → row_does real links m row next all
        ≡ Does (Goes bytes after)
        → AreWithin n code after
    within_behind fits links row next all after bytes own e =
        goes_to_state (AreWithin n code) (row_does real links m row next all) bytes after
        (row_within fits links row next all own) e

  -- ---- the start
  pub within_start : AreWithin n code (start_abreast real)
  within_start p below = record { count = 0; few = omega arith; here = zeros code.cells }
    where
      zeros : (k : ℕ) → slice_get (replicate (k + 1) (pos 0)) k ≡ Some (pos 0)
      zeros k = ap (λ j. slice_get (replicate j (pos 0)) k) (one_more k) ∙ by k
        where
          one_more : (k : ℕ) → k + 1 ≡ suc k
          one_more k = omega arith

          by : (k : ℕ) → slice_get (replicate (suc k) (pos 0)) k ≡ Some (pos 0)
          by zero = refl
          by (suc k) = by k
