-- Rows of brackets: what they come to, one behind the other; and the bracket of an operator, with
-- the place of its operand.
use Rattle.std.proofs.Common.{◌≡◌, refl, sym, ◌∙◌, ap, subst, arith, ℕ, ◌+◌, ◌≤◌, ◌<◌}
use Rattle.std.proofs.Common.{List, [], ◌++◌, length, length-append, Option, Some, None}
use Rattle.std.specs.Prelude.{slice_get}
use Rattle.std.specs.Option.{option_map}
use Rattle.zpl_nums.specs.declared.ends.End.TheVariants.{Trap}
use Rattle.zpl_nums.specs.declared.ends.TrapKind.{TrapKind}
use Rattle.zpl_region.specs.declared.regions.Region.{Region}
use Rattle.zpl_binding.specs.Regions.{no_region}
use Rattle.zpl_tree.specs.Syntax.{Expr, Inner}
use Rattle.zpl_names.specs.Kinds.{Rank}
use Rattle.zpl_meaning.specs.Computed as mean
use Rattle.zpl_meaning.specs.Computed.{both_then, computed_then}
use Rattle.zpl_meaning.specs.Store.{Store}
use Rattle.zpl_meaning.specs.Context.{Currents, Edge, Place, over_at, with_over}
use Rattle.zpl_meaning.specs.Proper.{HasCurrent}
use Rattle.zpl_meaning.specs.Settled as phase
use Rattle.node_form.specs.declared.tables.Tables.{Tables}
use Rattle.row_runs.specs.Run.{Ends}
use Rattle.row_runs.specs.Structured as code
use Rattle.row_runs.specs.Structured.{Course, Over as IsOver, rows_do}
use Rattle.flat_form.specs.Row.{Row}
use Rattle.flat_form.specs.Whole.{Whole}
use Rattle.print_runs.specs.of_zpl_lowering.Where.{Next, SlotCurrents, Slotted, Where, slotted_at, with_slotted}
use Rattle.print_runs.specs.of_zpl_lowering.Bracket.{Opened}
use Rattle.print_runs.specs.of_zpl_lowering.Lowered.{Lowered, both, coded}
use Rattle.print_runs.specs.of_zpl_lowering.Slate as slate
use Rattle.print_runs.specs.of_zpl_lowering.Slate.{Settled, of_opened, opened_source, source_of, source_rank}
use Rattle.print_runs.specs.of_lowering_runs.Seen.{Sight, Spot, seen_currents, seen_edge, seen_names, seen_over, seen_place, seen_store}
use Rattle.print_runs.specs.of_lowering_runs.Run.{decide, step}
use Rattle.print_runs.specs.of_lowering_runs.Stands.{HasRoom, IsBefore, IsCurrent, IsHeld, IsSound, SlotsAt, Stands}
use Rattle.print_runs.proofs.of_lowering_runs.FitLemmas.{currents_kept, held_on, place_kept, room_first, room_rest, stands_on}
use Rattle.print_runs.proofs.of_array_runs.StoredLemmas.{index_of_found}
use Rattle.call_runs.specs.of_prefix_runs.Filled.{IsFilled}
use Rattle.call_runs.specs.of_prefix_runs.Opens.{IsOpenedAs, Opens}
use Rattle.call_runs.proofs.of_prefix_runs.FillLemmas.{Filling, Fills, Refuses, filled_itself, filled_then}
use Rattle.call_runs.proofs.of_prefix_runs.OpenLemmas as brackets
use Rattle.call_runs.proofs.of_prefix_runs.ShapedLemmas.{Told}
use Rattle.call_runs.proofs.of_prefix_runs.SpanLemmas.{CurrentIf}
use Rattle.call_runs.proofs.of_prefix_runs.UnderLemmas.{current_if, filled_sound, held_with, over_with, over_with_itself, rank_above, rank_few, slots_kept, slotted_with, store_kept, taken_at, taken_with}
use Rattle.operator_runs.specs.Meant.{InSlot, Under}
use Rattle.operator_runs.specs.Operated.{OpensSource}
use Rattle.operator_runs.proofs.ReadLemmas.{Fits, Reads, ReadsUnder}

-- ---- rows of brackets

-- They fill slots that were free, and leave what stands for what is meant, also where further slots
-- are filled; or they end with the trap that is.
pub data Leaves {A T : Type 0} (Meant : List Region → A → T → Type 0) (line : ℕ) (next : Next)
    (now : Whole) (it : Settled A) : mean.Computed T → Course Whole → Type 0 where
  LeavesIt : {there : Whole} {meant : T} → IsFilled next.slots now there
      → ((later : Whole) → IsFilled (next.slots + length it.slots) there later
      → Meant later.slots it.slate meant)
      → Leaves Meant line next now it (mean.Gives meant) (code.goes_on there)
  LeavesNone : {after : Whole} {kind : TrapKind}
      → Leaves Meant line next now it (mean.Traps kind)
      (code.closes (IsOver (Ends (Trap kind line))) after)

pub alone_leaves : {A T : Type 0} (Meant : List Region → A → T → Type 0) (line : ℕ) (next : Next)
    (now : Whole) (one : A) (meant : T)
    → ((later : Whole) → IsFilled next.slots now later → Meant later.slots one meant)
    → Leaves Meant line next now (slate.alone one) (mean.Gives meant) (code.goes_on now)
alone_leaves Meant line next now one meant m =
    LeavesIt (filled_itself next.slots now)
    (λ later k. m later
    (filled_then next.slots (next.slots + 0) now now later (omega arith)
    (filled_itself next.slots now) k))

pub mapped_leaves : {A B T U : Type 0} (Meant : List Region → A → T → Type 0)
    (Made : List Region → B → U → Type 0) (line : ℕ) (next : Next) (now : Whole) (f : A → B)
    (g : T → U) (it : Settled A) (value : mean.Computed T) (course : Course Whole)
    → ((meant : T) (later : Whole) → IsFilled next.slots now later → Meant later.slots it.slate meant
    → Made later.slots (f it.slate) (g meant))
    → Leaves Meant line next now it value course
    → Leaves Made line next now (slate.mapped f it)
    (computed_then value (λ meant. mean.Gives (g meant))) course
mapped_leaves Meant Made line next now f g it _ _ to (LeavesIt {there = there} {meant = meant} filled m) =
    LeavesIt filled
    (λ later k. to meant later
    (filled_then next.slots (next.slots + length it.slots) now there later (omega arith) filled k)
    (m later k))
mapped_leaves Meant Made line next now f g it _ _ to LeavesNone = LeavesNone

module _ {A B C T U V : Type 0} (Meant : List Region → A → T → Type 0)
    (Also : T → List Region → B → U → Type 0) (Made : List Region → C → V → Type 0) (line : ℕ)
    (next : Next) (now : Whole) (first : Settled A) (rest : Settled B) (f : A → B → C)
    (g : T → U → V)
    (to : (meant : T) (other : U) (later : Whole) → IsFilled next.slots now later
    → Meant later.slots first.slate meant → Also meant later.slots rest.slate other
    → Made later.slots (f first.slate rest.slate) (g meant other)) where
  both_slots : (a b c : ℕ) → c ≡ a + b → (k : ℕ) → k + a + b ≤ k + c
  both_slots a b c e k = omega (arith, e)

  second_leaves : (there : Whole) (meant : T) → IsFilled next.slots now there
      → ((later : Whole) → IsFilled (next.slots + length first.slots) there later
      → Meant later.slots first.slate meant)
      → (value : mean.Computed U) (course : Course Whole)
      → Leaves (Also meant) line (slate.behind next first) there rest value course
      → Leaves Made line next now (slate.both f first rest)
      (computed_then value (λ other. mean.Gives (g meant other))) course
  second_leaves there meant filled m _ _ (LeavesIt {there = beyond} {meant = other} more o) =
      let mid = next.slots + length first.slots in
      let many = length-append first.slots rest.slots in
      LeavesIt (filled_then next.slots mid now there beyond (omega arith) filled more)
      (λ later k.
      let last = filled_then (mid + length rest.slots)
      (next.slots + length (first.slots ++ rest.slots)) beyond beyond later
      (both_slots (length first.slots) (length rest.slots) (length (first.slots ++ rest.slots)) many
      next.slots) (filled_itself (mid + length rest.slots) beyond) k in
      let behind = filled_then mid (mid + length rest.slots) there beyond later (omega arith) more last
      in
      to meant other later (filled_then next.slots mid now there later (omega arith) filled behind)
      (m later behind) (o later last))
  second_leaves there meant filled m _ _ LeavesNone = LeavesNone

  pub then_leaves : (rows : List Row → Whole → Course Whole) (value : mean.Computed T)
      (after : T → mean.Computed U) (course : Course Whole)
      → Leaves Meant line next now first value course
      → ((meant : T) → value ≡ mean.Gives meant → (there : Whole) → IsFilled next.slots now there
      → ((later : Whole) → IsFilled (next.slots + length first.slots) there later
      → Meant later.slots first.slate meant)
      → Leaves (Also meant) line (slate.behind next first) there rest (after meant)
      (rows rest.rows there))
      → Leaves Made line next now (slate.both f first rest)
      (computed_then value (λ meant. computed_then (after meant) (λ other.
      mean.Gives (g meant other)))) (code.then_do course (rows rest.rows))
  then_leaves rows _ after _ (LeavesIt {there = there} {meant = meant} filled m) k =
      second_leaves there meant filled m (after meant) (rows rest.rows there)
      (k meant refl there filled m)
  then_leaves rows _ after _ LeavesNone k = LeavesNone

pub both_is : {A B C : Type 0} (value : mean.Computed A) (other : mean.Computed B)
    (next : A → B → mean.Computed C)
    → both_then value other next
    ≡ computed_then value (λ first. computed_then other (λ second. next first second))
both_is (mean.Gives first) (mean.Gives second) next = refl
both_is (mean.Gives first) (mean.Traps kind) next = refl
both_is (mean.Traps kind) other next = refl

-- ---- room

module _ (tables : Tables) (next : Next) (space : next.scalars ≤ tables.scalars) (one other : List ℕ) where
  abbrev has_slots : List ℕ → Lowered
  has_slots slots = record (coded (code.Rows [])) { slots = slots }

  room_both : SlotsAt tables.slots next.slots (one ++ other)
      → HasRoom tables next
      (both (has_slots one) (has_slots other))
  room_both h = record {
    scalars = omega (arith, space);
    slots = h;
    arrays = tt;
    copies = tt;
    later = tt;
    temps = tt;
  }

  pub slots_first : SlotsAt tables.slots next.slots (one ++ other) → SlotsAt tables.slots next.slots one
  slots_first h =
      (room_first tables next (code.Then (code.Rows []) (code.Rows [])) (has_slots one)
      (has_slots other) (room_both h)).slots

  pub slots_rest : SlotsAt tables.slots next.slots (one ++ other)
      → SlotsAt tables.slots (next.slots + length one) other
  slots_rest h =
      (room_rest tables next (code.Then (code.Rows []) (code.Rows [])) (has_slots one)
      (has_slots other) (room_both h)).slots

-- ---- where an expression is settled

module _ (tables : Tables) (n : ℕ) (sight : Sight) (base : Where) (line : ℕ) (store : Store)
    (edge : Option Edge) where
  abbrev spots : List Spot
  spots = sight.spots

  -- the place of a statement, but for its current regions
  abbrev pub at : SlotCurrents → Where
  at currents = record base { currents = currents }

  abbrev pub seen_at : Currents → Place
  seen_at meant = record {
    setup = base.setup;
    scope = base.scope;
    environment = record { names = seen_names spots base.environment.names };
    result = sight.answer;
    prefix = base.prefix;
    currents = meant;
    edge = edge;
  }

  abbrev rows : List Row → Whole → Course Whole
  rows = rows_do (step tables n) (decide tables n)

  -- the place and the store of the meaning are those that are seen of a state
  pub record IsHere (currents : SlotCurrents) (meant : Currents) (next : Next) (now : Whole)
      : Type 0 where
    pub stands : Stands spots (at currents) next
    pub held : IsHeld tables base.setup.known base.numbers.arrays currents now.slots
    pub sound : IsSound tables now
    pub space : next.scalars ≤ tables.scalars
    pub currents_are : seen_currents now currents ≡ meant
    pub edge_is : option_map (seen_edge now) base.edge ≡ edge
    pub store_is : seen_store spots base.numbers.arrays now ≡ store

  pub place_is : (currents : SlotCurrents) (meant : Currents) (next : Next) (now : Whole)
      → IsHere currents meant next now → seen_place sight (at currents) now ≡ seen_at meant
  place_is currents meant next now h =
      ap (λ (c : Currents). record (seen_place sight (at currents) now) { currents = c }) h.currents_are
      ∙ ap (λ (e : Option Edge). record (seen_at meant) { edge = e }) h.edge_is

  -- behind rows that fill slots
  pub here_behind : {A : Type 0} (it : Settled A) (currents : SlotCurrents) (meant : Currents)
      (next : Next) (now there : Whole) → IsHere currents meant next now
      → IsFilled next.slots now there → IsHere currents meant (slate.behind next it) there
  here_behind it currents meant next now there h filled =
      let kept = slots_kept tables next.slots now there filled in
      let later : IsBefore next (slate.behind next it) =
      record { scalars = omega arith; slots = omega arith; arrays = omega arith } in
      record {
        stands = stands_on spots (at currents) next (slate.behind next it) later h.stands;
        held = held_on tables base.setup.known base.numbers.arrays currents next.slots now there
            filled.many kept h.stands.taken h.stands.declared h.held;
        sound = filled_sound tables next.slots now there filled h.sound;
        space = h.space;
        currents_are =
            currents_kept now there next.slots kept currents h.stands.taken ∙ h.currents_are;
        edge_is = ap (λ (p : Place). p.edge) (place_kept now there next.slots kept sight (at currents)
            h.stands.taken h.stands.edge) ∙ h.edge_is;
        store_is = store_kept tables next.slots now there filled spots base.numbers.arrays ∙ h.store_is;
      }

  -- ---- the bracket of an operator

  opened_leaves : (next : Next) (now : Whole) (opened : Opened) (value : mean.Computed Region)
      (course : Course Whole) → Filling next.slots opened.slot line now value course
      → Told opened.flood value → opened.slot < next.slots + length opened.slots
      → Leaves InSlot line next now (of_opened opened) value course
  opened_leaves next now opened _ _ (Fills found filled) told lt =
      LeavesIt filled (λ later k. record {
        found = k.below opened.slot lt ∙ found;
        is = told.is;
        three = told.three;
        flood = told.flood_is;
      })
  opened_leaves next now opened _ _ Refuses told lt = LeavesNone

  module _ (currents : SlotCurrents) (meant : Currents) (next : Next) (now : Whole)
      (here : IsHere currents meant next now) (over : Slotted) (source : Inner) (operand : Expr)
      (o : OpensSource (at currents) (seen_at meant) over source operand) where
    abbrev rank : Rank
    rank = source_rank (at currents) source operand

    abbrev slotted : Slotted
    slotted = slotted_at currents rank

    abbrev current : Region
    current = (over_at (seen_currents now currents) rank).region

    abbrev pub opened : Opened
    opened = opened_source (at currents) next line source operand

    abbrev pub src : Slotted
    src = source_of opened

    abbrev value : mean.Computed Region
    value = phase.source_in (seen_place sight (at currents) now)
        (seen_store spots base.numbers.arrays now) source operand

    abbrev pub meant_value : mean.Computed Region
    meant_value = phase.source_in (seen_at meant) store source operand

    value_is : value ≡ meant_value
    value_is =
        ap (λ (p : Place). phase.source_in p (seen_store spots base.numbers.arrays now) source operand)
        (place_is currents meant next now here)
        ∙ ap (λ (s : Store). phase.source_in (seen_at meant) s source operand) here.store_is

    has : CurrentIf now (seen_place sight (at currents) now) o.rank slotted current
    has = subst (λ (r : Rank). CurrentIf now (seen_place sight (at currents) now) o.rank
        (slotted_at currents r) (over_at (seen_currents now currents) r).region) (sym o.ranked)
        (λ h. current_if tables (at currents) now o.rank here.held h)

    slot_taken : HasCurrent (seen_currents now currents) (Some o.rank) → slotted.slot < next.slots
    slot_taken = subst (λ (r : Rank). HasCurrent (seen_currents now currents) (Some o.rank)
        → (slotted_at currents r).slot < next.slots) (sym o.ranked)
        (λ h. taken_at currents now (Some o.rank) next.slots here.stands.taken h)

    comes : brackets.Comes tables n sight (at currents) next now here.stands here.space here.sound
        here.held.declared line o.rank (rank_above o.rank o.is_rank) (rank_few o.rank o.is_rank)
        slotted current has slot_taken opened value
    comes =
        brackets.bracket_comes tables n sight (at currents) next now here.stands here.space here.sound
        here.held.declared line o.rank (rank_above o.rank o.is_rank) (rank_few o.rank o.is_rank)
        slotted current has slot_taken source
        (subst (λ (p : Place). Opens p o.rank source) (sym (place_is currents meant next now here))
        o.opens)

    told : Told opened.flood meant_value
    told = subst (λ (v : mean.Computed Region). Told opened.flood v) value_is comes.told

    pub source_leaves : SlotsAt tables.slots next.slots opened.slots
        → Leaves InSlot line next now (of_opened opened) meant_value (rows opened.rows now)
    source_leaves room =
        opened_leaves next now opened meant_value (rows opened.rows now)
        (subst (λ (v : mean.Computed Region). Filling next.slots opened.slot line now v
        (rows opened.rows now)) value_is (comes.fills room)) told comes.slot

    -- ---- behind it

    abbrev pub inner_currents : SlotCurrents
    inner_currents = with_slotted currents rank src

    abbrev pub inner_meant : Region → Currents
    inner_meant region = with_over meant rank (record { region = region; mask = None })

    abbrev pub inner_next : Next
    inner_next = slate.behind next (of_opened opened)

    module _ (region : Region) (given : meant_value ≡ mean.Gives region) where
      pub opened_as : IsOpenedAs opened.flood region
      opened_as = subst (λ (v : mean.Computed Region). Told opened.flood v) given told

      module _ (there : Whole) (filled : IsFilled next.slots now there)
          (found : slice_get there.slots opened.slot ≡ Some region) where
        behind_it : IsHere currents meant inner_next there
        behind_it = here_behind (of_opened opened) currents meant next now there here filled

        is_current : IsCurrent there.slots o.rank src
        is_current = record {
          region = region;
          found = found;
          is = opened_as.is;
          three = opened_as.three;
          ranked = opened_as.ranked ∙ comes.ranked;
          flood = opened_as.flood_is;
        }

        pub inner_here : IsHere inner_currents (inner_meant region) inner_next there
        inner_here =
            let h = behind_it in
            let s = h.stands in
            record {
              stands = record {
                numbers = s.numbers;
                rises = s.rises;
                known = s.known;
                globals = s.globals;
                unmoved = s.unmoved;
                taken = taken_with currents rank src inner_next.slots comes.slot s.taken;
                edge = s.edge;
                declared = s.declared;
                stored = s.stored;
              };
              held = subst (λ (r : Rank). IsHeld tables base.setup.known base.numbers.arrays
                  (with_slotted currents r src) there.slots) (sym o.ranked)
                  (held_with tables (at currents) there.slots o.rank src o.is_rank is_current h.held);
              sound = h.sound;
              space = h.space;
              currents_are = sym (over_with currents rank there src)
                  ∙ ap (λ (c : Currents). with_over c rank (seen_over there src)) h.currents_are
                  ∙ ap (λ (r : Region). with_over meant rank (record { region = r; mask = None }))
                  (index_of_found there.slots opened.slot region no_region found);
              edge_is = h.edge_is;
              store_is = h.store_is;
            }

        inner_fits : Fits inner_currents (inner_meant region) inner_next.slots there.slots rank src region
        inner_fits = record {
          slotted_is = subst (λ (r : Rank). slotted_at (with_slotted currents r src) r ≡ src)
              (sym o.ranked) (slotted_with currents o.rank src o.is_rank);
          over_is = subst (λ (r : Rank).
              over_at (with_over meant r (record { region = region; mask = None })) r
              ≡ record { region = region; mask = None }) (sym o.ranked)
              (over_with_itself meant o.rank (record { region = region; mask = None }) o.is_rank);
          in_slot = record {
            found = found;
            is = opened_as.is;
            three = opened_as.three;
            flood = opened_as.flood_is;
          };
          below = comes.slot;
        }

        pub inner_reads : Reads inner_currents (inner_meant region) inner_next.slots there.slots rank
            (Under src region) (Some src)
        inner_reads = ReadsUnder inner_fits
