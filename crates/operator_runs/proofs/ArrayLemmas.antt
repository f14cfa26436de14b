-- Assignments of arrays, whose values have operators over regions.
use Rattle.std.proofs.Common.{◌≡◌, refl, sym, ◌∙◌, ap, subst, arith, ℕ, ◌+◌, ◌≤◌, ◌<◌, ℤ, true, ◌&&◌, List, [], ◌∷◌, Option, Some, None, ◌⊎◌, inl, inr}
use Rattle.std.specs.Prelude.{slice_get}
use Rattle.std.specs.List.{list_all}
use Rattle.zpl_region.specs.declared.regions.Region.{Region}
use Rattle.zpl_arrays.specs.Array.{element}
use Rattle.zpl_tree.specs.Syntax.{Expr}
use Rattle.zpl_names.specs.Kinds.{Rank}
use Rattle.zpl_names.specs.Sites.{Role}
use Rattle.zpl_meaning.specs.Computed as mean
use Rattle.zpl_meaning.specs.Computed.{computed_then}
use Rattle.zpl_meaning.specs.Store.{Store, array_at, with_array}
use Rattle.zpl_meaning.specs.Context.{Mask, Over, Place}
use Rattle.zpl_meaning.specs.Checks.{has_mask_within, is_within}
use Rattle.zpl_meaning.specs.Fields.{Field, array_over, is_kept_in}
use Rattle.zpl_meaning.specs.Phases as phase
use Rattle.zpl_meaning.specs.Phases.{fields_in, first_field}
use Rattle.zpl_meaning.specs.Outcome as out
use Rattle.zpl_meaning.specs.Outcome.{Outcome}
use Rattle.zpl_meaning.specs.Proper.{HasCurrent}
use Rattle.zpl_meaning.specs.Statement.{assign_array, written}
use Rattle.node_form.specs.declared.tables.Tables.{Tables}
use Rattle.node_form.specs.Expression.{Expression, words_of}
use Rattle.row_runs.specs.Structured as code
use Rattle.row_runs.specs.Structured.{Course, rows_do}
use Rattle.flat_form.specs.Names.{word_reads}
use Rattle.flat_form.specs.Right.{can_read}
use Rattle.flat_form.specs.Whole.{Whole}
use Rattle.print_runs.specs.of_zpl_lowering.Where.{Stored, Slotted, Where, Next, slotted_at, rank_for}
use Rattle.print_runs.specs.of_zpl_lowering.Reference.{Reference, mask_reference, over_reference, refer_to}
use Rattle.print_runs.specs.of_zpl_lowering.Slate.{Placed, settled}
use Rattle.print_runs.specs.of_zpl_lowering.Lowered.{first_left, phased_with}
use Rattle.print_runs.specs.of_zpl_lowering.Statement.{lowered_array, placed_in, put_row}
use Rattle.print_runs.specs.of_lowering_runs.Seen.{Spot, Sight, seen_currents, seen_place, seen_store}
use Rattle.print_runs.specs.of_lowering_runs.Run.{does, decide, step}
use Rattle.print_runs.specs.of_lowering_runs.Agrees.{Agrees, Trapping}
use Rattle.print_runs.proofs.of_lowering_runs.AgreeLemmas.{led_agrees, weaker_agrees}
use Rattle.print_runs.specs.of_lowering_runs.Stands.{HasRoom, IsLike, Stands}
use Rattle.print_runs.specs.of_array_runs.Floods.{IsReadableMaskAs, IsWritableAs}
use Rattle.print_runs.specs.of_array_runs.Reads.{EachMatches}
use Rattle.print_runs.specs.of_array_runs.Gates.{holds}
use Rattle.print_runs.specs.of_array_runs.Assigned.{IsWritable}
use Rattle.print_runs.specs.of_array_runs.Elementwise.{IsReadable, IsReadableMask}
use Rattle.print_runs.proofs.of_array_runs.CodedLemmas.{CurrentOf, current_of}
use Rattle.print_runs.proofs.of_array_runs.FloodLemmas.{mask_readable, writable}
use Rattle.print_runs.proofs.of_array_runs.TargetLemmas.{covers_matching}
use Rattle.call_runs.proofs.of_prefix_runs.UnderLemmas.{taken_at}
use Rattle.operator_runs.specs.Meant.{InSlot, Site, Under}
use Rattle.operator_runs.specs.Hoists.{IsReadWell, MoreValues, NoValues, Unused, tests_of}
use Rattle.operator_runs.specs.Phases.{AreTakenBy, Phases, PassTo, OneTraps}
use Rattle.operator_runs.specs.Operated.{IsOperated}
use Rattle.operator_runs.proofs.HoistLemmas.{every_map}
use Rattle.operator_runs.proofs.LikeLemmas.{holding_taken, like_taken, slot_taken}
use Rattle.operator_runs.proofs.MeantLemmas.{AreReferred, element_at, mask_at}
use Rattle.operator_runs.proofs.PhaseLemmas.{phases_come, own_held}
use Rattle.operator_runs.proofs.PutLemmas.{put_agrees}
use Rattle.operator_runs.proofs.ReadLemmas.{Fits, Reads, ReadsNone, ReadsUnder, fits_current}
use Rattle.operator_runs.proofs.SettleLemmas.{AreOperated, NoneOperated, MoreOperated}
use Rattle.operator_runs.proofs.SpareLemmas.{spares_all}

module _ (tables : Tables) (n : ℕ) (sight : Sight) (w : Where) (next : Next) (now : Whole)
    (role : Role) (line target most : ℕ) (value : Expr)
    (few : tests_of (settled w line next (placed_in w role value).rank value).slate ≤ most)
    (stands : Stands sight.spots w next)
    (room : next.scalars ≤ tables.scalars)
    (like : IsLike tables sight.spots w next now (seen_store sight.spots w.numbers.arrays now) now)
    (has_current : HasCurrent (seen_currents now w.currents) (rank_for w role))
    (is_writable : IsWritableAs (slotted_at w.currents (rank_for w role))
    (slice_get w.numbers.arrays target))
    (is_masked : IsReadableMaskAs w (slotted_at w.currents (rank_for w role))
    (slotted_at w.currents (rank_for w role)).mask)
    (is_operated : (((placed_in w role value).rank ≡ rank_for w role)
    × IsOperated w (seen_place sight w now) (Some (slotted_at w.currents (rank_for w role))) value)
    ⊎ IsOperated w (seen_place sight w now) None value) where
  abbrev spots : List Spot
  spots = sight.spots

  abbrev place : Place
  place = seen_place sight w now

  abbrev store : Store
  store = seen_store spots w.numbers.arrays now

  abbrev Like : Store → Whole → Type 0
  Like = IsLike tables spots w next now

  abbrev rank : Rank
  rank = rank_for w role

  abbrev over : Slotted
  over = slotted_at w.currents rank

  current : CurrentOf w now rank
  current = current_of tables w now rank like.held has_current

  abbrev region : Region
  region = current.current.region

  before : over.slot < next.slots
  before = taken_at w.currents now rank next.slots stands.taken has_current

  abbrev ReadsAt : Rank → Site → Option Slotted → Type 0
  ReadsAt = Reads w.currents (seen_currents now w.currents) next.slots now.slots

  fits : Fits w.currents (seen_currents now w.currents) next.slots now.slots rank over region
  fits = fits_current w now rank next.slots before current

  readable_mask : IsReadableMask w region over.mask
  readable_mask = mask_readable w now.slots current.of over current.current over.mask is_masked

  is_writable_here : IsWritable region (slice_get w.numbers.arrays target)
  is_writable_here =
      writable w now.slots current.of over current.current (slice_get w.numbers.arrays target)
      is_writable

  abbrev exprs : List Placed
  exprs = placed_in w role value ∷ []

  -- arrays are read under the region, or not at all
  either : AreOperated sight w next now (Under over region ∷ []) exprs
  either = by is_operated
    where
      by : (((placed_in w role value).rank ≡ rank_for w role)
          × IsOperated w (seen_place sight w now) (Some (slotted_at w.currents (rank_for w role))) value)
          ⊎ IsOperated w (seen_place sight w now) None value
          → AreOperated sight w next now (Under over region ∷ []) exprs
      by (inl (e, h)) =
          MoreOperated
          (subst (λ (r : Rank). ReadsAt r (Under over region) (Some over)) (sym e) (ReadsUnder fits)) h
          NoneOperated
      by (inr h) = MoreOperated ReadsNone h NoneOperated

  -- ---- its own references

  refers_before : (shift : List ℤ) (o : Option Stored)
      → AreTakenBy next.slots (refer_to over.slot shift o)
  refers_before shift None = tt
  refers_before shift (Some stored) = (before, tt)

  mask_before : AreTakenBy next.slots (over_reference w.numbers over)
  mask_before = by over.mask
    where
      by : (mask : Option Mask) → AreTakenBy next.slots (mask_reference w.numbers over.slot mask)
      by None = tt
      by (Some mask) = refers_before [] (slice_get w.numbers.arrays mask.array)

  abbrev own : List Reference
  own = refer_to over.slot [] (slice_get w.numbers.arrays target)

  abbrev meant_over : Over
  meant_over = record { region = region; mask = over.mask }

  owned : (stored : Stored) → slice_get w.numbers.arrays target ≡ Some stored
      → EachMatches stored.storage.dims region.dims
      → AreReferred tables spots w line like.held.stored now like.sound own
      (is_within store region target)
  owned stored e h =
      let p = element_at tables spots w line like.held.stored now like.sound over region fits.in_slot
      target [] (subst (λ (o : Option Stored). IsReadable region [] o) (sym e)
      (covers_matching stored.storage.dims region.dims h, tt)) in
      record { there = p.1.there; gate = p.1.gate }

  lasting : AreReferred tables spots w line like.held.stored now like.sound
      (over_reference w.numbers over) (has_mask_within store meant_over)
  lasting =
      let m = mask_at tables spots w line like.held.stored now like.sound over region fits.in_slot
      readable_mask in
      record { there = m.there; gate = m.gate }

  -- ---- both

  abbrev outcome : Over → mean.Computed (List Field) → Outcome
  outcome o fields =
      out.with_value
      (computed_then fields (λ fields. array_over o.region (is_kept_in store o) (first_field fields)))
      store line (λ values.
      out.goes_on (with_array store target
      (written (array_at store target) o.region (is_kept_in store o) (element values))))

  module _ (stored : Stored) (found : slice_get w.numbers.arrays target ≡ Some stored)
      (matches : EachMatches stored.storage.dims region.dims) (behind : Unused)
      (left : Expression) where
    came : (c : mean.Computed (List Field)) (course : Course Whole)
        → ((fields : List Field) → c ≡ mean.Gives fields
        → (is_within store region target ≡ true) × (has_mask_within store meant_over ≡ true))
        → (some : ℕ) → some ≤ most
        → Phases tables spots w.numbers.arrays (Under over region ∷ []) next behind line some now
        (left ∷ []) c course
        → Agrees Like n most (outcome meant_over c)
        (code.then_do course (rows_do (step tables n) (decide tables n)
        (put_row w line over left (Some stored))))
    came c course holding some le (OneTraps less) = Trapping (omega (arith, less, le))
    came c course holding some le
        (PassTo own {after = after} {jumps = jumps} apart t (MoreValues {field = field} h NoValues) integers
        less) =
        let own_holds = holding (field ∷ []) refl in
        let all = spares_all tables spots w.numbers.arrays own behind after t.sound in
        let i : InSlot after.slots over region = slot_taken tables spots w.numbers.arrays next now after
        t.slots over region before fits.in_slot in
        weaker_agrees Like n n (jumps + 0) most _ _ (omega arith) (omega (arith, less, le))
        (led_agrees Like n 0 jumps _ _
        (put_agrees tables n spots w line next now store after
        (like_taken tables spots w next now store now after stands like t) over region i target stored
        found matches readable_mask field integers.0 left
        (holding_taken tables spots w.numbers.arrays next now after t.slots
        (refer_to over.slot [] (Some stored)) (refers_before [] (Some stored))
        ∙ ap (λ (o : Option Stored). list_all (holds tables now) (refer_to over.slot [] o)) (sym found)
        ∙ (owned stored found matches).gate ∙ own_holds.0)
        (holding_taken tables spots w.numbers.arrays next now after t.slots
        (over_reference w.numbers over) mask_before
        ∙ lasting.gate ∙ own_holds.1)
        (λ cells t at. h.values after all cells t at)
        (every_map (IsReadWell tables (Under over region) after behind.scalars)
        (λ one. list_all (can_read tables after region) (word_reads one) ≡ true) (words_of left)
        (λ one r. r.reads) (h.reads after all))))

  abbrev made : Option Stored → Course Whole
  made o =
      let phases = phased_with w line next own (over_reference w.numbers over) exprs in
      code.then_do (does tables n phases.lowered.code now) (rows_do (step tables n) (decide tables n)
      (put_row w line over (first_left phases.left) o))

  module _ (space : HasRoom tables next
      (phased_with w line next own (over_reference w.numbers over) exprs).lowered) where
    at_over : (stored : Stored) (found : slice_get w.numbers.arrays target ≡ Some stored)
        → EachMatches stored.storage.dims region.dims
        → Agrees Like n most
        (outcome meant_over (fields_in place store
        (is_within store region target && has_mask_within store meant_over)
        (phase.placed_in place role value ∷ []))) (made (Some stored))
    at_over stored found matches =
        came stored found matches _ _ _ _
        (own_held place store (is_within store region target) (has_mask_within store meant_over)
        (phase.placed_in place role value ∷ [])) _ (omega (arith, few))
        (phases_come tables n sight w line next now stands room like.sound like.held
        (Under over region ∷ []) (fits.in_slot, tt) (before, tt) own (is_within store region target) (owned stored found matches)
        (refers_before [] (slice_get w.numbers.arrays target)) (over_reference w.numbers over)
        (has_mask_within store meant_over) lasting mask_before exprs either space)

    by_stored : (o : Option Stored) → slice_get w.numbers.arrays target ≡ o → IsWritable region o
        → Agrees Like n most
        (outcome meant_over (fields_in place store
        (is_within store region target && has_mask_within store meant_over)
        (phase.placed_in place role value ∷ []))) (made (slice_get w.numbers.arrays target))
    by_stored None e h = absurd h
    by_stored (Some stored) e h =
        subst (λ (o : Option Stored). Agrees Like n most
        (outcome meant_over (fields_in place store
        (is_within store region target && has_mask_within store meant_over)
        (phase.placed_in place role value ∷ []))) (made o)) (sym e) (at_over stored e h)

    pub array_agrees : Agrees Like n most (assign_array place role target value line store)
        (does tables n (lowered_array w line next over (placed_in w role value)
        (slice_get w.numbers.arrays target)).code now)
    array_agrees =
        subst (λ (o : Over). Agrees Like n most
        (outcome o (fields_in place store (is_within store o.region target && has_mask_within store o)
        (phase.placed_in place role value ∷ []))) (made (slice_get w.numbers.arrays target)))
        (sym fits.over_is)
        (by_stored (slice_get w.numbers.arrays target) refl is_writable_here)
