-- A read that wraps round: its rows fill the copy, from which it is read with the copy's shift.
use Rattle.std.proofs.Common.{◌≡◌, refl, sym, ◌∙◌, ap, subst, arith, ℕ, suc, ◌+◌, ◌*◌, ◌<◌, Bool, true, false, ◌&&◌}
use Rattle.std.proofs.Common.{List, [], ◌∷◌, length, map, ℤ, ◌+ℤ◌, All, Some, None, inl}
use Rattle.std.specs.Prelude.{if◌then◌else◌, pos, replicate, slice_get}
use Rattle.std.specs.List.{AllZip, list_all}
use Rattle.zpl_nums.specs.Integer.{IsInteger}
use Rattle.zpl_region.specs.declared.regions.Region.{Region}
use Rattle.zpl_region.specs.declared.dims.Dim.{Dim}
use Rattle.zpl_region.specs.declared.dims.Dim.TheVariants.{Flood, Range}
use Rattle.zpl_region.specs.Dim.{HasStep, IsCoordinate}
use Rattle.zpl_region.specs.Ends.{tuple_count}
use Rattle.zpl_region.specs.Region.{IsMember, components, each_coordinate_moved, members, tuple_moved}
use Rattle.zpl_region.specs.Tests.{is_coordinate}
use Rattle.zpl_region.proofs.HullLemmas.{has_steps}
use Rattle.zpl_region.proofs.TestLemmas.{is_member_iff}
use Rattle.zpl_arrays.specs.Around.{around_source, copy_shift, copy_storage, dim_around, each_around}
use Rattle.zpl_arrays.specs.Array.{Array, array_of, each_has_place, element, flattened, has_place, place_along, place_among}
use Rattle.zpl_arrays.specs.Reference.{lies_in}
use Rattle.zpl_arrays.proofs.ArrayLemmas.{array_of_is_array, element_of_member, flattened_member}
use Rattle.zpl_arrays.proofs.ReferenceLemmas.{length-components, lies_in_places}
use Rattle.zpl_meaning.specs.Computed as mean
use Rattle.zpl_meaning.specs.Fields.{Field, everywhere, field_of}
use Rattle.zpl_meaning.specs.Statement.{written}
use Rattle.zpl_meaning.specs.Store.{Store, array_at, no_array}
use Rattle.zpl_meaning.specs.Term as term
use Rattle.node_form.specs.declared.instructions.Instr.TheVariants as instr
use Rattle.node_form.specs.declared.tables.Tables.{Tables}
use Rattle.node_form.specs.Expression as word
use Rattle.node_form.specs.Expression.{Expression, words_of}
use Rattle.node_form.specs.Value as flat
use Rattle.node_form.specs.Value.{tree_value, unmoved}
use Rattle.node_form.proofs.ValueLemmas.{value_of-words_of}
use Rattle.row_runs.specs.Run.{Goes}
use Rattle.row_runs.specs.Straight.{Every}
use Rattle.row_runs.specs.Structured as code
use Rattle.row_runs.specs.Structured.{Course, by_step, rows_do}
use Rattle.grid_meaning.specs.Place.{moved_by}
use Rattle.flat_form.specs.Loop.{loop_stands, looped, operands_at}
use Rattle.flat_form.specs.Names.{group_cells, word_reads}
use Rattle.flat_form.specs.Right.{can_read, can_write, has_places, writes_well}
use Rattle.flat_form.specs.Row as row
use Rattle.flat_form.specs.Row.{Row, Words}
use Rattle.flat_form.specs.Whole.{Whole}
use Rattle.normal_runs.proofs.PlaceLemmas.{moved_none, set_there}
use Rattle.print_runs.specs.of_zpl_lowering.Where.{Slotted, Stored, Where, flood_of}
use Rattle.print_runs.specs.of_zpl_lowering.Slate as slate
use Rattle.print_runs.specs.of_zpl_lowering.Reference.{at_place, is_unmoved, referred, vector_over}
use Rattle.print_runs.specs.of_zpl_lowering.Hoist.{border_rows, border_vectors, copy_rows, element_code, neighbour_if}
use Rattle.print_runs.specs.of_lowering_runs.Run.{decide, step, straight}
use Rattle.print_runs.specs.of_lowering_runs.Seen.{Spot, seen_store}
use Rattle.print_runs.specs.of_lowering_runs.Stands.{AreStored, IsCurrent, Misses}
use Rattle.print_runs.proofs.of_lowering_runs.NumberLemmas.{get_same}
use Rattle.print_runs.proofs.of_lowering_runs.RowLemmas.{settled_act}
use Rattle.print_runs.specs.of_array_puts.Put.{IsPutting, IsSame, assigned, put_group, with_array_in}
use Rattle.print_runs.proofs.of_array_puts.PutLemmas.{put_assigns}
use Rattle.print_runs.specs.of_array_runs.Gates.{holds}
use Rattle.print_runs.specs.of_array_runs.Integers.{HasIntegers}
use Rattle.print_runs.specs.of_array_runs.Reads.{Covers, EachCovers, EachMatches}
use Rattle.print_runs.proofs.of_array_runs.PlaceLemmas.{element_by}
use Rattle.print_runs.proofs.of_array_runs.AssignLemmas.{all_read}
use Rattle.print_runs.proofs.of_array_runs.ElementLemmas.{all_members, element_part, holding_is}
use Rattle.print_runs.proofs.of_array_runs.IntegerLemmas.{element_integer, made_integers}
use Rattle.print_runs.proofs.of_array_runs.PartLemmas.{IsPart}
use Rattle.print_runs.proofs.of_array_runs.StoredLemmas.{IsFound, found_array, index_of_found}
use Rattle.print_runs.proofs.of_array_runs.TargetLemmas.{covers_matching, flat_member, matches_row}
use Rattle.call_runs.proofs.of_prefix_runs.ShapedLemmas.{filled}
use Rattle.operator_runs.specs.Meant.{InSlot, IsAround, Under}
use Rattle.operator_runs.specs.Hoists.{Hoists, IsReadWell, Own, Reaches, Spares, Unused}
use Rattle.operator_runs.proofs.StandLemmas.{NamesBelow}
use Rattle.operator_runs.specs.Copies.{IsCopy}
use Rattle.operator_runs.proofs.StateLemmas.{AreApart, HasState, holds_in, refers_held, slot_in_state, spared_state}
use Rattle.operator_runs.proofs.CurrentLemmas.{current_in}
use Rattle.operator_runs.proofs.RemapHoistLemmas.{total_array}
use Rattle.operator_runs.proofs.SpareLemmas.{IsFreer, spares_then}
use Rattle.operator_runs.proofs.WrapCopyLemmas.{all_bordered, bordered, copy_reads, shift_conforms, shift_long}
use Rattle.operator_runs.proofs.WrapCountLemmas.{slots_counted}
use Rattle.operator_runs.proofs.WrapPlaceLemmas.{IsCopying, some_there}
use Rattle.operator_runs.proofs.WrapReadLemmas.{alone, both_hold, copy_part, found_here, part_held, same_vector}
use Rattle.operator_runs.proofs.WrapRowLemmas.{AreBordered, borders_do, copy_found, copy_spared, copy_stored, slot_spared}

-- ---- words

-- the words of an element name no scalars
pub neighbour_names : (b : Bool) (array : ℕ) (v : List ℤ) (k : ℕ)
    → Every (NamesBelow k) (words_of (neighbour_if b array v))
neighbour_names true array v k = (tt, tt)
neighbour_names false array v k = (tt, tt)

-- ---- coordinates of flood dimensions count as 0

moved_placed : (storage home region : List Dim) (v t : List ℤ) → EachCovers storage home
    → EachCovers home region → length home ≡ length storage → length region ≡ length storage
    → length v ≡ length storage → length t ≡ length storage
    → (each_has_place storage (each_coordinate_moved v region t)
    ≡ each_has_place storage (each_coordinate_moved v home (flattened home t)))
    × (place_among storage (each_coordinate_moved v region t)
    ≡ place_among storage (each_coordinate_moved v home (flattened home t)))
moved_placed [] [] [] [] [] c e k l m r = (refl, refl)
moved_placed [] (h ∷ home) region v t c e k l m r = absurd (omega (arith, k))
moved_placed [] [] (q ∷ region) v t c e k l m r = absurd (omega (arith, l))
moved_placed [] [] [] (d ∷ v) t c e k l m r = absurd (omega (arith, m))
moved_placed [] [] [] [] (x ∷ t) c e k l m r = absurd (omega (arith, r))
moved_placed (s ∷ storage) [] region v t c e k l m r = absurd (omega (arith, k))
moved_placed (s ∷ storage) (h ∷ home) [] v t c e k l m r = absurd (omega (arith, l))
moved_placed (s ∷ storage) (h ∷ home) (q ∷ region) [] t c e k l m r = absurd (omega (arith, m))
moved_placed (s ∷ storage) (h ∷ home) (q ∷ region) (d ∷ v) [] c e k l m r = absurd (omega (arith, r))
moved_placed (s ∷ storage) (h ∷ home) (q ∷ region) (d ∷ v) (x ∷ t) c e k l m r =
    by s h q c.0 e.0
    (moved_placed storage home region v t c.1 e.1 (omega (arith, k)) (omega (arith, l)) (omega (arith, m))
    (omega (arith, r)))
  where
    by : (s h q : Dim) → Covers s h → Covers h q
        → (each_has_place storage (each_coordinate_moved v region t)
        ≡ each_has_place storage (each_coordinate_moved v home (flattened home t)))
        × (place_among storage (each_coordinate_moved v region t)
        ≡ place_among storage (each_coordinate_moved v home (flattened home t)))
        → (each_has_place (s ∷ storage) (each_coordinate_moved (d ∷ v) (q ∷ region) (x ∷ t))
        ≡ each_has_place (s ∷ storage) (each_coordinate_moved (d ∷ v) (h ∷ home) (flattened (h ∷ home) (x ∷ t))))
        × (place_among (s ∷ storage) (each_coordinate_moved (d ∷ v) (q ∷ region) (x ∷ t))
        ≡ place_among (s ∷ storage) (each_coordinate_moved (d ∷ v) (h ∷ home) (flattened (h ∷ home) (x ∷ t))))
    by Flood Flood q c e (p, o) = (p, ap (λ i. 0 * tuple_count storage + i) o)
    by Flood (Range lo hi step align) q c e (p, o) = (p, ap (λ i. 0 * tuple_count storage + i) o)
    by (Range from to every base) Flood q c e g = absurd c
    by (Range from to every base) (Range lo hi step align) Flood c e g = absurd e
    by (Range from to every base) (Range lo hi step align) (Range bottom top stride rest) c e (p, o) = (
      ap (λ b. is_coordinate (Range from to every base) (x +ℤ d) && b) p,
      ap (λ i. place_along (Range from to every base) (x +ℤ d) * tuple_count storage + i) o,
    )

around_placed : (storage home : List Dim) (v t : List ℤ) → EachCovers storage home
    → length home ≡ length storage → length v ≡ length storage → length t ≡ length storage
    → (each_has_place storage (each_around v home t)
    ≡ each_has_place storage (each_around v home (flattened home t)))
    × (place_among storage (each_around v home t)
    ≡ place_among storage (each_around v home (flattened home t)))
around_placed [] [] [] [] c k m r = (refl, refl)
around_placed [] (h ∷ home) v t c k m r = absurd (omega (arith, k))
around_placed [] [] (d ∷ v) t c k m r = absurd (omega (arith, m))
around_placed [] [] [] (x ∷ t) c k m r = absurd (omega (arith, r))
around_placed (s ∷ storage) [] v t c k m r = absurd (omega (arith, k))
around_placed (s ∷ storage) (h ∷ home) [] t c k m r = absurd (omega (arith, m))
around_placed (s ∷ storage) (h ∷ home) (d ∷ v) [] c k m r = absurd (omega (arith, r))
around_placed (s ∷ storage) (h ∷ home) (d ∷ v) (x ∷ t) c k m r =
    by s h c.0
    (around_placed storage home v t c.1 (omega (arith, k)) (omega (arith, m)) (omega (arith, r)))
  where
    by : (s h : Dim) → Covers s h
        → (each_has_place storage (each_around v home t)
        ≡ each_has_place storage (each_around v home (flattened home t)))
        × (place_among storage (each_around v home t)
        ≡ place_among storage (each_around v home (flattened home t)))
        → (each_has_place (s ∷ storage) (each_around (d ∷ v) (h ∷ home) (x ∷ t))
        ≡ each_has_place (s ∷ storage) (each_around (d ∷ v) (h ∷ home) (flattened (h ∷ home) (x ∷ t))))
        × (place_among (s ∷ storage) (each_around (d ∷ v) (h ∷ home) (x ∷ t))
        ≡ place_among (s ∷ storage) (each_around (d ∷ v) (h ∷ home) (flattened (h ∷ home) (x ∷ t))))
    by Flood Flood c (p, o) = (p, ap (λ i. 0 * tuple_count storage + i) o)
    by Flood (Range lo hi step align) c (p, o) = (p, ap (λ i. 0 * tuple_count storage + i) o)
    by (Range from to every base) Flood c g = absurd c
    by (Range from to every base) (Range lo hi step align) c (p, o) = (
      ap (λ b. is_coordinate (Range from to every base)
          (dim_around d (Range lo hi step align) x) && b) p,
      ap (λ i. place_along (Range from to every base)
          (dim_around d (Range lo hi step align) x) * tuple_count storage + i) o,
    )

member_long : (dims : List Dim) (t : List ℤ) → AllZip IsCoordinate dims t → length t ≡ length dims
member_long [] [] z = refl
member_long [] (x ∷ t) z = absurd z
member_long (d ∷ dims) [] z = absurd z
member_long (d ∷ dims) (x ∷ t) z = ap suc (member_long dims t z.1)

module _ (tables : Tables) (n : ℕ) (spots : List Spot) (w : Where) (line : ℕ)
    (all : AreStored tables w.numbers.arrays) (own : Own) (slots : List Region)
    (apart : AreApart own slots) (store : Store) (arrays : HasIntegers store) (place : ℕ)
    (stored : Stored) (in_numbers : slice_get w.numbers.arrays place ≡ Some stored) (home : Region)
    (d : List ℤ) (around : IsAround home d stored) (copying : IsCopying home d) (copy first : ℕ)
    (free : Unused)
    (is_copy : IsCopy tables w own free.copies home (copy_shift home d) copy first) where
  abbrev Spared : Whole → Whole → Type 0
  Spared = Spares tables spots w.numbers.arrays own free

  abbrev State : Whole → Type 0
  State = HasState tables spots w.numbers.arrays own slots apart store

  abbrev rows : List Row → Whole → Course Whole
  rows = rows_do (step tables n) (decide tables n)

  -- the array, as it is read
  abbrev a : Array
  a = array_at store place

  abbrev values : Array
  values = array_of home (λ s. element a s)

  steps : All HasStep home.dims
  steps = has_steps home.dims around.is.dims

  same_free : IsFreer free free
  same_free = record { scalars = omega arith; copies = omega arith; temps = omega arith }

  each_integer : (ts : List (List ℤ)) → Every IsInteger (map (λ s. element a s) ts)
  each_integer [] = tt
  each_integer (t ∷ ts) = (element_integer a (arrays place) t, each_integer ts)

  module _ (now : Whole) (here : State now) where
    -- ---- the home box is in its slot

    abbrev boxed : Whole
    boxed = filled now first home

    sp_boxed : Spared now boxed
    sp_boxed =
        slot_spared tables n spots w line own home d copy first free is_copy now here.sound first
        (λ m. is_copy.fills 0 (let count = slots_counted (copy_shift home d) in omega (arith, count))
        (subst (λ (i : ℕ). Misses own.slots i) (let e : first ≡ first + 0 = omega arith in e) m)) home

    at_boxed : State boxed
    at_boxed =
        spared_state tables spots w.numbers.arrays own slots apart store free now boxed here sp_boxed

    home_there : slice_get boxed.slots first ≡ Some home
    home_there =
        get_same now.slots first home
        (let many = here.sound.filled.slots in let count = slots_counted (copy_shift home d) in
        omega (arith, many, is_copy.many, count))

    fix_does : step tables n (row.Plain (instr.Fix first home)) now ≡ Goes [] boxed
    fix_does =
        ap straight (settled_act tables n now here.sound.settled (row.Plain (instr.Fix first home)))

    -- ---- the array is read over it

    abbrev over : Slotted
    over = record { slot = first; flood = flood_of home; mask = None }

    in_slot : InSlot boxed.slots over home
    in_slot = record { found = home_there; is = around.is; three = around.three; flood = refl }

    abbrev current : IsCurrent boxed.slots home.rank over
    current = current_in boxed.slots over home in_slot

    read : IsFound tables spots w.numbers.arrays boxed place stored
    read =
        found_array tables spots w.numbers.arrays boxed place stored at_boxed.sound.filled all in_numbers

    part : IsPart tables spots w line boxed home.rank over current (slate.Element first place [])
        (term.Element home place []) (word.Element stored.array)
    part =
        element_part tables spots w line boxed home.rank over current place stored in_numbers read
        around.covers [] tt

    held : list_all (holds tables boxed) (referred w.numbers (slate.Element first place [])) ≡ true
    held =
        holding_is tables spots w line boxed home.rank over current place stored in_numbers read
        around.covers [] tt
        ∙ ap (lies_in home) read.storage ∙ around.lies

    abbrev field : Field
    field t = mean.Gives (element a t)

    abbrev cells : List ℤ
    cells = replicate (group_cells (put_group copy (words_of (word.Element stored.array)) None line)) (pos 0)

    field_same : field ≡ part.field
    field_same =
        let e : mean.Gives field ≡ mean.Gives part.field =
        ap (λ (x : Store). field_of x (term.Element home place [])) (sym at_boxed.seen_is)
        ∙ part.fielded in cc

    -- ---- the copy gets its values

    abbrev f : IsFound tables [] (copy_stored tables n spots w line own home d copy first free is_copy ∷ []) boxed 0
        (copy_stored tables n spots w line own home d copy first free is_copy)
    f = copy_found tables n spots w line own home d copy first free is_copy boxed at_boxed.sound

    matching : EachMatches f.array.storage.dims home.dims
    matching =
        subst (λ (r : Region). EachMatches r.dims home.dims) (sym f.storage) copying.matching

    places : (t : List ℤ) → IsMember home t → has_place f.array.storage t ≡ true
    places t m =
        lies_in_places home f.array.storage t steps f.boxed (around.three ∙ sym f.three)
        (ap (lies_in home) f.storage ∙ copying.lies) m

    can_put : can_write tables boxed home copy ≡ true
    can_put =
        ap (λ o. writes_well o (slice_get boxed.stores copy) home) f.in_tables
        ∙ ap (λ o. writes_well (Some f.row) o home) f.in_stores
        ∙ ap (λ b. b && has_places f.array home unmoved)
        (matches_row f.row.dims home.dims
        (subst (λ (r : Region). EachMatches r.dims home.dims) (sym f.storage_row) copying.matching))
        ∙ all_members home (λ t. has_place f.array.storage (moved_by unmoved t)) steps
        (λ t m. ap (has_place f.array.storage) (moved_none t) ∙ places t m)

    stands : loop_stands tables boxed home (put_group copy (words_of (word.Element stored.array)) None line) ≡ true
    stands =
        ap (λ t. t && ((can_write tables boxed home copy && true) && true))
        (all_read (can_read tables boxed home) (words_of (word.Element stored.array) ∷ [])
        (part.reads held, tt))
        ∙ ap (λ t. (t && true) && true) can_put

    putting : IsPutting tables boxed copy f.array home everywhere field
        (words_of (word.Element stored.array)) None line
    putting = record {
      found = f.in_stores;
      filled = f.is;
      steps = steps;
      places = places;
      apart = λ t m. flat_member f.array.storage.dims home.dims t matching m;
      stands = stands;
      masked = λ t m. refl;
      values = λ t m e.
          subst (λ (v : flat.Computed ℤ). IsSame (field t) v)
          (sym (value_of-words_of (operands_at boxed t (record { cells = cells; log = [] }))
          (word.Element stored.array)))
          (subst (λ (g : Field). IsSame (g t)
          (tree_value (operands_at boxed t (record { cells = cells; log = [] }))
          (word.Element stored.array))) (sym field_same) (part.values held cells t m));
    }

    abbrev begun : Array
    begun = written f.array home everywhere (element values)

    abbrev valued : Whole
    valued = with_array_in boxed copy begun

    loop_does : step tables n (row.Loop first (put_group copy (words_of (word.Element stored.array)) None line)) boxed
        ≡ Goes [] valued
    loop_does =
        ap straight (settled_act tables n boxed at_boxed.sound.settled
        (row.Loop first (put_group copy (words_of (word.Element stored.array)) None line)))
        ∙ ap (looped tables n (put_group copy (words_of (word.Element stored.array)) None line) boxed)
        home_there
        ∙ put_assigns tables n boxed copy f.array home everywhere field
        (words_of (word.Element stored.array)) None line putting
        ∙ ap (assigned boxed copy f.array home everywhere line)
        (total_array home everywhere (element a))

    old_integers : Every IsInteger f.array.values
    old_integers =
        subst (λ (x : Array). Every IsInteger x.values)
        (index_of_found boxed.stores copy f.array no_array f.in_stores)
        (at_boxed.sound.elements copy f.row f.in_tables f.kept)

    begun_integers : Every IsInteger begun.values
    begun_integers =
        made_integers f.array home everywhere (element values) old_integers
        (element_integer values (each_integer (members home)))

    sp_valued : Spared boxed valued
    sp_valued =
        copy_spared tables n spots w line own home d copy first free is_copy boxed at_boxed.sound begun
        f.storage (array_of_is_array f.array.storage _ f.is.steps) begun_integers

    begun_is : (s : List ℤ) → IsMember home s → element begun s ≡ element a s
    begun_is s m =
        element_of_member f.array.storage _ s f.is.steps
        (subst (λ (r : Region). IsMember r s) (sym f.storage) (copying.inside s m))
        ∙ ap (λ b. if b && true then element values s else element f.array s)
        ((is_member_iff home s steps).1 m)
        ∙ element_of_member home (λ s. element a s) s steps m

    -- ---- and its borders

    bordering : AreBordered tables n spots w line own home d copy first free is_copy
        (border_vectors (copy_shift home d)) (suc first) begun valued
    bordering =
        borders_do tables n spots w line own home d copy first free is_copy
        (border_vectors (copy_shift home d)) copying.borders (suc first) (omega arith)
        (λ k lt m. is_copy.fills (suc k)
        (let count = slots_counted (copy_shift home d) in omega (arith, lt, count))
        (subst (λ (i : ℕ). Misses own.slots i)
        (let e : suc first + k ≡ first + suc k = omega arith in e) m)) valued sp_valued.sound home_there
        begun (set_there boxed.stores copy begun f.array f.in_stores) f.storage begun_integers

    abbrev final : Array
    final = all_bordered home begun (border_vectors (copy_shift home d))

    filled_does : rows (copy_rows line stored.array home (copy_shift home d) copy first) now
        ≡ code.goes_on bordering.end
    filled_does =
        let borders = border_rows line copy first (suc first) (border_vectors (copy_shift home d)) in
        ap (λ x. by_step now x (rows (row.Loop first
        (put_group copy (words_of (word.Element stored.array)) None line) ∷ borders))) fix_does
        ∙ ap (λ x. by_step boxed x (rows borders)) loop_does
        ∙ bordering.does

    filled_spared : Spared now bordering.end
    filled_spared =
        spares_then tables spots w.numbers.arrays own free free now boxed bordering.end same_free sp_boxed
        (spares_then tables spots w.numbers.arrays own free free boxed valued bordering.end same_free
        sp_valued bordering.spared)

    -- the array of the state is that of the store
    same_read : a ≡ read.array
    same_read =
        ap (λ (x : Store). array_at x place) (sym at_boxed.seen_is) ∙ read.seen

    -- borders don't change the storage
    bordered_storage : (vs : List (List ℤ)) (c : Array)
        → (all_bordered home c vs).storage ≡ c.storage
    bordered_storage [] c = refl
    bordered_storage (v ∷ vs) c = bordered_storage vs (bordered home c v)

    -- ---- it is read

    module _ (at : Slotted) (region : Region) (j : InSlot slots at region)
        (ranks : region.rank ≡ home.rank) (floods : EachCovers home.dims region.dims) where
      final_read : (t : List ℤ) → IsMember region t → lies_in region home ≡ true
          → element final (tuple_moved (copy_shift home d) region t)
          ≡ element a (around_source home d t)
      final_read t m lies =
          let placed = lies_in_places region home t (has_steps region.dims j.is.dims) around.boxed
          (j.three ∙ sym around.three) lies m in
          let u = flattened home.dims t in
          let inside = flattened_member home.dims t steps placed in
          let some = some_there home u steps inside in
          let long = shift_long home d (around.long ∙ sym around.three) in
          let t_long = member_long region.dims t m ∙ j.three in
          let here_long = around.three ∙ sym f.three in
          let one = moved_placed f.array.storage.dims home.dims region.dims
          (components region.rank (copy_shift home d)) t
          (covers_matching f.array.storage.dims home.dims matching) floods here_long
          (j.three ∙ sym f.three)
          (length-components region.rank (copy_shift home d) ∙ long ∙ here_long) (t_long ∙ sym f.three) in
          let two = around_placed read.array.storage.dims home.dims d t
          (subst (λ (r : Region). EachCovers r.dims home.dims) (sym read.storage) around.covers)
          (around.three ∙ sym read.three) (around.long ∙ sym read.three) (t_long ∙ sym read.three) in
          element_by final (tuple_moved (copy_shift home d) region t)
          (each_coordinate_moved (components region.rank (copy_shift home d)) home.dims u)
          (subst (λ (r : Region). has_place r (tuple_moved (copy_shift home d) region t)
          ≡ has_place r (each_coordinate_moved (components region.rank (copy_shift home d)) home.dims u))
          (sym (bordered_storage (border_vectors (copy_shift home d)) begun)) one.0)
          (subst (λ (r : Region). place_among r.dims (tuple_moved (copy_shift home d) region t)
          ≡ place_among r.dims
          (each_coordinate_moved (components region.rank (copy_shift home d)) home.dims u))
          (sym (bordered_storage (border_vectors (copy_shift home d)) begun)) one.1)
          ∙ ap (λ k. element final (each_coordinate_moved (components k (copy_shift home d)) home.dims u))
          ranks
          ∙ copy_reads home a d around.is around.boxed around.three around.long some long
          (shift_conforms home d around.boxed some) begun f.storage begun_is u inside
          ∙ ap (λ (x : Array). element x (around_source home d u)) same_read
          ∙ sym (element_by read.array (around_source home d t) (around_source home d u) two.0 two.1)
          ∙ sym (ap (λ (x : Array). element x (around_source home d t)) same_read)

      -- ---- what is left

      module _ (last : Unused) (more : free.copies < last.copies) (below : copy < last.temps)
          (refs : list_all (holds_in tables slots) (at_place at.slot copy
          ∷ record { slot = at.slot; array = copy; shift = copy_shift home d } ∷ []) ≡ true) where
        abbrev left : Expression
        left = element_code copy (copy_shift home d)

        abbrev around_field : Field
        around_field t = mean.Gives (element a (around_source home d t))

        at_end : State bordering.end
        at_end =
            spared_state tables spots w.numbers.arrays own slots apart store free now bordering.end here
            filled_spared

        module _ (later : Whole) (l : Spares tables spots w.numbers.arrays own last bordering.end later)
          where
            at_later : State later
            at_later =
                spared_state tables spots w.numbers.arrays own slots apart store last bordering.end later
                at_end l

            i : InSlot later.slots at region
            i = slot_in_state tables spots w.numbers.arrays own slots apart store later at_later at region j

            refs_later : list_all (holds tables later) (at_place at.slot copy
                ∷ record { slot = at.slot; array = copy; shift = copy_shift home d } ∷ []) ≡ true
            refs_later =
                refers_held tables spots w.numbers.arrays own slots apart store later at_later at region j
                (at_place at.slot copy
                ∷ record { slot = at.slot; array = copy; shift = copy_shift home d } ∷ [])
                (refl, (refl, tt)) refs

            lies_later : lies_in region home ≡ true
            lies_later =
                sym (both_hold tables w line home d around.is around.three around.boxed around.long
                around.level copying.matching copy is_copy.stored later l.sound at region i ranks floods)
                ∙ refs_later

            abbrev here_later : IsCurrent later.slots region.rank at
            here_later = current_in later.slots at region i

            abbrev only : Where
            only =
                alone tables w line home d around.is around.three around.boxed around.long around.level
                copying.matching copy is_copy.stored later l.sound at region i ranks floods

            read_part : IsPart tables [] only line later region.rank at here_later
                (slate.Element at.slot 0 (copy_shift home d))
                (term.Element region 0 (copy_shift home d))
                (element_code copy (vector_over (copy_storage home d) (copy_shift home d)))
            read_part =
                copy_part tables w line home d around.is around.three around.boxed around.long around.level
                copying.matching copy is_copy.stored later l.sound at region i ranks floods

            read_held : list_all (holds tables later)
                (referred only.numbers (slate.Element at.slot 0 (copy_shift home d))) ≡ true
            read_held =
                part_held tables w line home d around.is around.three around.boxed around.long around.level
                copying.matching copy is_copy.stored later l.sound at region i ranks floods refs_later

            same_left : element_code copy (vector_over (copy_storage home d) (copy_shift home d)) ≡ left
            same_left =
                ap (element_code copy)
                (same_vector tables w line home d around.is around.three around.boxed around.long
                around.level copying.matching copy is_copy.stored later l.sound at region i ranks floods)

            -- the copy is as it was filled
            copy_later : slice_get later.stores copy ≡ Some final
            copy_later =
                l.stores copy below (inl (let e = is_copy.numbered in omega (arith, e, more)))
                ∙ bordering.there

            found_later : IsFound tables [] (record { array = copy; storage = copy_storage home d } ∷ []) later 0
                (record { array = copy; storage = copy_storage home d })
            found_later =
                found_here tables w line home d around.is around.three around.boxed around.long around.level
                copying.matching copy is_copy.stored later l.sound at region i ranks floods

            same_store : (one other : Array) → Some one ≡ Some other → one ≡ other
            same_store one other e = cc

            value_later : (t : List ℤ) → IsMember region t → read_part.field t ≡ around_field t
            value_later t m =
                let g : Field = λ t. mean.Gives (element (array_at
                (seen_store [] (record { array = copy; storage = copy_storage home d } ∷ []) later) 0)
                (tuple_moved (copy_shift home d) region t)) in
                let e : mean.Gives g ≡ mean.Gives read_part.field = read_part.fielded in
                let same : g ≡ read_part.field = cc in
                sym (ap (λ (h : Field). h t) same)
                ∙ ap (λ (x : Array). mean.Gives (element x (tuple_moved (copy_shift home d) region t)))
                (found_later.seen
                ∙ same_store found_later.array final (sym found_later.in_stores ∙ copy_later))
                ∙ ap (λ v. mean.Gives v) (final_read t m lies_later)

            values_later : (cells t : List ℤ) → IsMember region t
                → IsSame (around_field t)
                (tree_value (operands_at later t (record { cells = cells; log = [] })) left)
            values_later cells t m =
                subst (λ (e : Expression). IsSame (around_field t)
                (tree_value (operands_at later t (record { cells = cells; log = [] })) e)) same_left
                (subst (λ (c : mean.Computed ℤ). IsSame c
                (tree_value (operands_at later t (record { cells = cells; log = [] }))
                (element_code copy (vector_over (copy_storage home d) (copy_shift home d)))))
                (value_later t m) (read_part.values read_held cells t m))

            both_read : (k : ℕ) (words : Words)
                → Every (λ one. list_all (can_read tables later region) (word_reads one) ≡ true) words
                → Every (NamesBelow k) words
                → Every (IsReadWell tables (Under at region) later k) words
            both_read k [] p q = tt
            both_read k (one ∷ words) p q =
                (record { reads = p.0; names = q.0 }, both_read k words p.1 q.1)

            reads_later : Every (IsReadWell tables (Under at region) later last.scalars) (words_of left)
            reads_later =
                both_read last.scalars (words_of left)
                (subst (λ (e : Expression).
                Every (λ one. list_all (can_read tables later region) (word_reads one) ≡ true)
                (words_of e)) same_left (read_part.reads read_held))
                (neighbour_names (is_unmoved (copy_shift home d)) copy (copy_shift home d) last.scalars)

        pub wrap_hoists : Hoists tables spots w.numbers.arrays own (Under at region) free last line 0 now
            left (mean.Gives around_field)
            (rows (copy_rows line stored.array home (copy_shift home d) copy first) now)
        wrap_hoists =
            subst (λ (course : Course Whole). Hoists tables spots w.numbers.arrays own (Under at region)
            free last line 0 now left (mean.Gives around_field) course) (sym filled_does)
            (Reaches filled_spared
            (record { values = values_later; reads = reads_later }) (omega arith))
