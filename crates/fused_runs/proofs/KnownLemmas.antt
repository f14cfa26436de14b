-- References that are known can be read, at every place of a run.
use Rattle.std.proofs.Common.{◌≡◌, refl, sym, ◌∙◌, ap, subst, ℕ, zero, suc, Bool, true, false}
use Rattle.std.proofs.Common.{true≢false, List, [], ◌∷◌, ℤ, pos, drop, length}
use Rattle.std.proofs.Common.{Option, Some, None}
use Rattle.std.specs.Prelude.{◌&&◌, ◌||◌, ◌==◌, filter, if◌then◌else◌, not, slice_get, slice_set}
use Rattle.std.specs.List.{AllByRecursion, AllZip, list_all, list_any}
use Rattle.std.specs.Option.{IsSomeAnd, option_map}
use Rattle.std.proofs.lemmas.Bool.{and_from, and_parts}
use Rattle.std.proofs.lemmas.List.Elements.{recursion_from_All}
use Rattle.zpl_region.specs.declared.regions.Region.{Region}
use Rattle.zpl_region.specs.Region.{IsMember, components, members}
use Rattle.zpl_arrays.specs.Array.{Array, has_place}
use Rattle.zpl_arrays.specs.Reference.{is_reference}
use Rattle.zpl_nums.specs.declared.ends.TrapKind.TheVariants.{OutsideStorage}
use Rattle.row_runs.specs.Run.{Does, Effect, Goes, Stops, Wrong}
use Rattle.node_form.specs.declared.arrays.ArrayRow.{ArrayRow}
use Rattle.node_form.specs.declared.arrays.Item.{Item}
use Rattle.node_form.specs.declared.instructions.Instr.{Instr}
use Rattle.node_form.specs.declared.instructions.Instr.TheVariants as instr
use Rattle.node_form.specs.declared.tables.Tables.{Tables}
use Rattle.node_form.specs.Control as control
use Rattle.node_form.specs.Fits.{FitsInstr, HasSlot, IsVector, storage_of}
use Rattle.node_form.specs.Value.{unmoved}
use Rattle.grid_meaning.specs.Room.{zeros_at}
use Rattle.code_parts.specs.Uses.{is_item, written_slots}
use Rattle.flat_form.specs.Act.{controlled}
use Rattle.flat_form.specs.Moves.{found, provided, roomed}
use Rattle.flat_form.specs.Right.{can_read, each_covers, has_places, is_unmoved, matches}
use Rattle.flat_form.specs.Right.{may_read, reads_well}
use Rattle.flat_form.specs.States.{IsStoreOf, IsWhole}
use Rattle.flat_form.specs.Whole.{Whole, registers_of, with_store}
use Rattle.flat_passes.proofs.FlatRowLemmas.{does}
use Rattle.plan_form.proofs.ItemLemmas.{is_item-Decides}
use Rattle.contracted_runs.specs.of_fuse_contract.Behind.{FitsReference}
use Rattle.contracted_runs.specs.of_fuse_contract.Fusing.{always_lies, is_stored, known_behind, lies_within, reference}
use Rattle.contracted_runs.specs.of_fuse_contract.Fusing.{without_array, without_slots}
use Rattle.normal_runs.proofs.PlaceLemmas.{are_members, has, moved_none, set_there}
use Rattle.normal_runs.proofs.SlotLemmas.{HasSteps}
use Rattle.contracted_runs.specs.Three.{HaveThreeDims}
use Rattle.contracted_runs.proofs.StorageLemmas.{SameStorages, storage_of_array}
use Rattle.fused_runs.proofs.CheckedLemmas.{every_place, reads_stored}
use Rattle.fused_runs.proofs.JoinedLemmas.{reads_same}
use Rattle.fused_runs.proofs.PassingLemmas.{Passing, differ, set_other}
use Rattle.fused_runs.proofs.SizedLemmas.{AreSized}
use Rattle.fused_runs.proofs.StillLemmas.{places_kept, slot_kept}

-- ---- lists
pub zip_at : {X Y : Type 0} (P : X → Y → Type 0) (xs : List X) (ys : List Y) (k : ℕ) (x : X)
    → AllZip P xs ys → slice_get xs k ≡ Some x → (y : Y) × (slice_get ys k ≡ Some y) × P x y
zip_at P [] [] k x all e = absurd (none e)
  where
    none : {X : Type 0} {x : X} → (let n : Option X = None in n) ≡ Some x → ⊥
    none e = cc
zip_at P [] (y ∷ ys) k x all e = absurd all
zip_at P (z ∷ xs) [] k x all e = absurd all
zip_at P (z ∷ xs) (y ∷ ys) zero x all e =
    let same : z ≡ x = cc in (y, refl, subst (λ w. P w y) same all.0)
zip_at P (z ∷ xs) (y ∷ ys) (suc k) x all e = zip_at P xs ys k x all.1 e

pub row_at : {X : Type 0} (P : X → Type 0) (xs : List X) (k : ℕ) (x : X) → AllByRecursion P xs
    → slice_get xs k ≡ Some x → P x
row_at P [] k x all e = absurd (none e)
  where
    none : {X : Type 0} {x : X} → (let n : Option X = None in n) ≡ Some x → ⊥
    none e = cc
row_at P (z ∷ xs) zero x all e = let same : z ≡ x = cc in subst P same all.0
row_at P (z ∷ xs) (suc k) x all e = row_at P xs k x all.1 e

-- ---- vectors of a rank
vector_own : (rank : ℕ) (shift : List ℤ)
    → AllByRecursion (λ component. component ≡ pos 0) (drop rank shift)
    → components rank shift ≡ shift
vector_own rank [] all = refl
vector_own zero (d ∷ shift) all =
    ap (λ (x : ℤ). x ∷ components zero shift) (sym all.0)
    ∙ ap (λ v. d ∷ v) (vector_own zero shift (rest shift all.1))
  where
    rest : (shift : List ℤ) → AllByRecursion (λ component. component ≡ pos 0) shift
        → AllByRecursion (λ component. component ≡ pos 0) (drop zero shift)
    rest shift all = all
vector_own (suc rank) (d ∷ shift) all = ap (λ v. d ∷ v) (vector_own rank shift all)

abbrev pub IsNoLoop : Instr → Type 0
IsNoLoop (instr.Loop slot group) = ⊥
IsNoLoop row = Unit {0}

module _ (tables : Tables) where
  -- wherever the slot's region has a tuple, the reference can be read
  pub record Lies (s : Whole) (item : Item) : Type 0 where
    pub lies : (region : Region) → slice_get s.slots item.slot ≡ Some region
        → (members region ≡ [] → ⊥)
        → can_read tables s region (record { array = item.array; shift = item.shift }) ≡ true

  pub lies_on : (s next : Whole) (item : Item)
      → slice_get s.slots item.slot ≡ slice_get next.slots item.slot
      → storage_of_array next.stores item.array ≡ storage_of_array s.stores item.array
      → Lies s item → Lies next item
  lies_on s next item slot places lie = record {
    lies = λ region here some.
        sym (reads_same (slice_get tables.arrays item.array) (slice_get s.stores item.array)
        (slice_get next.stores item.array) region item.shift places)
        ∙ lie.lies region (slot ∙ here) some;
  }

  pub all_lie_on : (s next : Whole) (items : List Item)
      → ((slot : ℕ) → slice_get s.slots slot ≡ slice_get next.slots slot) → SameStorages s next
      → AllByRecursion (Lies s) items → AllByRecursion (Lies next) items
  all_lie_on s next [] slots places all = tt
  all_lie_on s next (item ∷ items) slots places all = (
    lies_on s next item (slots item.slot) (places.same item.array) all.0,
    all_lie_on s next items slots places all.1,
  )

  -- those that pass a test
  filtered : (P Q : Item → Type 0) (test : Item → Bool)
      → ((item : Item) → P item → test item ≡ true → Q item) → (items : List Item)
      → AllByRecursion P items → AllByRecursion Q (filter test items)
  filtered P Q test on [] all = tt
  filtered P Q test on (item ∷ items) all =
      by (test item) refl (filtered P Q test on items all.1)
    where
      by : (b : Bool) → test item ≡ b → AllByRecursion Q (filter test items)
          → AllByRecursion Q (if b then item ∷ filter test items else filter test items)
      by true e rest = (on item all.0 e, rest)
      by false e rest = rest

  -- ---- a stored array whose check passes
  module _ (s : Whole) (whole : IsWhole tables s) (steps : HasSteps s) (sized : AreSized tables s)
      (three : HaveThreeDims tables) where
    pub checked_lies : (item : Item) (rank : ℕ) → HasSlot tables rank item.slot
        → IsVector rank item.shift
        → is_stored (slice_get tables.arrays item.array) ≡ true
        → ((region : Region) (row : ArrayRow) → slice_get s.slots item.slot ≡ Some region
        → slice_get tables.arrays item.array ≡ Some row
        → is_reference item.shift region (storage_of row) ≡ true)
        → Lies s item
    checked_lies item rank over vector stored passes =
        record {
          lies = λ region here some. by region here some (slice_get tables.arrays item.array)
              refl stored;
        }
      where
        by_store : (region : Region) → slice_get s.slots item.slot ≡ Some region
            → (members region ≡ [] → ⊥) → (row : ArrayRow)
            → slice_get tables.arrays item.array ≡ Some row → row.stored ≡ true
            → (y : Array) × (slice_get s.stores item.array ≡ Some y) × IsStoreOf row y
            → reads_well (Some row) (slice_get s.stores item.array) region item.shift ≡ true
        by_store region here some row e kept (store, there, is) =
            let size = sized.sized item.slot rank region over here in
            ap (λ o. reads_well (Some row) o region item.shift) there
            ∙ reads_stored row store region item.shift kept (is.placed kept)
            (row_at (λ (row : ArrayRow). length row.dims ≡ 3) tables.arrays item.array row
            (recursion_from_All (λ (row : ArrayRow). length row.dims ≡ 3) tables.arrays three) e)
            size.0 (steps.steps item.slot region here)
            (ap (λ k. components k item.shift) size.1
            ∙ vector_own rank item.shift
            (recursion_from_All (λ component. component ≡ pos 0) (drop rank item.shift) vector.1))
            some (passes region row here e)

        by : (region : Region) → slice_get s.slots item.slot ≡ Some region
            → (members region ≡ [] → ⊥) → (found : Option ArrayRow)
            → slice_get tables.arrays item.array ≡ found → is_stored found ≡ true
            → reads_well found (slice_get s.stores item.array) region item.shift ≡ true
        by region here some None e kept = absurd (true≢false (sym kept))
        by region here some (Some row) e kept =
            by_store region here some row e kept
            (zip_at IsStoreOf tables.arrays s.stores item.array row whole.stores e)

    -- ---- references that a loop needs
    listed : (item : Item) (known : List Item) → list_any (is_item item) known ≡ true
        → AllByRecursion (Lies s) known → Lies s item
    listed item [] e all = absurd (true≢false (sym e))
    listed item (other ∷ known) e all =
        by (is_item item other) refl e (λ e. listed item known e all.1)
      where
        by : (b : Bool) → is_item item other ≡ b → (b || list_any (is_item item) known) ≡ true
            → (list_any (is_item item) known ≡ true → Lies s item) → Lies s item
        by true is e rest = subst (Lies s) (sym ((is_item-Decides item other).0 is)) all.0
        by false is e rest = rest e

    pub within_lies : (n : ℕ) → Passing tables n s → (known : List Item)
        → AllByRecursion (Lies s) known → (item : Item) → FitsReference tables item
        → lies_within tables known item ≡ true → Lies s item
    within_lies n passing known all item fits e =
        by (list_any (is_item item) known) refl e
      where
        always : always_lies tables item ≡ true → Lies s item
        always e =
            let parts = and_parts (is_stored (slice_get tables.arrays item.array)) _ e in
            checked_lies item fits.rank fits.slot fits.shift parts.0
            (λ region row here there.
            passing.passing item.slot item.array item.shift region row here there parts.1)

        by : (b : Bool) → list_any (is_item item) known ≡ b
            → (b || always_lies tables item) ≡ true → Lies s item
        by true is e = listed item known is all
        by false is e = always e

    pub all_within : (n : ℕ) → Passing tables n s → (known : List Item)
        → AllByRecursion (Lies s) known → (items : List Item)
        → AllByRecursion (FitsReference tables) items
        → list_all (lies_within tables known) items ≡ true → AllByRecursion (Lies s) items
    all_within n passing known all [] fits e = tt
    all_within n passing known all (item ∷ items) fits e =
        let parts = and_parts (lies_within tables known item)
        (list_all (lies_within tables known) items) e in (
          within_lies n passing known all item fits.0 parts.0,
          all_within n passing known all items fits.1 parts.1,
        )

  -- ---- rows
  not_among : (slot : ℕ) (slots : List ℕ) → not (list_any (λ k. k == slot) slots) ≡ true
      → AllByRecursion (λ k. k ≡ slot → ⊥) slots
  not_among slot [] e = tt
  not_among slot (k ∷ slots) e = by (k == slot) refl e (λ e. not_among slot slots e)
    where
      by : (b : Bool) → (k == slot) ≡ b → not (b || list_any (λ k. k == slot) slots) ≡ true
          → (not (list_any (λ k. k == slot) slots) ≡ true
          → AllByRecursion (λ k. k ≡ slot → ⊥) slots)
          → AllByRecursion (λ k. k ≡ slot → ⊥) (k ∷ slots)
      by true is e rest = absurd (true≢false (sym e))
      by false is e rest = (differ k slot is, rest e)

  module _ (n : ℕ) (s next : Whole) (bytes : List ℕ) where
    -- any row but `need`, `room` and a loop
    pub others_lie : (row : Instr) → (does tables n row s ≡ Does (Goes bytes next))
        → SameStorages s next → (known : List Item) → AllByRecursion (Lies s) known
        → AllByRecursion (Lies next) (without_slots (written_slots row) known)
    others_lie row goes places known all =
        filtered (Lies s) (Lies next)
        (λ item. not (list_any (λ slot. slot == item.slot) (written_slots row)))
        (λ item lie apart. lies_on s next item
        (slot_kept tables n s next bytes row item.slot goes
        (not_among item.slot (written_slots row) apart)) (places.same item.array) lie) known all

    -- `room`: the array has the places of the region
    pub record IsRoomed (array slot : ℕ) : Type 0 where
      pub row : ArrayRow
      pub there : slice_get tables.arrays array ≡ Some row
      pub region : Region
      pub here : slice_get s.slots slot ≡ Some region
      pub fine : (not row.stored && matches row region) ≡ true
      pub is : with_store s array (zeros_at region) ≡ next

    is_roomed : (array slot : ℕ) → does tables n (instr.Room array slot) s ≡ Does (Goes bytes next)
        → IsRoomed array slot
    is_roomed array slot goes = by_row (slice_get tables.arrays array) refl goes
      where
        wrong : (let e : Effect Whole = Does (Stops Wrong) in e) ≡ Does (Goes bytes next)
            → IsRoomed array slot
        wrong e = cc

        by_test : (row : ArrayRow) → slice_get tables.arrays array ≡ Some row → (region : Region)
            → slice_get s.slots slot ≡ Some region → (b : Bool)
            → (not row.stored && matches row region) ≡ b
            → (let e : Effect Whole = Does (provided b
            (Goes [] (with_store s array (zeros_at region)))) in e) ≡ Does (Goes bytes next)
            → IsRoomed array slot
        by_test row there region here true fine goes = record {
          row = row;
          there = there;
          region = region;
          here = here;
          fine = fine;
          is = cc;
        }
        by_test row there region here false fine goes = wrong goes

        by_region : (row : ArrayRow) → slice_get tables.arrays array ≡ Some row
            → (o : Option Region) → slice_get s.slots slot ≡ o
            → (let e : Effect Whole = Does (found o (λ region. roomed tables s array region row)) in
            e) ≡ Does (Goes bytes next) → IsRoomed array slot
        by_region row there (Some region) here goes =
            by_test row there region here (not row.stored && matches row region) refl goes
        by_region row there None here goes = wrong goes

        by_row : (o : Option ArrayRow) → slice_get tables.arrays array ≡ o
            → (let e : Effect Whole = Does (found o (λ row.
            found (slice_get s.slots slot) (λ region. roomed tables s array region row))) in e)
            ≡ Does (Goes bytes next) → IsRoomed array slot
        by_row (Some row) there goes = by_region row there (slice_get s.slots slot) refl goes
        by_row None there goes = wrong goes

    module _ (array slot : ℕ) (steps : HasSteps s) (whole : IsWhole tables s)
        (room : IsRoomed array slot) where
      abbrev last : Whole
      last = with_store s array (zeros_at room.region)

      temporary : (b : Bool) → not b ≡ true → (shift : List ℤ) → is_unmoved shift ≡ true
          → matches room.row room.region ≡ true
          → (if b then each_covers room.row.dims room.region.dims
          else is_unmoved shift && matches room.row room.region) ≡ true
      temporary true e shift still like = absurd (true≢false (sym e))
      temporary false e shift still like =
          and_from (is_unmoved shift) (matches room.row room.region) still like

      reads_room : reads_well (Some room.row) (Some (zeros_at room.region)) room.region unmoved
          ≡ true
      reads_room =
          let parts = and_parts (not room.row.stored) (matches room.row room.region) room.fine in
          and_from (may_read room.row room.region unmoved)
          (has_places (zeros_at room.region) room.region unmoved)
          (temporary room.row.stored parts.0 unmoved refl parts.1)
          (every_place (zeros_at room.region) unmoved (IsMember room.region)
          (λ t is. ap (has_place room.region) (moved_none t)
          ∙ has room.region (steps.steps slot room.region room.here) t is)
          (members room.region)
          (are_members room.region (steps.steps slot room.region room.here)))

      in_store : (y : Array) × (slice_get s.stores array ≡ Some y) × IsStoreOf room.row y
          → slice_get (slice_set s.stores array (zeros_at room.region)) array
          ≡ Some (zeros_at room.region)
      in_store (store, there, is) =
          set_there s.stores array (zeros_at room.region) store there

      own_lies : Lies last (reference slot array unmoved)
      own_lies = record {
        lies = λ region here some.
            let same : room.region ≡ region = one_region (sym room.here ∙ here) in
            subst (λ r. reads_well (slice_get tables.arrays array)
            (slice_get (slice_set s.stores array (zeros_at room.region)) array) r unmoved ≡ true)
            same
            (ap (λ o. reads_well o
            (slice_get (slice_set s.stores array (zeros_at room.region)) array) room.region unmoved)
            room.there
            ∙ ap (λ o. reads_well (Some room.row) o room.region unmoved)
            (in_store (zip_at IsStoreOf tables.arrays s.stores array room.row whole.stores room.there))
            ∙ reads_room);
      }
        where
          one_region : {v w : Region} → Some v ≡ Some w → v ≡ w
          one_region e = cc

      room_last : (known : List Item) → AllByRecursion (Lies s) known
          → AllByRecursion (Lies last) (reference slot array unmoved ∷ without_array array known)
      room_last known all = (
        own_lies,
        filtered (Lies s) (Lies last) (λ item. not (item.array == array))
            (λ item lie apart. lies_on s last item refl
            (ap (option_map (λ (store : Array). store.storage))
            (set_other s.stores array item.array (zeros_at room.region)
            (λ same. not_same item.array apart (sym same)))) lie) known all,
      )
        where
          not_same : (k : ℕ) → not (k == array) ≡ true → k ≡ array → ⊥
          not_same k e same = by (k == array) refl e
            where
              by : (b : Bool) → (k == array) ≡ b → not b ≡ true → ⊥
              by true f e = true≢false (sym e)
              by false f e = differ k array f same

    pub room_lies : (array slot : ℕ)
        → does tables n (instr.Room array slot) s ≡ Does (Goes bytes next)
        → HasSteps s → IsWhole tables s → (known : List Item) → AllByRecursion (Lies s) known
        → AllByRecursion (Lies next) (reference slot array unmoved ∷ without_array array known)
    room_lies array slot goes steps whole known all =
        let room = is_roomed array slot goes in
        subst (λ w. AllByRecursion (Lies w)
        (reference slot array unmoved ∷ without_array array known)) room.is
        (room_last array slot steps whole room known all)

    -- `need`: it has passed
    need_passes : (slot array : ℕ) (shift : List ℤ) (line : ℕ)
        → does tables n (instr.Need slot array shift line) s ≡ Does (Goes bytes next)
        → (region : Region) (row : ArrayRow) → slice_get s.slots slot ≡ Some region
        → slice_get tables.arrays array ≡ Some row
        → is_reference shift region (storage_of row) ≡ true
    need_passes slot array shift line goes region row here there =
        by (is_reference shift region (storage_of row)) refl
        (subst (λ o. check o (Some row) ≡ Does (Goes bytes next)) here
        (subst (λ o. check (slice_get s.slots slot) o ≡ Does (Goes bytes next)) there goes))
      where
        check : Option Region → Option ArrayRow → Effect Whole
        check o p =
            controlled s (control.with_row o (λ region. control.with_row p (λ row.
            control.checked (registers_of s) (is_reference shift region (storage_of row))
            OutsideStorage line)))

        by : (b : Bool) → is_reference shift region (storage_of row) ≡ b
            → controlled s (control.checked (registers_of s) b OutsideStorage line)
            ≡ Does (Goes bytes next) → b ≡ true
        by true e goes = refl
        by false e goes = cc

    need_lies : (slot array : ℕ) (shift : List ℤ) (line : ℕ)
        → does tables n (instr.Need slot array shift line) s ≡ Does (Goes bytes next)
        → FitsInstr tables (instr.Need slot array shift line) → IsWhole tables s → HasSteps s
        → AreSized tables s → HaveThreeDims tables → (known : List Item)
        → AllByRecursion (Lies s) known
        → AllByRecursion (Lies next) (reference slot array shift ∷ known)
    need_lies slot array shift line goes fits whole steps sized three known all =
        all_lie_on s next (reference slot array shift ∷ known)
        (λ k. slot_kept tables n s next bytes (instr.Need slot array shift line) k goes tt)
        (places_kept tables n s next bytes (instr.Need slot array shift line) tt goes) (
          checked_lies s whole steps sized three (reference slot array shift) fits.rank fits.fit.0
              fits.fit.3 (kept (slice_get tables.arrays array) fits.fit.2)
              (need_passes slot array shift line goes),
          all,
        )
      where
        kept : (o : Option ArrayRow) → IsSomeAnd o (λ row. row.stored ≡ true)
            → is_stored o ≡ true
        kept (Some row) is = is
        kept None is = absurd is

    -- any row but a loop
    pub row_lies : (row : Instr) → IsNoLoop row → does tables n row s ≡ Does (Goes bytes next)
        → FitsInstr tables row → IsWhole tables s → HasSteps s → AreSized tables s
        → HaveThreeDims tables → (known : List Item) → AllByRecursion (Lies s) known
        → AllByRecursion (Lies next) (known_behind known row)
    row_lies (instr.Need slot array shift line) plain goes fits whole steps sized three known all =
        need_lies slot array shift line goes fits whole steps sized three known all
    row_lies (instr.Room array slot) plain goes fits whole steps sized three known all =
        room_lies array slot goes steps whole known all
    row_lies (instr.Loop slot group) plain goes fits whole steps sized three known all = absurd plain
    row_lies row plain goes fits whole steps sized three known all =
        others_lie row goes (places_kept tables n s next bytes row tt goes) known all
