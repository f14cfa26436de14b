-- The rows on a store alone agree: `room` and `clear`.
use Rattle.std.proofs.Common.{◌≡◌, ◌⊎◌, arith, refl, sym, ◌∙◌, ap, subst, ℕ, zero, suc, Bool, true, false, ◌&&◌}
use Rattle.std.proofs.Common.{List, [], ◌∷◌, length, inl, inr, ℤ, pos, All, ◌<◌, true≢false, Option, Some, None}
use Rattle.std.specs.Prelude.{not, slice_get, slice_set}
use Rattle.std.specs.Option.{IsSomeAnd}
use Rattle.std.proofs.lemmas.List.{length-map}
use Rattle.std.proofs.lemmas.List.Elements.{All-nil, All-cons, All-head, All-tail}
use Rattle.zpl_region.specs.declared.regions.Region.{Region}
use Rattle.zpl_region.specs.Dim.{HasStep}
use Rattle.zpl_region.specs.Ends.{has_none}
use Rattle.zpl_region.specs.Region.{members}
use Rattle.zpl_arrays.specs.Array.{Array, IsArray, element, has_place}
use Rattle.zpl_arrays.proofs.ArrayLemmas.{array_of_is_array, element-array_of}
use Rattle.node_form.specs.declared.arrays.ArrayRow.{ArrayRow}
use Rattle.node_form.specs.declared.instructions.Instr.{Instr}
use Rattle.node_form.specs.declared.instructions.Instr.TheVariants as instr
use Rattle.node_form.specs.declared.tables.Tables.{Tables}
use Rattle.node_form.specs.Fits.{FitsArray}
use Rattle.row_runs.specs.Run.{Goes, Does}
use Rattle.plan_meaning.specs.of_grid_meaning.Local.{processors}
use Rattle.plan_meaning.specs.of_grid_meaning.Place.{held_value, own_part}
use Rattle.plan_meaning.specs.of_grid_meaning.Room.{cleared, room_of, roomed, zeros_at}
use Rattle.plan_meaning.specs.of_grid_meaning.State.{ArePlaces, IsSlot, IsStore}
use Rattle.plan_meaning.specs.of_grid_meaning.Stored.{no_places}
use Rattle.plan_meaning.proofs.of_grid_meaning.RegionLemmas.{no_steps}
use Rattle.plan_meaning.proofs.of_grid_meaning.RoomLemmas.{is_room, room_steps}
use Rattle.plan_meaning.specs.of_flat_form.Moves.{provided, found}
use Rattle.plan_meaning.specs.of_flat_form.Right.{matches}
use Rattle.plan_meaning.specs.of_flat_form.States.{IsStoreOf}
use Rattle.plan_meaning.specs.of_flat_form.Whole.{Whole, with_store}
use Rattle.plan_meaning.specs.Abreast.{Abreast, every, go_where, locals_of, share_of, standing}
use Rattle.plan_meaning.specs.Act.{action_of, alone}
use Rattle.plan_meaning.specs.Messages.{leaves_row, next_or, shown_of}
use Rattle.plan_meaning.specs.of_grid_meaning.Action.{goes_on, moves}
use Rattle.needs_runs.specs.Holds.{HasFloodsOf, HasPart, Holds}
use Rattle.row_runs.specs.Rows.{AreEffects, BothGo, OldWrong}
use Rattle.needs_runs.specs.Agree.{HasLayout, FitRowAgrees}
use Rattle.needs_runs.proofs.HoldsLemmas.{every_all, holds_as, some_processors}
use Rattle.needs_runs.proofs.SlotLemmas.{zip_back, zip_set, zip_there}
use Rattle.needs_runs.proofs.PlaceLemmas.{held_there, in_room, place_of_held}

-- ---- lists
pub all_get : {X : Type 0} (P : X → Type 0) (xs : List X) (k : ℕ) (x : X) → All P xs
    → slice_get xs k ≡ Some x → P x
all_get P [] k x all e = cc
all_get P (y ∷ xs) zero x all e = let same : y ≡ x = cc in subst P same (All-head P y xs all)
all_get P (y ∷ xs) (suc k) x all e = all_get P xs k x (All-tail P y xs all) e

pub all_set : {X : Type 0} (P : X → Type 0) (xs : List X) (k : ℕ) (x : X) → All P xs → P x
    → All P (slice_set xs k x)
all_set P [] k x all is = All-nil P
all_set P (y ∷ xs) zero x all is = All-cons P x xs is (All-tail P y xs all)
all_set P (y ∷ xs) (suc k) x all is =
    All-cons P y (slice_set xs k x) (All-head P y xs all) (all_set P xs k x (All-tail P y xs all) is)

-- what stands in a changed list
pub set_cases : {X : Type 0} (xs : List X) (k j : ℕ) (x y : X) → slice_get (slice_set xs k x) j ≡ Some y
    → ((k ≡ j) × (x ≡ y)) ⊎ ((k ≡ j → ⊥) × (slice_get xs j ≡ Some y))
set_cases [] k j x y e = cc
set_cases (z ∷ xs) zero zero x y e = let same : x ≡ y = cc in inl (refl, same)
set_cases (z ∷ xs) zero (suc j) x y e = inr ((λ same. cc), e)
set_cases (z ∷ xs) (suc k) zero x y e = inr ((λ same. cc), e)
set_cases (z ∷ xs) (suc k) (suc j) x y e = by (set_cases xs k j x y e)
  where
    by : ((k ≡ j) × (x ≡ y)) ⊎ ((k ≡ j → ⊥) × (slice_get xs j ≡ Some y))
        → ((suc k ≡ suc j) × (x ≡ y)) ⊎ ((suc k ≡ suc j → ⊥) × (slice_get xs j ≡ Some y))
    by (inl (same, is)) = inl (ap suc same, is)
    by (inr (apart, is)) = inr ((λ same. apart (let e : k ≡ j = omega (arith, same) in e)), is)

-- ---- arrays that are set, on the whole and on all processors
module _ (code : Tables) (whole : Whole) (all : Abreast) (holds : Holds code whole all) where
  abbrev some : 0 < processors code
  some = some_processors code

  pub record IsSet (array : ℕ) (row : ArrayRow) (store : Array) (own : ℕ → Array) : Type 0 where
    pub there : slice_get code.arrays array ≡ Some row
    pub is_array : IsArray store
    pub whole_is : IsStoreOf row store
    pub floods : HasFloodsOf row store
    pub own_is : (p : ℕ) → p < processors code → IsStore code p row (own p)
    pub part : (p : ℕ) → p < processors code → HasPart code p row store (own p)

  pub store_set : (array : ℕ) (row : ArrayRow) (store : Array) (own : ℕ → Array)
      → IsSet array row store own
      → Holds code (with_store whole array store)
      (record all { shares = λ p. record (all.shares p) { stores = slice_set (all.shares p).stores array (own p) } })
  store_set array row store own is = record {
    is_whole = record {
      scalars = holds.is_whole.scalars;
      awaited = holds.is_whole.awaited;
      slots = holds.is_whole.slots;
      stores = zip_set IsStoreOf code.arrays whole.stores array row store holds.is_whole.stores is.there is.whole_is;
    };
    arrays = all_set IsArray whole.stores array store holds.arrays is.is_array;
    floods = zip_set HasFloodsOf code.arrays whole.stores array row store holds.floods is.there is.floods;
    slots = holds.slots;
    own = λ p below.
        let own_holds = holds.own p below in record {
          parts = record {
            scalars = own_holds.parts.scalars;
            cells = own_holds.parts.cells;
            slots = own_holds.parts.slots;
            stores = zip_set (IsStore code p) code.arrays (all.shares p).stores array row (own p) own_holds.parts.stores is.there (is.own_is p below);
            flag = own_holds.parts.flag;
          };
          flag = own_holds.flag;
          slots = own_holds.slots;
          scalars = own_holds.scalars;
          arrays = λ k other old mine there one two.
              arrays_by p below k other old mine there
              (set_cases whole.stores array k store old one)
              (set_cases (all.shares p).stores array k (own p) mine two);
        };
    totals = holds.totals;
    flights = holds.flights;
  }
    where
      arrays_by : (p : ℕ) → p < processors code → (k : ℕ) (other : ArrayRow) (old mine : Array)
          → slice_get code.arrays k ≡ Some other
          → ((array ≡ k) × (store ≡ old)) ⊎ ((array ≡ k → ⊥) × (slice_get whole.stores k ≡ Some old))
          → ((array ≡ k) × (own p ≡ mine)) ⊎ ((array ≡ k → ⊥) × (slice_get (all.shares p).stores k ≡ Some mine))
          → HasPart code p other old mine
      arrays_by p below k other old mine there (inl one) (inl two) =
          let same : row ≡ other = let e = sym is.there ∙ (ap (slice_get code.arrays) one.0 ∙ there) in cc in
          subst (λ r. HasPart code p r old mine) same
          (subst (λ a. HasPart code p row a mine) one.1
          (subst (λ a. HasPart code p row store a) two.1 (is.part p below)))
      arrays_by p below k other old mine there (inl one) (inr two) = absurd (two.0 one.0)
      arrays_by p below k other old mine there (inr one) (inl two) = absurd (one.0 two.0)
      arrays_by p below k other old mine there (inr one) (inr two) =
          (holds.own p below).arrays k other old mine there one.1 two.1

  -- each processor by itself comes to such stores
  pub alone_set : (row : Instr) (array : ℕ) (own : ℕ → Array) (next : Whole)
      → ((p : ℕ) → p < processors code → action_of code row all p
      ≡ moves (goes_on (record (standing (all.shares p)) { stores = slice_set (all.shares p).stores array (own p) })) [])
      → Holds code next
      (record all { shares = λ p. record (all.shares p) { stores = slice_set (all.shares p).stores array (own p) } })
      → AreEffects (Holds code) (Does (Goes [] next)) (Does (alone code row all))
  alone_set row array own next acts held =
      subst (λ bytes. AreEffects (Holds code) (Does (Goes [] next)) (Does (go_where (every code (λ p. leaves_row (action_of code row all p))) bytes other)))
      (sym (ap shown_of (acts 0 some)))
      (subst (λ b. AreEffects (Holds code) (Does (Goes [] next)) (Does (go_where b [] other)))
      (sym (every_all code (λ p. leaves_row (action_of code row all p)) (λ p below. ap leaves_row (acts p below))))
      (BothGo (holds_as code next _ other some
      (λ p below. ap (λ action. share_of (next_or (locals_of all p) action)) (acts p below)) holds.flights held)))
    where
      other : Abreast
      other = record all { shares = λ p. share_of (next_or (locals_of all p) (action_of code row all p)) }

-- ---- `room`
not_parts : (a b : Bool) → (not a && b) ≡ true → (a ≡ false) × (b ≡ true)
not_parts true b e = cc
not_parts false b e = (refl, e)

pub zero_held : (t : List ℤ) (region : Region) → All HasStep region.dims → has_place region t ≡ true
    → held_value t (zeros_at region) ≡ Some (pos 0)
zero_held t region steps has =
    held_there t (zeros_at region) has
    ∙ ap Some (element-array_of region (λ t. pos 0) t steps has)

module _ (code : Tables) (layout : HasLayout code) (links : Option ℕ) (n : ℕ) where
  abbrev Fit : Instr → Type 0
  Fit row = FitRowAgrees code links n row

  pub room_agrees : (array slot : ℕ) → Fit (instr.Room array slot)
  room_agrees array slot fits three whole all holds =
      by (slice_get code.arrays array) refl (slice_get whole.slots slot) refl
    where
      Goal : Option ArrayRow → Option Region → Type 0
      Goal row region = AreEffects (Holds code)
          (Does (found row (λ r. found region (λ s. provided (not r.stored && matches r s) (Goes [] (with_store whole array (zeros_at s)))))))
          (Does (alone code (instr.Room array slot) all))

      placed : (p : ℕ) (row : ArrayRow) (region : Region) → row.stored ≡ false → FitsArray row → length row.dims ≡ 3
          → IsSlot row.rank region → (b : Bool) → has_none (own_part code p region) ≡ b
          → IsStore code p row (zeros_at (room_of row (own_part code p region) b))
      placed p row region temporary fit long is true e = record {
        filled = array_of_is_array (no_places row.rank) (λ t. pos 0) (no_steps row.rank);
        places = subst (λ b. ArePlaces code p row b (no_places row.rank)) (sym temporary) (inl refl);
      }
      placed p row region temporary fit long is false e = record {
        filled = array_of_is_array (room_of row (own_part code p region) false) (λ t. pos 0) (room_steps code p row region fit long is e);
        places = subst (λ b. ArePlaces code p row b (room_of row (own_part code p region) false)) (sym temporary)
            (inr (is_room code p row region fit long is e));
      }

      set : (row : ArrayRow) (region : Region) → slice_get code.arrays array ≡ Some row
          → slice_get whole.slots slot ≡ Some region → row.stored ≡ false → matches row region ≡ true
          → IsSlot row.rank region
          → IsSet code whole all holds array row (zeros_at region)
          (λ p. zeros_at (room_of row (own_part code p region) (has_none (own_part code p region))))
      set row region there here temporary match is =
          let fit : FitsArray row = all_get FitsArray code.arrays array row layout.arrays there in
          let long : length row.dims ≡ 3 = all_get (λ (row : ArrayRow). length row.dims ≡ 3) code.arrays array row layout.three there in
          record {
            there = there;
            is_array = array_of_is_array region (λ t. pos 0) is.fits.steps;
            whole_is = record {
              filled = length-map (members region) (λ t. pos 0);
              placed = λ stored. absurd (true≢false (sym stored ∙ temporary));
            };
            floods = inr (is.many ∙ sym long, match);
            own_is = λ p below. placed p row region temporary fit long is (has_none (own_part code p region)) refl;
            part = λ p below. record {
              has = λ t value lies held.
                  let has = place_of_held t (zeros_at region) value held in
                  let value_is : pos 0 ≡ value =
                  let e : Some (pos 0) ≡ Some value = sym (zero_held t region is.fits.steps has) ∙ held in cc in
                  zero_held t (room_of row (own_part code p region) (has_none (own_part code p region)))
                  (room_has_steps p row region fit long is (has_none (own_part code p region)) refl)
                  (in_room code p row region long is t match lies has)
                  ∙ ap Some value_is;
            };
          }
        where
          room_has_steps : (p : ℕ) (row : ArrayRow) (region : Region) → FitsArray row → length row.dims ≡ 3
              → IsSlot row.rank region → (b : Bool) → has_none (own_part code p region) ≡ b
              → All HasStep (room_of row (own_part code p region) b).dims
          room_has_steps p row region fit long is true e = no_steps row.rank
          room_has_steps p row region fit long is false e = room_steps code p row region fit long is e

      by_test : (row : ArrayRow) (region : Region) → slice_get code.arrays array ≡ Some row
          → slice_get whole.slots slot ≡ Some region → (b : Bool) → (not row.stored && matches row region) ≡ b
          → AreEffects (Holds code) (Does (provided b (Goes [] (with_store whole array (zeros_at region)))))
          (Does (alone code (instr.Room array slot) all))
      by_test row region there here false test = OldWrong
      by_test row region there here true test =
          let parts = not_parts row.stored (matches row region) test in
          let fit = zip_back IsSlot code.slots whole.slots slot region holds.slots here in
          let ranked : fit.0 ≡ row.rank = same_rank fit.0 row fit.1 there in
          let is : IsSlot row.rank region = subst (λ rank. IsSlot rank region) ranked fit.2 in
          alone_set code whole all holds (instr.Room array slot) array _ (with_store whole array (zeros_at region))
          (acts row region there here)
          (store_set code whole all holds array row (zeros_at region) _ (set row region there here parts.0 parts.1 is))
        where
          rank_of : (found : Option ArrayRow) (row : ArrayRow) → IsSomeAnd found (λ row. row.rank ≡ fits.rank)
              → found ≡ Some row → row.rank ≡ fits.rank
          rank_of (Some other) row is e = let same : other ≡ row = cc in ap (λ (r : ArrayRow). r.rank) (sym same) ∙ is
          rank_of None row is e = absurd is

          same_rank : (rank : ℕ) (row : ArrayRow) → slice_get code.slots slot ≡ Some rank
              → slice_get code.arrays array ≡ Some row → rank ≡ row.rank
          same_rank rank row e there =
              let one : rank ≡ fits.rank = let f = fits.fit.0 in cc in
              one ∙ sym (rank_of (slice_get code.arrays array) row fits.fit.1 there)

          acts : (row : ArrayRow) (region : Region) → slice_get code.arrays array ≡ Some row
              → slice_get whole.slots slot ≡ Some region → (p : ℕ) → p < processors code
              → action_of code (instr.Room array slot) all p
              ≡ moves (goes_on (record (standing (all.shares p)) {
                stores = slice_set (all.shares p).stores array
                    (zeros_at (room_of row (own_part code p region) (has_none (own_part code p region))));
              })) []
          acts row region there here p below =
              ap (λ r. roomed code p (standing (all.shares p)) array r (slice_get (all.shares p).slots slot)) there
              ∙ ap (λ r. roomed code p (standing (all.shares p)) array (Some row) r)
              (ap (λ slots. slice_get slots slot) (holds.own p below).slots ∙ here)

      by : (row : Option ArrayRow) → slice_get code.arrays array ≡ row → (region : Option Region)
          → slice_get whole.slots slot ≡ region → Goal row region
      by None there region here = OldWrong
      by (Some row) there None here = OldWrong
      by (Some row) there (Some region) here = by_test row region there here (not row.stored && matches row region) refl

  -- ---- `clear`
  pub clear_agrees : (array : ℕ) → Fit (instr.Clear array)
  clear_agrees array fits three whole all holds = by (slice_get whole.stores array) refl
    where
      own_by : Option Array → Array
      own_by (Some own) = zeros_at own.storage
      own_by None = zeros_at (no_places 1)

      own : ℕ → Array
      own p = own_by (slice_get (all.shares p).stores array)

      mine : (p : ℕ) → p < processors code → (row : ArrayRow) → slice_get code.arrays array ≡ Some row
          → (store : Array) × (slice_get (all.shares p).stores array ≡ Some store) × IsStore code p row store
      mine p below row there =
          zip_there (IsStore code p) code.arrays (all.shares p).stores array row
          (holds.own p below).parts.stores there

      all_floods : (row : ArrayRow) (store : Array) → slice_get code.arrays array ≡ Some row
          → slice_get whole.stores array ≡ Some store → HasFloodsOf row (zeros_at store.storage)
      all_floods row store there here =
          let found = zip_there HasFloodsOf code.arrays whole.stores array row holds.floods there in
          let same : found.0 ≡ store = let e = sym found.1 ∙ here in cc in
          subst (λ (s : Array). HasFloodsOf row (zeros_at s.storage)) same found.2

      set : (row : ArrayRow) (store : Array) → slice_get code.arrays array ≡ Some row
          → slice_get whole.stores array ≡ Some store → IsStoreOf row store
          → IsSet code whole all holds array row (zeros_at store.storage) own
      set row store there here is =
          let is_array : IsArray store = all_get IsArray whole.stores array store holds.arrays here in
          record {
            there = there;
            is_array = array_of_is_array store.storage (λ t. pos 0) is_array.steps;
            whole_is = record {
              filled = length-map (members store.storage) (λ t. pos 0);
              placed = is.placed;
            };
            floods = all_floods row store there here;
            own_is = λ p below.
                let found = mine p below row there in
                subst (λ o. IsStore code p row (own_by o)) (sym found.1)
                (record {
                  filled = array_of_is_array found.0.storage (λ t. pos 0) found.2.filled.steps;
                  places = found.2.places;
                });
            part = λ p below.
                let found = mine p below row there in
                subst (λ o. HasPart code p row (zeros_at store.storage) (own_by o)) (sym found.1)
                (record {
                  has = λ t value lies held.
                      let place = place_of_held t (zeros_at store.storage) value held in
                      let zero_is : Some (pos 0) ≡ Some value =
                      sym (zero_held t store.storage is_array.steps place) ∙ held in
                      let old = (holds.own p below).arrays array row store found.0 there here found.1 in
                      let has_own = place_of_held t found.0 (element store t)
                      (old.has t (element store t) lies (held_there t store place)) in
                      zero_held t found.0.storage found.2.filled.steps has_own ∙ zero_is;
                });
          }

      acts : (row : ArrayRow) → slice_get code.arrays array ≡ Some row → (p : ℕ) → p < processors code
          → action_of code (instr.Clear array) all p
          ≡ moves (goes_on (record (standing (all.shares p)) {
            stores = slice_set (all.shares p).stores array (own p);
          })) []
      acts row there p below =
          let found = mine p below row there in
          ap (λ o. cleared (standing (all.shares p)) array o) found.1
          ∙ ap (λ a. moves (goes_on (record (standing (all.shares p)) {
            stores = slice_set (all.shares p).stores array a;
          })) []) (sym (ap own_by found.1))

      by : (store : Option Array) → slice_get whole.stores array ≡ store
          → AreEffects (Holds code) (Does (found store (λ s. Goes [] (with_store whole array (zeros_at s.storage)))))
          (Does (alone code (instr.Clear array) all))
      by None here = OldWrong
      by (Some store) here =
          let is = zip_back IsStoreOf code.arrays whole.stores array store holds.is_whole.stores here in
          alone_set code whole all holds (instr.Clear array) array own (with_store whole array (zeros_at store.storage))
          (acts is.0 is.1)
          (store_set code whole all holds array is.0 (zeros_at store.storage) own (set is.0 store is.1 here is.2))
