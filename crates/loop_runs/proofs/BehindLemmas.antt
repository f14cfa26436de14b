-- Behind a loop that goes on all processors hold the flat state.
use Rattle.std.proofs.Common.{◌≡◌, ◌⊎◌, inl, inr, refl, sym, ◌∙◌, ap, subst, arith, ℕ, zero, suc, ◌+◌}
use Rattle.std.proofs.Common.{◌<◌, Bool, true, false, true≢false, List, [], ◌∷◌, length, map, All, ℤ}
use Rattle.std.proofs.Common.{pos, Option, Some, None, IsPermutation}
use Rattle.std.specs.Prelude.{flat_map, fold, is_none, option_and_then, slice_get, slice_index_or}
use Rattle.std.specs.List.{AllZip, range_with_len}
use Rattle.std.proofs.lemmas.List.Elements.{All-nil, All-cons}
use Rattle.zpl_nums.specs.declared.folds.Fold.{Fold}
use Rattle.zpl_nums.specs.Fold.{folded, joined, unit_of}
use Rattle.zpl_region.specs.declared.regions.Region.{Region}
use Rattle.zpl_region.proofs.ListLemmas.{Among}
use Rattle.zpl_arrays.specs.Array.{Array, IsArray}
use Rattle.grid_layout.specs.Words.{numbers_from}
use Rattle.node_form.specs.declared.arrays.ArrayRow.{ArrayRow}
use Rattle.node_form.specs.declared.tables.Tables.{Tables}
use Rattle.node_form.specs.Group as group_of
use Rattle.grid_meaning.specs.Collective.{scalar_at}
use Rattle.grid_meaning.specs.Local.{processors}
use Rattle.grid_meaning.specs.State.{ArePlaces, IsSlot, IsStore}
use Rattle.grid_meaning.specs.Stored.{no_places}
use Rattle.row_orders.specs.Agreement.{joined_over}
use Rattle.flat_form.specs.Loop.{awaiting}
use Rattle.flat_form.specs.Names.{Total, group_totals}
use Rattle.flat_form.specs.Right.{is_among, is_settled, matches}
use Rattle.flat_form.specs.Row.{member_inlined}
use Rattle.flat_form.specs.States.{IsWhole}
use Rattle.flat_form.specs.Whole.{Whole}
use Rattle.needs_runs.specs.of_plan_meaning.Abreast.{Abreast, Share, locals_of}
use Rattle.needs_runs.specs.Holds.{HasFloodsOf, Holds, HoldsOwn}
use Rattle.needs_runs.proofs.HoldsLemmas.{joined_same, some_processors}
use Rattle.needs_runs.proofs.OwnerLemmas.{processors_are}
use Rattle.needs_runs.proofs.RoomRows.{all_get}
use Rattle.needs_runs.proofs.SlotLemmas.{zip_back, zip_there}
use Rattle.loop_runs.proofs.AwaitLemmas.{IsAwaited, await_here, await_other, await_scalars, await_slots}
use Rattle.loop_runs.proofs.AwaitLemmas.{await_stores, numbers}
use Rattle.loop_runs.proofs.FlatLemmas.{Kept}
use Rattle.loop_runs.proofs.GroupLemmas.{all_at, among_left, among_map, among_of_is, begins, is_among_of}
use Rattle.loop_runs.proofs.LoopEnd.{EndsAre, StageIs, ThroughTo, WroteTo, done_sum, ends_sum, part_has}
use Rattle.loop_runs.proofs.LoopEnd.{sum_at, wrote_to}
use Rattle.loop_runs.proofs.LoopStart.{Given, J, K, P, begins_unit, low, part, state, tuples}
use Rattle.loop_runs.proofs.PartLemmas.{parts_are}
use Rattle.loop_runs.proofs.SpotLemmas.{storage_or}
use Rattle.loop_runs.proofs.TotalLemmas.{parts_joined, whole_folded}
use Rattle.loop_runs.proofs.WriteLemmas.{some_is}

-- ---- lists
all_from : {X : Type 0} (Q : X → Type 0) (xs : List X)
    → ((k : ℕ) (x : X) → slice_get xs k ≡ Some x → Q x) → All Q xs
all_from Q [] each = All-nil Q
all_from Q (x ∷ xs) each =
    All-cons Q x xs (each 0 x refl) (all_from Q xs (λ k y e. each (suc k) y e))

zip_from : {X Y : Type 0} (T : X → Y → Type 0) (xs : List X) (ys : List Y)
    → length ys ≡ length xs
    → ((k : ℕ) (x : X) (y : Y) → slice_get xs k ≡ Some x → slice_get ys k ≡ Some y → T x y)
    → AllZip T xs ys
zip_from T [] [] long each = tt
zip_from T [] (y ∷ ys) long each = absurd (omega (arith, long))
zip_from T (x ∷ xs) [] long each = absurd (omega (arith, long))
zip_from T (x ∷ xs) (y ∷ ys) long each =
    (each 0 x y refl refl, zip_from T xs ys (omega (arith, long)) (λ k v w e f. each (suc k) v w e f))

zip_many : {X Y : Type 0} (T : X → Y → Type 0) (xs : List X) (ys : List Y) → AllZip T xs ys
    → length ys ≡ length xs
zip_many T [] [] all = refl
zip_many T [] (y ∷ ys) all = absurd all
zip_many T (x ∷ xs) [] all = absurd all
zip_many T (x ∷ xs) (y ∷ ys) all = ap suc (zip_many T xs ys all.1)

index_get : (xs : List ℤ) (k : ℕ) (d v : ℤ) → slice_get xs k ≡ Some v → slice_index_or xs k d ≡ v
index_get [] k d v e = cc
index_get (x ∷ xs) zero d v e = some_is e
index_get (x ∷ xs) (suc k) d v e = index_get xs k d v e

index_none : (xs : List ℤ) (k : ℕ) (d : ℤ) → slice_get xs k ≡ None → slice_index_or xs k d ≡ d
index_none [] k d e = refl
index_none (x ∷ xs) zero d e = cc
index_none (x ∷ xs) (suc k) d e = index_none xs k d e

index_same : (xs ys : List ℤ) (k : ℕ) (d : ℤ) → slice_get xs k ≡ slice_get ys k
    → slice_index_or xs k d ≡ slice_index_or ys k d
index_same xs ys k d e = by (slice_get ys k) refl
  where
    by : (o : Option ℤ) → slice_get ys k ≡ o → slice_index_or xs k d ≡ slice_index_or ys k d
    by None f = index_none xs k d (e ∙ f) ∙ sym (index_none ys k d f)
    by (Some v) f = index_get xs k d v (e ∙ f) ∙ sym (index_get ys k d v f)

numbers_same : (a n : ℕ) → numbers_from a n ≡ range_with_len a n
numbers_same a zero = refl
numbers_same a (suc n) =
    let next : suc a ≡ a + 1 = omega arith in
    ap (λ rest. a ∷ rest) (ap (λ b. numbers_from b n) next ∙ numbers_same (a + 1) n)

module _ (code : Tables) (slot group n : ℕ) (whole : Whole) (all : Abreast)
    (g : Given code slot group n whole all) (next : Whole) (news : List Kept)
    (ends : EndsAre code slot group n whole all g (tuples code slot group n whole all g) news) where
  abbrev totals : List Total
  totals = group_totals (map (member_inlined code) g.group_members)

  abbrev pub whole_behind : Whole
  whole_behind = fold awaiting next totals

  -- a processor behind the loop
  abbrev pub share_to : ℕ → group_of.Point (List Array) → Share
  share_to p to = record (all.shares p) {
    scalars = to.scalars;
    cells = to.cells;
    stores = to.store;
    flag = None;
  }

  pub record Behind (p : ℕ) (below : p < processors code) (share : Share) : Type 0 where
    pub to : group_of.Point (List Array)
    pub through : ThroughTo code slot group n whole all g p below to
    pub stage : StageIs code slot group n whole all g p below next news
    pub is : share ≡ share_to p to

  module _ (after : Abreast) (quiet : after.flights ≡ []) (is_whole : IsWhole code whole_behind)
      (behind : (p : ℕ) (below : p < processors code) → Behind p below (after.shares p)) where
    wrote : (p : ℕ) (below : p < processors code)
        → WroteTo code slot group n whole all g p below (behind p below).to
        (behind p below).through.points
    wrote p below = wrote_to code slot group n whole all g p below (behind p below).to
        (behind p below).through

    abbrev first : Behind 0 (some_processors code) (after.shares 0)
    first = behind 0 (some_processors code)

    -- ---- arrays
    next_arrays : All IsArray next.stores
    next_arrays = all_from IsArray next.stores each
      where
        each : (a : ℕ) (store : Array) → slice_get next.stores a ≡ Some store → IsArray store
        each a store e = by (P code slot group n whole all g a) refl
          where
            by : (b : Bool) → P code slot group n whole all g a ≡ b → IsArray store
            by true is =
                let at = first.stage.placed a is in
                subst IsArray (some_is (sym at.there ∙ e)) at.is_array
            by false is =
                all_get IsArray whole.stores a store g.holds.arrays
                (sym (first.stage.stays.unput a is) ∙ e)

    next_floods : AllZip HasFloodsOf code.arrays next.stores
    next_floods =
        zip_from HasFloodsOf code.arrays next.stores
        (first.stage.stays.stores_many
        ∙ zip_many HasFloodsOf code.arrays whole.stores g.holds.floods) each
      where
        each : (a : ℕ) (row : ArrayRow) (store : Array) → slice_get code.arrays a ≡ Some row
            → slice_get next.stores a ≡ Some store → HasFloodsOf row store
        each a row store there here = by (P code slot group n whole all g a) refl
          where
            by : (b : Bool) → P code slot group n whole all g a ≡ b → HasFloodsOf row store
            by false is =
                let found = zip_there HasFloodsOf code.arrays whole.stores a row g.holds.floods there in
                subst (HasFloodsOf row)
                (some_is (sym found.1 ∙ (sym (first.stage.stays.unput a is) ∙ here))) found.2
            by true is =
                let found = zip_there HasFloodsOf code.arrays whole.stores a row g.holds.floods there in
                let at = first.stage.placed a is in
                subst (λ (r : Region). (r ≡ no_places row.rank)
                ⊎ ((length r.dims ≡ length row.dims) × (matches row r ≡ true)))
                (sym (ap storage_or found.1)
                ∙ (sym at.storage
                ∙ ap (λ (x : Array). x.storage) (some_is (sym at.there ∙ here)))) found.2

    own_stores : (p : ℕ) (below : p < processors code)
        → AllZip (IsStore code p) code.arrays (behind p below).to.store
    own_stores p below =
        zip_from (IsStore code p) code.arrays (behind p below).to.store
        ((wrote p below).stays.stores_many
        ∙ zip_many (IsStore code p) code.arrays (all.shares p).stores
        (g.holds.own p below).parts.stores) each
      where
        old : (a : ℕ) (row : ArrayRow) (store : Array) → slice_get code.arrays a ≡ Some row
            → slice_get (all.shares p).stores a ≡ Some store → IsStore code p row store
        old a row store there here =
            let found = zip_back (IsStore code p) code.arrays (all.shares p).stores a store
            (g.holds.own p below).parts.stores here in
            subst (λ r. IsStore code p r store) (some_is (sym found.1 ∙ there)) found.2

        each : (a : ℕ) (row : ArrayRow) (store : Array) → slice_get code.arrays a ≡ Some row
            → slice_get (behind p below).to.store a ≡ Some store → IsStore code p row store
        each a row store there here = by (P code slot group n whole all g a) refl
          where
            by : (b : Bool) → P code slot group n whole all g a ≡ b → IsStore code p row store
            by false is = old a row store there (sym ((wrote p below).stays.unput a is) ∙ here)
            by true is =
                let at = (wrote p below).placed a is in
                let same : at.store ≡ store = some_is (sym at.there ∙ here) in
                let before = (state code slot group n whole all g p
                below).placed a is in
                let was = old a row before.store there before.there in record {
                  filled = subst IsArray same at.is_array;
                  places = subst (ArePlaces code p row row.stored)
                      (before.storage ∙ (sym at.storage ∙ ap (λ (x : Array). x.storage) same))
                      was.places;
                }

    -- ---- scalars
    not_total : (k : ℕ) → is_among k (numbers totals) ≡ false → (f : Fold)
        → J code slot group n whole all g k f → ⊥
    not_total k none f is =
        true≢false (sym (is_among_of k (numbers totals)
        (among_map (λ (total : Total). total.scalar) totals
        (record { scalar = k; operator = f }) is)) ∙ none)

    awaited_low : (k : ℕ) (f : Fold) → J code slot group n whole all g k f
        → k < length next.awaited
    awaited_low k f is =
        let low = low code slot group n whole all g k f is in
        let same : length next.awaited ≡ code.scalars =
        ap length first.stage.stays.awaited ∙ g.holds.is_whole.awaited in omega (arith, low, same)

    total_operator : (k : ℕ) → is_among k (numbers totals) ≡ true
        → IsAwaited totals next k
    total_operator k is = by (among_of_is k (numbers totals) is)
      where
        there : (ts : List Total) → Among (numbers ts) k
            → (f : Fold) × Among ts (record { scalar = k; operator = f })
        there [] among = absurd among
        there (t ∷ ts) (inl same) =
            (t.operator, inl (ap (λ m. record { scalar = m; operator = t.operator }) same))
        there (t ∷ ts) (inr among) = let more = there ts among in (more.0, inr more.1)

        by : Among (numbers totals) k → IsAwaited totals next k
        by among =
            let found = there totals among in
            await_here totals next k (awaited_low k found.0 found.1) is

    settled_before : (k : ℕ) → is_settled whole_behind k ≡ true
        → (is_among k (numbers totals) ≡ false) × (is_settled whole k ≡ true)
    settled_before k e = by (is_among k (numbers totals)) refl
      where
        by : (b : Bool) → is_among k (numbers totals) ≡ b
            → (is_among k (numbers totals) ≡ false) × (is_settled whole k ≡ true)
        by true is =
            let one = total_operator k is in
            absurd (true≢false (sym e ∙ ap (λ o. is_none (option_and_then (λ a. a) o)) one.awaited))
        by false is = (
          is,
          sym (ap (λ o. is_none (option_and_then (λ a. a) o))
              (await_other totals next k is
              ∙ ap (λ l. slice_get l k) first.stage.stays.awaited)) ∙ e,
        )

    own_same : (p : ℕ) (below : p < processors code) (k : ℕ) → is_among k (numbers totals) ≡ false
        → slice_get (behind p below).to.scalars k ≡ slice_get (all.shares p).scalars k
    own_same p below k none = (wrote p below).stays.others k (not_total k none)

    whole_same : (k : ℕ) → is_among k (numbers totals) ≡ false
        → slice_get whole_behind.scalars k ≡ slice_get whole.scalars k
    whole_same k none =
        ap (λ l. slice_get l k) (await_scalars totals next)
        ∙ first.stage.stays.others k (not_total k none)

    -- ---- totals
    module _ (k : ℕ) (f : Fold) (is : J code slot group n whole all g k f) where
      total_settled : is_settled whole k ≡ true
      total_settled =
          all_at (is_settled whole) _ k g.settled
          (among_left (numbers totals) _ k
          (among_map (λ (total : Total). total.scalar) totals
          (record { scalar = k; operator = f }) is))

      abbrev h : List ℤ → ℤ
      h = sum_at code slot group n whole all g f k

      own_total : (p : ℕ) (below : p < processors code)
          → slice_get (behind p below).to.scalars k
          ≡ Some (folded f (map h (part code slot group n whole all g p)))
      own_total p below =
          (wrote p below).totals k f (unit_of f) is
          ((g.holds.own p below).scalars k total_settled ∙ begins_unit code slot group n whole all g k f is)
          ∙ ap Some (done_sum code slot group n whole all g p below f k
          (part code slot group n whole all g p) (behind p below).through.points
          (behind p below).through.done)

      whole_total : slice_get next.scalars k
          ≡ Some (folded f (map h (tuples code slot group n whole all g)))
      whole_total =
          first.stage.totals k f is
          ∙ ap Some (ends_sum code slot group n whole all g f k (tuples code slot group n whole all g)
          news ends)

      parts_all : IsPermutation (tuples code slot group n whole all g)
          (flat_map (part code slot group n whole all g) (range_with_len 0 (processors code)))
      parts_all =
          subst (λ l. IsPermutation (tuples code slot group n whole all g)
          (flat_map (part code slot group n whole all g) l))
          (numbers_same 0 _ ∙ ap (range_with_len 0) (sym (processors_are code)))
          (parts_are code g.layout g.rank g.region g.slot_is
          (begins code g.exprs_fit slot group g.rank (K code slot group n whole all g) g.group_members g.there g.fit
          g.apart whole g.region g.settled g.stands k f is).flat)

      total_is : slice_get whole_behind.scalars k
          ≡ Some (joined_over (processors code) (joined f) (scalar_at k) (locals_of after))
      total_is =
          ap (λ l. slice_get l k) (await_scalars totals next)
          ∙ (whole_total
          ∙ ap Some (whole_folded f h (tuples code slot group n whole all g)
          (flat_map (part code slot group n whole all g) (range_with_len 0 (processors code))) parts_all
          ∙ sym (parts_joined f h (part code slot group n whole all g) (scalar_at k) (locals_of after)
          (processors code) (some_processors code)
          (λ p below. ap (λ (s : Share). slice_index_or s.scalars k (pos 0)) (behind p below).is
          ∙ index_get (behind p below).to.scalars k (pos 0) _ (own_total p below)))))

    all_totals : (k : ℕ) (f : Fold) → slice_get whole_behind.awaited k ≡ Some (Some f)
        → slice_get whole_behind.scalars k
        ≡ Some (joined_over (processors code) (joined f) (scalar_at k) (locals_of after))
    all_totals k f e = by (is_among k (numbers totals)) refl
      where
        same_fold : {x y : Fold} → Some (Some x) ≡ Some (Some y) → x ≡ y
        same_fold e = cc

        by : (b : Bool) → is_among k (numbers totals) ≡ b
            → slice_get whole_behind.scalars k
            ≡ Some (joined_over (processors code) (joined f) (scalar_at k) (locals_of after))
        by true is =
            let one = total_operator k is in
            let same : one.operator ≡ f = same_fold (sym one.awaited ∙ e) in
            subst (λ o. slice_get whole_behind.scalars k
            ≡ Some (joined_over (processors code) (joined o) (scalar_at k) (locals_of after))) same
            (total_is k one.operator one.among)
        by false is =
            whole_same k is
            ∙ (g.holds.totals k f
            (sym (await_other totals next k is ∙ ap (λ l. slice_get l k) first.stage.stays.awaited) ∙ e)
            ∙ ap Some (joined_same (processors code) (joined f) (scalar_at k) (locals_of all)
            (locals_of after) (some_processors code)
            (λ p below.
            index_same (all.shares p).scalars (behind p below).to.scalars k (pos 0)
            (sym (own_same p below k is))
            ∙ sym (ap (λ (s : Share). slice_index_or s.scalars k (pos 0)) (behind p below).is))))

    -- ---- all of it
    own_holds : (p : ℕ) (below : p < processors code) → HoldsOwn code p whole_behind (after.shares p)
    own_holds p below =
        subst (HoldsOwn code p whole_behind) (sym (behind p below).is)
        (record {
          parts = record {
            scalars = (behind p below).through.state.scalars;
            cells = (behind p below).through.state.cells;
            slots = (g.holds.own p below).parts.slots;
            stores = own_stores p below;
            flag = tt;
          };
          flag = refl;
          slots = (g.holds.own p below).slots
              ∙ sym (await_slots totals next ∙ first.stage.stays.slots);
          scalars = λ k e.
              let before = settled_before k e in
              own_same p below k before.0
              ∙ ((g.holds.own p below).scalars k before.1 ∙ sym (whole_same k before.0));
          arrays = λ a row store own there here mine.
              part_has code slot group n whole all g p below (behind p below).to
              (behind p below).through next news ends (behind p below).stage a row store own there
              (ap (λ l. slice_get l a) (sym (await_stores totals next)) ∙ here) mine;
        })

    pub behind_holds : Holds code whole_behind after
    behind_holds = record {
      is_whole = is_whole;
      arrays = subst (All IsArray) (sym (await_stores totals next)) next_arrays;
      floods = subst (AllZip HasFloodsOf code.arrays) (sym (await_stores totals next)) next_floods;
      slots = subst (AllZip IsSlot code.slots)
          (sym (await_slots totals next ∙ first.stage.stays.slots)) g.holds.slots;
      own = own_holds;
      totals = all_totals;
      flights = quiet;
    }
