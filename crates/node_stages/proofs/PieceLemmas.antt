-- Items of an exchange: their slots, their arrays, and their pieces.
use Rattle.std.proofs.Common.{◌≡◌, ℕ, zero, suc, ◌+◌, ◌<◌, ◌≤◌, Bool, true, false, cond, get_or, List, [], ◌∷◌, length, map, take, drop, drop-cons, ◌⊎◌, inl, inr, refl, sym, ap, ◌∙◌, subst, ℤ, pos, arith}
use Rattle.std.specs.Prelude.{Option, Some, None, All, slice_get, sum_by}
use Rattle.std.proofs.lemmas.Bool.{cases_lt}
use Rattle.std.proofs.lemmas.List.{drop_all}
use Rattle.std.proofs.lemmas.List.Sums.{sum_by-cons}
use Rattle.std.specs.List.{AllZip}
use Rattle.std.specs.Option.{IsSomeAnd}
use Rattle.std.proofs.lemmas.Int.{ints}
use Rattle.std.proofs.lemmas.List.Elements.{All-nil, All-cons, All-head, All-tail}
use Rattle.std.proofs.lemmas.Option.{slice_get_within, get_or_from_slice_get}
use Rattle.reduce_plan.specs.of_zpl_region.declared.dims.Dim.{Dim}
use Rattle.reduce_plan.specs.of_zpl_region.declared.dims.Dim.TheVariants.{Range, Flood}
use Rattle.reduce_plan.specs.of_zpl_region.declared.regions.Region.{Region}
use Rattle.reduce_plan.specs.of_zpl_region.Dim.{HasAlign, IsDimWithinLimit, IsUpTo, dim_moved}
use Rattle.reduce_plan.specs.of_zpl_region.Region.{IsRegion, components, each, members, moved}
use Rattle.reduce_plan.proofs.of_zpl_region.RegionLemmas.{within_is_dim}
use Rattle.grid_meaning.specs.of_grid_layout.Grid as layout
use Rattle.grid_meaning.specs.of_grid_layout.declared.boxes.ArrayBox.{ArrayBox}
use Rattle.grid_meaning.specs.of_grid_layout.Layout.{Arrangement, box_at, no_box}
use Rattle.grid_meaning.specs.of_grid_layout.Piece.{piece_of}
use Rattle.grid_meaning.specs.of_node_form.declared.arrays.ArrayRow.{ArrayRow}
use Rattle.grid_meaning.specs.of_node_form.declared.arrays.Item.{Item}
use Rattle.grid_meaning.specs.of_node_form.declared.tables.Tables.{Tables}
use Rattle.grid_meaning.specs.of_node_form.Fits.{FitsItem}
use Rattle.grid_meaning.specs.Exchange.{places_in, places_of}
use Rattle.grid_meaning.specs.Local.{processors}
use Rattle.grid_meaning.proofs.WorldLemmas.{processors_alike}
use Rattle.grid_meaning.specs.State.{IsSlot}
use Rattle.grid_meaning.specs.Stored.{arrangement_of, box_number, box_of, stored}
use Rattle.node_stages.specs.Slots.{at_slots}

-- ---- slots
pub slot_there : (ranks : List ℕ) (slots : List Region) (slot rank : ℕ) → AllZip IsSlot ranks slots → slice_get ranks slot ≡ Some rank
    → (region : Region) × (slice_get slots slot ≡ Some region) × IsSlot rank region
slot_there [] slots slot rank all is = cc
slot_there (r ∷ ranks) [] slot rank all is = absurd all
slot_there (r ∷ ranks) (region ∷ slots) zero rank all is =
    let same : r ≡ rank = cc in
    (region, refl, subst (λ n. IsSlot n region) same all.0)
slot_there (r ∷ ranks) (region ∷ slots) (suc slot) rank all is = slot_there ranks slots slot rank all.1 is

pub IsRegion-slot : (rank : ℕ) (region : Region) → IsSlot rank region → IsRegion region
IsRegion-slot rank region slot = record {
  rank_above = slot.fits.rank.0;
  rank_below = slot.fits.rank.1;
  dims = λ k d here. within_is_dim (get_or region.dims k d) (slot.fits.steps k d here) (slot.fits.limit.dims k d here);
  padded = slot.fits.padded;
}

-- ---- arrays by their numbers among the stored ones
pub stored-more : (rows : List ArrayRow) (i : ℕ) (row : ArrayRow) → slice_get rows i ≡ Some row
    → length (stored (take (i + 1) rows)) ≡ length (stored (take i rows)) + cond row.stored 1 0
stored-more [] i row is = cc
stored-more (first ∷ rows) zero row is =
    let same : first ≡ row = cc in
    by first.stored ∙ ap (λ (r : ArrayRow). 0 + cond r.stored 1 0) same
  where
    by : (b : Bool) → length (cond b (first ∷ []) []) ≡ 0 + cond b 1 0
    by true = refl
    by false = refl
stored-more (first ∷ rows) (suc i) row is =
    let next : suc i + 1 ≡ suc (i + 1) = omega arith in
    ap (λ n. length (stored (take n (first ∷ rows)))) next ∙ by first.stored (stored-more rows i row is)
  where
    by : (b : Bool) → length (stored (take (i + 1) rows)) ≡ length (stored (take i rows)) + cond row.stored 1 0
        → length (cond b (first ∷ stored (take (i + 1) rows)) (stored (take (i + 1) rows)))
        ≡ length (cond b (first ∷ stored (take i rows)) (stored (take i rows))) + cond row.stored 1 0
    by true rest = omega arith
    by false rest = rest

pub stored-past : (rows : List ArrayRow) (i : ℕ) → slice_get rows i ≡ None → take (i + 1) rows ≡ take i rows
stored-past [] zero is = refl
stored-past [] (suc i) is = let next : suc i + 1 ≡ suc (i + 1) = omega arith in ap (λ n. take n []) next
stored-past (first ∷ rows) zero is = cc
stored-past (first ∷ rows) (suc i) is =
    let next : suc i + 1 ≡ suc (i + 1) = omega arith in
    ap (λ n. take n (first ∷ rows)) next ∙ ap (λ list. first ∷ list) (stored-past rows i is)

stored-at : (rows : List ArrayRow) (i : ℕ) (row : ArrayRow) → slice_get rows i ≡ Some row → row.stored ≡ true
    → slice_get (stored rows) (length (stored (take i rows))) ≡ Some row
stored-at [] i row is there = cc
stored-at (first ∷ rows) zero row is there =
    let same : first ≡ row = cc in
    by first.stored (ap (λ (r : ArrayRow). r.stored) same ∙ there) ∙ ap Some same
  where
    by : (b : Bool) → b ≡ true → slice_get (cond b (first ∷ stored rows) (stored rows)) 0 ≡ Some first
    by true e = refl
    by false e = cc
stored-at (first ∷ rows) (suc i) row is there = by first.stored (stored-at rows i row is there)
  where
    by : (b : Bool) → slice_get (stored rows) (length (stored (take i rows))) ≡ Some row
        → slice_get (cond b (first ∷ stored rows) (stored rows)) (length (cond b (first ∷ stored (take i rows)) (stored (take i rows)))) ≡ Some row
    by true rest = rest
    by false rest = rest

map-at : {A B : Type 0} (f : A → B) (xs : List A) (i : ℕ) (x : A) → slice_get xs i ≡ Some x → slice_get (map f xs) i ≡ Some (f x)
map-at f [] i x is = cc
map-at f (first ∷ xs) zero x is = let same : first ≡ x = cc in ap (λ z. Some (f z)) same
map-at f (first ∷ xs) (suc i) x is = map-at f xs i x is

some_row : (found : Option ArrayRow) (rank : ℕ) → IsSomeAnd found (λ row. row.rank ≡ rank) → IsSomeAnd found (λ row. row.stored ≡ true)
    → (row : ArrayRow) × (found ≡ Some row) × (row.rank ≡ rank) × (row.stored ≡ true)
some_row None rank one two = absurd one
some_row (Some row) rank one two = (row, refl, one, two)

-- the box of an item's array: it is there, and has the item's rank
pub record HasBox (code : Tables) (item : Item) (rank : ℕ) : Type 0 where
  pub below : box_number code item.array < length (arrangement_of code).boxes
  pub ranked : (box_at (arrangement_of code) (box_number code item.array)).shape.rank ≡ rank

pub box_there : (code : Tables) (item : Item) (fits : FitsItem code item) → HasBox code item fits.rank
box_there code item fits =
    let row = some_row (slice_get code.arrays item.array) fits.rank fits.array fits.stored in
    let there = map-at box_of (stored code.arrays) _ row.0 (stored-at code.arrays item.array row.0 row.1 row.3) in
    record {
      below = slice_get_within (map box_of (stored code.arrays)) _ (box_of row.0) there;
      ranked = ap (λ (b : ArrayBox). b.shape.rank)
          (get_or_from_slice_get (map box_of (stored code.arrays)) _ (box_of row.0) no_box there) ∙ row.2;
    }

-- ---- a region that is moved by a vector has alignments that the calls take
aligned : (d : ℤ) (dim : Dim) → IsUpTo 31 d → IsDimWithinLimit dim → HasAlign (dim_moved d dim)
aligned d Flood near within = tt
aligned d (Range lo hi step align) near within = (omega (arith, ints, near, within), omega (arith, ints, near, within))

aligned_each : (rank : ℕ) (v : List ℤ) (dims : List Dim) → All (IsUpTo 31) v → All IsDimWithinLimit dims
    → All HasAlign dims → All HasAlign (each dim_moved (components rank v) dims)
aligned_each rank [] dims near within all = all
aligned_each zero (d ∷ v) [] near within all = All-nil HasAlign
aligned_each (suc rank) (d ∷ v) [] near within all = All-nil HasAlign
aligned_each zero (d ∷ v) (dim ∷ dims) near within all =
    All-cons HasAlign (dim_moved (pos 0) dim) (each dim_moved (components zero v) dims)
    (aligned (pos 0) dim (omega (arith, ints), omega (arith, ints)) (All-head IsDimWithinLimit dim dims within))
    (aligned_each zero v dims (All-tail (IsUpTo 31) d v near) (All-tail IsDimWithinLimit dim dims within) (All-tail HasAlign dim dims all))
aligned_each (suc rank) (d ∷ v) (dim ∷ dims) near within all =
    All-cons HasAlign (dim_moved d dim) (each dim_moved (components rank v) dims)
    (aligned d dim (All-head (IsUpTo 31) d v near) (All-head IsDimWithinLimit dim dims within))
    (aligned_each rank v dims (All-tail (IsUpTo 31) d v near) (All-tail IsDimWithinLimit dim dims within) (All-tail HasAlign dim dims all))

pub aligned_slot : (rank : ℕ) (region : Region) (shift : List ℤ) → IsSlot rank region → All (IsUpTo 31) shift
    → All HasAlign (moved shift region).dims
aligned_slot rank region shift slot near =
    aligned_each region.rank shift region.dims near slot.fits.limit.dims
    (λ k d here. ((IsRegion-slot rank region slot).dims k d here).2)

-- ---- how many processors a layout's grid has
pub grid_count : (code : Tables) (a : Arrangement) → a ≡ arrangement_of code → layout.processors_of a.grid ≡ processors code
grid_count code a is = ap (λ (b : Arrangement). layout.processors_of b.grid) is ∙ sym (processors_alike code.grid)

-- ---- the places of an item, by the region in its slot
pub places_are : (code : Tables) (a : Arrangement) (slots : List Region) (from to : ℕ) (item : Item) (number : ℕ) (found region : Region)
    → a ≡ arrangement_of code → number ≡ box_number code item.array → slice_get slots item.slot ≡ Some region → found ≡ region
    → members (piece_of a number from to found item.shift) ≡ places_of code (at_slots slots) from to item
places_are code a slots from to item number found region alike numbered there same =
    ap (λ r. members (piece_of a number from to r item.shift)) same
    ∙ (ap (λ b. members (piece_of b number from to region item.shift)) alike
    ∙ (ap (λ n. members (piece_of (arrangement_of code) n from to region item.shift)) numbered
    ∙ sym (ap (places_in code from to item) there)))

-- ---- what a layout asks of an item, for the region in its slot, and what it is asked for
pub record IsAsked (code : Tables) (a : Arrangement) (slots : List Region) (item : Item) (number : ℕ) (region : Region) : Type 0 where
  pub array : number < length a.boxes
  pub sound : IsRegion region
  pub ranks : (box_at a number).shape.rank ≡ region.rank
  pub aligned : All HasAlign (moved item.shift region).dims
  pub same : (from to : ℕ) → members (piece_of a number from to region item.shift) ≡ places_of code (at_slots slots) from to item

pub asked : (code : Tables) (a : Arrangement) (slots : List Region) (item : Item) (number : ℕ) (d : Region)
    → a ≡ arrangement_of code → AllZip IsSlot code.slots slots → FitsItem code item → number ≡ box_number code item.array
    → IsAsked code a slots item number (get_or slots item.slot d)
asked code a slots item number d alike all fits numbered =
    let there = slot_there code.slots slots item.slot fits.rank all fits.slot in
    let region_is : get_or slots item.slot d ≡ there.0 = get_or_from_slice_get slots item.slot there.0 d there.1 in
    let box = box_there code item fits in
    let ranked : (box_at a number).shape.rank ≡ there.0.rank =
    ap (λ n. (box_at a n).shape.rank) numbered
    ∙ (ap (λ b. (box_at b (box_number code item.array)).shape.rank) alike ∙ (box.ranked ∙ sym there.2.ranked)) in
    subst (IsAsked code a slots item number) (sym region_is)
    (record {
      array = subst (λ n. n < length a.boxes) (sym numbered) (subst (λ (b : Arrangement). box_number code item.array < length b.boxes) (sym alike) box.below);
      sound = IsRegion-slot fits.rank there.0 there.2;
      ranks = ranked;
      aligned = aligned_slot fits.rank there.0 item.shift there.2 fits.shift.0;
      same = λ from to. places_are code a slots from to item number there.0 there.0 alike numbered there.1 refl;
    })

pub some_places : {A : Type 0} (xs ys : List A) → xs ≡ ys → 0 < length ys → 0 < length xs
some_places xs ys same some = subst (λ list. 0 < length list) (sym same) some

-- ---- items whose words were counted, and those that are left
pub first_or_rest : {A : Type 0} (f : A → ℕ) (items : List A) (i : ℕ) (d : A) → i < length items → 0 < sum_by f (drop i items)
    → (0 < f (get_or items i d)) ⊎ (0 < sum_by f (drop (i + 1) items))
first_or_rest f items i d below some =
    let next : suc i ≡ i + 1 = omega arith in
    by (subst (λ n. 0 < n) (sum_by-cons f (get_or items i d) (drop (i + 1) items)) (subst (λ list. 0 < sum_by f list) (drop-cons items i d below ∙ ap (λ n. get_or items i d ∷ drop n items) next) some))
  where
    by : 0 < f (get_or items i d) + sum_by f (drop (i + 1) items) → (0 < f (get_or items i d)) ⊎ (0 < sum_by f (drop (i + 1) items))
    by more = elim (cases_lt 0 (f (get_or items i d))) [
      | inl here ↦ inl here
      | inr none ↦ inr (omega (arith, more, none))
    ]

pub none_left : {A : Type 0} (f : A → ℕ) (items : List A) (i : ℕ) → length items ≤ i → 0 < sum_by f (drop i items) → 1 ≤ 0
none_left f items i past some = let none : sum_by f (drop i items) ≡ 0 = ap (sum_by f) (drop_all i items past) in omega (arith, none, some)
