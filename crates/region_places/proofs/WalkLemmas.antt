-- Steps over the tuples of ranges of step 1.
use Rattle.std.proofs.Common.{◌≡◌, refl, sym, ◌∙◌, ap, subst, arith, ℕ, zero, suc, ◌+◌, ◌*◌, ◌/◌, ◌<◌, Bool, true, cond, Option, Some, None, List, [], ◌∷◌, length, get_or, map, slice_get, ℤ, pos, ◌+ℤ◌, ◌-ℤ◌, ◌*ℤ◌, ◌≤ℤ◌, ◌<ℤ◌, unsigned_abs}
use Rattle.std.specs.List.{filter, find}
use Rattle.std.specs.Option.{option_and_then}
use Rattle.std.specs.Int.RustNames.{int_lt}
use Rattle.std.proofs.lemmas.Int.{clamps, ints}
use Rattle.zpl_arrays.specs.of_zpl_region.declared.dims.Dim.{Dim}
use Rattle.zpl_arrays.specs.of_zpl_region.declared.dims.Dim.TheVariants.{Range}
use Rattle.zpl_arrays.specs.of_zpl_region.declared.regions.Region.{Region}
use Rattle.zpl_arrays.specs.of_zpl_region.Dim.{coordinates, extent, integers, is_multiple}
use Rattle.zpl_arrays.specs.of_zpl_region.Progression.{progression}
use Rattle.zpl_arrays.specs.of_zpl_region.Ends.{least_member}
use Rattle.zpl_arrays.specs.of_zpl_region.Region.{IsRegion, is_before, members, tuples}
use Rattle.zpl_arrays.proofs.of_zpl_region.DimLemmas.{Among-range, Rises-progression, multiple_passes, pos-extent, pos-unsigned_abs}
use Rattle.zpl_arrays.proofs.of_zpl_region.EndLemmas.{first_member}
use Rattle.zpl_arrays.proofs.of_zpl_region.HullLemmas.{has_steps}
use Rattle.zpl_arrays.proofs.of_zpl_region.ListLemmas.{Among, Contains-from_among, Rises}
use Rattle.zpl_arrays.proofs.of_zpl_region.ProgressionLemmas.{above_between, above_none}
use Rattle.zpl_arrays.proofs.of_zpl_region.RegionLemmas.{three_components, three_dims}
use Rattle.zpl_arrays.proofs.of_zpl_region.TupleLemmas.{find-tuples_here, find-tuples_next, joined, slice_get-tuples_first}
use Rattle.zpl_arrays.proofs.of_zpl_region.WalkLemmas.{joined_no_column, joined_no_row, joined_one, joined_two, pair_here, pair_next}
use Rattle.region_places.specs.Walk.{HasAmong, IsOnes}

-- ---- ranges of step 1
unit_passes : (z : ℤ) → is_multiple (pos 1) z ≡ true
unit_passes z = let whole : z ≡ z *ℤ pos 1 = omega (arith, ints) in multiple_passes 1 z z (omega arith) whole

all_pass : (p : ℤ → Bool) (xs : List ℤ) → ((x : ℤ) → p x ≡ true) → filter p xs ≡ xs
all_pass p [] passes = refl
all_pass p (x ∷ xs) passes = ap (λ b. cond b (x ∷ filter p xs) (filter p xs)) (passes x) ∙ ap (λ l. x ∷ l) (all_pass p xs passes)

ones_are : (lo hi align : ℤ) → coordinates (Range lo hi (pos 1) align) ≡ integers lo hi
ones_are lo hi align = all_pass (λ x. is_multiple (pos 1) (x -ℤ align)) (integers lo hi) (λ x. unit_passes (x -ℤ align))

pub is_ones : (dim : Dim) (lo hi step align lo' hi' : ℤ) → dim ≡ Range lo hi step align → step ≡ pos 1 → lo' ≡ lo → hi' ≡ hi → IsOnes dim lo' hi'
is_ones dim lo hi step align lo' hi' is one low high =
    subst (λ d. IsOnes d lo' hi') (sym is)
    (subst (λ s. IsOnes (Range lo hi s align) lo' hi') (sym one)
    (record { all = ones_are lo hi align ∙ (ap (λ z. integers z hi) (sym low) ∙ ap (integers lo') (sym high)) }))

-- ---- the numbers from lo to hi
first_there : (f : ℤ) (n : ℕ) → 0 < n → slice_get (progression f 1 n) 0 ≡ Some f
first_there f zero some = absurd (omega (arith, some))
first_there f (suc n) some = refl

first_in : (lo hi : ℤ) → lo ≤ℤ hi → slice_get (integers lo hi) 0 ≡ Some lo
first_in lo hi le = let wide = pos-extent lo hi in first_there lo (extent lo hi) (omega (arith, ints, clamps, wide, le))

none_in : (lo hi : ℤ) → hi <ℤ lo → slice_get (integers lo hi) 0 ≡ None
none_in lo hi below =
    let wide = pos-extent lo hi in
    let none : extent lo hi ≡ 0 = omega (arith, ints, clamps, wide, below) in ap (λ n. slice_get (progression lo 1 n) 0) none

rise_in : (lo hi : ℤ) → Rises ◌<ℤ◌ (integers lo hi)
rise_in lo hi = Rises-progression lo 1 (extent lo hi) (omega arith)

among_in : (lo hi x : ℤ) → lo ≤ℤ x → x ≤ℤ hi → Among (integers lo hi) x
among_in lo hi x low high = subst (λ l. Among l x) (ones_are lo hi lo) (Among-range lo hi (pos 1) lo x low high (unit_passes (x -ℤ lo)))

above_in : (lo hi x : ℤ) → lo ≤ℤ x → x <ℤ hi → find (int_lt x) (integers lo hi) ≡ Some (x +ℤ pos 1)
above_in lo hi x low high =
    let wide = pos-extent lo hi in
    let g : ℕ = unsigned_abs (x -ℤ lo) in
    let far : pos g ≡ x -ℤ lo = pos-unsigned_abs (x -ℤ lo) (omega (arith, ints, low)) in
    let plain : (g / 1 + 1) * 1 ≡ g + 1 = omega arith in
    above_between lo 1 (extent lo hi) g x (omega arith) far (omega (arith, ints, clamps, wide, low, high))
    ∙ ap (λ n. Some (lo +ℤ pos n)) plain ∙ ap Some (omega (arith, ints, far))

last_in : (lo hi x : ℤ) → hi ≤ℤ x → find (int_lt x) (integers lo hi) ≡ None
last_in lo hi x past = let wide = pos-extent lo hi in above_none lo 1 (extent lo hi) x (λ some. omega (arith, ints, clamps, wide, past, some))

-- ---- three lists
lists_are : (dims : List Dim) (e : Dim) (a d b f c g : ℤ) → length dims ≡ 3
    → coordinates (get_or dims 0 e) ≡ integers a d → coordinates (get_or dims 1 e) ≡ integers b f → coordinates (get_or dims 2 e) ≡ integers c g
    → map coordinates dims ≡ integers a d ∷ integers b f ∷ integers c g ∷ []
lists_are dims e a d b f c g l p q r =
    ap (map coordinates) (sym (three_dims dims e l))
    ∙ (ap (λ xs. xs ∷ coordinates (get_or dims 1 e) ∷ coordinates (get_or dims 2 e) ∷ []) p
    ∙ (ap (λ ys. integers a d ∷ ys ∷ coordinates (get_or dims 2 e) ∷ []) q ∙ ap (λ zs. integers a d ∷ integers b f ∷ zs ∷ []) r))

pub lists_of : (dims : List Dim) (e : Dim) (a d b f c g : ℤ) → length dims ≡ 3 → IsOnes (get_or dims 0 e) a d → IsOnes (get_or dims 1 e) b f → IsOnes (get_or dims 2 e) c g
    → map coordinates dims ≡ integers a d ∷ integers b f ∷ integers c g ∷ []
lists_of dims e a d b f c g l p q r = lists_are dims e a d b f c g l p.all q.all r.all

-- ---- the first tuple
none_of : (f : ℤ → Option (List ℤ)) (o : Option ℤ) → ((x : ℤ) → f x ≡ None) → option_and_then f o ≡ None
none_of f None none = refl
none_of f (Some x) none = none x

least_told : (r : Region) (xs ys zs : List ℤ) (t : Option (List ℤ)) → IsRegion r → map coordinates r.dims ≡ xs ∷ ys ∷ zs ∷ []
    → option_and_then (joined (tuples (ys ∷ zs ∷ [])) 0) (slice_get xs 0) ≡ t → t ≡ least_member r
least_told r xs ys zs t is lists found =
    sym found ∙ (sym (slice_get-tuples_first xs (ys ∷ zs ∷ [])) ∙ (ap (λ l. slice_get (tuples l) 0) (sym lists) ∙ first_member r (has_steps r.dims is.dims)))

module _ (r : Region) (is : IsRegion r) (a d b f c g : ℤ) (lists : map coordinates r.dims ≡ integers a d ∷ integers b f ∷ integers c g ∷ []) where
  abbrev xs : List ℤ
  xs = integers a d

  abbrev ys : List ℤ
  ys = integers b f

  abbrev zs : List ℤ
  zs = integers c g

  pub no_plane : d <ℤ a → None ≡ least_member r
  no_plane below = least_told r xs ys zs None is lists (ap (option_and_then (joined (tuples (ys ∷ zs ∷ [])) 0)) (none_in a d below))

  pub no_row : f <ℤ b → None ≡ least_member r
  no_row below = least_told r xs ys zs None is lists (none_of (joined (tuples (ys ∷ zs ∷ [])) 0) (slice_get xs 0) (joined_no_row ys zs (none_in b f below)))

  pub no_column : b ≤ℤ f → g <ℤ c → None ≡ least_member r
  no_column row below = least_told r xs ys zs None is lists (none_of (joined (tuples (ys ∷ zs ∷ [])) 0) (slice_get xs 0) (joined_no_column ys zs b (first_in b f row) (none_in c g below)))

  pub first_is : a ≤ℤ d → b ≤ℤ f → c ≤ℤ g → Some (a ∷ b ∷ c ∷ []) ≡ least_member r
  first_is plane row column =
      least_told r xs ys zs (Some (a ∷ b ∷ c ∷ [])) is lists
      (ap (option_and_then (joined (tuples (ys ∷ zs ∷ [])) 0)) (first_in a d plane) ∙ joined_two ys zs b c (first_in b f row) (first_in c g column) a)

-- ---- the next tuple
next_told : (r : Region) (x : List ℤ) (xs ys zs : List ℤ) (t : Option (List ℤ)) → length x ≡ 3 → map coordinates r.dims ≡ xs ∷ ys ∷ zs ∷ []
    → find (is_before (get_or x 0 (pos 0) ∷ get_or x 1 (pos 0) ∷ get_or x 2 (pos 0) ∷ [])) (tuples (xs ∷ ys ∷ zs ∷ [])) ≡ t → t ≡ find (is_before x) (members r)
next_told r x xs ys zs t l lists found =
    sym found ∙ (ap (λ u. find (is_before u) (tuples (xs ∷ ys ∷ zs ∷ []))) (three_components x (pos 0) l) ∙ ap (λ u. find (is_before x) (tuples u)) (sym lists))

module _ (a d b f c g p q r : ℤ) (plane : (a ≤ℤ p) × (p ≤ℤ d)) (row : (b ≤ℤ q) × (q ≤ℤ f)) (column : (c ≤ℤ r) × (r ≤ℤ g)) where
  abbrev us : List ℤ
  us = integers a d

  abbrev vs : List ℤ
  vs = integers b f

  abbrev ws : List ℤ
  ws = integers c g

  pub next_column : r <ℤ g → find (is_before (p ∷ q ∷ r ∷ [])) (tuples (us ∷ vs ∷ ws ∷ [])) ≡ Some (p ∷ q ∷ (r +ℤ pos 1) ∷ [])
  next_column below =
      find-tuples_here us (vs ∷ ws ∷ []) p (q ∷ r ∷ []) (q ∷ (r +ℤ pos 1) ∷ []) (rise_in a d) (among_in a d p plane.0 plane.1)
      (pair_here vs ws q r (r +ℤ pos 1) (rise_in b f) (Contains-from_among vs q (among_in b f q row.0 row.1)) (above_in c g r column.0 below))

  pair_behind : g ≤ℤ r → find (is_before (q ∷ r ∷ [])) (tuples (vs ∷ ws ∷ [])) ≡ option_and_then (joined (tuples (ws ∷ [])) 0) (find (int_lt q) vs)
  pair_behind last = pair_next vs ws q r (λ has. last_in c g r last)

  pub next_row : g ≤ℤ r → q <ℤ f → find (is_before (p ∷ q ∷ r ∷ [])) (tuples (us ∷ vs ∷ ws ∷ [])) ≡ Some (p ∷ (q +ℤ pos 1) ∷ c ∷ [])
  next_row last below =
      let low = column.0 in
      let high = column.1 in
      find-tuples_here us (vs ∷ ws ∷ []) p (q ∷ r ∷ []) ((q +ℤ pos 1) ∷ c ∷ []) (rise_in a d) (among_in a d p plane.0 plane.1)
      (pair_behind last ∙ (ap (option_and_then (joined (tuples (ws ∷ [])) 0)) (above_in b f q row.0 below)
      ∙ joined_one ws (Some c) (first_in c g (omega (arith, ints, low, high))) (q +ℤ pos 1)))

  plane_behind : g ≤ℤ r → f ≤ℤ q → find (is_before (p ∷ q ∷ r ∷ [])) (tuples (us ∷ vs ∷ ws ∷ [])) ≡ option_and_then (joined (tuples (vs ∷ ws ∷ [])) 0) (find (int_lt p) us)
  plane_behind last bottom =
      find-tuples_next us (vs ∷ ws ∷ []) p (q ∷ r ∷ []) (λ m. pair_behind last ∙ ap (option_and_then (joined (tuples (ws ∷ [])) 0)) (last_in b f q bottom))

  pub next_plane : g ≤ℤ r → f ≤ℤ q → p <ℤ d → find (is_before (p ∷ q ∷ r ∷ [])) (tuples (us ∷ vs ∷ ws ∷ [])) ≡ Some ((p +ℤ pos 1) ∷ b ∷ c ∷ [])
  next_plane last bottom below =
      let top = row.0 in
      let under = row.1 in
      let low = column.0 in
      let high = column.1 in
      plane_behind last bottom ∙ (ap (option_and_then (joined (tuples (vs ∷ ws ∷ [])) 0)) (above_in a d p plane.0 below)
      ∙ joined_two vs ws b c (first_in b f (omega (arith, ints, top, under))) (first_in c g (omega (arith, ints, low, high))) (p +ℤ pos 1))

  pub no_next : g ≤ℤ r → f ≤ℤ q → d ≤ℤ p → find (is_before (p ∷ q ∷ r ∷ [])) (tuples (us ∷ vs ∷ ws ∷ [])) ≡ None
  no_next last bottom end = plane_behind last bottom ∙ ap (option_and_then (joined (tuples (vs ∷ ws ∷ [])) 0)) (last_in a d p end)

module _ (r : Region) (x : List ℤ) (e : Dim) (a d b f c g : ℤ) (three : length r.dims ≡ 3) (long : length x ≡ 3)
    (p : HasAmong (get_or r.dims 0 e) a d (get_or x 0 (pos 0))) (q : HasAmong (get_or r.dims 1 e) b f (get_or x 1 (pos 0))) (s : HasAmong (get_or r.dims 2 e) c g (get_or x 2 (pos 0))) where
  next_is : (t : Option (List ℤ)) → find (is_before (get_or x 0 (pos 0) ∷ get_or x 1 (pos 0) ∷ get_or x 2 (pos 0) ∷ [])) (tuples (integers a d ∷ integers b f ∷ integers c g ∷ [])) ≡ t
      → t ≡ find (is_before x) (members r)
  next_is t found = next_told r x (integers a d) (integers b f) (integers c g) t long (lists_are r.dims e a d b f c g three p.all q.all s.all) found

  pub column_told : get_or x 2 (pos 0) <ℤ g → Some (get_or x 0 (pos 0) ∷ get_or x 1 (pos 0) ∷ (get_or x 2 (pos 0) +ℤ pos 1) ∷ []) ≡ find (is_before x) (members r)
  column_told below =
      next_is (Some (get_or x 0 (pos 0) ∷ get_or x 1 (pos 0) ∷ (get_or x 2 (pos 0) +ℤ pos 1) ∷ []))
      (next_column a d b f c g (get_or x 0 (pos 0)) (get_or x 1 (pos 0)) (get_or x 2 (pos 0)) (p.low, p.high) (q.low, q.high) (s.low, s.high) below)

  pub row_told : g ≤ℤ get_or x 2 (pos 0) → get_or x 1 (pos 0) <ℤ f → Some (get_or x 0 (pos 0) ∷ (get_or x 1 (pos 0) +ℤ pos 1) ∷ c ∷ []) ≡ find (is_before x) (members r)
  row_told last below =
      next_is (Some (get_or x 0 (pos 0) ∷ (get_or x 1 (pos 0) +ℤ pos 1) ∷ c ∷ []))
      (next_row a d b f c g (get_or x 0 (pos 0)) (get_or x 1 (pos 0)) (get_or x 2 (pos 0)) (p.low, p.high) (q.low, q.high) (s.low, s.high) last below)

  pub plane_told : g ≤ℤ get_or x 2 (pos 0) → f ≤ℤ get_or x 1 (pos 0) → get_or x 0 (pos 0) <ℤ d → Some ((get_or x 0 (pos 0) +ℤ pos 1) ∷ b ∷ c ∷ []) ≡ find (is_before x) (members r)
  plane_told last bottom below =
      next_is (Some ((get_or x 0 (pos 0) +ℤ pos 1) ∷ b ∷ c ∷ []))
      (next_plane a d b f c g (get_or x 0 (pos 0)) (get_or x 1 (pos 0)) (get_or x 2 (pos 0)) (p.low, p.high) (q.low, q.high) (s.low, s.high) last bottom below)

  pub none_told : g ≤ℤ get_or x 2 (pos 0) → f ≤ℤ get_or x 1 (pos 0) → d ≤ℤ get_or x 0 (pos 0) → None ≡ find (is_before x) (members r)
  none_told last bottom end =
      next_is None (no_next a d b f c g (get_or x 0 (pos 0)) (get_or x 1 (pos 0)) (get_or x 2 (pos 0)) (p.low, p.high) (q.low, q.high) (s.low, s.high) last bottom end)
