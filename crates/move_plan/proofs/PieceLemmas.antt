-- Pieces have the targets whose source the owner has.
use Rattle.std.proofs.Common.{◌≡◌, ◌^◌, ◌↔◌, refl, sym, ◌∙◌, ap, subst, arith, ℕ, zero, suc, ◌<◌, Bool, true, false, ◌&&◌, ◌||◌, Option, Some, None, List, [], ◌∷◌, length, map, All, IsPermutation, ℤ, pos, neg_ℤ, ◌+ℤ◌, ◌-ℤ◌, ◌*ℤ◌, ◌≤ℤ◌, ◌<ℤ◌, ◌⊎◌, inl, inr}
use Rattle.std.specs.Prelude.{◌==◌, if◌then◌else◌, int_le, int_lt, is_some, unwrap_or}
use Rattle.std.specs.Int.{int_max, int_min}
use Rattle.std.specs.List.{AllZip, filter, flat_map}
use Rattle.std.proofs.lemmas.Bool.{and_parts, eq-eqb, or_cases}
use Rattle.std.proofs.lemmas.Int.{clamps, ints}
use Rattle.std.proofs.lemmas.List.Elements.{All-head, All-tail, filter_agree}
use Rattle.zpl_arrays.specs.of_zpl_nums.declared.ends.Border.{Border}
use Rattle.zpl_arrays.specs.of_zpl_nums.declared.ends.Border.TheVariants.{Wrap, Reflect}
use Rattle.zpl_arrays.specs.of_zpl_region.declared.dims.Dim.{Dim}
use Rattle.zpl_arrays.specs.of_zpl_region.declared.dims.Dim.TheVariants.{Range, Flood}
use Rattle.zpl_arrays.specs.of_zpl_region.declared.regions.Region.{Region}
use Rattle.zpl_arrays.specs.of_zpl_region.Dim.{IsDim, IsDimWithinLimit, IsUpTo, coordinates, dim_outside_of, extent}
use Rattle.zpl_arrays.specs.of_zpl_region.Ends.{single_of}
use Rattle.zpl_arrays.specs.of_zpl_region.Progression.{is_between}
use Rattle.zpl_arrays.specs.of_zpl_region.Region.{IsRegion, components, each, members, tuples}
use Rattle.zpl_arrays.specs.of_zpl_region.Tests.{is_same_set}
use Rattle.zpl_arrays.proofs.of_zpl_region.DimLemmas.{among_range, coordinates-met, pos-extent}
use Rattle.zpl_arrays.proofs.of_zpl_region.EndLemmas.{single_iff}
use Rattle.zpl_arrays.proofs.of_zpl_region.ListLemmas.{Among, among_filtered, int_eq-false, int_lt-false, int_lt-true, cases_order_z, le_from_test, test_from_le}
use Rattle.zpl_arrays.proofs.of_zpl_region.TupleLemmas.{among_tuples, filter-tuples}
use Rattle.zpl_arrays.specs.Border.{border_source, dim_border_source, each_border_source}
use Rattle.zpl_arrays.specs.Conformity.{dims_spread, flood_conforms, is_single}
use Rattle.zpl_arrays.specs.Flood.{dim_flood_source, each_flood_source, flood_source}
use Rattle.grid_layout.specs.declared.axes.Axis.{Axis}
use Rattle.grid_layout.specs.declared.blocks.Blocks.{Blocks}
use Rattle.grid_layout.specs.Block.{block_first, block_last}
use Rattle.grid_layout.specs.Grid.{blocks_at, cuts, processors_of}
use Rattle.grid_layout.specs.Layout.{AreBlocks, axes_at, each_bound}
use Rattle.grid_layout.specs.Piece.{each_owned, nothing, owned_dim, owner_for, part}
use Rattle.grid_layout.specs.Words.{processors}
use Rattle.grid_layout.proofs.OwnerLemmas.{AreCuts, are_cuts, axes_three}
use Rattle.grid_layout.proofs.PartLemmas.{IsNearby, blocks_length, bool_same, coordinates-owned, coordinates-part, filter_among, has_dim, has_each, has_owner_for, owner_for_below, owner_test, parts_by_choice}
use Rattle.move_plan.proofs.CodeLemmas.{components_up_to}
use Rattle.move_plan.specs.BorderPiece.{border_piece_in, border_targets, dim_border_piece, each_border_piece, target_bounds}
use Rattle.move_plan.specs.FloodPiece.{dim_flood_piece, each_flood_piece, flood_piece_in, flood_targets}

-- ---- tests
le_same : (a x b y : ℤ) → (a ≤ℤ x → b ≤ℤ y) → (b ≤ℤ y → a ≤ℤ x) → int_le a x ≡ int_le b y
le_same a x b y there back = bool_same (int_le a x) (int_le b y) (λ e. test_from_le b y (there (le_from_test a x e))) (λ e. test_from_le a x (back (le_from_test b y e)))

both_same : (p q r s : Bool) → p ≡ r → q ≡ s → (p && q) ≡ (r && s)
both_same p q r s e f = ap (λ b. b && q) e ∙ ap (λ b. r && b) f

both_turned : (p q : Bool) → (p && q) ≡ (q && p)
both_turned true true = refl
both_turned true false = refl
both_turned false true = refl
both_turned false false = refl

filter_const : (b : Bool) (xs : List ℤ) → filter (λ x. b) xs ≡ (if b then xs else [])
filter_const true [] = refl
filter_const false [] = refl
filter_const true (x ∷ xs) = ap (λ l. x ∷ l) (filter_const true xs)
filter_const false (x ∷ xs) = filter_const false xs

-- ---- ranges
record IsRanged (dim : Dim) : Type 0 where
  lo : ℤ
  hi : ℤ
  step : ℤ
  align : ℤ
  is : dim ≡ Range lo hi step align

part_ranged : (f l : ℤ) (dim : Dim) → IsRanged dim → IsRanged (part f l dim)
part_ranged f l dim r = subst (λ d. IsRanged (part f l d)) (sym r.is) (by_test (int_le (int_max r.lo f) (int_min r.hi l)))
  where
    by_test : (b : Bool) → IsRanged (if b then Range (int_max r.lo f) (int_min r.hi l) r.step r.align else nothing)
    by_test true = record { lo = int_max r.lo f; hi = int_min r.hi l; step = r.step; align = r.align; is = refl }
    by_test false = record { lo = pos 1; hi = pos 0; step = pos 1; align = pos 1; is = refl }

outside_ranged : (d lo hi step align : ℤ) → IsRanged (dim_outside_of d (Range lo hi step align))
outside_ranged d lo hi step align = by_test (int_lt (pos 0) d) (int_lt d (pos 0))
  where
    by_test : (p q : Bool) → IsRanged (if p then Range (hi +ℤ pos 1) (hi +ℤ d) step align else if q then Range (lo +ℤ d) (lo -ℤ pos 1) step align else Range lo hi step align)
    by_test true q = record { lo = hi +ℤ pos 1; hi = hi +ℤ d; step = step; align = align; is = refl }
    by_test false true = record { lo = lo +ℤ d; hi = lo -ℤ pos 1; step = step; align = align; is = refl }
    by_test false false = record { lo = lo; hi = hi; step = step; align = align; is = refl }

part_filter : (lo hi : ℤ) (dim : Dim) → IsRanged dim → coordinates (part lo hi dim) ≡ filter (is_between lo hi) (coordinates dim)
part_filter lo hi dim r =
    subst (λ d. coordinates (part lo hi d) ≡ filter (is_between lo hi) (coordinates d)) (sym r.is)
    (coordinates-part lo hi r.lo r.hi r.step r.align ∙ coordinates-met lo hi (Range r.lo r.hi r.step r.align))

owned_ranged : (axis : Axis) (n c k : ℕ) (dim : Dim) → IsRanged dim → IsRanged (owned_dim axis n c k dim)
owned_ranged axis n c k dim r =
    subst (λ d. IsRanged (owned_dim axis n c k d)) (sym r.is)
    (part_ranged (block_first axis n c) (block_last axis n c) (Range r.lo r.hi r.step r.align) (record { lo = r.lo; hi = r.hi; step = r.step; align = r.align; is = refl }))

owned_filter : (axis : Axis) (n c k : ℕ) (dim : Dim) → IsRanged dim → coordinates (owned_dim axis n c k dim) ≡ filter (is_between (block_first axis n c) (block_last axis n c)) (coordinates dim)
owned_filter axis n c k dim r =
    subst (λ d. coordinates (owned_dim axis n c k d) ≡ filter (is_between (block_first axis n c) (block_last axis n c)) (coordinates d)) (sym r.is)
    (coordinates-owned axis n c k (Range r.lo r.hi r.step r.align))

-- the part of a flood dimension that its own receiver has is the dimension
still_flood : (axis : Axis) (n c k : ℕ) → coordinates (owned_dim axis n c k (owned_dim axis n k k Flood)) ≡ filter (λ x. c == k) (coordinates (owned_dim axis n k k Flood))
still_flood axis n c k = by_test (k == k) (eq-eqb k k refl)
  where
    by_test : (b : Bool) → b ≡ true → coordinates (owned_dim axis n c k (if b then Flood else nothing)) ≡ filter (λ x. c == k) (coordinates (if b then Flood else nothing))
    by_test true e = coordinates-owned axis n c k Flood
    by_test false e = absurd (let bad : false ≡ true = e in cc)

-- ---- borders: a coordinate lies between the bounds where its source lies in the block
module _ (lo hi step align first last x : ℤ) where
  abbrev dim : Dim
  dim = Range lo hi step align

  abbrev Turned : Border → ℤ → Type 0
  Turned kind d = is_between (target_bounds kind d dim first last).0 (target_bounds kind d dim first last).1 x ≡ is_between first last (dim_border_source kind d dim x)

  wrap_above : (d : ℤ) → pos 0 <ℤ d → Turned Wrap d
  wrap_above d above =
      let e = pos (extent lo hi) in
      rw (int_lt-false (pos 0) (neg_ℤ d) (omega (arith, ints)), int_lt-true (neg_ℤ d) (pos 0) (omega (arith, ints)), int_lt-true (pos 0) d above)
      (both_same _ _ _ _ (le_same (first +ℤ e) x first (x -ℤ e) (λ h. omega (arith, ints, h)) (λ h. omega (arith, ints, h))) (le_same x (last +ℤ e) (x -ℤ e) last (λ h. omega (arith, ints, h)) (λ h. omega (arith, ints, h))))

  wrap_below : (d : ℤ) → d <ℤ pos 0 → Turned Wrap d
  wrap_below d below =
      let e = pos (extent lo hi) in
      rw (int_lt-true (pos 0) (neg_ℤ d) (omega (arith, ints)), int_lt-false (pos 0) d (omega (arith, ints)), int_lt-true d (pos 0) below)
      (both_same _ _ _ _ (le_same (first -ℤ e) x first (x +ℤ e) (λ h. omega (arith, ints, h)) (λ h. omega (arith, ints, h))) (le_same x (last -ℤ e) (x +ℤ e) last (λ h. omega (arith, ints, h)) (λ h. omega (arith, ints, h))))

  mirrored : (m : ℤ) → is_between (m -ℤ last) (m -ℤ first) x ≡ is_between first last (m -ℤ x)
  mirrored m =
      both_same _ _ _ _ (le_same (m -ℤ last) x (m -ℤ x) last (λ h. omega (arith, ints, h)) (λ h. omega (arith, ints, h))) (le_same x (m -ℤ first) first (m -ℤ x) (λ h. omega (arith, ints, h)) (λ h. omega (arith, ints, h)))
      ∙ both_turned (int_le (m -ℤ x) last) (int_le first (m -ℤ x))

  reflect_above : (d : ℤ) → pos 0 <ℤ d → Turned Reflect d
  reflect_above d above = rw (int_eq-false d (pos 0) (λ e. omega (arith, ints)), int_lt-true (pos 0) d above) (mirrored ((pos 2 *ℤ hi) +ℤ pos 1))

  reflect_below : (d : ℤ) → d <ℤ pos 0 → Turned Reflect d
  reflect_below d below =
      rw (int_eq-false d (pos 0) (λ e. omega (arith, ints)), int_lt-false (pos 0) d (omega (arith, ints)), int_lt-true d (pos 0) below) (mirrored ((pos 2 *ℤ lo) -ℤ pos 1))

  still : (kind : Border) → Turned kind (pos 0)
  still Wrap = refl
  still Reflect = refl

  turned : (kind : Border) (d : ℤ) → Turned kind d
  turned kind d = by_sign kind (cases_order_z (pos 0) d)
    where
      by_sign : (kind : Border) → (pos 0 <ℤ d) ⊎ ((pos 0 ≡ d) ⊎ (d <ℤ pos 0)) → Turned kind d
      by_sign Wrap (inl above) = wrap_above d above
      by_sign Reflect (inl above) = reflect_above d above
      by_sign kind (inr (inl none)) = subst (Turned kind) none (still kind)
      by_sign Wrap (inr (inr below)) = wrap_below d below
      by_sign Reflect (inr (inr below)) = reflect_below d below

coordinates-border : (kind : Border) (axis : Axis) (n c k : ℕ) (d : ℤ) (dim : Dim)
    → coordinates (dim_border_piece kind d dim (block_first axis n c) (block_last axis n c) (owned_dim axis n k k (dim_outside_of d dim)) (owned_dim axis n c k (owned_dim axis n k k (dim_outside_of d dim))))
    ≡ filter (λ x. has_dim axis n c k dim (dim_border_source kind d dim x)) (coordinates (owned_dim axis n k k (dim_outside_of d dim)))
coordinates-border kind axis n c k d Flood = still_flood axis n c k
coordinates-border kind axis n c k d (Range lo hi step align) =
    let dim = Range lo hi step align in
    let first = block_first axis n c in
    let last = block_last axis n c in
    let own = owned_dim axis n k k (dim_outside_of d dim) in
    let b = target_bounds kind d dim first last in
    part_filter b.0 b.1 own (owned_ranged axis n k k (dim_outside_of d dim) (outside_ranged d lo hi step align))
    ∙ filter_agree (is_between b.0 b.1) (λ x. is_between first last (dim_border_source kind d dim x)) (λ x. turned lo hi step align first last x kind d) (coordinates own)

tuples-border : (kind : Border) (axes : List Axis) (ns cs ks : List ℕ) (v : List ℤ) (dims : List Dim) → length axes ≡ length dims → length ns ≡ length dims → length cs ≡ length dims → length ks ≡ length dims → length v ≡ length dims
    → tuples (map coordinates (each_border_piece kind v dims (each_bound block_first axes ns cs) (each_bound block_last axes ns cs) (each_owned axes ns ks ks (each dim_outside_of v dims)) (each_owned axes ns cs ks (each_owned axes ns ks ks (each dim_outside_of v dims)))))
    ≡ filter (λ t. has_each axes ns cs ks dims (each_border_source kind v dims t)) (tuples (map coordinates (each_owned axes ns ks ks (each dim_outside_of v dims))))
tuples-border kind [] [] [] [] [] [] l m n o p = refl
tuples-border kind (a ∷ axes) ns cs ks v [] l m n o p = absurd (omega (arith, l))
tuples-border kind [] (i ∷ ns) cs ks v [] l m n o p = absurd (omega (arith, m))
tuples-border kind [] [] (c ∷ cs) ks v [] l m n o p = absurd (omega (arith, n))
tuples-border kind [] [] [] (k ∷ ks) v [] l m n o p = absurd (omega (arith, o))
tuples-border kind [] [] [] [] (u ∷ v) [] l m n o p = absurd (omega (arith, p))
tuples-border kind [] ns cs ks v (d ∷ dims) l m n o p = absurd (omega (arith, l))
tuples-border kind (a ∷ axes) [] cs ks v (d ∷ dims) l m n o p = absurd (omega (arith, m))
tuples-border kind (a ∷ axes) (i ∷ ns) [] ks v (d ∷ dims) l m n o p = absurd (omega (arith, n))
tuples-border kind (a ∷ axes) (i ∷ ns) (c ∷ cs) [] v (d ∷ dims) l m n o p = absurd (omega (arith, o))
tuples-border kind (a ∷ axes) (i ∷ ns) (c ∷ cs) (k ∷ ks) [] (d ∷ dims) l m n o p = absurd (omega (arith, p))
tuples-border kind (a ∷ axes) (i ∷ ns) (c ∷ cs) (k ∷ ks) (u ∷ v) (d ∷ dims) l m n o p =
    let own = each_owned axes ns ks ks (each dim_outside_of v dims) in
    let pieces = each_border_piece kind v dims (each_bound block_first axes ns cs) (each_bound block_last axes ns cs) own (each_owned axes ns cs ks own) in
    ap (λ xs. tuples (xs ∷ map coordinates pieces)) (coordinates-border kind a i c k u d)
    ∙ sym (filter-tuples (λ x. has_dim a i c k d (dim_border_source kind u d x)) (λ t. has_each axes ns cs ks dims (each_border_source kind v dims t))
    (λ t. has_each (a ∷ axes) (i ∷ ns) (c ∷ cs) (k ∷ ks) (d ∷ dims) (each_border_source kind (u ∷ v) (d ∷ dims) t)) (λ x t. refl)
    (coordinates (owned_dim a i k k (dim_outside_of u d))) (map coordinates own) (map coordinates pieces)
    (tuples-border kind axes ns cs ks v dims (omega (arith, l)) (omega (arith, m)) (omega (arith, n)) (omega (arith, o)) (omega (arith, p))))

-- ---- borders: sources are near
outside_near : (d lo hi step align x : ℤ) → IsUpTo 31 d → IsUpTo 31 lo → IsUpTo 31 hi → Among (coordinates (dim_outside_of d (Range lo hi step align))) x → IsUpTo 34 x
outside_near d lo hi step align x shift low high m = by_test (int_lt (pos 0) d) (int_lt d (pos 0)) m
  where
    from_range : (a b : ℤ) → IsUpTo 33 a → IsUpTo 33 b → Among (coordinates (Range a b step align)) x → IsUpTo 34 x
    from_range a b p q m = let w = among_range a b step align x m in let f = w.0 in (omega (arith, ints, f, p), omega (arith, ints, f, q))

    by_test : (p q : Bool) → Among (coordinates (if p then Range (hi +ℤ pos 1) (hi +ℤ d) step align else if q then Range (lo +ℤ d) (lo -ℤ pos 1) step align else Range lo hi step align)) x → IsUpTo 34 x
    by_test true q m = from_range (hi +ℤ pos 1) (hi +ℤ d) (omega (arith, ints), omega (arith, ints)) (omega (arith, ints), omega (arith, ints)) m
    by_test false true m = from_range (lo +ℤ d) (lo -ℤ pos 1) (omega (arith, ints), omega (arith, ints)) (omega (arith, ints), omega (arith, ints)) m
    by_test false false m = from_range lo hi (omega (arith, ints), omega (arith, ints)) (omega (arith, ints), omega (arith, ints)) m

source_near : (kind : Border) (d lo hi step align x : ℤ) → IsUpTo 31 lo → IsUpTo 31 hi → IsUpTo 34 x → IsUpTo 40 (dim_border_source kind d (Range lo hi step align) x)
source_near Wrap d lo hi step align x low high near = by_test (int_lt (pos 0) d) (int_lt d (pos 0))
  where
    wide : pos (extent lo hi) ≤ℤ pos (2 ^ 33)
    wide = let e = pos-extent lo hi in omega (arith, ints, clamps, e)

    by_test : (p q : Bool) → IsUpTo 40 (if p then x -ℤ pos (extent lo hi) else if q then x +ℤ pos (extent lo hi) else x)
    by_test true q = let w = wide in (omega (arith, ints, w), omega (arith, ints, w))
    by_test false true = let w = wide in (omega (arith, ints, w), omega (arith, ints, w))
    by_test false false = (omega (arith, ints), omega (arith, ints))
source_near Reflect d lo hi step align x low high near = by_test (int_lt (pos 0) d) (int_lt d (pos 0))
  where
    by_test : (p q : Bool) → IsUpTo 40 (if p then ((pos 2 *ℤ hi) +ℤ pos 1) -ℤ x else if q then ((pos 2 *ℤ lo) -ℤ pos 1) -ℤ x else x)
    by_test true q = (omega (arith, ints), omega (arith, ints))
    by_test false true = (omega (arith, ints), omega (arith, ints))
    by_test false false = (omega (arith, ints), omega (arith, ints))

border_near : (kind : Border) (axis : Axis) (n k : ℕ) (d : ℤ) (dim : Dim) (x : ℤ) → IsDimWithinLimit dim → IsUpTo 31 d → Among (coordinates (owned_dim axis n k k (dim_outside_of d dim))) x → IsNearby dim (dim_border_source kind d dim x)
border_near kind axis n k d Flood x within shift m = tt
border_near kind axis n k d (Range lo hi step align) x within shift m =
    let out = dim_outside_of d (Range lo hi step align) in
    let listed : Among (filter (has_dim axis n k k out) (coordinates out)) x = subst (λ l. Among l x) (coordinates-owned axis n k k out) m in
    source_near kind d lo hi step align x within.0 within.1 (outside_near d lo hi step align x shift within.0 within.1 (among_filtered (has_dim axis n k k out) (coordinates out) x listed).0)

borders_near : (kind : Border) (axes : List Axis) (ns ks : List ℕ) (v : List ℤ) (dims : List Dim) (t : List ℤ) → length axes ≡ length dims → length ns ≡ length dims → length ks ≡ length dims → length v ≡ length dims
    → All IsDimWithinLimit dims → All (IsUpTo 31) v → AllZip Among (map coordinates (each_owned axes ns ks ks (each dim_outside_of v dims))) t → AllZip IsNearby dims (each_border_source kind v dims t)
borders_near kind [] [] [] [] [] [] l m n o w s z = tt
borders_near kind [] [] [] [] [] (x ∷ t) l m n o w s z = absurd z
borders_near kind (a ∷ axes) ns ks v [] t l m n o w s z = absurd (omega (arith, l))
borders_near kind [] (i ∷ ns) ks v [] t l m n o w s z = absurd (omega (arith, m))
borders_near kind [] [] (k ∷ ks) v [] t l m n o w s z = absurd (omega (arith, n))
borders_near kind [] [] [] (u ∷ v) [] t l m n o w s z = absurd (omega (arith, o))
borders_near kind [] ns ks v (d ∷ dims) t l m n o w s z = absurd (omega (arith, l))
borders_near kind (a ∷ axes) [] ks v (d ∷ dims) t l m n o w s z = absurd (omega (arith, m))
borders_near kind (a ∷ axes) (i ∷ ns) [] v (d ∷ dims) t l m n o w s z = absurd (omega (arith, n))
borders_near kind (a ∷ axes) (i ∷ ns) (k ∷ ks) [] (d ∷ dims) t l m n o w s z = absurd (omega (arith, o))
borders_near kind (a ∷ axes) (i ∷ ns) (k ∷ ks) (u ∷ v) (d ∷ dims) [] l m n o w s z = absurd z
borders_near kind (a ∷ axes) (i ∷ ns) (k ∷ ks) (u ∷ v) (d ∷ dims) (x ∷ t) l m n o w s z = (
  border_near kind a i k u d x (All-head IsDimWithinLimit d dims w) (All-head (IsUpTo 31) u v s) z.0,
  borders_near kind axes ns ks v dims t (omega (arith, l)) (omega (arith, m)) (omega (arith, n)) (omega (arith, o)) (All-tail IsDimWithinLimit d dims w) (All-tail (IsUpTo 31) u v s) z.1,
)

-- ---- vectors
components_length : (rank : ℕ) (v : List ℤ) → length (components rank v) ≡ length v
components_length rank [] = refl
components_length zero (x ∷ v) = ap suc (components_length zero v)
components_length (suc rank) (x ∷ v) = ap suc (components_length rank v)

-- ---- the law of borders
module _ (blocks : Blocks) (kind : Border) (r : Region) (d : List ℤ) (to : ℕ) (are : AreBlocks blocks) (is : IsRegion r) (within : All IsDimWithinLimit r.dims) (wide : length r.dims ≡ 3) (shift : All (IsUpTo 31) d) (long : length d ≡ 3) (inside : to < processors_of blocks.grid) where
  abbrev ns : List ℕ
  ns = cuts blocks.grid r.rank

  abbrev axes : List Axis
  axes = axes_at blocks r.rank

  abbrev v : List ℤ
  v = components r.rank d

  cut : AreCuts blocks.grid r.rank
  cut = are_cuts blocks.grid r.rank is.rank_above is.rank_below

  long_axes : length axes ≡ length r.dims
  long_axes = axes_three blocks r.rank are is.rank_above is.rank_below ∙ sym wide

  long_ns : length ns ≡ length r.dims
  long_ns = cut.three ∙ sym wide

  long_blocks : (p : ℕ) → length (blocks_at ns p) ≡ length r.dims
  long_blocks p = blocks_length ns p ∙ long_ns

  long_v : length v ≡ length r.dims
  long_v = components_length r.rank d ∙ (long ∙ sym wide)

  pub border_piece-members : (from : ℕ) → from < processors_of blocks.grid
      → members (border_piece_in blocks kind r d from to) ≡ filter (λ t. owner_for blocks to r (border_source kind r d t) == from) (members (border_targets blocks r d to))
  border_piece-members from below =
      tuples-border kind axes ns (blocks_at ns from) (blocks_at ns to) v r.dims long_axes long_ns (long_blocks from) (long_blocks to) long_v
      ∙ filter_among (λ t. has_each axes ns (blocks_at ns from) (blocks_at ns to) r.dims (border_source kind r d t)) (λ t. owner_for blocks to r (border_source kind r d t) == from) (members (border_targets blocks r d to))
      (λ t m. owner_test _ from (owner_for blocks to r (border_source kind r d t)) (has_owner_for blocks from to r (border_source kind r d t) are is.rank_above is.rank_below wide inside below
      (borders_near kind axes ns (blocks_at ns to) v r.dims t long_axes long_ns (long_blocks to) long_v within (components_up_to r.rank d shift)
      (among_tuples (map coordinates (border_targets blocks r d to).dims) t m))))

  pub border_pieces_partition : IsPermutation (members (border_targets blocks r d to)) (flat_map (λ from. members (border_piece_in blocks kind r d from to)) (processors blocks.grid))
  border_pieces_partition =
      parts_by_choice blocks.grid (λ t. owner_for blocks to r (border_source kind r d t)) (members (border_targets blocks r d to)) (λ from. members (border_piece_in blocks kind r d from to))
      (λ t m. owner_for_below blocks to r (border_source kind r d t) is.rank_above is.rank_below inside) border_piece-members

-- ---- floods
coordinates-flood : (axis : Axis) (n c k : ℕ) (t s : Dim) → (is_single s || is_same_set s t) ≡ true
    → coordinates (dim_flood_piece (single_of s) (block_first axis n c) (block_last axis n c) (owned_dim axis n k k t) (owned_dim axis n c k (owned_dim axis n k k t)))
    ≡ filter (λ x. has_dim axis n c k s (dim_flood_source s x)) (coordinates (owned_dim axis n k k t))
coordinates-flood axis n c k Flood Flood e = still_flood axis n c k
coordinates-flood axis n c k (Range lo hi step align) Flood e = absurd (let bad : false ≡ true = e in cc)
coordinates-flood axis n c k t (Range lo hi step align) e = by_single (single_of (Range lo hi step align)) refl
  where
    ranged : (t : Dim) → is_same_set (Range lo hi step align) t ≡ true → IsRanged t
    ranged Flood same = absurd (let bad : false ≡ true = same in cc)
    ranged (Range lo' hi' step' align') same = record { lo = lo'; hi = hi'; step = step'; align = align'; is = refl }

    by_single : (o : Option ℤ) → single_of (Range lo hi step align) ≡ o
        → coordinates (dim_flood_piece o (block_first axis n c) (block_last axis n c) (owned_dim axis n k k t) (owned_dim axis n c k (owned_dim axis n k k t)))
        ≡ filter (λ x. has_dim axis n c k (Range lo hi step align) (unwrap_or o x)) (coordinates (owned_dim axis n k k t))
    by_single (Some y) single = by_test (is_between (block_first axis n c) (block_last axis n c) y)
      where
        by_test : (b : Bool) → coordinates (if b then owned_dim axis n k k t else nothing) ≡ filter (λ x. b) (coordinates (owned_dim axis n k k t))
        by_test true = sym (filter_const true (coordinates (owned_dim axis n k k t)))
        by_test false = sym (filter_const false (coordinates (owned_dim axis n k k t)))
    by_single None single = elim (or_cases (is_single (Range lo hi step align)) (is_same_set (Range lo hi step align) t) e) [
      | inl some ↦ absurd (let none : is_some (single_of (Range lo hi step align)) ≡ false = ap is_some single in let both : true ≡ false = sym some ∙ none in cc)
      | inr same ↦ owned_filter axis n c k (owned_dim axis n k k t) (owned_ranged axis n k k t (ranged t same))
    ]

tuples-flood : (axes : List Axis) (ns cs ks : List ℕ) (target source : List Dim) → length axes ≡ length target → length ns ≡ length target → length cs ≡ length target → length ks ≡ length target → length source ≡ length target
    → dims_spread target source ≡ true
    → tuples (map coordinates (each_flood_piece source (each_bound block_first axes ns cs) (each_bound block_last axes ns cs) (each_owned axes ns ks ks target) (each_owned axes ns cs ks (each_owned axes ns ks ks target))))
    ≡ filter (λ t. has_each axes ns cs ks source (each_flood_source source t)) (tuples (map coordinates (each_owned axes ns ks ks target)))
tuples-flood [] [] [] [] [] [] l m n o p e = refl
tuples-flood (a ∷ axes) ns cs ks [] source l m n o p e = absurd (omega (arith, l))
tuples-flood [] (i ∷ ns) cs ks [] source l m n o p e = absurd (omega (arith, m))
tuples-flood [] [] (c ∷ cs) ks [] source l m n o p e = absurd (omega (arith, n))
tuples-flood [] [] [] (k ∷ ks) [] source l m n o p e = absurd (omega (arith, o))
tuples-flood [] [] [] [] [] (s ∷ source) l m n o p e = absurd (omega (arith, p))
tuples-flood [] ns cs ks (d ∷ target) source l m n o p e = absurd (omega (arith, l))
tuples-flood (a ∷ axes) [] cs ks (d ∷ target) source l m n o p e = absurd (omega (arith, m))
tuples-flood (a ∷ axes) (i ∷ ns) [] ks (d ∷ target) source l m n o p e = absurd (omega (arith, n))
tuples-flood (a ∷ axes) (i ∷ ns) (c ∷ cs) [] (d ∷ target) source l m n o p e = absurd (omega (arith, o))
tuples-flood (a ∷ axes) (i ∷ ns) (c ∷ cs) (k ∷ ks) (d ∷ target) [] l m n o p e = absurd (omega (arith, p))
tuples-flood (a ∷ axes) (i ∷ ns) (c ∷ cs) (k ∷ ks) (d ∷ target) (s ∷ source) l m n o p e =
    let both = and_parts (is_single s || is_same_set s d) (dims_spread target source) e in
    let own = each_owned axes ns ks ks target in
    let pieces = each_flood_piece source (each_bound block_first axes ns cs) (each_bound block_last axes ns cs) own (each_owned axes ns cs ks own) in
    ap (λ xs. tuples (xs ∷ map coordinates pieces)) (coordinates-flood a i c k d s both.0)
    ∙ sym (filter-tuples (λ x. has_dim a i c k s (dim_flood_source s x)) (λ t. has_each axes ns cs ks source (each_flood_source source t))
    (λ t. has_each (a ∷ axes) (i ∷ ns) (c ∷ cs) (k ∷ ks) (s ∷ source) (each_flood_source (s ∷ source) t)) (λ x t. refl)
    (coordinates (owned_dim a i k k d)) (map coordinates own) (map coordinates pieces)
    (tuples-flood axes ns cs ks target source (omega (arith, l)) (omega (arith, m)) (omega (arith, n)) (omega (arith, o)) (omega (arith, p)) both.1))

flood_near : (axis : Axis) (n k : ℕ) (t s : Dim) (x : ℤ) → IsDim t → IsDim s → (is_single s || is_same_set s t) ≡ true → Among (coordinates (owned_dim axis n k k t)) x → IsNearby s (dim_flood_source s x)
flood_near axis n k t Flood x is also e m = tt
flood_near axis n k t (Range lo hi step align) x is also e m = by_single (single_of (Range lo hi step align)) refl
  where
    near_in : (t : Dim) → IsDim t → is_same_set (Range lo hi step align) t ≡ true → Among (coordinates t) x → IsUpTo 40 x
    near_in Flood is same m = absurd (let bad : false ≡ true = same in cc)
    near_in (Range lo' hi' step' align') is same m =
        let w = among_range lo' hi' step' align' x m in
        let f = w.0 in
        let low : IsUpTo 40 lo' = is.1.0 in
        let high : IsUpTo 40 hi' = is.1.1 in (omega (arith, ints, f, low), omega (arith, ints, f, high))

    by_single : (o : Option ℤ) → single_of (Range lo hi step align) ≡ o → IsUpTo 40 (unwrap_or o x)
    by_single (Some y) single =
        let list : coordinates (Range lo hi step align) ≡ y ∷ [] = ((single_iff (Range lo hi step align) y also.0).0 single).1 in
        let w = among_range lo hi step align y (subst (λ l. Among l y) (sym list) (inl refl)) in
        let f = w.0 in
        let low : IsUpTo 40 lo = also.1.0 in
        let high : IsUpTo 40 hi = also.1.1 in (omega (arith, ints, f, low), omega (arith, ints, f, high))
    by_single None single = elim (or_cases (is_single (Range lo hi step align)) (is_same_set (Range lo hi step align) t) e) [
      | inl some ↦ absurd (let none : is_some (single_of (Range lo hi step align)) ≡ false = ap is_some single in let both : true ≡ false = sym some ∙ none in cc)
      | inr same ↦ near_in t is same (among_filtered (has_dim axis n k k t) (coordinates t) x (subst (λ l. Among l x) (coordinates-owned axis n k k t) m)).0
    ]

floods_near : (axes : List Axis) (ns ks : List ℕ) (target source : List Dim) (t : List ℤ) → length axes ≡ length target → length ns ≡ length target → length ks ≡ length target → length source ≡ length target
    → All IsDim target → All IsDim source → dims_spread target source ≡ true → AllZip Among (map coordinates (each_owned axes ns ks ks target)) t → AllZip IsNearby source (each_flood_source source t)
floods_near [] [] [] [] [] [] l m n o is also e z = tt
floods_near [] [] [] [] [] (x ∷ t) l m n o is also e z = absurd z
floods_near (a ∷ axes) ns ks [] source t l m n o is also e z = absurd (omega (arith, l))
floods_near [] (i ∷ ns) ks [] source t l m n o is also e z = absurd (omega (arith, m))
floods_near [] [] (k ∷ ks) [] source t l m n o is also e z = absurd (omega (arith, n))
floods_near [] [] [] [] (s ∷ source) t l m n o is also e z = absurd (omega (arith, o))
floods_near [] ns ks (d ∷ target) source t l m n o is also e z = absurd (omega (arith, l))
floods_near (a ∷ axes) [] ks (d ∷ target) source t l m n o is also e z = absurd (omega (arith, m))
floods_near (a ∷ axes) (i ∷ ns) [] (d ∷ target) source t l m n o is also e z = absurd (omega (arith, n))
floods_near (a ∷ axes) (i ∷ ns) (k ∷ ks) (d ∷ target) [] t l m n o is also e z = absurd (omega (arith, o))
floods_near (a ∷ axes) (i ∷ ns) (k ∷ ks) (d ∷ target) (s ∷ source) [] l m n o is also e z = absurd z
floods_near (a ∷ axes) (i ∷ ns) (k ∷ ks) (d ∷ target) (s ∷ source) (x ∷ t) l m n o is also e z =
    let both = and_parts (is_single s || is_same_set s d) (dims_spread target source) e in (
      flood_near a i k d s x (All-head IsDim d target is) (All-head IsDim s source also) both.0 z.0,
      floods_near axes ns ks target source t (omega (arith, l)) (omega (arith, m)) (omega (arith, n)) (omega (arith, o)) (All-tail IsDim d target is) (All-tail IsDim s source also) both.1 z.1,
    )

-- ---- the law of floods
module _ (blocks : Blocks) (target source : Region) (to : ℕ) (are : AreBlocks blocks) (is : IsRegion target) (also : IsRegion source) (ranks : target.rank ≡ source.rank) (wide : length target.dims ≡ 3) (long : length source.dims ≡ 3) (conforms : flood_conforms target source ≡ true) (inside : to < processors_of blocks.grid) where
  abbrev cuts_at : ℕ → List ℕ
  cuts_at rank = cuts blocks.grid rank

  pub flood_piece-members : (from : ℕ) → from < processors_of blocks.grid
      → members (flood_piece_in blocks target source from to) ≡ filter (λ t. owner_for blocks to source (flood_source source t) == from) (members (flood_targets blocks target to))
  flood_piece-members from below =
      let ns = cuts blocks.grid target.rank in
      let axes = axes_at blocks target.rank in
      let c : AreCuts blocks.grid target.rank = are_cuts blocks.grid target.rank is.rank_above is.rank_below in
      let long_axes : length axes ≡ length target.dims = axes_three blocks target.rank are is.rank_above is.rank_below ∙ sym wide in
      let long_ns : length ns ≡ length target.dims = c.three ∙ sym wide in
      let both : length source.dims ≡ length target.dims = long ∙ sym wide in
      tuples-flood axes ns (blocks_at ns from) (blocks_at ns to) target.dims source.dims long_axes long_ns (blocks_length ns from ∙ long_ns) (blocks_length ns to ∙ long_ns) both conforms
      ∙ filter_among (λ t. has_each axes ns (blocks_at ns from) (blocks_at ns to) source.dims (flood_source source t)) (λ t. owner_for blocks to source (flood_source source t) == from) (members (flood_targets blocks target to))
      (λ t m. owner_test _ from (owner_for blocks to source (flood_source source t))
      (subst (λ rank. (has_each (axes_at blocks rank) (cuts_at rank) (blocks_at (cuts_at rank) from) (blocks_at (cuts_at rank) to) source.dims (flood_source source t) ≡ true) ↔ (from ≡ owner_for blocks to source (flood_source source t))) (sym ranks)
      (has_owner_for blocks from to source (flood_source source t) are also.rank_above also.rank_below long inside below
      (floods_near axes ns (blocks_at ns to) target.dims source.dims t long_axes long_ns (blocks_length ns to ∙ long_ns) both is.dims also.dims conforms
      (among_tuples (map coordinates (flood_targets blocks target to).dims) t m)))))

  pub flood_pieces_partition : IsPermutation (members (flood_targets blocks target to)) (flat_map (λ from. members (flood_piece_in blocks target source from to)) (processors blocks.grid))
  flood_pieces_partition =
      parts_by_choice blocks.grid (λ t. owner_for blocks to source (flood_source source t)) (members (flood_targets blocks target to)) (λ from. members (flood_piece_in blocks target source from to))
      (λ t m. owner_for_below blocks to source (flood_source source t) also.rank_above also.rank_below inside) flood_piece-members
