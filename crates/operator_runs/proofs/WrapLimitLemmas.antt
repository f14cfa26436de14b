-- The borders of a copy are within the limit, since they lie in its storage, and none has more tuples
-- than the home box.
use Rattle.std.proofs.Common.{◌≡◌, refl, sym, ◌∙◌, ap, subst, arith, ℕ, zero, suc, ◌+◌, ◌-◌, ◌/◌, ◌^◌, ◌<◌, ◌≤◌, Bool, true, false}
use Rattle.std.proofs.Common.{List, [], ◌∷◌, ℤ, pos, neg_ℤ, ◌+ℤ◌, ◌-ℤ◌, ◌≤ℤ◌, ◌<ℤ◌, All, inl, inr}
use Rattle.std.specs.Prelude.{if◌then◌else◌, int_lt}
use Rattle.std.proofs.lemmas.Int.{ints, clamps}
use Rattle.std.proofs.lemmas.Bool.{and_parts}
use Rattle.std.proofs.lemmas.List.Elements.{All-cons, All-head, All-tail}
use Rattle.zpl_region.specs.declared.dims.Dim.{Dim}
use Rattle.zpl_region.specs.declared.dims.Dim.TheVariants.{Flood, Range}
use Rattle.zpl_region.specs.declared.regions.Region.{Region}
use Rattle.zpl_region.specs.Dim.{HasStep, IsDimWithinLimit, dim_moved, dim_outside_of, extent}
use Rattle.zpl_region.specs.Ends.{coordinate_count, first_of, has_none, tuple_count}
use Rattle.zpl_region.specs.Hull.{IsBoxed, all_from, dim_hull_with, each_hull_with}
use Rattle.zpl_region.specs.Region.{IsRegion, IsWithinLimit, components, each, moved, outside_of}
use Rattle.zpl_region.specs.Tests.{is_within_limit}
use Rattle.zpl_region.proofs.DimLemmas.{pos-extent, pos-unsigned_abs}
use Rattle.zpl_region.proofs.EndLemmas.{length-tuple_count, positive_left, positive_right, rem_euclid-above}
use Rattle.zpl_region.proofs.HullLemmas.{ends_in_bounds, first-all_from, has_steps, last-all_from, some_from}
use Rattle.zpl_region.proofs.HullWithLemmas.{with_by}
use Rattle.zpl_region.proofs.TestLemmas.{is_within_limit_iff}
use Rattle.zpl_arrays.specs.Around.{copy_shift, copy_storage}
use Rattle.zpl_arrays.specs.Border.{border_conforms, dim_border_conforms, each_border_conforms}
use Rattle.zpl_arrays.proofs.CheckLemmas.{has_none-moved}
use Rattle.zpl_arrays.proofs.SourceLemmas.{wide_enough}
use Rattle.border_runs.proofs.LimitLemmas.{abs-negated, product}
use Rattle.operator_runs.proofs.WrapLemmas.{AreKeptOrNot, IsKeptOrNot}
use Rattle.operator_runs.proofs.WrapCopyLemmas.{boxed_is, outside_steps}

-- ---- a range of step 1

any_first : (lo hi align : ℤ) → first_of (Range lo hi (pos 1) align) ≡ lo
any_first lo hi align =
    let r = rem_euclid-above (align -ℤ lo) 1 (omega arith) in omega (arith, ints, r)

any_count : (lo hi align : ℤ) → coordinate_count (Range lo hi (pos 1) align) ≡ extent lo hi
any_count lo hi align =
    let from = first_of (Range lo hi (pos 1) align) in
    let whole : (extent from hi + (1 - 1)) / 1 ≡ extent from hi = omega arith in
    whole ∙ ap (λ f. extent f hi) (any_first lo hi align)

-- ---- one dimension

range_outer : (e c lo hi : ℤ) → lo ≤ℤ hi → IsDimWithinLimit (all_from lo hi)
    → dim_border_conforms c (all_from lo hi) ≡ true → IsKeptOrNot e c
    → IsDimWithinLimit (dim_hull_with (all_from lo hi) (dim_moved e (all_from lo hi)))
    → IsDimWithinLimit (dim_outside_of c (all_from lo hi))
    × (coordinate_count (dim_outside_of c (all_from lo hi)) ≤ coordinate_count (all_from lo hi))
range_outer e c lo hi le l conforms k h = by (int_lt (pos 0) c) refl (int_lt c (pos 0)) refl
  where
    up_is : int_lt (pos 0) c ≡ true → pos 0 <ℤ c
    up_is t = grind (arith, ints)

    down_is : int_lt c (pos 0) ≡ true → c <ℤ pos 0
    down_is t = grind (arith, ints)

    f : first_of (all_from lo hi) ≡ lo
    f = first-all_from lo hi

    g : first_of (all_from (lo +ℤ e) (hi +ℤ e)) ≡ lo +ℤ e
    g = first-all_from (lo +ℤ e) (hi +ℤ e)

    at : (c ≡ e) → (int_lt (pos 0) c ≡ true → (hi +ℤ c) ≤ℤ pos (2 ^ 31))
        × (int_lt c (pos 0) ≡ true → neg_ℤ (pos (2 ^ 31)) ≤ℤ (lo +ℤ c))
    at same =
        let m = last-all_from lo hi le in
        let o = last-all_from (lo +ℤ e) (hi +ℤ e) (omega (arith, ints, le)) in (
          λ t. omega (arith, ints, clamps, same, m, o, h.1.1),
          λ t. omega (arith, ints, clamps, same, f, g, h.0.0),
        )

    moved_is : (c ≡ pos 0 → ⊥) → c ≡ e
    moved_is ne = of k
      where
        of : IsKeptOrNot e c → c ≡ e
        of (inl z) = absurd (ne z)
        of (inr z) = z

    by : (a : Bool) → int_lt (pos 0) c ≡ a → (b : Bool) → int_lt c (pos 0) ≡ b
        → (let dim : Dim = if a then Range (hi +ℤ pos 1) (hi +ℤ c) (pos 1) lo
        else if b then Range (lo +ℤ c) (lo -ℤ pos 1) (pos 1) lo else all_from lo hi in
        IsDimWithinLimit dim × (coordinate_count dim ≤ coordinate_count (all_from lo hi)))
    by true t b q =
        let up = up_is t in
        let wide = wide_enough c lo hi (pos 1) lo conforms (λ n. omega (arith, ints, up, n)) in
        let high = (at (moved_is (λ n. omega (arith, ints, up, n)))).0 t in
        let size = pos-unsigned_abs c (omega (arith, ints, up)) in (
          (
            (omega (arith, ints, l.1.0), omega (arith, ints, up, high)),
            (omega (arith, ints, up, l.1.0), high),
            l.2,
            l.3,
          ),
          omega (
            arith,
            ints,
            clamps,
            any_count (hi +ℤ pos 1) (hi +ℤ c) lo,
            any_count lo hi lo,
            pos-extent (hi +ℤ pos 1) (hi +ℤ c),
            wide,
            size,
          ),
        )
    by false t true q =
        let down = down_is q in
        let wide = wide_enough c lo hi (pos 1) lo conforms (λ n. omega (arith, ints, down, n)) in
        let low = (at (moved_is (λ n. omega (arith, ints, down, n)))).1 q in
        let size = pos-unsigned_abs (neg_ℤ c) (omega (arith, ints, down)) in (
          (
            (low, omega (arith, ints, down, l.0.1)),
            (omega (arith, ints, down, low), omega (arith, ints, l.0.1)),
            l.2,
            l.3,
          ),
          omega (
            arith,
            ints,
            clamps,
            any_count (lo +ℤ c) (lo -ℤ pos 1) lo,
            any_count lo hi lo,
            pos-extent (lo +ℤ c) (lo -ℤ pos 1),
            wide,
            size,
            abs-negated c,
          ),
        )
    by false t false q = (l, omega arith)

dim_outer : (e c : ℤ) (dim : Dim) → IsBoxed dim → 0 < coordinate_count dim → IsDimWithinLimit dim
    → dim_border_conforms c dim ≡ true → IsKeptOrNot e c
    → IsDimWithinLimit (dim_hull_with dim (dim_moved e dim))
    → IsDimWithinLimit (dim_outside_of c dim)
    × (coordinate_count (dim_outside_of c dim) ≤ coordinate_count dim)
dim_outer e c Flood b some l conforms k h = (tt, omega arith)
dim_outer e c (Range lo hi step align) b some l conforms k h =
    let ends = ends_in_bounds lo hi step align
    (let s : step ≡ pos 1 = b.0 in omega (arith, ints, s)) some in
    let le : lo ≤ℤ hi = omega (arith, ints, ends.0, ends.1, ends.2) in
    let same = boxed_is lo hi step align b in
    subst (λ (dim : Dim). IsDimWithinLimit (dim_outside_of c dim)
    × (coordinate_count (dim_outside_of c dim) ≤ coordinate_count dim)) (sym same)
    (range_outer e c lo hi le (subst IsDimWithinLimit same l)
    (ap (dim_border_conforms c) (sym same) ∙ conforms) k
    (subst (λ (dim : Dim). IsDimWithinLimit (dim_hull_with dim (dim_moved e dim))) same h))

-- ---- dimensions

dims_outer : (rank : ℕ) (shift v : List ℤ) (dims : List Dim) → All IsBoxed dims
    → 0 < tuple_count dims → All IsDimWithinLimit dims
    → each_border_conforms (components rank v) dims ≡ true → AreKeptOrNot shift v
    → All IsDimWithinLimit (each_hull_with dims (each dim_moved (components rank shift) dims))
    → All IsDimWithinLimit (each dim_outside_of (components rank v) dims)
    × (tuple_count (each dim_outside_of (components rank v) dims) ≤ tuple_count dims)
dims_outer rank [] [] dims b some l e k h = (l, omega arith)
dims_outer rank [] (c ∷ v) dims b some l e k h = absurd k
dims_outer rank (x ∷ shift) [] dims b some l e k h = absurd k
dims_outer zero (x ∷ shift) (c ∷ v) [] b some l e k h = (l, omega arith)
dims_outer (suc rank) (x ∷ shift) (c ∷ v) [] b some l e k h = (l, omega arith)
dims_outer zero (x ∷ shift) (c ∷ v) (dim ∷ dims) b some l e k h =
    let p = and_parts (dim_border_conforms (pos 0) dim) (each_border_conforms (components zero v) dims) e
    in
    let one = dim_outer (pos 0) (pos 0) dim (All-head IsBoxed dim dims b)
    (positive_left (coordinate_count dim) (tuple_count dims) some)
    (All-head IsDimWithinLimit dim dims l) p.0 (inl refl)
    (All-head IsDimWithinLimit (dim_hull_with dim (dim_moved (pos 0) dim))
    (each_hull_with dims (each dim_moved (components zero shift) dims)) h) in
    let rest = dims_outer zero shift v dims (All-tail IsBoxed dim dims b)
    (positive_right (coordinate_count dim) (tuple_count dims) some)
    (All-tail IsDimWithinLimit dim dims l) p.1 k.1
    (All-tail IsDimWithinLimit (dim_hull_with dim (dim_moved (pos 0) dim))
    (each_hull_with dims (each dim_moved (components zero shift) dims)) h) in (
      All-cons IsDimWithinLimit (dim_outside_of (pos 0) dim)
          (each dim_outside_of (components zero v) dims) one.0 rest.0,
      product (coordinate_count (dim_outside_of (pos 0) dim)) (coordinate_count dim)
          (tuple_count (each dim_outside_of (components zero v) dims)) (tuple_count dims) one.1 rest.1,
    )
dims_outer (suc rank) (x ∷ shift) (c ∷ v) (dim ∷ dims) b some l e k h =
    let p = and_parts (dim_border_conforms c dim) (each_border_conforms (components rank v) dims) e in
    let one = dim_outer x c dim (All-head IsBoxed dim dims b)
    (positive_left (coordinate_count dim) (tuple_count dims) some)
    (All-head IsDimWithinLimit dim dims l) p.0 k.0
    (All-head IsDimWithinLimit (dim_hull_with dim (dim_moved x dim))
    (each_hull_with dims (each dim_moved (components rank shift) dims)) h) in
    let rest = dims_outer rank shift v dims (All-tail IsBoxed dim dims b)
    (positive_right (coordinate_count dim) (tuple_count dims) some)
    (All-tail IsDimWithinLimit dim dims l) p.1 k.1
    (All-tail IsDimWithinLimit (dim_hull_with dim (dim_moved x dim))
    (each_hull_with dims (each dim_moved (components rank shift) dims)) h) in (
      All-cons IsDimWithinLimit (dim_outside_of c dim) (each dim_outside_of (components rank v) dims)
          one.0 rest.0,
      product (coordinate_count (dim_outside_of c dim)) (coordinate_count dim)
          (tuple_count (each dim_outside_of (components rank v) dims)) (tuple_count dims) one.1 rest.1,
    )

-- ---- the border

pub border_within : (home : Region) (d v : List ℤ) → IsRegion home → All IsBoxed home.dims
    → IsWithinLimit home → has_none home ≡ false → All HasStep (copy_storage home d).dims
    → is_within_limit (copy_storage home d) ≡ true → AreKeptOrNot (copy_shift home d) v
    → border_conforms v home ≡ true → is_within_limit (outside_of v home) ≡ true
border_within home d v is b limit some copy_steps copy_limit kept conforms =
    let shift = copy_shift home d in
    let same : copy_storage home d
    ≡ record { rank = home.rank; dims = each_hull_with home.dims (moved shift home).dims } =
    ap (λ t. with_by t (has_none home) home (moved shift home)) (has_none-moved shift home ∙ some)
    ∙ ap (λ t. with_by false t home (moved shift home)) some in
    let steps = outside_steps (components home.rank v) home.dims (has_steps home.dims is.dims) in
    let outer = dims_outer home.rank shift v home.dims b (some_from home some) limit.dims conforms kept
    (subst (λ (r : Region). All IsDimWithinLimit r.dims) same
    ((is_within_limit_iff (copy_storage home d) copy_steps).0 copy_limit).dims) in
    let points = limit.points in
    (is_within_limit_iff (outside_of v home) steps).1 (record {
      dims = outer.0;
      points = omega (
        arith,
        outer.1,
        points,
        length-tuple_count home.dims (has_steps home.dims is.dims),
        length-tuple_count (outside_of v home).dims steps,
      );
    })
