-- The sources of a border that conforms are within the limit, since they lie in its region.
use Rattle.std.proofs.Common.{◌≡◌, refl, sym, ◌∙◌, ap, subst, arith, ℕ, zero, suc, ◌*◌, ◌≤◌, Bool}
use Rattle.std.proofs.Common.{true, false, ◌&&◌, All, List, [], ◌∷◌, length, map, ℤ, pos, negsuc}
use Rattle.std.proofs.Common.{neg_ℤ, ◌+ℤ◌, ◌-ℤ◌, ◌≤ℤ◌, ◌<ℤ◌, cond}
use Rattle.std.specs.Prelude.{◌||◌, filter, if◌then◌else◌, int_lt, nat_le, unsigned_abs}
use Rattle.std.specs.Int.{int_max, int_min}
use Rattle.std.specs.Ordering.{int_eq}
use Rattle.std.proofs.lemmas.Bool.{and_parts}
use Rattle.std.proofs.lemmas.Bool.Decides.{Decides-int_eq}
use Rattle.std.proofs.lemmas.Int.{ints, clamps}
use Rattle.std.proofs.lemmas.List.Elements.{All-cons, All-head, All-tail}
use Rattle.zpl_nums.specs.declared.ends.Border.{Border}
use Rattle.zpl_nums.specs.declared.ends.Border.TheVariants.{Wrap, Reflect}
use Rattle.zpl_region.specs.declared.dims.Dim.{Dim}
use Rattle.zpl_region.specs.declared.dims.Dim.TheVariants.{Range, Flood}
use Rattle.zpl_region.specs.declared.regions.Region.{Region}
use Rattle.zpl_region.specs.Dim.{HasStep, IsDimWithinLimit, coordinates, dim_inside_of, dim_met, extent, lies_within}
use Rattle.zpl_region.specs.Region.{IsRegion, IsWithinLimit, components, each, inside_of}
use Rattle.zpl_region.specs.Tests.{is_within_limit}
use Rattle.zpl_region.proofs.DimLemmas.{coordinates-met, pos-extent, pos-unsigned_abs}
use Rattle.zpl_region.proofs.EndLemmas.{length-coordinates, length-tuple_count}
use Rattle.zpl_region.proofs.HullLemmas.{has_steps}
use Rattle.zpl_region.proofs.ListLemmas.{int_eq-false}
use Rattle.zpl_region.proofs.TestLemmas.{is_within_limit_iff}
use Rattle.zpl_region.specs.Ends.{coordinate_count, tuple_count}
use Rattle.zpl_arrays.specs.Border.{border_conforms, border_sources, dim_border_conforms, each_border_conforms}
use Rattle.zpl_arrays.proofs.SourceLemmas.{wide_enough, zero_component}
use Rattle.prefix_runs.specs.of_zpl_lowering.Statement.{source_shift}

-- ---- a dimension

filter_few : {X : Type 0} (p : X → Bool) (xs : List X) → length (filter p xs) ≤ length xs
filter_few p [] = omega arith
filter_few p (x ∷ xs) = by (p x) (filter_few p xs)
  where
    by : (b : Bool) → length (filter p xs) ≤ length xs
        → length (cond b (x ∷ filter p xs) (filter p xs)) ≤ suc (length xs)
    by true h = omega (arith, h)
    by false h = omega (arith, h)

-- coordinates that lie between others
met_few : (lo hi from to step align : ℤ) → pos 1 ≤ℤ step → from ≤ℤ lo → hi ≤ℤ to
    → coordinate_count (Range lo hi step align) ≤ coordinate_count (Range from to step align)
met_few lo hi from to step align h low high =
    let one : int_max from lo ≡ lo = omega (arith, ints, clamps, low) in
    let other : int_min to hi ≡ hi = omega (arith, ints, clamps, high) in
    let met : dim_met lo hi (Range from to step align) ≡ Range lo hi step align =
    ap (λ (a : ℤ). Range a (int_min to hi) step align) one
    ∙ ap (λ (b : ℤ). Range lo b step align) other in
    let few = filter_few (lies_within lo hi (Range from to step align))
    (coordinates (Range from to step align)) in
    let same = ap length (ap coordinates (sym met) ∙ coordinates-met lo hi (Range from to step align)) in
    omega (
      arith,
      few,
      same,
      length-coordinates (Range lo hi step align) h,
      length-coordinates (Range from to step align) h,
    )

pub abs-negated : (d : ℤ) → unsigned_abs (neg_ℤ d) ≡ unsigned_abs d
abs-negated (pos zero) = refl
abs-negated (pos (suc n)) = refl
abs-negated (negsuc n) = refl

pub above_within : (d lo hi : ℤ) → pos 0 <ℤ d → unsigned_abs d ≤ extent lo hi
    → lo ≤ℤ ((hi -ℤ d) +ℤ pos 1)
above_within d lo hi up wide =
    let is = pos-unsigned_abs d (omega (arith, ints, up)) in
    omega (arith, ints, clamps, wide, pos-extent lo hi, is)

pub below_within : (d lo hi : ℤ) → d <ℤ pos 0 → unsigned_abs d ≤ extent lo hi
    → ((lo -ℤ d) -ℤ pos 1) ≤ℤ hi
below_within d lo hi down wide =
    let size : unsigned_abs (neg_ℤ d) ≤ extent lo hi =
    subst (λ n. n ≤ extent lo hi) (sym (abs-negated d)) wide in
    let is = pos-unsigned_abs (neg_ℤ d) (omega (arith, ints, down)) in
    omega (arith, ints, clamps, size, pos-extent lo hi, is)

less : (x y : ℤ) → int_lt x y ≡ true → x <ℤ y
less x y e = grind (arith, ints)

inside_dim : (d : ℤ) (dim : Dim) → HasStep dim → IsDimWithinLimit dim
    → dim_border_conforms d dim ≡ true
    → HasStep (dim_inside_of d dim) × IsDimWithinLimit (dim_inside_of d dim)
    × (coordinate_count (dim_inside_of d dim) ≤ coordinate_count dim)
inside_dim d Flood h l e = (tt, tt, omega arith)
inside_dim d (Range lo hi step align) h l e =
    by (int_lt (pos 0) d) refl (int_lt d (pos 0)) refl
  where
    by : (a : Bool) → int_lt (pos 0) d ≡ a → (b : Bool) → int_lt d (pos 0) ≡ b
        → (let dim : Dim = if a then Range ((hi -ℤ d) +ℤ pos 1) hi step align
        else if b then Range lo ((lo -ℤ d) -ℤ pos 1) step align
        else Range lo hi step align in
        HasStep dim × IsDimWithinLimit dim
        × (coordinate_count dim ≤ coordinate_count (Range lo hi step align)))
    by true up b down =
        let above = less (pos 0) d up in
        let wide = wide_enough d lo hi step align e (λ z. omega (arith, ints, above, z)) in
        let low = above_within d lo hi above wide in (
          h,
          (
            (omega (arith, ints, low, l.0.0), omega (arith, ints, above, l.1.1)),
            l.1,
            l.2,
            l.3,
          ),
          met_few ((hi -ℤ d) +ℤ pos 1) hi lo hi step align h low (omega (arith, ints)),
        )
    by false up true down =
        let below = less d (pos 0) down in
        let wide = wide_enough d lo hi step align e (λ z. omega (arith, ints, below, z)) in
        let high = below_within d lo hi below wide in (
          h,
          (
            l.0,
            (omega (arith, ints, below, l.0.0), omega (arith, ints, high, l.1.1)),
            l.2,
            l.3,
          ),
          met_few lo ((lo -ℤ d) -ℤ pos 1) lo hi step align h (omega (arith, ints)) high,
        )
    by false up false down = (h, l, omega arith)

-- ---- dimensions

times : (a c d : ℕ) → c ≤ d → a * c ≤ a * d
times zero c d h = omega arith
times (suc a) c d h = let more = times a c d h in omega (arith, more, h)

times_left : (a b d : ℕ) → a ≤ b → a * d ≤ b * d
times_left zero b d h = omega arith
times_left (suc a) zero d h = absurd (omega (arith, h))
times_left (suc a) (suc b) d h =
    let more = times_left a b d (omega (arith, h)) in omega (arith, more)

pub product : (a b c d : ℕ) → a ≤ b → c ≤ d → a * c ≤ b * d
product a b c d f g =
    let one : a * c ≤ a * d = times a c d g in
    let other : a * d ≤ b * d = times_left a b d f in
    omega (arith, one, other)

inside_dims : (v : List ℤ) (dims : List Dim) → All HasStep dims → All IsDimWithinLimit dims
    → each_border_conforms v dims ≡ true
    → All HasStep (each dim_inside_of v dims) × All IsDimWithinLimit (each dim_inside_of v dims)
    × (tuple_count (each dim_inside_of v dims) ≤ tuple_count dims)
inside_dims [] dims h l e = (h, l, omega arith)
inside_dims (d ∷ v) [] h l e = (h, l, omega arith)
inside_dims (d ∷ v) (dim ∷ dims) h l e =
    let both = and_parts (dim_border_conforms d dim) (each_border_conforms v dims) e in
    let one = inside_dim d dim (All-head HasStep dim dims h) (All-head IsDimWithinLimit dim dims l)
    both.0 in
    let rest = inside_dims v dims (All-tail HasStep dim dims h) (All-tail IsDimWithinLimit dim dims l)
    both.1 in (
      All-cons HasStep (dim_inside_of d dim) (each dim_inside_of v dims) one.0 rest.0,
      All-cons IsDimWithinLimit (dim_inside_of d dim) (each dim_inside_of v dims) one.1 rest.1,
      product (coordinate_count (dim_inside_of d dim)) (coordinate_count dim)
          (tuple_count (each dim_inside_of v dims)) (tuple_count dims) one.2 rest.2,
    )

pub record IsInside (region sources : Region) : Type 0 where
  pub steps : All HasStep sources.dims
  pub within : is_within_limit sources ≡ true

inside_region : (d : List ℤ) (region : Region) → IsRegion region → IsWithinLimit region
    → border_conforms d region ≡ true → IsInside region (inside_of d region)
inside_region d region is limit e =
    let steps = has_steps region.dims is.dims in
    let parts = inside_dims (components region.rank d) region.dims steps limit.dims e in
    record {
      steps = parts.0;
      within = (is_within_limit_iff (inside_of d region) parts.0).1 (record {
        dims = parts.1;
        points = omega (
          arith,
          parts.2,
          limit.points,
          length-tuple_count region.dims steps,
          length-tuple_count (inside_of d region).dims parts.0,
        );
      });
    }

-- ---- the opposite vector

zero_negated : (d : ℤ) → int_eq (neg_ℤ d) (pos 0) ≡ int_eq d (pos 0)
zero_negated d = by (int_eq d (pos 0)) refl
  where
    by : (b : Bool) → int_eq d (pos 0) ≡ b → int_eq (neg_ℤ d) (pos 0) ≡ b
    by true e =
        let zero_is = zero_component d e in
        (Decides-int_eq (neg_ℤ d) (pos 0)).1 (omega (arith, ints, zero_is))
    by false e =
        int_eq-false (neg_ℤ d) (pos 0) (λ z.
        let zero_is : d ≡ pos 0 = omega (arith, ints, z) in
        let both : true ≡ false = sym ((Decides-int_eq d (pos 0)).1 zero_is) ∙ e in cc)

opposite_dim : (d : ℤ) (dim : Dim) → dim_border_conforms (neg_ℤ d) dim ≡ dim_border_conforms d dim
opposite_dim d Flood = zero_negated d
opposite_dim d (Range lo hi step align) =
    ap (λ (b : Bool).
    b || (int_eq step (pos 1) && nat_le (unsigned_abs (neg_ℤ d)) (extent lo hi))) (zero_negated d)
    ∙ ap (λ (m : ℕ). int_eq d (pos 0) || (int_eq step (pos 1) && nat_le m (extent lo hi)))
    (abs-negated d)

pub opposite_dims : (rank : ℕ) (v : List ℤ) (dims : List Dim)
    → each_border_conforms (components rank (map neg_ℤ v)) dims
    ≡ each_border_conforms (components rank v) dims
opposite_dims rank [] dims = refl
opposite_dims zero (d ∷ v) [] = refl
opposite_dims (suc rank) (d ∷ v) [] = refl
opposite_dims zero (d ∷ v) (dim ∷ dims) =
    ap (λ b. dim_border_conforms (pos 0) dim && b) (opposite_dims zero v dims)
opposite_dims (suc rank) (d ∷ v) (dim ∷ dims) =
    ap (λ b. b && each_border_conforms (components rank (map neg_ℤ v)) dims) (opposite_dim d dim)
    ∙ ap (λ b. dim_border_conforms d dim && b) (opposite_dims rank v dims)

pub sources_within : (kind : Border) (d : List ℤ) (region : Region) → IsRegion region
    → IsWithinLimit region → border_conforms d region ≡ true
    → IsInside region (border_sources kind region d)
sources_within Wrap d region is limit e =
    inside_region (map neg_ℤ d) region is limit (opposite_dims region.rank d region.dims ∙ e)
sources_within Reflect d region is limit e = inside_region d region is limit e

-- ---- the sources are made by the row

negated_is : (v : List ℤ) → source_shift Wrap v ≡ map neg_ℤ v
negated_is [] = refl
negated_is (d ∷ v) = ap (λ u. neg_ℤ d ∷ u) (negated_is v)

pub sources_made : (kind : Border) (d : List ℤ) (region : Region)
    → inside_of (source_shift kind d) region ≡ border_sources kind region d
sources_made Wrap d region = ap (λ v. inside_of v region) (negated_is d)
sources_made Reflect d region = refl
