-- Lemmas on borders: each source tuple is the source of a border tuple.
use Rattle.std.proofs.Common.{◌≡◌, ◌≤◌, ◌⊎◌, inl, inr, true, false, ◌&&◌, List, [], ◌∷◌, map, ℤ, pos, negsuc, neg_ℤ, ◌+ℤ◌, ◌-ℤ◌, ◌*ℤ◌, ◌≤ℤ◌, ◌<ℤ◌, unsigned_abs, refl, sym, subst, arith}
use Rattle.std.specs.Prelude.{nat_le}
use Rattle.std.specs.List.{AllZip}
use Rattle.std.specs.Int.RustNames.{int_lt}
use Rattle.std.specs.Ordering.{int_eq}
use Rattle.std.proofs.lemmas.Int.{ints, clamps}
use Rattle.std.proofs.lemmas.Bool.{and_parts, or_cases}
use Rattle.std.proofs.lemmas.Bool.Decides.{Decides-int_eq}
use Rattle.zpl_nums.specs.declared.ends.Border.{Border}
use Rattle.zpl_nums.specs.declared.ends.Border.TheVariants.{Wrap, Reflect}
use Rattle.zpl_region.specs.declared.dims.Dim.{Dim}
use Rattle.zpl_region.specs.declared.dims.Dim.TheVariants.{Range, Flood}
use Rattle.zpl_region.specs.declared.regions.Region.{Region}
use Rattle.zpl_region.specs.Dim.{IsCoordinate, dim_inside_of, dim_outside_of, extent}
use Rattle.zpl_region.specs.Region.{IsMember, components, each, outside_of}
use Rattle.zpl_region.proofs.DimLemmas.{pos-extent}
use Rattle.zpl_region.proofs.ListLemmas.{cons_same, int_lt-false, int_lt-true}
use Rattle.zpl_arrays.specs.Border.{border_conforms, border_source, border_sources, dim_border_conforms, dim_border_source, each_border_conforms, each_border_source}
use Rattle.zpl_arrays.proofs.SourceLemmas.{by_sign, components-side, nat_le-true, side, sources_are, unit_step, zero_component}

-- from a source x one comes back to a border coordinate, whose source is x
abbrev Back : Border → ℤ → Dim → ℤ → Type 0
Back kind d dim x =
    IsCoordinate (dim_outside_of d dim) (dim_border_source kind (side kind d) dim x) × (dim_border_source kind d dim (dim_border_source kind (side kind d) dim x) ≡ x)

back_above : (kind : Border) (d lo hi step align x : ℤ) → step ≡ pos 1 → pos 1 ≤ℤ d → d ≤ℤ ((hi -ℤ lo) +ℤ pos 1) → IsCoordinate (dim_inside_of (side kind d) (Range lo hi step align)) x → Back kind d (Range lo hi step align) x
back_above Wrap d lo hi step align x one above wide is =
    let e = pos-extent lo hi in
    let up : int_lt (pos 0) d ≡ true = int_lt-true (pos 0) d (omega (arith, ints)) in
    let off : int_lt (pos 0) (neg_ℤ d) ≡ false = int_lt-false (pos 0) (neg_ℤ d) (omega (arith, ints)) in
    let down : int_lt (neg_ℤ d) (pos 0) ≡ true = int_lt-true (neg_ℤ d) (pos 0) (omega (arith, ints)) in
    let at = rw (off, down) at is in
    rw (up, off, down) ((omega (arith, ints, clamps, e, at.0, at.1), omega (arith, ints, clamps, e, at.0, at.1), unit_step (x +ℤ pos (extent lo hi)) align step one), omega (arith, ints))
back_above Reflect d lo hi step align x one above wide is =
    let up : int_lt (pos 0) d ≡ true = int_lt-true (pos 0) d (omega (arith, ints)) in
    let at = rw up at is in
    rw up ((omega (arith, ints, at.0, at.1), omega (arith, ints, at.0, at.1), unit_step (((pos 2 *ℤ hi) +ℤ pos 1) -ℤ x) align step one), omega (arith, ints))

back_below : (kind : Border) (d lo hi step align x : ℤ) → step ≡ pos 1 → d ≤ℤ negsuc 0 → neg_ℤ d ≤ℤ ((hi -ℤ lo) +ℤ pos 1) → IsCoordinate (dim_inside_of (side kind d) (Range lo hi step align)) x → Back kind d (Range lo hi step align) x
back_below Wrap d lo hi step align x one below wide is =
    let e = pos-extent lo hi in
    let off : int_lt (pos 0) d ≡ false = int_lt-false (pos 0) d (omega (arith, ints)) in
    let down : int_lt d (pos 0) ≡ true = int_lt-true d (pos 0) (omega (arith, ints)) in
    let up : int_lt (pos 0) (neg_ℤ d) ≡ true = int_lt-true (pos 0) (neg_ℤ d) (omega (arith, ints)) in
    let at = rw up at is in
    rw (off, down, up) ((omega (arith, ints, clamps, e, at.0, at.1), omega (arith, ints, clamps, e, at.0, at.1), unit_step (x -ℤ pos (extent lo hi)) align step one), omega (arith, ints))
back_below Reflect d lo hi step align x one below wide is =
    let off : int_lt (pos 0) d ≡ false = int_lt-false (pos 0) d (omega (arith, ints)) in
    let down : int_lt d (pos 0) ≡ true = int_lt-true d (pos 0) (omega (arith, ints)) in
    let at = rw (off, down) at is in
    rw (off, down) ((omega (arith, ints, at.0, at.1), omega (arith, ints, at.0, at.1), unit_step (((pos 2 *ℤ lo) -ℤ pos 1) -ℤ x) align step one), omega (arith, ints))

still_back : (kind : Border) (dim : Dim) (x : ℤ) → IsCoordinate (dim_inside_of (side kind (pos 0)) dim) x → Back kind (pos 0) dim x
still_back Wrap Flood x is = (is, refl)
still_back Reflect Flood x is = (is, refl)
still_back Wrap (Range lo hi step align) x is = (is, refl)
still_back Reflect (Range lo hi step align) x is = (is, refl)

flood_back : (kind : Border) (d x : ℤ) → IsCoordinate (dim_inside_of (side kind d) Flood) x → Back kind d Flood x
flood_back Wrap d x is = (is, refl)
flood_back Reflect d x is = (is, refl)

dim_back : (kind : Border) (d : ℤ) (dim : Dim) (x : ℤ) → dim_border_conforms d dim ≡ true → IsCoordinate (dim_inside_of (side kind d) dim) x → Back kind d dim x
dim_back kind d Flood x e is = flood_back kind d x is
dim_back kind d (Range lo hi step align) x e is = by_case (by_sign d) (or_cases (int_eq d (pos 0)) (int_eq step (pos 1) && nat_le (unsigned_abs d) (extent lo hi)) e)
  where
    still : d ≡ pos 0 → Back kind d (Range lo hi step align) x
    still zero_is =
        subst (λ c. Back kind c (Range lo hi step align) x) (sym zero_is) (still_back kind (Range lo hi step align) x (subst (λ c. IsCoordinate (dim_inside_of (side kind c) (Range lo hi step align)) x) zero_is is))

    nonzero : (pos 0 <ℤ d) ⊎ (d <ℤ pos 0) → step ≡ pos 1 → unsigned_abs d ≤ extent lo hi → Back kind d (Range lo hi step align) x
    nonzero (inl above) one wide = back_above kind d lo hi step align x one (omega (arith, ints)) (omega (arith, ints, clamps, pos-extent lo hi)) is
    nonzero (inr below) one wide = back_below kind d lo hi step align x one (omega (arith, ints)) (omega (arith, ints, clamps, pos-extent lo hi)) is

    by_case : (d ≡ pos 0) ⊎ ((pos 0 <ℤ d) ⊎ (d <ℤ pos 0)) → (int_eq d (pos 0) ≡ true) ⊎ ((int_eq step (pos 1) && nat_le (unsigned_abs d) (extent lo hi)) ≡ true) → Back kind d (Range lo hi step align) x
    by_case sign (inl zero_is) = still (zero_component d zero_is)
    by_case (inl zero_is) (inr both) = still zero_is
    by_case (inr sign) (inr both) =
        let p = and_parts (int_eq step (pos 1)) (nat_le (unsigned_abs d) (extent lo hi)) both in
        nonzero sign ((Decides-int_eq step (pos 1)).0 p.0) (nat_le-true (unsigned_abs d) (extent lo hi) p.1)

dims_back : (kind : Border) (v : List ℤ) (dims : List Dim) (t : List ℤ) → each_border_conforms v dims ≡ true → AllZip IsCoordinate (each dim_inside_of (map (side kind) v) dims) t
    → AllZip IsCoordinate (each dim_outside_of v dims) (each_border_source kind (map (side kind) v) dims t) × (each_border_source kind v dims (each_border_source kind (map (side kind) v) dims t) ≡ t)
dims_back kind [] dims t e z = (z, refl)
dims_back kind (d ∷ v) [] t e z = (z, refl)
dims_back kind (d ∷ v) (dim ∷ dims) [] e z = absurd z
dims_back kind (d ∷ v) (dim ∷ dims) (x ∷ t) e z =
    let p = and_parts (dim_border_conforms d dim) (each_border_conforms v dims) e in
    let here = dim_back kind d dim x p.0 z.0 in
    let rest = dims_back kind v dims t p.1 z.1 in
    ((here.0, rest.0), cons_same here.1 rest.1)

-- each source tuple is the source of a tuple of `d of R`
pub border_source_back : (kind : Border) (r : Region) (d s : List ℤ) → border_conforms d r ≡ true → IsMember (border_sources kind r d) s → (t : List ℤ) × (IsMember (outside_of d r) t × (border_source kind r d t ≡ s))
border_source_back kind r d s e z =
    let v = components r.rank d in
    let there = subst (λ u. AllZip IsCoordinate (each dim_inside_of u r.dims) s) (components-side kind r.rank d) (subst (λ q. IsMember q s) (sym (sources_are kind r d)) z) in
    (each_border_source kind (map (side kind) v) r.dims s, dims_back kind v r.dims s e there)
