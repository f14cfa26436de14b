-- Reads of arrays with a shift: code has a shift without the array's flood dimensions, and moves
-- tuples by it; that is the same element and the same test.
use Rattle.std.proofs.Common.{◌≡◌, refl, sym, ◌∙◌, ap, arith, ℕ, zero, suc, ◌+◌, ◌*◌}
use Rattle.std.proofs.Common.{◌&&◌, List, [], ◌∷◌, length, ℤ, pos, ◌+ℤ◌}
use Rattle.std.specs.List.{AllZip}
use Rattle.std.specs.Prelude.{◌||◌, slice_index_or, if◌then◌else◌}
use Rattle.std.proofs.lemmas.Int.{ints}
use Rattle.zpl_region.specs.declared.dims.Dim.{Dim}
use Rattle.zpl_region.specs.declared.dims.Dim.TheVariants.{Range, Flood}
use Rattle.zpl_region.specs.declared.regions.Region.{Region}
use Rattle.zpl_region.specs.Dim.{IsCoordinate, dim_moved}
use Rattle.zpl_region.specs.Ends.{has_none, tuple_count}
use Rattle.zpl_region.specs.Region.{IsMember, components, each, each_coordinate_moved, moved, tuple_moved}
use Rattle.zpl_region.specs.Tests.{is_coordinate}
use Rattle.zpl_arrays.specs.Array.{Array, each_has_place, element, has_place, place_along, place_among}
use Rattle.zpl_arrays.specs.Reference.{dim_lies_in, each_lies_in, is_reference}
use Rattle.zpl_arrays.proofs.CheckLemmas.{has_none-moved}
use Rattle.node_form.specs.Value.{unmoved}
use Rattle.lowering_runs.specs.of_grid_meaning.Place.{moved_by}
use Rattle.lowering_runs.specs.of_zpl_lowering.Reference.{dim_shift, shift_in, vector_over}
use Rattle.array_runs.specs.Reads.{Covers, EachCovers, IsShift}

-- ---- the test

shift_components : (rank : ℕ) (dims : List Dim) (v : List ℤ) → components rank v ≡ v
    → components rank (shift_in dims v) ≡ shift_in dims v
shift_components rank dims [] e = refl
shift_components zero [] (d ∷ v) e =
    let rest : components zero v ≡ v = cc in
    ap (λ w. pos 0 ∷ w) (shift_components zero [] v rest)
shift_components (suc rank) [] (d ∷ v) e =
    let rest : components rank v ≡ v = cc in
    ap (λ w. pos 0 ∷ w) (shift_components rank [] v rest)
shift_components zero (Flood ∷ dims) (d ∷ v) e =
    let rest : components zero v ≡ v = cc in
    ap (λ w. pos 0 ∷ w) (shift_components zero dims v rest)
shift_components zero (Range lo hi step align ∷ dims) (d ∷ v) e =
    let first : pos 0 ≡ d = cc in
    let rest : components zero v ≡ v = cc in
    ap (λ w. pos 0 ∷ w) (shift_components zero dims v rest)
    ∙ ap (λ x. x ∷ shift_in dims v) first
shift_components (suc rank) (one ∷ dims) (d ∷ v) e =
    let rest : components rank v ≡ v = cc in
    ap (λ w. dim_shift one d ∷ w) (shift_components rank dims v rest)

shift_lies : (dims own : List Dim) (v : List ℤ)
    → each_lies_in (each dim_moved (shift_in dims v) own) dims
    ≡ each_lies_in (each dim_moved v own) dims
shift_lies dims own [] = refl
shift_lies [] [] (d ∷ v) = refl
shift_lies [] (r ∷ own) (d ∷ v) = refl
shift_lies (s ∷ dims) [] (d ∷ v) = refl
shift_lies (Flood ∷ dims) (Flood ∷ own) (d ∷ v) = shift_lies dims own v
shift_lies (Flood ∷ dims) (Range from to every base ∷ own) (d ∷ v) = shift_lies dims own v
shift_lies (Range lo hi step align ∷ dims) (r ∷ own) (d ∷ v) =
    ap (λ b. dim_lies_in (dim_moved d r) (Range lo hi step align) && b) (shift_lies dims own v)

add_none : (x : ℤ) → x +ℤ pos 0 ≡ x
add_none x = omega (arith, ints)

dim_still : (r : Dim) → dim_moved (pos 0) r ≡ r
dim_still Flood = refl
dim_still (Range lo hi step align) =
    ap (λ x. Range x (hi +ℤ pos 0) step (align +ℤ pos 0)) (add_none lo)
    ∙ ap (λ x. Range lo x step (align +ℤ pos 0)) (add_none hi)
    ∙ ap (λ x. Range lo hi step x) (add_none align)

none_moved : (rank : ℕ) → components rank unmoved ≡ unmoved
none_moved zero = refl
none_moved (suc zero) = refl
none_moved (suc (suc zero)) = refl
none_moved (suc (suc (suc rank))) = refl

each_still : (own : List Dim) → each dim_moved unmoved own ≡ own
each_still [] = refl
each_still (a ∷ []) = ap (λ x. x ∷ []) (dim_still a)
each_still (a ∷ b ∷ []) =
    ap (λ x. x ∷ dim_moved (pos 0) b ∷ []) (dim_still a) ∙ ap (λ x. a ∷ x ∷ []) (dim_still b)
each_still (a ∷ b ∷ c ∷ own) =
    ap (λ x. x ∷ dim_moved (pos 0) b ∷ dim_moved (pos 0) c ∷ own) (dim_still a)
    ∙ ap (λ x. a ∷ x ∷ dim_moved (pos 0) c ∷ own) (dim_still b)
    ∙ ap (λ x. a ∷ b ∷ x ∷ own) (dim_still c)

by_none : (d e : List ℤ) (region storage : Region)
    → has_none (moved d region) ≡ has_none (moved e region)
    → each_lies_in (moved d region).dims storage.dims
    ≡ each_lies_in (moved e region).dims storage.dims
    → is_reference d region storage ≡ is_reference e region storage
by_none d e region storage f g =
    ap (λ b. b || each_lies_in (moved d region).dims storage.dims) f
    ∙ ap (λ b. has_none (moved e region) || b) g

-- code's test is the meaning's
pub reference_same : (region storage : Region) (d : List ℤ) → IsShift region.rank d
    → is_reference (vector_over storage d) region storage ≡ is_reference d region storage
reference_same region storage [] h =
    by_none unmoved [] region storage
    (has_none-moved unmoved region ∙ sym (has_none-moved [] region))
    (ap (λ v. each_lies_in (each dim_moved v region.dims) storage.dims) (none_moved region.rank)
    ∙ ap (λ dims. each_lies_in dims storage.dims) (each_still region.dims))
reference_same region storage (d ∷ v) h =
    by_none (shift_in storage.dims (d ∷ v)) (d ∷ v) region storage
    (has_none-moved (shift_in storage.dims (d ∷ v)) region ∙ sym (has_none-moved (d ∷ v) region))
    (ap (λ w. each_lies_in (each dim_moved w region.dims) storage.dims)
    (shift_components region.rank storage.dims (d ∷ v) h.1)
    ∙ shift_lies storage.dims region.dims (d ∷ v)
    ∙ ap (λ w. each_lies_in (each dim_moved w region.dims) storage.dims) (sym h.1))

-- ---- the element

-- lists of one length: dimensions of a storage and of a region, a vector and a tuple
data Aligned : List Dim → List Dim → List ℤ → List ℤ → Type 0 where
  NoneLeft : Aligned [] [] [] []
  OneMore : {s r : Dim} {d x : ℤ} {dims own : List Dim} {v t : List ℤ} → Covers s r
      → Aligned dims own v t → Aligned (s ∷ dims) (r ∷ own) (d ∷ v) (x ∷ t)

aligned : (dims own : List Dim) (v t : List ℤ) → EachCovers dims own → length own ≡ length dims
    → length v ≡ length dims → AllZip IsCoordinate own t → Aligned dims own v t
aligned [] [] [] [] c e f z = NoneLeft
aligned [] [] [] (x ∷ t) c e f z = absurd z
aligned [] [] (d ∷ v) t c e f z = absurd (omega (arith, f))
aligned [] (r ∷ own) v t c e f z = absurd (omega (arith, e))
aligned (s ∷ dims) [] v t c e f z = absurd (omega (arith, e))
aligned (s ∷ dims) (r ∷ own) [] t c e f z = absurd (omega (arith, f))
aligned (s ∷ dims) (r ∷ own) (d ∷ v) [] c e f z = absurd z
aligned (s ∷ dims) (r ∷ own) (d ∷ v) (x ∷ t) c e f z =
    OneMore c.0 (aligned dims own v t c.1 (omega (arith, e)) (omega (arith, f)) z.1)

has_same : (dims own : List Dim) (v t : List ℤ) → Aligned dims own v t
    → each_has_place dims (moved_by (shift_in dims v) t)
    ≡ each_has_place dims (each_coordinate_moved v own t)
has_same dims own v t NoneLeft = refl
has_same dims own v t (OneMore {s = s} {r = r} {d = d} {x = x} {dims = ds} {own = rs} {v = w} {t = u} c h) =
    by s r c (has_same ds rs w u h)
  where
    by : (s r : Dim) → Covers s r
        → each_has_place ds (moved_by (shift_in ds w) u) ≡ each_has_place ds (each_coordinate_moved w rs u)
        → each_has_place (s ∷ ds) (moved_by (shift_in (s ∷ ds) (d ∷ w)) (x ∷ u))
        ≡ each_has_place (s ∷ ds) (each_coordinate_moved (d ∷ w) (r ∷ rs) (x ∷ u))
    by Flood r c e = e
    by (Range lo hi step align) Flood c e = absurd c
    by (Range lo hi step align) (Range from to every base) c e =
        ap (λ b. is_coordinate (Range lo hi step align) (x +ℤ d) && b) e

among_same : (dims own : List Dim) (v t : List ℤ) → Aligned dims own v t
    → place_among dims (moved_by (shift_in dims v) t)
    ≡ place_among dims (each_coordinate_moved v own t)
among_same dims own v t NoneLeft = refl
among_same dims own v t (OneMore {s = s} {r = r} {d = d} {x = x} {dims = ds} {own = rs} {v = w} {t = u} c h) =
    by s r c (among_same ds rs w u h)
  where
    by : (s r : Dim) → Covers s r
        → place_among ds (moved_by (shift_in ds w) u) ≡ place_among ds (each_coordinate_moved w rs u)
        → place_among (s ∷ ds) (moved_by (shift_in (s ∷ ds) (d ∷ w)) (x ∷ u))
        ≡ place_among (s ∷ ds) (each_coordinate_moved (d ∷ w) (r ∷ rs) (x ∷ u))
    by Flood r c e = ap (λ k. place_along Flood (x +ℤ pos 0) * tuple_count ds + k) e
    by (Range lo hi step align) Flood c e = absurd c
    by (Range lo hi step align) (Range from to every base) c e =
        ap (λ k. place_along (Range lo hi step align) (x +ℤ d) * tuple_count ds + k) e

pub element_by : (a : Array) (t u : List ℤ) → has_place a.storage t ≡ has_place a.storage u
    → place_among a.storage.dims t ≡ place_among a.storage.dims u → element a t ≡ element a u
element_by a t u e f =
    ap (λ b. if b then slice_index_or a.values (place_among a.storage.dims t) (pos 0) else pos 0) e
    ∙ ap (λ k. if has_place a.storage u then slice_index_or a.values k (pos 0) else pos 0) f

-- the place that code reads, where it is moved by a vector
pub place_same : (storage region : Region) (d t : List ℤ) → components region.rank d ≡ d
    → length d ≡ length storage.dims → length region.dims ≡ length storage.dims
    → EachCovers storage.dims region.dims → IsMember region t
    → (has_place storage (moved_by (shift_in storage.dims d) t)
    ≡ has_place storage (tuple_moved d region t))
    × (place_among storage.dims (moved_by (shift_in storage.dims d) t)
    ≡ place_among storage.dims (tuple_moved d region t))
place_same storage region d t e l k c z =
    let a = aligned storage.dims region.dims d t c k l z in (
      has_same storage.dims region.dims d t a
          ∙ ap (λ w. has_place storage (each_coordinate_moved w region.dims t)) (sym e),
      among_same storage.dims region.dims d t a
          ∙ ap (λ w. place_among storage.dims (each_coordinate_moved w region.dims t)) (sym e),
    )
