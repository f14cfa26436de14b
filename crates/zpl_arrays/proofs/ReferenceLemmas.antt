-- Lemmas on references.
use Rattle.std.proofs.Common.{◌≡◌, ℕ, zero, suc, ◌<◌, ◌≤◌, ◌⊎◌, inl, inr, Bool, true, false, ◌||◌, All, List, [], ◌∷◌, map, length, ℤ, ◌≤ℤ◌, refl, sym, ◌∙◌, ap, subst, arith}
use Rattle.std.specs.Prelude.{◌==◌}
use Rattle.std.specs.List.{AllZip}
use Rattle.std.proofs.lemmas.Int.{ints}
use Rattle.std.proofs.lemmas.Bool.{and_from, and_parts, cases_lt, eq-eqb, eqb-true, or_cases}
use Rattle.std.proofs.lemmas.List.Elements.{All-head, All-tail}
use Rattle.zpl_region.specs.declared.dims.Dim.{Dim}
use Rattle.zpl_region.specs.declared.dims.Dim.TheVariants.{Range, Flood}
use Rattle.zpl_region.specs.declared.regions.Region.{Region}
use Rattle.zpl_region.specs.Dim.{HasStep, IsCoordinate, dim_moved}
use Rattle.zpl_region.specs.Ends.{coordinate_count, first_of, tuple_count}
use Rattle.zpl_region.specs.Hull.{IsBoxed}
use Rattle.zpl_region.specs.Region.{IsMember, IsRegion, components, each, members, moved, tuple_moved}
use Rattle.zpl_region.specs.Tests.{is_coordinate}
use Rattle.zpl_region.proofs.DimLemmas.{Among-coordinates, among_coordinates}
use Rattle.zpl_region.proofs.EndLemmas.{Among-first, positive_left, positive_right}
use Rattle.zpl_region.proofs.HullLemmas.{has_steps, some_tuple}
use Rattle.zpl_region.proofs.LawLemmas.{members-moved, members_iff}
use Rattle.zpl_region.proofs.ListLemmas.{Among, Among-map, Contains-from_among, among_from_Contains}
use Rattle.zpl_region.proofs.ProgressionLemmas.{between-true, true-between}
use Rattle.zpl_region.proofs.RegionLemmas.{still_step}
use Rattle.zpl_region.proofs.TestLemmas.{box_of_dim, dim_in_box, is_coordinate_iff}
use Rattle.zpl_arrays.specs.Array.{each_has_place, has_place}
use Rattle.zpl_arrays.specs.Reference.{IsCovered, dim_lies_in, each_lies_in, is_reference, lies_in}
use Rattle.zpl_arrays.proofs.SourceLemmas.{has_both, unit_step}

-- a coordinate within the bounds of a box's range has a place there
placed : (lo hi step align x : ℤ) → IsBoxed (Range lo hi step align) → lo ≤ℤ x → x ≤ℤ hi → is_coordinate (Range lo hi step align) x ≡ true
placed lo hi step align x b low high = (is_coordinate_iff (Range lo hi step align) x (omega (arith, ints))).1 (low, high, unit_step x align step b.0)

dim_placed : (dim place : Dim) (x : ℤ) → HasStep dim → IsBoxed place → dim_lies_in dim place ≡ true → IsCoordinate dim x → each_has_place (place ∷ []) (x ∷ []) ≡ true
dim_placed dim Flood x h b e is = refl
dim_placed Flood (Range lo hi step align) x h b e is = absurd (cc)
dim_placed (Range from to every base) (Range lo hi step align) x h b e is =
    let d = Range from to every base in
    let w = true-between lo hi x (dim_in_box lo hi d x h e (Among-coordinates d x h is)) in
    and_from (is_coordinate (Range lo hi step align) x) true (placed lo hi step align x b w.0 w.1) refl

dims_placed : (dims box : List Dim) (t : List ℤ) → All HasStep dims → All IsBoxed box → length dims ≡ length box → each_lies_in dims box ≡ true → AllZip IsCoordinate dims t → each_has_place box t ≡ true
dims_placed [] [] [] h b l e z = refl
dims_placed [] [] (x ∷ t) h b l e z = absurd z
dims_placed [] (p ∷ box) t h b l e z = absurd (omega arith)
dims_placed (d ∷ dims) [] t h b l e z = absurd (omega arith)
dims_placed (d ∷ dims) (p ∷ box) [] h b l e z = absurd z
dims_placed (d ∷ dims) (p ∷ box) (x ∷ t) h b l e z =
    let w = and_parts (dim_lies_in d p) (each_lies_in dims box) e in
    has_both p box x t (dim_placed d p x (All-head HasStep d dims h) (All-head IsBoxed p box b) w.0 z.0)
    (dims_placed dims box t (All-tail HasStep d dims h) (All-tail IsBoxed p box b) (omega arith) w.1 z.1)

pub lies_in_places : (r box : Region) (t : List ℤ) → All HasStep r.dims → All IsBoxed box.dims → length r.dims ≡ length box.dims → lies_in r box ≡ true → IsMember r t → has_place box t ≡ true
lies_in_places r box t h b l e z = by_case (or_cases (tuple_count r.dims == 0) (each_lies_in r.dims box.dims) e)
  where
    by_case : ((tuple_count r.dims == 0) ≡ true) ⊎ (each_lies_in r.dims box.dims ≡ true) → has_place box t ≡ true
    by_case (inl none) = absurd (let empty = eqb-true (tuple_count r.dims) 0 none in omega (arith, some_tuple r.dims t h z))
    by_case (inr each) = dims_placed r.dims box.dims t h b l each z

-- ---- and back, where no flood dimension meets a range of the box
first_part : (p : Dim) (box : List Dim) (x : ℤ) (t : List ℤ) → each_has_place (p ∷ box) (x ∷ t) ≡ true → each_has_place (p ∷ []) (x ∷ []) ≡ true
first_part Flood box x t e = refl
first_part (Range lo hi step align) box x t e =
    and_from (is_coordinate (Range lo hi step align) x) true (and_parts (is_coordinate (Range lo hi step align) x) (each_has_place box t) e).0 refl

second_part : (p : Dim) (box : List Dim) (x : ℤ) (t : List ℤ) → each_has_place (p ∷ box) (x ∷ t) ≡ true → each_has_place box t ≡ true
second_part Flood box x t e = e
second_part (Range lo hi step align) box x t e = (and_parts (is_coordinate (Range lo hi step align) x) (each_has_place box t) e).1

dim_covered : (dim place : Dim) → HasStep dim → 0 < coordinate_count dim → IsBoxed place → IsCovered dim place → ((x : ℤ) → IsCoordinate dim x → each_has_place (place ∷ []) (x ∷ []) ≡ true) → dim_lies_in dim place ≡ true
dim_covered dim Flood h some b cover all = refl
dim_covered Flood (Range lo hi step align) h some b cover all = absurd cover
dim_covered (Range from to every base) (Range lo hi step align) h some b cover all =
    let d = Range from to every base in
    box_of_dim lo hi d h some (λ x m.
    let w = (is_coordinate_iff (Range lo hi step align) x (omega (arith, ints))).0 (and_parts (is_coordinate (Range lo hi step align) x) true (all x (among_coordinates d x h m))).0 in
    between-true lo hi x w.0 w.1)

dims_covered : (dims box : List Dim) (t : List ℤ) → All HasStep dims → 0 < tuple_count dims → All IsBoxed box → AllZip IsCovered dims box → AllZip IsCoordinate dims t
    → ((u : List ℤ) → AllZip IsCoordinate dims u → each_has_place box u ≡ true) → each_lies_in dims box ≡ true
dims_covered [] box t h some b cover z all = refl
dims_covered (d ∷ dims) [] t h some b cover z all = refl
dims_covered (d ∷ dims) (p ∷ box) [] h some b cover z all = absurd z
dims_covered (d ∷ dims) (p ∷ box) (x ∷ t) h some b cover z all =
    and_from (dim_lies_in d p) (each_lies_in dims box)
    (dim_covered d p (All-head HasStep d dims h) (positive_left (coordinate_count d) (tuple_count dims) some) (All-head IsBoxed p box b) cover.0 (λ y is. first_part p box y t (all (y ∷ t) (is, z.1))))
    (dims_covered dims box t (All-tail HasStep d dims h) (positive_right (coordinate_count d) (tuple_count dims) some) (All-tail IsBoxed p box b) cover.1 z.1 (λ u w. second_part p box x u (all (x ∷ u) (z.0, w))))

pub first_member : (dims : List Dim) → All HasStep dims → 0 < tuple_count dims → AllZip IsCoordinate dims (map first_of dims)
first_member [] h some = tt
first_member (d ∷ dims) h some =
    let here = positive_left (coordinate_count d) (tuple_count dims) some in (
      among_coordinates d (first_of d) (All-head HasStep d dims h) (Among-first d (All-head HasStep d dims h) here),
      first_member dims (All-tail HasStep d dims h) (positive_right (coordinate_count d) (tuple_count dims) some),
    )

pub places_lie_in : (r box : Region) → All HasStep r.dims → All IsBoxed box.dims → AllZip IsCovered r.dims box.dims → ((t : List ℤ) → IsMember r t → has_place box t ≡ true) → lies_in r box ≡ true
places_lie_in r box h b cover all = by_count (cases_lt 0 (tuple_count r.dims))
  where
    or_first : (p q : Bool) → p ≡ true → (p || q) ≡ true
    or_first p q e = ap (λ c. c || q) e

    or_second : (p q : Bool) → q ≡ true → (p || q) ≡ true
    or_second true q e = refl
    or_second false q e = e

    by_count : (0 < tuple_count r.dims) ⊎ (tuple_count r.dims ≤ 0) → (tuple_count r.dims == 0 || each_lies_in r.dims box.dims) ≡ true
    by_count (inl some) =
        or_second (tuple_count r.dims == 0) (each_lies_in r.dims box.dims) (dims_covered r.dims box.dims (map first_of r.dims) h some b cover (first_member r.dims h some) all)
    by_count (inr none) = or_first (tuple_count r.dims == 0) (each_lies_in r.dims box.dims) (eq-eqb (tuple_count r.dims) 0 (omega arith))

-- ---- moved
pub moved_member : (r : Region) (d t : List ℤ) → All HasStep r.dims → IsMember r t → IsMember (moved d r) (tuple_moved d r t)
moved_member r d t h z =
    let steps = still_step (components r.rank d) r.dims h in
    let there = among_from_Contains (members r) t ((members_iff r t h).1 z) in
    (members_iff (moved d r) (tuple_moved d r t) steps).0
    (Contains-from_among (members (moved d r)) (tuple_moved d r t) (subst (λ l. Among l (tuple_moved d r t)) (sym (members-moved r d)) (Among-map (tuple_moved d r) (members r) t there)))

pub length-moved : (v : List ℤ) (dims : List Dim) → length v ≡ length dims → length (each dim_moved v dims) ≡ length dims
length-moved [] dims l = refl
length-moved (d ∷ v) [] l = refl
length-moved (d ∷ v) (dim ∷ dims) l = ap suc (length-moved v dims (omega arith))

pub length-components : (rank : ℕ) (d : List ℤ) → length (components rank d) ≡ length d
length-components rank [] = refl
length-components zero (x ∷ d) = ap suc (length-components zero d)
length-components (suc rank) (x ∷ d) = ap suc (length-components rank d)

pub reference_places : (r box : Region) (d t : List ℤ) → IsRegion r → All IsBoxed box.dims → length r.dims ≡ 3 → length box.dims ≡ 3 → length d ≡ 3
    → is_reference d r box ≡ true → IsMember r t → has_place box (tuple_moved d r t) ≡ true
reference_places r box d t is b l k m e z =
    let h = has_steps r.dims is.dims in
    lies_in_places (moved d r) box (tuple_moved d r t) (still_step (components r.rank d) r.dims h) b
    (length-moved (components r.rank d) r.dims (omega (arith, length-components r.rank d)) ∙ (l ∙ sym k)) e (moved_member r d t h z)
