-- Storages are boxes.
use Rattle.std.proofs.Common.{ℕ, zero, suc, ℤ, pos, ◌+ℤ◌, Bool, true, false, cond, List, [], ◌∷◌, map, drop, length, All, refl, ap}
use Rattle.std.specs.List.{AllByRecursion}
use Rattle.std.proofs.lemmas.List.Elements.{All-from_recursion, recursion_from_All}
use Rattle.zpl_arrays.specs.of_zpl_region.declared.dims.Dim.{Dim}
use Rattle.zpl_arrays.specs.of_zpl_region.declared.dims.Dim.TheVariants.{Range, Flood}
use Rattle.zpl_arrays.specs.of_zpl_region.declared.regions.Region.{Region}
use Rattle.zpl_arrays.specs.of_zpl_region.Dim.{dim_outside_of, dim_inside_of, dim_moved, dim_strided}
use Rattle.zpl_arrays.specs.of_zpl_region.Ends.{has_none}
use Rattle.zpl_arrays.specs.of_zpl_region.Region.{components, each, outside_of, inside_of, moved, strided}
use Rattle.zpl_arrays.specs.of_zpl_region.Tests.{is_within_limit}
use Rattle.zpl_arrays.specs.of_zpl_region.Hull.{IsBoxed, dim_hull, emptied, hull, each_hull_with, hull_with}
use Rattle.zpl_tree.specs.Syntax.{Inner, Program}
use Rattle.zpl_binding.specs.Outcome.{RegionLimit, Outcome, Gives, Fails, and_then, outcome_of}
use Rattle.zpl_binding.specs.Settings.{Setting}
use Rattle.zpl_binding.specs.Vectors.{three_components}
use Rattle.zpl_binding.specs.Regions.{Known, dims_of, limited, inner_of}
use Rattle.zpl_binding.specs.Declarations.{known_of}
use Rattle.zpl_binding.specs.Storages.{Border, Shaped, borders_of, shape_borders, widened, storage_of, arrays_of}
use Rattle.zpl_binding.specs.Bound.{Bound, Binds, computed_storages}
use Rattle.zpl_binding.proofs.KeptLemmas.{IsKept, HasKept, inner-keeps, known-kept}
use Rattle.zpl_binding.proofs.LimitLemmas.{Holds, EachHolds, then-holds, all-given}

abbrev Boxed : List Dim → Type 0
Boxed dims = AllByRecursion IsBoxed dims

-- what stands past the rank is boxed
abbrev Ends : Region → Type 0
Ends r = Boxed (drop r.rank r.dims)

-- ---- hulls

all-boxed : (dims : List Dim) → Boxed (map dim_hull dims)
all-boxed [] = tt
all-boxed (Range lo hi step align ∷ dims) = ((refl, refl), all-boxed dims)
all-boxed (Flood ∷ dims) = (tt, all-boxed dims)

emptied-boxed : (rank : ℕ) (dims : List Dim) → Boxed (drop rank dims) → Boxed (emptied rank dims)
emptied-boxed zero dims h = h
emptied-boxed (suc rank) [] h = tt
emptied-boxed (suc rank) (Range lo hi step align ∷ dims) h =
    ((refl, refl), emptied-boxed rank dims h)
emptied-boxed (suc rank) (Flood ∷ dims) h = (tt, emptied-boxed rank dims h)

hull-boxed : (r : Region) → Ends r → Boxed (hull r).dims
hull-boxed r h = by (has_none r)
  where
    by : (b : Bool) → Boxed (cond b (emptied r.rank r.dims) (map dim_hull r.dims))
    by true = emptied-boxed r.rank r.dims h
    by false = all-boxed r.dims

each-boxed : (dims others : List Dim) → Boxed (each_hull_with dims others)
each-boxed [] others = tt
each-boxed (dim ∷ dims) [] = tt
each-boxed (Flood ∷ dims) (other ∷ others) = (tt, each-boxed dims others)
each-boxed (Range lo hi step align ∷ dims) (Flood ∷ others) = (tt, each-boxed dims others)
each-boxed (Range lo hi step align ∷ dims) (Range lo' hi' step' align' ∷ others) =
    ((refl, refl), each-boxed dims others)

abbrev with_by : Bool → Bool → Region → Region → Region
with_by no_s no_r r s =
    cond no_s (hull r)
    (cond no_r (hull s) (record { rank = r.rank; dims = each_hull_with r.dims s.dims }))

with-boxed : (r s : Region) → Ends r → Ends s → Boxed (hull_with r s).dims
with-boxed r s here there = by (has_none s) (has_none r)
  where
    by : (no_s no_r : Bool) → Boxed (with_by no_s no_r r s).dims
    by true no_r = hull-boxed r here
    by false true = hull-boxed s there
    by false false = each-boxed r.dims s.dims

boxed-drop : (rank : ℕ) (dims : List Dim) → Boxed dims → Boxed (drop rank dims)
boxed-drop zero dims h = h
boxed-drop (suc rank) [] h = tt
boxed-drop (suc rank) (dim ∷ dims) h = boxed-drop rank dims h.1

-- ---- forms leave what stands past the rank boxed

abbrev KeepsBoxed : (ℤ → Dim → Dim) → Type 0
KeepsBoxed form = (dim : Dim) → IsBoxed dim → IsBoxed (form (pos 0) dim)

past-boxed : (form : ℤ → Dim → Dim) → KeepsBoxed form → (v : List ℤ) (dims : List Dim) →
    Boxed dims → Boxed (each form (components zero v) dims)
past-boxed form keeps [] dims h = h
past-boxed form keeps (d ∷ v) [] h = tt
past-boxed form keeps (d ∷ v) (dim ∷ dims) h = (keeps dim h.0, past-boxed form keeps v dims h.1)

formed-boxed : (form : ℤ → Dim → Dim) → KeepsBoxed form → (rank : ℕ) (v : List ℤ)
    (dims : List Dim) → Boxed (drop rank dims) →
    Boxed (drop rank (each form (components rank v) dims))
formed-boxed form keeps zero v dims h = past-boxed form keeps v dims h
formed-boxed form keeps (suc rank) [] dims h = h
formed-boxed form keeps (suc rank) (d ∷ v) [] h = tt
formed-boxed form keeps (suc rank) (d ∷ v) (dim ∷ dims) h = formed-boxed form keeps rank v dims h

outside-keeps : KeepsBoxed dim_outside_of
outside-keeps (Range lo hi step align) h = h
outside-keeps Flood h = tt

inside-keeps : KeepsBoxed dim_inside_of
inside-keeps (Range lo hi step align) h = h
inside-keeps Flood h = tt

moved-keeps : KeepsBoxed dim_moved
moved-keeps (Range lo hi step align) h = (h.0, ap (λ z. z +ℤ pos 0) h.1)
moved-keeps Flood h = tt

strided-keeps : KeepsBoxed dim_strided
strided-keeps (Range lo hi step align) h = h
strided-keeps Flood h = tt

outside-ends : (d : List ℤ) (r : Region) → Ends r → Ends (outside_of d r)
outside-ends d r h = formed-boxed dim_outside_of outside-keeps r.rank d r.dims h

inside-ends : (d : List ℤ) (r : Region) → Ends r → Ends (inside_of d r)
inside-ends d r h = formed-boxed dim_inside_of inside-keeps r.rank d r.dims h

moved-ends : (d : List ℤ) (r : Region) → Ends r → Ends (moved d r)
moved-ends d r h = formed-boxed dim_moved moved-keeps r.rank d r.dims h

strided-ends : (d : List ℤ) (r : Region) → Ends r → Ends (strided d r)
strided-ends d r h = formed-boxed dim_strided strided-keeps r.rank d r.dims h

-- ---- declared regions

padded-boxed : (count : ℕ) (dims : List Dim) → Boxed (drop (length dims) (dims_of count dims))
padded-boxed zero [] = tt
padded-boxed zero (dim ∷ dims) = tt
padded-boxed (suc count) [] = ((refl, refl), padded-boxed count [])
padded-boxed (suc count) (dim ∷ dims) = padded-boxed count dims

ends-kept : IsKept Ends
ends-kept = record {
  over = λ dims h. padded-boxed 3 dims;
  outside = outside-ends;
  inside = inside-ends;
  moves = moved-ends;
  strides = strided-ends;
}

-- ---- storages

abbrev HasBox : Region → Type 0
HasBox storage = Boxed storage.dims

widened-boxed : (known : Known) (region : Region) (borders : List Border) (storage : Region) →
    Ends region → HasBox storage → Holds HasBox (widened known region storage borders)
widened-boxed known region [] storage ends h = h
widened-boxed known region (border ∷ rest) storage ends h =
    then-holds HasBox (outcome_of (three_components []) known.directions border.direction.text)
    (λ d. widened known region (hull_with storage (outside_of d region)) rest)
    (λ d. widened-boxed known region rest (hull_with storage (outside_of d region)) ends
    (with-boxed storage (outside_of d region) (boxed-drop storage.rank storage.dims h)
    (outside-ends d region ends)))

limited-boxed : (storage : Outcome Region) → Holds HasBox storage →
    Holds HasBox (and_then storage limited)
limited-boxed (Fails fault) h = tt
limited-boxed (Gives storage) h = by (is_within_limit storage)
  where
    by : (b : Bool) → Holds HasBox (cond b (Gives storage) (Fails RegionLimit))
    by true = h
    by false = tt

storage-boxed : (known : Known) (borders : List Border) (region : Inner) → HasKept Ends known →
    Holds HasBox (storage_of known borders region)
storage-boxed known borders region h =
    by (inner_of known region) (inner-keeps Ends ends-kept known region h)
  where
    around : Region → Outcome Region
    around declared =
        widened known declared (hull declared) (shape_borders known borders region)

    by : (declared : Outcome Region) → Holds Ends declared →
        Holds HasBox (and_then declared (λ declared. and_then (around declared) limited))
    by (Fails fault) ends = tt
    by (Gives declared) ends =
        limited-boxed (around declared)
        (widened-boxed known declared (shape_borders known borders region) (hull declared) ends
        (hull-boxed declared ends))

each-storage : (known : Known) (borders : List Border) → HasKept Ends known →
    (arrays : List Shaped) →
    EachHolds HasBox (map (λ array. storage_of known borders array.region) arrays)
each-storage known borders h [] = tt
each-storage known borders h (first ∷ rest) =
    (storage-boxed known borders first.region h, each-storage known borders h rest)

each-box : (storages : List Region) → AllByRecursion HasBox storages →
    AllByRecursion (λ storage. All IsBoxed storage.dims) storages
each-box [] h = tt
each-box (first ∷ rest) h = (All-from_recursion IsBoxed first.dims h.0, each-box rest h.1)

pub bound-boxed : (program : Program) (settings : List Setting) (bound : Bound) →
    Binds program settings bound → All (λ storage. All IsBoxed storage.dims) bound.storages
bound-boxed program settings bound binds =
    All-from_recursion _ bound.storages
    (each-box bound.storages
    (recursion_from_All HasBox bound.storages
    (all-given HasBox (computed_storages program settings) bound.storages
    (each-storage (known_of program settings) (borders_of program)
    (known-kept Ends ends-kept program settings)
    (arrays_of program)) binds.storages)))
