-- What holds of regions over spans and is kept by each form holds of all declared regions.
use Rattle.std.proofs.Common.{◌≡◌, ℕ, zero, suc, ◌-◌, ℤ, pos, negsuc, neg_ℤ, ◌+ℤ◌, ◌-ℤ◌, ◌*ℤ◌, ◌≤ℤ◌, int_lt, Bool, true, false, cond, List, [], ◌∷◌, map, drop, replicate, length, All, refl, sym, ◌∙◌, ap, ap₂, arith}
use Rattle.std.specs.List.{AllByRecursion}
use Rattle.std.proofs.lemmas.Int.{ints}
use Rattle.std.proofs.lemmas.Nat.{mul-le}
use Rattle.std.proofs.lemmas.List.Elements.{All-from_recursion, recursion_from_All}
use Rattle.zpl_arrays.specs.of_zpl_region.declared.dims.Dim.{Dim}
use Rattle.zpl_arrays.specs.of_zpl_region.declared.dims.Dim.TheVariants.{Range, Flood}
use Rattle.zpl_arrays.specs.of_zpl_region.declared.regions.Region.{Region}
use Rattle.zpl_arrays.specs.of_zpl_region.Dim.{HasStep, dim_outside_of, dim_inside_of, dim_moved, dim_strided, least_or, greatest_or}
use Rattle.zpl_arrays.specs.of_zpl_region.Region.{IsPadded, components, each, formed, outside_of, inside_of, moved, strided, padding}
use Rattle.zpl_arrays.specs.of_zpl_region.Tests.{is_within_limit}
use Rattle.zpl_arrays.specs.of_zpl_region.Hull.{all_from}
use Rattle.zpl_tree.specs.Syntax.{Pre, NamedRegion, Ditto, Inner, Rexpr, Dims, Posts, NoPost, ThenPost, DimText, Blank, Star, One, Span, DimTexts, NoDim, ThenDim, Program}
use Rattle.zpl_binding.specs.Outcome.{RegionLimit, Outcome, Gives, Fails, and_then, outcome_of}
use Rattle.zpl_binding.specs.Settings.{Setting}
use Rattle.zpl_binding.specs.Constants.{value_of}
use Rattle.zpl_binding.specs.Vectors.{three_components, dir_of}
use Rattle.zpl_binding.specs.Regions.{Known, dims_of, region_over, limited, dim_of, each_dim_of, formed_by, no_region, before, behind, is_region_name, region_named, index_of, inner_of}
use Rattle.zpl_binding.specs.Declarations.{known_of}
use Rattle.zpl_binding.specs.Bound.{Bound, Binds, computed_regions, IsFormed}
use Rattle.zpl_binding.proofs.DeclarationLemmas.{known-keeps}
use Rattle.zpl_binding.proofs.LimitLemmas.{Holds, EachHolds, then-holds, holds-push, holds-found, all-given}

one-step : pos 1 ≤ℤ pos 1
one-step = omega (arith, ints)

abbrev pub HaveSteps : List Dim → Type 0
HaveSteps dims = AllByRecursion HasStep dims

pub record IsKept (P : Region → Type 0) : Type 0 where
  pub over : (dims : List Dim) → HaveSteps dims → P (region_over dims)
  pub outside : (d : List ℤ) (r : Region) → P r → P (outside_of d r)
  pub inside : (d : List ℤ) (r : Region) → P r → P (inside_of d r)
  pub moves : (d : List ℤ) (r : Region) → P r → P (moved d r)
  pub strides : (d : List ℤ) (r : Region) → P r → P (strided d r)

pub limited-keeps : (P : Region → Type 0) (r : Region) → P r → Holds P (limited r)
limited-keeps P r h = by (is_within_limit r)
  where
    by : (b : Bool) → Holds P (cond b (Gives r) (Fails RegionLimit))
    by true = h
    by false = tt

formed-keeps : (P : Region → Type 0) (form : List ℤ → Region → Region) →
    ((d : List ℤ) (r : Region) → P r → P (form d r)) → (vector : Outcome (List ℤ))
    (region : Outcome Region) → Holds P region → Holds P (formed_by form vector region)
formed-keeps P form keeps (Gives d) (Gives r) h = limited-keeps P (form d r) (keeps d r h)
formed-keeps P form keeps (Fails fault) (Gives r) h = tt
formed-keeps P form keeps vector (Fails fault) h = tt

behind-keeps : (P : Region → Type 0) → IsKept P → (known : Known) (posts : Posts)
    (region : Outcome Region) → Holds P region → Holds P (behind known region posts)
behind-keeps P kept known NoPost region h = h
behind-keeps P kept known (ThenPost true dir rest) region h =
    let vector = dir_of known.values known.directions dir in
    behind-keeps P kept known rest (formed_by strided vector region)
    (formed-keeps P strided kept.strides vector region h)
behind-keeps P kept known (ThenPost false dir rest) region h =
    let vector = dir_of known.values known.directions dir in
    behind-keeps P kept known rest (formed_by moved vector region)
    (formed-keeps P moved kept.moves vector region h)

before-keeps : (P : Region → Type 0) → IsKept P → (known : Known) (pre : List Pre)
    (region : Outcome Region) → Holds P region → Holds P (before known pre region)
before-keeps P kept known [] region h = h
before-keeps P kept known (pre ∷ rest) region h =
    by pre.outside (before-keeps P kept known rest region h)
  where
    vector : Outcome (List ℤ)
    vector = outcome_of (three_components []) known.directions pre.dir.text

    by : (b : Bool) → Holds P (before known rest region) →
        Holds P (formed_by (cond b outside_of inside_of) vector (before known rest region))
    by true h = formed-keeps P outside_of kept.outside vector (before known rest region) h
    by false h = formed-keeps P inside_of kept.inside vector (before known rest region) h

-- ---- spans

pub span-step : (known : Known) (dim : DimText) → Holds HasStep (dim_of known dim)
span-step known (Blank at) = one-step
span-step known (Star at) = tt
span-step known (One index) =
    then-holds HasStep (value_of known.values index) (λ value. Gives (all_from value value))
    (λ value. one-step)
span-step known (Span low high) =
    then-holds HasStep (value_of known.values low)
    (λ first. and_then (value_of known.values high) (λ last. Gives (all_from first last)))
    (λ first.
    then-holds HasStep (value_of known.values high) (λ last. Gives (all_from first last))
    (λ last. one-step))

spans-step : (known : Known) (dims : DimTexts) → Holds HaveSteps (each_dim_of known dims)
spans-step known NoDim = tt
spans-step known (ThenDim first rest) =
    by (dim_of known first) (each_dim_of known rest) (span-step known first)
    (spans-step known rest)
  where
    by : (dim : Outcome Dim) (dims : Outcome (List Dim)) → Holds HasStep dim →
        Holds HaveSteps dims →
        Holds HaveSteps (and_then dim (λ dim. and_then dims (λ dims. Gives (dim ∷ dims))))
    by (Gives dim) (Gives dims) h more = (h, more)
    by (Gives dim) (Fails fault) h more = tt
    by (Fails fault) dims h more = tt

over-keeps : (P : Region → Type 0) → IsKept P → (dims : Outcome (List Dim)) →
    Holds HaveSteps dims → Holds P (and_then dims (λ all. limited (region_over all)))
over-keeps P kept (Gives all) h = limited-keeps P (region_over all) (kept.over all h)
over-keeps P kept (Fails fault) h = tt

index-keeps : (P : Region → Type 0) → IsKept P → (value : Outcome ℤ) →
    Holds P (and_then value (λ value. limited (region_over (all_from value value ∷ []))))
index-keeps P kept (Gives value) =
    limited-keeps P (region_over (all_from value value ∷ []))
    (kept.over (all_from value value ∷ []) (one-step, tt))
index-keeps P kept (Fails fault) = tt

-- ---- declared regions

abbrev pub HasKept : (Region → Type 0) → Known → Type 0
HasKept P known = EachHolds P (map (λ one. one.outcome) known.regions)

nothing-keeps : (P : Region → Type 0) → IsKept P → P no_region
nothing-keeps P kept = kept.over (all_from (pos 1) (pos 0) ∷ []) (one-step, tt)

named-keeps : (P : Region → Type 0) → IsKept P → (known : Known) (text : List ℕ) →
    HasKept P known → Holds P (outcome_of no_region known.regions text)
named-keeps P kept known text h =
    holds-found P no_region text (nothing-keeps P kept) known.regions h

pub inner-keeps : (P : Region → Type 0) → IsKept P → (known : Known) (inner : Inner) →
    HasKept P known → Holds P (inner_of known inner)
inner-keeps P kept known (Rexpr [] (NamedRegion name) NoPost) h =
    by (is_region_name known name)
  where
    by : (b : Bool) → Holds P (cond b (region_named known name) (index_of known name))
    by true = named-keeps P kept known name.text h
    by false = index-keeps P kept (outcome_of (pos 0) known.values name.text)
inner-keeps P kept known (Rexpr [] (NamedRegion name) (ThenPost stride dir rest)) h =
    behind-keeps P kept known (ThenPost stride dir rest) (region_named known name)
    (named-keeps P kept known name.text h)
inner-keeps P kept known (Rexpr (pre ∷ more) (NamedRegion name) post) h =
    before-keeps P kept known (pre ∷ more) (behind known (region_named known name) post)
    (behind-keeps P kept known post (region_named known name)
    (named-keeps P kept known name.text h))
inner-keeps P kept known (Rexpr pre (Ditto at) post) h = nothing-keeps P kept
inner-keeps P kept known (Dims dims) h =
    over-keeps P kept (each_dim_of known dims) (spans-step known dims)

pub known-kept : (P : Region → Type 0) → IsKept P → (program : Program)
    (settings : List Setting) → HasKept P (known_of program settings)
known-kept P kept program settings =
    known-keeps (HasKept P) settings (λ known config h. h) (λ known constant h. h)
    (λ known region h.
    holds-push P known.regions _ h
    (behind-keeps P kept known region.posts (inner_of known region.body)
    (inner-keeps P kept known region.body h))) (λ known direction h. h) tt program

-- ---- the padding of a region, and its steps

abbrev pub KeepsDim : (ℤ → Dim → Dim) → Type 0
KeepsDim form =
    (form (pos 0) padding ≡ padding) ×
    ((d : ℤ) (dim : Dim) → HasStep dim → HasStep (form d dim))

pub steps-keep : (form : ℤ → Dim → Dim) → KeepsDim form → (v : List ℤ) (dims : List Dim) →
    HaveSteps dims → HaveSteps (each form v dims)
steps-keep form keeps [] dims h = h
steps-keep form keeps (d ∷ v) [] h = tt
steps-keep form keeps (d ∷ v) (dim ∷ dims) h =
    (keeps.1 d dim h.0, steps-keep form keeps v dims h.1)

past-padded : (form : ℤ → Dim → Dim) → KeepsDim form → (v : List ℤ) (count : ℕ) →
    each form (components zero v) (replicate count padding) ≡ replicate count padding
past-padded form keeps [] count = refl
past-padded form keeps (d ∷ v) zero = refl
past-padded form keeps (d ∷ v) (suc count) =
    ap₂ (λ dim dims. dim ∷ dims) keeps.0 (past-padded form keeps v count)

padding-kept : (form : ℤ → Dim → Dim) → KeepsDim form → (rank count : ℕ) (v : List ℤ)
    (dims : List Dim) → drop rank dims ≡ replicate count padding →
    drop rank (each form (components rank v) dims) ≡ replicate count padding
padding-kept form keeps zero count v dims h =
    ap (λ dims. each form (components zero v) dims) h ∙ past-padded form keeps v count
padding-kept form keeps (suc rank) count [] dims h = h
padding-kept form keeps (suc rank) count (d ∷ v) [] h = h
padding-kept form keeps (suc rank) count (d ∷ v) (dim ∷ dims) h =
    padding-kept form keeps rank count v dims h

padded : (count : ℕ) (dims : List Dim) →
    drop (length dims) (dims_of count dims) ≡ replicate (count - length dims) padding
padded zero [] = refl
padded zero (dim ∷ dims) =
    ap (λ n. replicate n padding) (sym (less (length dims)))
  where
    less : (n : ℕ) → 0 - suc n ≡ 0
    less n = omega arith
padded (suc count) [] =
    ap (λ dims. padding ∷ dims) (padded count [] ∙ ap (λ n. replicate n padding) (omega arith))
    ∙ ap (λ n. replicate n padding) (more count)
  where
    more : (n : ℕ) → suc n ≡ suc n - 0
    more n = omega arith
padded (suc count) (dim ∷ dims) =
    padded count dims ∙ ap (λ n. replicate n padding) (both count (length dims))
  where
    both : (m n : ℕ) → m - n ≡ suc m - suc n
    both m n = omega arith

steps-of : (count : ℕ) (dims : List Dim) → HaveSteps dims → HaveSteps (dims_of count dims)
steps-of zero dims h = tt
steps-of (suc count) [] h = (one-step, steps-of count [] h)
steps-of (suc count) (dim ∷ dims) h = (h.0, steps-of count dims h.1)

-- a choice between dimensions with this step has it
one-of : {X : Type 0} (P : X → Type 0) (b c : Bool) (x y z : X) → (b ≡ true → P x) →
    (c ≡ true → P y) → P z → P (cond b x (cond c y z))
one-of P true c x y z h k l = h refl
one-of P false true x y z h k l = k refl
one-of P false false x y z h k l = l

pub outside-dim : KeepsDim dim_outside_of
outside-dim = (refl, steps)
  where
    steps : (d : ℤ) (dim : Dim) → HasStep dim → HasStep (dim_outside_of d dim)
    steps d Flood h = tt
    steps d (Range lo hi step align) h =
        one-of HasStep (int_lt (pos 0) d) (int_lt d (pos 0))
        (Range (hi +ℤ pos 1) (hi +ℤ d) step align) (Range (lo +ℤ d) (lo -ℤ pos 1) step align)
        (Range lo hi step align) (λ less. h) (λ less. h) h

inside-dim : KeepsDim dim_inside_of
inside-dim = (refl, steps)
  where
    steps : (d : ℤ) (dim : Dim) → HasStep dim → HasStep (dim_inside_of d dim)
    steps d Flood h = tt
    steps d (Range lo hi step align) h =
        one-of HasStep (int_lt (pos 0) d) (int_lt d (pos 0))
        (Range ((hi -ℤ d) +ℤ pos 1) hi step align) (Range lo ((lo -ℤ d) -ℤ pos 1) step align)
        (Range lo hi step align) (λ less. h) (λ less. h) h

pub moved-dim : KeepsDim dim_moved
moved-dim = (refl, steps)
  where
    steps : (d : ℤ) (dim : Dim) → HasStep dim → HasStep (dim_moved d dim)
    steps d Flood h = tt
    steps d (Range lo hi step align) h = h

rises : (step size : ℤ) → pos 1 ≤ℤ step → pos 1 ≤ℤ size → pos 1 ≤ℤ (step *ℤ size)
rises (pos s) (pos n) h k =
    omega (arith, ints, mul-le 1 1 s n (omega (arith, ints)) (omega (arith, ints)))
rises (pos s) (negsuc n) h k = absurd (omega (arith, ints))
rises (negsuc s) size h k = absurd (omega (arith, ints))

above : (d : ℤ) → int_lt (pos 0) d ≡ true → pos 1 ≤ℤ d
above d h = grind (arith, ints)

below : (d : ℤ) → int_lt d (pos 0) ≡ true → pos 1 ≤ℤ neg_ℤ d
below d h = grind (arith, ints)

strided-dim : KeepsDim dim_strided
strided-dim = (refl, steps)
  where
    steps : (d : ℤ) (dim : Dim) → HasStep dim → HasStep (dim_strided d dim)
    steps d Flood h = tt
    steps d (Range lo hi step align) h =
        one-of HasStep (int_lt (pos 0) d) (int_lt d (pos 0))
        (Range lo hi (step *ℤ d) (least_or lo (Range lo hi step align)))
        (Range lo hi (step *ℤ neg_ℤ d) (greatest_or hi (Range lo hi step align)))
        (Range lo hi step align) (λ more. rises step d h (above d more))
        (λ less. rises step (neg_ℤ d) h (below d less)) h

-- ---- what is bound

abbrev pub Formed : Region → Type 0
Formed r = HaveSteps r.dims × IsPadded r.rank r.dims

pub formed-by : (form : ℤ → Dim → Dim) → KeepsDim form → (d : List ℤ) (r : Region) → Formed r →
    Formed (formed form d r)
formed-by form keeps d r h = (
  steps-keep form keeps (components r.rank d) r.dims h.0,
  padding-kept form keeps r.rank (3 - r.rank) d r.dims h.1,
)

pub formed-kept : IsKept Formed
formed-kept = record {
  over = λ dims h. (steps-of 3 dims h, padded 3 dims);
  outside = formed-by dim_outside_of outside-dim;
  inside = formed-by dim_inside_of inside-dim;
  moves = formed-by dim_moved moved-dim;
  strides = formed-by dim_strided strided-dim;
}

each-formed : (regions : List Region) → AllByRecursion Formed regions →
    AllByRecursion IsFormed regions
each-formed [] h = tt
each-formed (first ∷ rest) h = (
  record { steps = All-from_recursion HasStep first.dims h.0.0; padded = h.0.1 },
  each-formed rest h.1,
)

pub bound-formed : (program : Program) (settings : List Setting) (bound : Bound) →
    Binds program settings bound → All IsFormed bound.regions
bound-formed program settings bound binds =
    All-from_recursion IsFormed bound.regions
    (each-formed bound.regions
    (recursion_from_All Formed bound.regions
    (all-given Formed (computed_regions program settings) bound.regions
    (known-kept Formed formed-kept program settings) binds.regions)))
