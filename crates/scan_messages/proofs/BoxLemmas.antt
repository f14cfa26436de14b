-- Lines and their first tuples are what lies in boxes.
use Rattle.std.proofs.Common.{◌≡◌, ℕ, zero, suc, ◌-◌, ◌<◌, Bool, true, false, ◌&&◌, Some, None, List, [], ◌∷◌, All, map, drop, replicate, set, length, get_or, slice_get, ℤ, pos, ◌≤ℤ◌, refl, sym, ap, ◌∙◌, subst, arith}
use Rattle.std.specs.Prelude.{if◌then◌else◌}
use Rattle.std.specs.List.{AllZip, filter}
use Rattle.std.specs.Int.RustNames.{int_le}
use Rattle.std.specs.Ordering.{int_eq}
use Rattle.std.proofs.lemmas.Int.{ints}
use Rattle.std.proofs.lemmas.List.Elements.{All-cons, All-head, All-nil, All-set, All-tail}
use Rattle.zpl_region.specs.declared.dims.Dim.{Dim}
use Rattle.zpl_region.specs.declared.dims.Dim.TheVariants.{Range, Flood}
use Rattle.zpl_region.specs.declared.regions.Region.{Region}
use Rattle.zpl_region.specs.Dim.{HasStep, IsCoordinate, IsDim, IsUpTo, lies_within}
use Rattle.zpl_region.specs.Ends.{first_of, greatest_member, has_none, last_of, least_member}
use Rattle.zpl_region.specs.Progression.{is_between}
use Rattle.zpl_region.specs.Region.{HasReach, IsMember, IsRegion, components, each_lies_within, members, met, padding}
use Rattle.zpl_region.proofs.DimLemmas.{Among-coordinates}
use Rattle.zpl_region.proofs.EndLemmas.{between_ends, first_member, last_member}
use Rattle.zpl_region.proofs.HullLemmas.{has_steps}
use Rattle.zpl_region.proofs.LawLemmas.{members-met}
use Rattle.zpl_region.proofs.ListLemmas.{int_eq-true, test_from_le}
use Rattle.zpl_arrays.specs.Scan.{is_same_tuple}
use Rattle.grid_layout.proofs.PartLemmas.{filter_among}
use Rattle.scan_plan.specs.Line.{heads, is_along}
use Rattle.scan_plan.proofs.StepLemmas.{no_heads, no_members}
use Rattle.scan_plan.proofs.LineLemmas.{as_long}
use Rattle.scan_messages.specs.Line.{on_line}
use Rattle.scan_messages.proofs.LineLemmas.{among_member, first_test, heads_are_first, is_first, member_at}

-- ---- one coordinate
between_alone : (x y : ℤ) → is_between x x y ≡ int_eq y x
between_alone x y = grind (arith, ints)

between_true : (lo hi x : ℤ) → lo ≤ℤ x → x ≤ℤ hi → is_between lo hi x ≡ true
between_true lo hi x low high = ap (λ b. b && int_le x hi) (test_from_le lo x low) ∙ test_from_le x hi high

alone_within : (d : Dim) (x y : ℤ) → IsCoordinate d x → IsCoordinate d y → lies_within x x d y ≡ int_eq y x
alone_within Flood x y one other = sym (ap (int_eq y) (one ∙ sym other) ∙ int_eq-true y)
alone_within (Range lo hi step align) x y one other = between_alone x y

ends_within : (d : Dim) (x : ℤ) → HasStep d → IsCoordinate d x → lies_within (first_of d) (last_of d) d x ≡ true
ends_within Flood x step is = refl
ends_within (Range lo hi step align) x rises is =
    let ends = between_ends (Range lo hi step align) x rises (Among-coordinates (Range lo hi step align) x rises is) in
    between_true (first_of (Range lo hi step align)) (last_of (Range lo hi step align)) x ends.0 ends.1

first_within : (d : Dim) (x : ℤ) → IsCoordinate d x → lies_within (first_of d) (first_of d) d x ≡ int_eq (first_of d) x
first_within Flood x is = sym (ap (int_eq (pos 0)) is ∙ int_eq-true (pos 0))
first_within (Range lo hi step align) x is = by (first_of (Range lo hi step align))
  where
    by : (f : ℤ) → is_between f f x ≡ int_eq f x
    by f = grind (arith, ints)

-- past the rank
zero_coordinate : (x : ℤ) → IsCoordinate padding x → x ≡ pos 0
zero_coordinate x is =
    let low : pos 0 ≤ℤ x = is.0 in
    let high : x ≤ℤ pos 0 = is.1 in
    omega (arith, ints, low, high)

zero_within : (x : ℤ) → IsCoordinate padding x → lies_within (pos 0) (pos 0) padding x ≡ true
zero_within x is = ap (is_between (pos 0) (pos 0)) (zero_coordinate x is)

-- ---- boxes past the rank have all tuples
past_within : (n : ℕ) (dims : List Dim) (lo hi t : List ℤ) → dims ≡ replicate n padding → AllZip IsCoordinate dims t
    → each_lies_within (components zero lo) (components zero hi) dims t ≡ true
past_within n dims [] hi t pad z = refl
past_within n dims (l ∷ lo) [] t pad z = refl
past_within n [] (l ∷ lo) (h ∷ hi) [] pad z = refl
past_within n [] (l ∷ lo) (h ∷ hi) (x ∷ t) pad z = absurd z
past_within n (d ∷ dims) (l ∷ lo) (h ∷ hi) [] pad z = absurd z
past_within zero (d ∷ dims) (l ∷ lo) (h ∷ hi) (x ∷ t) pad z = cc
past_within (suc n) (d ∷ dims) (l ∷ lo) (h ∷ hi) (x ∷ t) pad z =
    let first : d ≡ padding = cc in
    let rest : dims ≡ replicate n padding = cc in
    ap (λ b. b && each_lies_within (components zero lo) (components zero hi) dims t)
    (ap (λ e. lies_within (pos 0) (pos 0) e x) first ∙ zero_within x (subst (λ e. IsCoordinate e x) first z.0))
    ∙ past_within n dims lo hi t rest z.1

past_same : (n : ℕ) (dims : List Dim) (h t : List ℤ) → dims ≡ replicate n padding → AllZip IsCoordinate dims h → AllZip IsCoordinate dims t
    → is_same_tuple h t ≡ true
past_same n [] [] [] pad y z = refl
past_same n [] [] (x ∷ t) pad y z = absurd z
past_same n [] (x ∷ h) t pad y z = absurd y
past_same n (d ∷ dims) [] t pad y z = absurd y
past_same n (d ∷ dims) (x ∷ h) [] pad y z = absurd z
past_same zero (d ∷ dims) (x ∷ h) (u ∷ t) pad y z = cc
past_same (suc n) (d ∷ dims) (x ∷ h) (u ∷ t) pad y z =
    let first : d ≡ padding = cc in
    let rest : dims ≡ replicate n padding = cc in
    let same : u ≡ x =
    zero_coordinate u (subst (λ e. IsCoordinate e u) first z.0) ∙ sym (zero_coordinate x (subst (λ e. IsCoordinate e x) first y.0)) in
    ap (λ b. b && is_same_tuple h t) (ap (λ v. int_eq v x) same ∙ int_eq-true x) ∙ past_same n dims h t rest y.1 z.1

-- ---- the box of one tuple, of a line, and of the first tuples
same_box : (rank n : ℕ) (dims : List Dim) (h t : List ℤ) → drop rank dims ≡ replicate n padding → AllZip IsCoordinate dims h → AllZip IsCoordinate dims t
    → each_lies_within (components rank h) (components rank h) dims t ≡ is_same_tuple h t
same_box zero n dims h t pad y z = past_within n dims h h t pad z ∙ sym (past_same n dims h t pad y z)
same_box (suc rank) n [] [] [] pad y z = refl
same_box (suc rank) n [] [] (x ∷ t) pad y z = absurd z
same_box (suc rank) n [] (x ∷ h) t pad y z = absurd y
same_box (suc rank) n (d ∷ dims) [] t pad y z = absurd y
same_box (suc rank) n (d ∷ dims) (x ∷ h) [] pad y z = absurd z
same_box (suc rank) n (d ∷ dims) (x ∷ h) (u ∷ t) pad y z =
    ap (λ b. b && each_lies_within (components rank h) (components rank h) dims t) (alone_within d x u y.0 z.0)
    ∙ ap (λ b. int_eq u x && b) (same_box rank n dims h t pad y.1 z.1)

line_box : (rank n k : ℕ) (dims : List Dim) (h t : List ℤ) → k < rank → k < length dims → All HasStep dims → drop rank dims ≡ replicate n padding
    → AllZip IsCoordinate dims h → AllZip IsCoordinate dims t
    → each_lies_within (components rank (set h k (get_or (map first_of dims) k (pos 0)))) (components rank (set h k (get_or (map last_of dims) k (pos 0)))) dims t ≡ is_along k h t
line_box zero n k dims h t low l steps pad y z = absurd (omega arith)
line_box (suc rank) n k [] h t low l steps pad y z = absurd (omega arith)
line_box (suc rank) n k (d ∷ dims) [] t low l steps pad y z = absurd y
line_box (suc rank) n k (d ∷ dims) (x ∷ h) [] low l steps pad y z = absurd z
line_box (suc rank) n zero (d ∷ dims) (x ∷ h) (u ∷ t) low l steps pad y z =
    ap (λ b. b && each_lies_within (components rank h) (components rank h) dims t) (ends_within d u (All-head HasStep d dims steps) z.0)
    ∙ same_box rank n dims h t pad y.1 z.1
line_box (suc rank) n (suc k) (d ∷ dims) (x ∷ h) (u ∷ t) low l steps pad y z =
    ap (λ b. b && each_lies_within (components rank (set h k (get_or (map first_of dims) k (pos 0)))) (components rank (set h k (get_or (map last_of dims) k (pos 0)))) dims t)
    (alone_within d x u y.0 z.0)
    ∙ ap (λ b. int_eq u x && b) (line_box rank n k dims h t (omega arith) (omega arith) (All-tail HasStep d dims steps) pad y.1 z.1)

whole_box : (rank n : ℕ) (dims : List Dim) (t : List ℤ) → All HasStep dims → drop rank dims ≡ replicate n padding → AllZip IsCoordinate dims t
    → each_lies_within (components rank (map first_of dims)) (components rank (map last_of dims)) dims t ≡ true
whole_box zero n dims t steps pad z = past_within n dims (map first_of dims) (map last_of dims) t pad z
whole_box (suc rank) n [] t steps pad z = refl
whole_box (suc rank) n (d ∷ dims) [] steps pad z = absurd z
whole_box (suc rank) n (d ∷ dims) (x ∷ t) steps pad z =
    ap (λ b. b && each_lies_within (components rank (map first_of dims)) (components rank (map last_of dims)) dims t)
    (ends_within d x (All-head HasStep d dims steps) z.0)
    ∙ whole_box rank n dims t (All-tail HasStep d dims steps) pad z.1

heads_box : (rank n k : ℕ) (dims : List Dim) (t : List ℤ) → k < rank → k < length dims → All HasStep dims → drop rank dims ≡ replicate n padding
    → AllZip IsCoordinate dims t
    → each_lies_within (components rank (map first_of dims)) (components rank (set (map last_of dims) k (get_or (map first_of dims) k (pos 0)))) dims t
    ≡ int_eq (first_of (get_or dims k Flood)) (get_or t k (pos 0))
heads_box zero n k dims t low l steps pad z = absurd (omega arith)
heads_box (suc rank) n k [] t low l steps pad z = absurd (omega arith)
heads_box (suc rank) n k (d ∷ dims) [] low l steps pad z = absurd z
heads_box (suc rank) n zero (d ∷ dims) (x ∷ t) low l steps pad z =
    ap (λ b. b && each_lies_within (components rank (map first_of dims)) (components rank (map last_of dims)) dims t) (first_within d x z.0)
    ∙ (ap (λ b. int_eq (first_of d) x && b) (whole_box rank n dims t (All-tail HasStep d dims steps) pad z.1) ∙ and_true (int_eq (first_of d) x))
  where
    and_true : (b : Bool) → (b && true) ≡ b
    and_true true = refl
    and_true false = refl
heads_box (suc rank) n (suc k) (d ∷ dims) (x ∷ t) low l steps pad z =
    ap (λ b. b && each_lies_within (components rank (map first_of dims)) (components rank (set (map last_of dims) k (get_or (map first_of dims) k (pos 0)))) dims t)
    (ends_within d x (All-head HasStep d dims steps) z.0)
    ∙ heads_box rank n k dims t (omega arith) (omega arith) (All-tail HasStep d dims steps) pad z.1

-- ---- reach
near : (d : Dim) (x : ℤ) → IsDim d → IsCoordinate d x → IsUpTo 40 x
near Flood x is there = (omega (arith, ints, there), omega (arith, ints, there))
near (Range lo hi step align) x is there = let bounds = is.1 in (omega (arith, ints, bounds, there), omega (arith, ints, bounds, there))

all_near : (dims : List Dim) (t : List ℤ) → All IsDim dims → AllZip IsCoordinate dims t → All (IsUpTo 40) t
all_near [] [] all z = All-nil (IsUpTo 40)
all_near [] (x ∷ t) all z = absurd z
all_near (d ∷ dims) [] all z = absurd z
all_near (d ∷ dims) (x ∷ t) all z =
    All-cons (IsUpTo 40) x t (near d x (All-head IsDim d dims all) z.0) (all_near dims t (All-tail IsDim d dims all) z.1)

near_at : (t : List ℤ) (k : ℕ) → All (IsUpTo 40) t → IsUpTo 40 (get_or t k (pos 0))
near_at [] k all = (omega (arith, ints), omega (arith, ints))
near_at (x ∷ t) zero all = All-head (IsUpTo 40) x t all
near_at (x ∷ t) (suc k) all = near_at t k (All-tail (IsUpTo 40) x t all)

reach : (lo hi : List ℤ) → All (IsUpTo 40) lo → All (IsUpTo 40) hi → HasReach lo hi
reach lo hi low high = (λ i d here. (low i d here).1, λ i d here. (high i d here).0)

-- ---- for the code
module _ (part : Region) (is : IsRegion part) where
  steps : All HasStep part.dims
  steps = has_steps part.dims is.dims

  pub least_is : (least : List ℤ) → least_member part ≡ Some least → (least ≡ map first_of part.dims) × IsMember part least
  least_is least e = (by (has_none part) e, member_at part 0 least steps (first_member part steps ∙ e))
    where
      by : (b : Bool) → (if b then None else Some (map first_of part.dims)) ≡ Some least → least ≡ map first_of part.dims
      by true f = cc
      by false f = let same : map first_of part.dims ≡ least = cc in sym same

  pub greatest_is : (greatest : List ℤ) → greatest_member part ≡ Some greatest → (greatest ≡ map last_of part.dims) × IsMember part greatest
  greatest_is greatest e = (by (has_none part) e, member_at part (length (members part) - 1) greatest steps (last_member part steps ∙ e))
    where
      by : (b : Bool) → (if b then None else Some (map last_of part.dims)) ≡ Some greatest → greatest ≡ map last_of part.dims
      by true f = cc
      by false f = let same : map last_of part.dims ≡ greatest = cc in sym same

  pub none_least : least_member part ≡ None → length (members part) ≡ 0
  none_least e = by (members part) (first_member part steps ∙ e)
    where
      by : (ts : List (List ℤ)) → slice_get ts 0 ≡ None → length ts ≡ 0
      by [] f = refl
      by (t ∷ ts) f = cc

  pub none_greatest : greatest_member part ≡ None → length (members part) ≡ 0
  none_greatest e = by (has_none part) e
    where
      by : (b : Bool) → (if b then None else Some (map last_of part.dims)) ≡ None → length (members part) ≡ 0
      by true f = none_least (no_least (has_none part) refl)
        where
          no_least : (c : Bool) → has_none part ≡ c → least_member part ≡ None
          no_least true g = ap (λ b. if b then None else Some (map first_of part.dims)) g
          no_least false g = absurd (let both : (if has_none part then None else Some (map last_of part.dims)) ≡ None = e in cc)
      by false f = cc

  pub no_lines : (k : ℕ) → length (members part) ≡ 0 → members part ≡ members (heads k part)
  no_lines k none = no_members part none ∙ sym (no_heads k part is none)

  pub no_line : (k : ℕ) (h : List ℤ) → length (members part) ≡ 0 → members part ≡ on_line k part h
  no_line k h none = no_members part none ∙ sym (ap (filter (is_along k h)) (no_members part none))

  module _ (k : ℕ) (low : k < part.rank) (l : k < length part.dims) (least greatest : List ℤ)
      (first : least_member part ≡ Some least) (last : greatest_member part ≡ Some greatest) where
    pub heads_met : (hi : List ℤ) → hi ≡ set greatest k (get_or least k (pos 0)) → members (met least hi part) ≡ members (heads k part)
    heads_met hi same =
        ap (λ h. members (met least h part)) (same ∙ (ap (λ g. set g k (get_or least k (pos 0))) (greatest_is greatest last).0 ∙ ap (λ f. set (map last_of part.dims) k (get_or f k (pos 0))) (least_is least first).0))
        ∙ (ap (λ f. members (met f (set (map last_of part.dims) k (get_or (map first_of part.dims) k (pos 0))) part)) (least_is least first).0
        ∙ (members-met part (map first_of part.dims) (set (map last_of part.dims) k (get_or (map first_of part.dims) k (pos 0)))
        ∙ (filter_among _ (is_first k (first_of (get_or part.dims k Flood))) (members part)
        (λ t m.
        let here = among_member part t steps m in
        heads_box part.rank (3 - part.rank) k part.dims t low l steps is.padded here
        ∙ sym (first_test k (first_of (get_or part.dims k Flood)) t (omega (arith, l, as_long part.dims t here))))
        ∙ sym (heads_are_first k part l steps))))

    pub heads_reach : (hi : List ℤ) → hi ≡ set greatest k (get_or least k (pos 0)) → HasReach least hi
    heads_reach hi same =
        let near_least = all_near part.dims least is.dims (least_is least first).1 in
        reach least hi near_least
        (subst (All (IsUpTo 40)) (sym same)
        (All-set (IsUpTo 40) greatest k (get_or least k (pos 0)) (near_at least k near_least) (all_near part.dims greatest is.dims (greatest_is greatest last).1)))

    pub line_met : (h lo hi : List ℤ) → IsMember part h → lo ≡ set h k (get_or least k (pos 0)) → hi ≡ set h k (get_or greatest k (pos 0))
        → members (met lo hi part) ≡ on_line k part h
    line_met h lo hi h_is low_is high_is =
        ap (λ f. members (met f hi part)) (low_is ∙ ap (λ f. set h k (get_or f k (pos 0))) (least_is least first).0)
        ∙ (ap (λ g. members (met (set h k (get_or (map first_of part.dims) k (pos 0))) g part)) (high_is ∙ ap (λ g. set h k (get_or g k (pos 0))) (greatest_is greatest last).0)
        ∙ (members-met part (set h k (get_or (map first_of part.dims) k (pos 0))) (set h k (get_or (map last_of part.dims) k (pos 0)))
        ∙ filter_among _ (is_along k h) (members part)
        (λ t m. line_box part.rank (3 - part.rank) k part.dims h t low l steps is.padded h_is (among_member part t steps m))))

    pub line_reach : (h lo hi : List ℤ) → IsMember part h → lo ≡ set h k (get_or least k (pos 0)) → hi ≡ set h k (get_or greatest k (pos 0))
        → HasReach lo hi
    line_reach h lo hi h_is low_is high_is =
        let near_h = all_near part.dims h is.dims h_is in
        reach lo hi
        (subst (All (IsUpTo 40)) (sym low_is) (All-set (IsUpTo 40) h k (get_or least k (pos 0)) (near_at least k (all_near part.dims least is.dims (least_is least first).1)) near_h))
        (subst (All (IsUpTo 40)) (sym high_is) (All-set (IsUpTo 40) h k (get_or greatest k (pos 0)) (near_at greatest k (all_near part.dims greatest is.dims (greatest_is greatest last).1)) near_h))
