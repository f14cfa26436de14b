-- The fringe of a stored array: the greatest shifts downward and upward, dimension by dimension.
use Rattle.std.proofs.Common.{◌≡◌, refl, sym, ap, ◌∙◌, arith, ℕ, zero, suc, ◌+◌, Bool, true, false, ℤ, pos, List, [], ◌∷◌, ◌++◌, map, length, drop}
use Rattle.std.specs.Prelude.{◌≤ℤ◌, ◌≤◌, ◌==◌, ◌&&◌, not, cond, filter, flat_map, fold, neg_ℤ, sum_by}
use Rattle.std.specs.List.{AllByRecursion}
use Rattle.std.specs.Int.{int_max}
use Rattle.std.proofs.lemmas.Int.{ints, clamps}
use Rattle.std.proofs.lemmas.Bool.{eqb-true}
use Rattle.std.specs.Bool.{Decides}
use Rattle.std.specs.Ordering.{int_eq}
use Rattle.std.proofs.lemmas.Bool.Decides.{Decides-int_eq}
use Rattle.std.proofs.lemmas.List.Sums.{sum_by-cons}
use Rattle.zpl_region.specs.declared.dims.Dim.{Dim}
use Rattle.zpl_region.specs.declared.dims.Dim.TheVariants as dim
use Rattle.zpl_region.specs.declared.regions.Region.{Region}
use Rattle.node_form.specs.declared.arrays.ArrayDim.{ArrayDim}
use Rattle.node_form.specs.Fits.{IsRank}
use Rattle.grid_layout.specs.declared.boxes.ArrayBox.{ArrayBox}
use Rattle.grid_meaning.specs.Stored.{box_of, width_above, width_below}
use Rattle.zpl_lowering.specs.Reference.{dim_shift, is_unmoved, vector_over}
use Rattle.zpl_lowering.specs.Hoist.{Shifted}
use Rattle.zpl_lowering.specs.Tables.{Fringe, all_wider, no_fringe, stored_dim, stored_dims, stored_row, wider, widened}
use Rattle.lowered_flat.specs.of_lowering_fits.Storages.{IsStorage}
use Rattle.lowered_flat.proofs.of_lowering_fits.ArrayLemmas.{row_storage}
use Rattle.zpl_claims.specs.Boxes.{along, box_read, greatest, negated}
use Rattle.stored_boxes.specs.Noted.{AreVectors, noted}
use Rattle.stored_boxes.proofs.GreatestLemmas.{AllSame, most, most_none, most_same, same_most}

-- ---- components
abbrev part : ℕ → List ℤ → ℤ
part k [] = pos 0
part zero (d ∷ v) = d
part (suc k) (d ∷ v) = part k v

abbrev down : ℕ → List ℤ → ℤ
down k v = neg_ℤ (part k v)

abbrev AllThree : List (List ℤ) → Type 0
AllThree [] = Unit {0}
AllThree (v ∷ vs) = (length v ≡ 3) × AllThree vs

-- three components, which may be taken apart
three_of : (P : List ℤ → Type 0) → ((a b c : ℤ) → P (a ∷ b ∷ c ∷ [])) → (v : List ℤ) →
    length v ≡ 3 → P v
three_of P each [] three = let no : ⊥ = omega (arith, three) in absurd no
three_of P each (a ∷ []) three = let no : ⊥ = omega (arith, three) in absurd no
three_of P each (a ∷ b ∷ []) three = let no : ⊥ = omega (arith, three) in absurd no
three_of P each (a ∷ b ∷ c ∷ []) three = each a b c
three_of P each (a ∷ b ∷ c ∷ d ∷ v) three = let no : ⊥ = omega (arith, three) in absurd no

-- ---- what is noted has three components too
abbrev odd_length : List ℤ → ℕ
odd_length v = cond (length v == 3) 0 1

over_three : (rank : ℕ) (x y z : Dim) (v : List ℤ) → length v ≡ 3 →
    length (vector_over (record { rank = rank; dims = x ∷ y ∷ z ∷ [] }) v) ≡ 3
over_three rank x y z =
    three_of (λ v. length (vector_over (record { rank = rank; dims = x ∷ y ∷ z ∷ [] }) v) ≡ 3)
    (λ a b c. refl)

all_three : (vs : List (List ℤ)) → sum_by odd_length vs ≡ 0 → AllThree vs
all_three [] none = tt
all_three (v ∷ vs) none =
    by (length v == 3) (eqb-true (length v) 3) (sum_by-cons odd_length v vs) (all_three vs)
  where
    by : (b : Bool) → (b ≡ true → length v ≡ 3) →
        sum_by odd_length (v ∷ vs) ≡ cond b 0 1 + sum_by odd_length vs →
        (sum_by odd_length vs ≡ 0 → AllThree vs) → (length v ≡ 3) × AllThree vs
    by true is sums rest = (is refl, rest (omega (arith, sums, none)))
    by false is sums rest = let no : ⊥ = omega (arith, sums, none) in absurd no

-- ---- the greatest of what is noted
module _ (rank : ℕ) (x y z : Dim) where
  abbrev storage : Region
  storage = record { rank = rank; dims = x ∷ y ∷ z ∷ [] }

  noted_odd : (vectors : List (List ℤ)) → AreVectors rank vectors →
      sum_by odd_length (flat_map (noted storage) vectors) ≡ 0
  noted_odd [] are = refl
  noted_odd (v ∷ vs) are =
      by (is_unmoved (vector_over storage v)) (over_three rank x y z v are.0.0) (noted_odd vs are.1)
    where
      by : (b : Bool) → length (vector_over storage v) ≡ 3 →
          sum_by odd_length (flat_map (noted storage) vs) ≡ 0 →
          sum_by odd_length (cond b [] (vector_over storage v ∷ [])
          ++ flat_map (noted storage) vs) ≡ 0
      by true three rest = rest
      by false three rest =
          omega (
            arith,
            sum_by-cons odd_length (vector_over storage v) (flat_map (noted storage) vs),
            ap (λ n. cond {A = ℕ} (n == 3) 0 1) three,
            rest,
          )

  -- a vector that moves nothing has no component
  module _ (g : List ℤ → ℤ) (still : (v : List ℤ) → length v ≡ 3 → is_unmoved v ≡ true → g v ≡ pos 0)
    where
      most_noted : (start : ℤ) → pos 0 ≤ℤ start → (vectors : List (List ℤ)) →
          AreVectors rank vectors →
          most g start (flat_map (noted storage) vectors)
          ≡ most (λ v. g (vector_over storage v)) start vectors
      most_noted start above [] are = refl
      most_noted start above (v ∷ vs) are =
          by (is_unmoved (vector_over storage v)) refl
          (λ next more. most_noted next more vs are.1)
        where
          by : (b : Bool) → is_unmoved (vector_over storage v) ≡ b →
              ((next : ℤ) → pos 0 ≤ℤ next → most g next (flat_map (noted storage) vs)
              ≡ most (λ v. g (vector_over storage v)) next vs) →
              most g start (cond b [] (vector_over storage v ∷ []) ++ flat_map (noted storage) vs)
              ≡ most (λ v. g (vector_over storage v)) (int_max start (g (vector_over storage v))) vs
          by true is rest =
              let none = still (vector_over storage v) (over_three rank x y z v are.0.0) is in
              let same : int_max start (g (vector_over storage v)) ≡ start =
              omega (arith, ints, clamps, none, above) in
              rest start above
              ∙ ap (λ next. most (λ v. g (vector_over storage v)) next vs) (sym same)
          by false is rest =
              rest (int_max start (g (vector_over storage v))) (omega (arith, ints, clamps, above))

-- ---- what is noted of a list of shifts
part_still : (k : ℕ) (v : List ℤ) → is_unmoved v ≡ true → part k v ≡ pos 0
part_still k [] e = refl
part_still zero (d ∷ v) e = by (int_eq d (pos 0)) (Decides-int_eq d (pos 0)) e
  where
    by : (b : Bool) → Decides b (d ≡ pos 0) → (not (not b) && is_unmoved v) ≡ true → d ≡ pos 0
    by true same e = same.0 refl
    by false same e = cc
part_still (suc k) (d ∷ v) e = part_still k v (by (int_eq d (pos 0)) e)
  where
    by : (b : Bool) → (not (not b) && is_unmoved v) ≡ true → is_unmoved v ≡ true
    by true e = e
    by false e = cc

-- ---- fringes, from the shifts that are noted of an array
abbrev fringe_with : Fringe → ℕ → List Shifted → Fringe
fringe_with start k shifts = record {
  low = most (down k) start.low (map (λ one. one.shift) shifts);
  high = most (part k) start.high (map (λ one. one.shift) shifts);
}

wide_is : (f g h : Fringe) (v : List ℤ) → length v ≡ 3 →
    all_wider (f ∷ g ∷ h ∷ []) v
    ≡ wider f (part 0 v) ∷ wider g (part 1 v) ∷ wider h (part 2 v) ∷ []
wide_is f g h =
    three_of (λ v. all_wider (f ∷ g ∷ h ∷ []) v
    ≡ wider f (part 0 v) ∷ wider g (part 1 v) ∷ wider h (part 2 v) ∷ []) (λ a b c. refl)

widened_is : (f g h : Fringe) (shifts : List Shifted) → AllThree (map (λ one. one.shift) shifts) →
    widened (f ∷ g ∷ h ∷ []) shifts
    ≡ fringe_with f 0 shifts ∷ fringe_with g 1 shifts ∷ fringe_with h 2 shifts ∷ []
widened_is f g h [] three = refl
widened_is f g h (one ∷ rest) three =
    ap (λ fringes. widened fringes rest) (wide_is f g h one.shift three.0)
    ∙ widened_is (wider f (part 0 one.shift)) (wider g (part 1 one.shift))
    (wider h (part 2 one.shift)) rest three.1

-- ---- the box of a storage
greatest_is : (a b c : ℤ) (w : List ℤ) → length w ≡ 3 →
    greatest (a ∷ b ∷ c ∷ []) w
    ≡ int_max a (part 0 w) ∷ int_max b (part 1 w) ∷ int_max c (part 2 w) ∷ []
greatest_is a b c =
    three_of (λ w. greatest (a ∷ b ∷ c ∷ []) w
    ≡ int_max a (part 0 w) ∷ int_max b (part 1 w) ∷ int_max c (part 2 w) ∷ []) (λ x y z. refl)

fold_is : (h : List ℤ → List ℤ) (a b c : ℤ) (vectors : List (List ℤ)) →
    AllThree (map h vectors) →
    fold (λ far v. greatest far (h v)) (a ∷ b ∷ c ∷ []) vectors
    ≡ most (λ v. part 0 (h v)) a vectors ∷ most (λ v. part 1 (h v)) b vectors
    ∷ most (λ v. part 2 (h v)) c vectors ∷ []
fold_is h a b c [] three = refl
fold_is h a b c (v ∷ vs) three =
    ap (λ far. fold (λ far v. greatest far (h v)) far vs) (greatest_is a b c (h v) three.0)
    ∙ fold_is h (int_max a (part 0 (h v))) (int_max b (part 1 (h v))) (int_max c (part 2 (h v))) vs
    three.1

along_step : (d : Dim) (dims : List Dim) (p : ℤ) (w : List ℤ) →
    along (d ∷ dims) (p ∷ w) ≡ dim_shift d p ∷ along dims w
along_step (dim.Range lo hi step align) dims p w = refl
along_step dim.Flood dims p w = refl

shift_down : (d : Dim) (p : ℤ) → dim_shift d (neg_ℤ p) ≡ neg_ℤ (dim_shift d p)
shift_down (dim.Range lo hi step align) p = refl
shift_down dim.Flood p = refl

no_shift : (d : Dim) → dim_shift d (pos 0) ≡ pos 0
no_shift (dim.Range lo hi step align) = refl
no_shift dim.Flood = refl

zero_past : (k : ℕ) (v : List ℤ) → AllByRecursion (λ part. part ≡ pos 0) v → part k v ≡ pos 0
zero_past k [] all = refl
zero_past zero (d ∷ v) all = all.0
zero_past (suc k) (d ∷ v) all = zero_past k v all.1

past : (r k : ℕ) (v : List ℤ) → r ≤ k → AllByRecursion (λ part. part ≡ pos 0) (drop r v) →
    part k v ≡ pos 0
past zero k v below all = zero_past k v all
past (suc r) k [] below all = refl
past (suc r) zero (d ∷ v) below all = let no : ⊥ = omega (arith, below) in absurd no
past (suc r) (suc k) (d ∷ v) below all = past r k v (omega (arith, below)) all

list_of_three : (a b c x y z : ℤ) → a ≡ x → b ≡ y → c ≡ z → a ∷ b ∷ c ∷ [] ≡ x ∷ y ∷ z ∷ []
list_of_three a b c x y z e f g = cc

module _ (rank : ℕ) (x y z : Dim) where
  abbrev dims : List Dim
  dims = x ∷ y ∷ z ∷ []

  abbrev over : List ℤ → List ℤ
  over v = vector_over (record { rank = rank; dims = dims }) v

  along_is : (v : List ℤ) → length v ≡ 3 → along dims v ≡ over v
  along_is = three_of (λ v. along dims v ≡ over v)
      (λ a b c. along_step x (y ∷ z ∷ []) a (b ∷ c ∷ [])
      ∙ ap (λ rest. dim_shift x a ∷ rest) (along_step y (z ∷ []) b (c ∷ [])
      ∙ ap (λ rest. dim_shift y b ∷ rest) (along_step z [] c [])))

  along_down : (v : List ℤ) → length v ≡ 3 → along dims (negated v) ≡ map neg_ℤ (over v)
  along_down = three_of (λ v. along dims (negated v) ≡ map neg_ℤ (over v))
      (λ a b c. along_step x (y ∷ z ∷ []) (neg_ℤ a) (neg_ℤ b ∷ neg_ℤ c ∷ [])
      ∙ ap (λ rest. dim_shift x (neg_ℤ a) ∷ rest) (along_step y (z ∷ []) (neg_ℤ b) (neg_ℤ c ∷ [])
      ∙ ap (λ rest. dim_shift y (neg_ℤ b) ∷ rest) (along_step z [] (neg_ℤ c) []))
      ∙ list_of_three _ _ _ _ _ _ (shift_down x a) (shift_down y b) (shift_down z c))

  part_down : (k : ℕ) (v : List ℤ) → part k (map neg_ℤ v) ≡ down k v
  part_down k [] = refl
  part_down zero (d ∷ v) = refl
  part_down (suc k) (d ∷ v) = part_down k v

  over_has_three : (v : List ℤ) → length v ≡ 3 → length (over v) ≡ 3
  over_has_three = three_of (λ v. length (over v) ≡ 3) (λ a b c. refl)

  down_has_three : (v : List ℤ) → length v ≡ 3 → length (map neg_ℤ (over v)) ≡ 3
  down_has_three = three_of (λ v. length (map neg_ℤ (over v)) ≡ 3) (λ a b c. refl)

  module _ (vectors : List (List ℤ)) (are : AreVectors rank vectors) where
    all_along : (vs : List (List ℤ)) → AreVectors rank vs → AllThree (map (along dims) vs)
    all_along [] are = tt
    all_along (v ∷ vs) are =
        (ap length (along_is v are.0.0) ∙ over_has_three v are.0.0, all_along vs are.1)

    all_down : (vs : List (List ℤ)) → AreVectors rank vs →
        AllThree (map (λ v. along dims (negated v)) vs)
    all_down [] are = tt
    all_down (v ∷ vs) are =
        (ap length (along_down v are.0.0) ∙ down_has_three v are.0.0, all_down vs are.1)

    high_same : (k : ℕ) (vs : List (List ℤ)) → AreVectors rank vs →
        AllSame (λ v. part k (along dims v)) (λ v. part k (over v)) vs
    high_same k [] are = tt
    high_same k (v ∷ vs) are = (ap (part k) (along_is v are.0.0), high_same k vs are.1)

    low_same : (k : ℕ) (vs : List (List ℤ)) → AreVectors rank vs →
        AllSame (λ v. part k (along dims (negated v))) (λ v. down k (over v)) vs
    low_same k [] are = tt
    low_same k (v ∷ vs) are =
        (ap (part k) (along_down v are.0.0) ∙ part_down k (over v), low_same k vs are.1)

    abbrev none_at : ℕ → Type 0
    none_at k = AllSame (λ v. part k (over v)) (λ v. pos 0) vectors

    fallen : (k : ℕ) (vs : List (List ℤ)) → AllSame (λ v. part k (over v)) (λ v. pos 0) vs →
        AllSame (λ v. down k (over v)) (λ v. pos 0) vs
    fallen k [] none = tt
    fallen k (v ∷ vs) none = (ap neg_ℤ none.0, fallen k vs none.1)

    -- the shifts that are noted of the array
    module _ (shifts : List Shifted)
        (same : (f : List ℤ → ℕ) → sum_by f (map (λ one. one.shift) shifts)
        ≡ sum_by f (flat_map (noted (record { rank = rank; dims = dims })) vectors)) where
      abbrev xs : List (List ℤ)
      xs = map (λ one. one.shift) shifts

      three : AllThree xs
      three = all_three xs (same odd_length ∙ noted_odd rank x y z vectors are)

      high_is : (k : ℕ) → most (part k) (pos 0) xs ≡ most (λ v. part k (over v)) (pos 0) vectors
      high_is k =
          same_most (part k) xs (flat_map (noted (record { rank = rank; dims = dims })) vectors) same
          ∙ most_noted rank x y z (part k) (λ v three e. part_still k v e) (pos 0) (omega (arith, ints))
          vectors are

      low_is : (k : ℕ) → most (down k) (pos 0) xs ≡ most (λ v. down k (over v)) (pos 0) vectors
      low_is k =
          same_most (down k) xs (flat_map (noted (record { rank = rank; dims = dims })) vectors) same
          ∙ most_noted rank x y z (down k) (λ v three e. ap neg_ℤ (part_still k v e)) (pos 0)
          (omega (arith, ints)) vectors are

      abbrev fringe : ℕ → Fringe
      fringe k = fringe_with no_fringe k shifts

      abbrev IsNone : ℕ → Type 0
      IsNone k = ((fringe k).low ≡ pos 0) × ((fringe k).high ≡ pos 0)

      none_is : (k : ℕ) → none_at k → IsNone k
      none_is k none = (
        low_is k
            ∙ most_same (λ v. down k (over v)) (λ v. pos 0) (pos 0) vectors (fallen k vectors none)
            ∙ most_none (pos 0) (omega (arith, ints)) vectors,
        high_is k
            ∙ most_same (λ v. part k (over v)) (λ v. pos 0) (pos 0) vectors none
            ∙ most_none (pos 0) (omega (arith, ints)) vectors,
      )

      wide_low : (d : Dim) (f : Fringe) → (d ≡ dim.Flood → (f.low ≡ pos 0) × (f.high ≡ pos 0)) →
          width_below (stored_dim d f) ≡ f.low
      wide_low (dim.Range lo hi step align) f none = refl
      wide_low dim.Flood f none = sym (none refl).0

      wide_high : (d : Dim) (f : Fringe) → (d ≡ dim.Flood → (f.low ≡ pos 0) × (f.high ≡ pos 0)) →
          width_above (stored_dim d f) ≡ f.high
      wide_high (dim.Range lo hi step align) f none = refl
      wide_high dim.Flood f none = sym (none refl).1

      abbrev AreWide : List ArrayDim → Type 0
      AreWide all =
          (map width_below all ≡ (fringe 0).low ∷ (fringe 1).low ∷ (fringe 2).low ∷ [])
          × (map width_above all ≡ (fringe 0).high ∷ (fringe 1).high ∷ (fringe 2).high ∷ [])

      widths : (x ≡ dim.Flood → IsNone 0) → (y ≡ dim.Flood → IsNone 1) →
          (z ≡ dim.Flood → IsNone 2) → (r : ℕ) → (1 ≤ r) × (r ≤ 3) → (r ≤ 1 → IsNone 1) →
          (r ≤ 2 → IsNone 2) →
          AreWide (stored_dims r dims (fringe 0 ∷ fringe 1 ∷ fringe 2 ∷ []))
      widths a b c zero is one two = let no : ⊥ = omega (arith, is.0) in absurd no
      widths a b c (suc zero) is one two =
          let p = one (omega arith) in
          let q = two (omega arith) in (
            list_of_three _ _ _ _ _ _ (wide_low x (fringe 0) a) (sym p.0) (sym q.0),
            list_of_three _ _ _ _ _ _ (wide_high x (fringe 0) a) (sym p.1) (sym q.1),
          )
      widths a b c (suc (suc zero)) is one two =
          let q = two (omega arith) in (
            list_of_three _ _ _ _ _ _ (wide_low x (fringe 0) a) (wide_low y (fringe 1) b) (sym q.0),
            list_of_three _ _ _ _ _ _ (wide_high x (fringe 0) a) (wide_high y (fringe 1) b) (sym q.1),
          )
      widths a b c (suc (suc (suc zero))) is one two = (
        list_of_three _ _ _ _ _ _ (wide_low x (fringe 0) a) (wide_low y (fringe 1) b)
            (wide_low z (fringe 2) c),
        list_of_three _ _ _ _ _ _ (wide_high x (fringe 0) a) (wide_high y (fringe 1) b)
            (wide_high z (fringe 2) c),
      )
      widths a b c (suc (suc (suc (suc r)))) is one two = let no : ⊥ = omega (arith, is.1) in absurd no

      flood_first : x ≡ dim.Flood → (vs : List (List ℤ)) → AreVectors rank vs →
          AllSame (λ v. part 0 (over v)) (λ v. pos 0) vs
      flood_first e [] are = tt
      flood_first e (v ∷ vs) are = (
        three_of (λ v. part 0 (over v) ≡ pos 0) (λ a b c. ap (λ d. dim_shift d a) e) v are.0.0,
        flood_first e vs are.1,
      )

      flood_second : y ≡ dim.Flood → (vs : List (List ℤ)) → AreVectors rank vs →
          AllSame (λ v. part 1 (over v)) (λ v. pos 0) vs
      flood_second e [] are = tt
      flood_second e (v ∷ vs) are = (
        three_of (λ v. part 1 (over v) ≡ pos 0) (λ a b c. ap (λ d. dim_shift d b) e) v are.0.0,
        flood_second e vs are.1,
      )

      flood_third : z ≡ dim.Flood → (vs : List (List ℤ)) → AreVectors rank vs →
          AllSame (λ v. part 2 (over v)) (λ v. pos 0) vs
      flood_third e [] are = tt
      flood_third e (v ∷ vs) are = (
        three_of (λ v. part 2 (over v) ≡ pos 0) (λ a b c. ap (λ d. dim_shift d c) e) v are.0.0,
        flood_third e vs are.1,
      )

      past_second : rank ≤ 1 → (vs : List (List ℤ)) → AreVectors rank vs →
          AllSame (λ v. part 1 (over v)) (λ v. pos 0) vs
      past_second below [] are = tt
      past_second below (v ∷ vs) are = (
        three_of (λ v. part 1 v ≡ pos 0 → part 1 (over v) ≡ pos 0)
            (λ a b c e. ap (λ n. dim_shift y n) e ∙ no_shift y) v are.0.0
            (past rank 1 v below are.0.1),
        past_second below vs are.1,
      )

      past_third : rank ≤ 2 → (vs : List (List ℤ)) → AreVectors rank vs →
          AllSame (λ v. part 2 (over v)) (λ v. pos 0) vs
      past_third below [] are = tt
      past_third below (v ∷ vs) are = (
        three_of (λ v. part 2 v ≡ pos 0 → part 2 (over v) ≡ pos 0)
            (λ a b c e. ap (λ n. dim_shift z n) e ∙ no_shift z) v are.0.0
            (past rank 2 v below are.0.1),
        past_third below vs are.1,
      )

      box_low : (box_read (record { rank = rank; dims = dims }) vectors).low
          ≡ (fringe 0).low ∷ (fringe 1).low ∷ (fringe 2).low ∷ []
      box_low =
          fold_is (λ v. along dims (negated v)) (pos 0) (pos 0) (pos 0) vectors (all_down vectors are)
          ∙ list_of_three _ _ _ _ _ _ (low_of 0) (low_of 1) (low_of 2)
        where
          low_of : (k : ℕ) → most (λ v. part k (along dims (negated v))) (pos 0) vectors
              ≡ (fringe k).low
          low_of k =
              most_same (λ v. part k (along dims (negated v))) (λ v. down k (over v)) (pos 0) vectors
              (low_same k vectors are) ∙ sym (low_is k)

      box_high : (box_read (record { rank = rank; dims = dims }) vectors).high
          ≡ (fringe 0).high ∷ (fringe 1).high ∷ (fringe 2).high ∷ []
      box_high =
          fold_is (along dims) (pos 0) (pos 0) (pos 0) vectors (all_along vectors are)
          ∙ list_of_three _ _ _ _ _ _ (high_of 0) (high_of 1) (high_of 2)
        where
          high_of : (k : ℕ) → most (λ v. part k (along dims v)) (pos 0) vectors ≡ (fringe k).high
          high_of k =
              most_same (λ v. part k (along dims v)) (λ v. part k (over v)) (pos 0) vectors
              (high_same k vectors are) ∙ sym (high_is k)

      wide : IsRank rank →
          (map width_below (stored_dims rank dims (widened (no_fringe ∷ no_fringe ∷ no_fringe ∷ []) shifts))
          ≡ (box_read (record { rank = rank; dims = dims }) vectors).low)
          × (map width_above
          (stored_dims rank dims (widened (no_fringe ∷ no_fringe ∷ no_fringe ∷ []) shifts))
          ≡ (box_read (record { rank = rank; dims = dims }) vectors).high)
      wide is =
          let fringes = widened_is no_fringe no_fringe no_fringe shifts three in
          let both = widths (λ e. none_is 0 (flood_first e vectors are))
          (λ e. none_is 1 (flood_second e vectors are)) (λ e. none_is 2 (flood_third e vectors are))
          rank is (λ below. none_is 1 (past_second below vectors are))
          (λ below. none_is 2 (past_third below vectors are)) in (
            ap (λ all. map width_below (stored_dims rank dims all)) fringes ∙ both.0 ∙ sym box_low,
            ap (λ all. map width_above (stored_dims rank dims all)) fringes ∙ both.1 ∙ sym box_high,
          )

-- ---- the row of a storage

abbrev AreWidths : ℕ → List Dim → List Shifted → List (List ℤ) → Type 0
AreWidths rank dims shifts vectors =
    (map width_below (stored_dims rank dims (widened (no_fringe ∷ no_fringe ∷ no_fringe ∷ []) shifts))
    ≡ (box_read (record { rank = rank; dims = dims }) vectors).low)
    × (map width_above
    (stored_dims rank dims (widened (no_fringe ∷ no_fringe ∷ no_fringe ∷ []) shifts))
    ≡ (box_read (record { rank = rank; dims = dims }) vectors).high)

are_widths : (rank : ℕ) (dims : List Dim) → length dims ≡ 3 → IsRank rank → (shifts : List Shifted)
    (vectors : List (List ℤ)) → AreVectors rank vectors →
    ((f : List ℤ → ℕ) → sum_by f (map (λ one. one.shift) shifts)
    ≡ sum_by f (flat_map (noted (record { rank = rank; dims = dims })) vectors)) →
    AreWidths rank dims shifts vectors
are_widths rank [] three is shifts vectors are same =
    let no : ⊥ = omega (arith, three) in absurd no
are_widths rank (x ∷ []) three is shifts vectors are same =
    let no : ⊥ = omega (arith, three) in absurd no
are_widths rank (x ∷ y ∷ []) three is shifts vectors are same =
    let no : ⊥ = omega (arith, three) in absurd no
are_widths rank (x ∷ y ∷ z ∷ []) three is shifts vectors are same =
    wide rank x y z vectors are shifts same is
are_widths rank (x ∷ y ∷ z ∷ d ∷ dims) three is shifts vectors are same =
    let no : ⊥ = omega (arith, three) in absurd no

box_same : (s t : Region) (l m h i : List ℤ) → s ≡ t → l ≡ m → h ≡ i →
    (let one : ArrayBox = record { shape = s; low = l; high = h } in
    let other : ArrayBox = record { shape = t; low = m; high = i } in one ≡ other)
box_same s t l m h i e f g = cc

pub box_is : (number : ℕ) (storage : Region) (shifts : List Shifted) (vectors : List (List ℤ)) →
    IsStorage storage → AreVectors storage.rank vectors →
    ((f : List ℤ → ℕ) →
    sum_by f (map (λ one. one.shift) (filter (λ one. one.array == number) shifts))
    ≡ sum_by f (flat_map (noted storage) vectors)) →
    box_of (stored_row number shifts storage) ≡ box_read storage vectors
box_is number storage shifts vectors is are same =
    let widths = are_widths storage.rank storage.dims is.three is.is_rank
    (filter (λ one. one.array == number) shifts) vectors are same in
    box_same _ _ _ _ _ _ (row_storage number shifts storage is) widths.0 widths.1
