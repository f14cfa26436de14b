-- What is asked are whole tuples, and they are at home.
use Rattle.std.proofs.Common.{◌≡◌, refl, sym, ◌∙◌, ap, subst, arith, ℕ, zero, suc, ◌+◌, ◌*◌, ◌/◌, ◌<◌, ◌≤◌, true, false, Option, Some, None, List, [], ◌∷◌, ◌++◌, length, drop, take, All, ℤ, min}
use Rattle.std.proofs.Math.Nat.{mul-div_cancel, div-mul-le_self}
use Rattle.std.proofs.Math.Seq.{drop-append-add, take-append_seam}
use Rattle.std.proofs.lemmas.Bool.{eqb-true}
use Rattle.std.proofs.lemmas.List.{length-append, length-drop, length-take}
use Rattle.std.proofs.lemmas.List.Elements.{All-append, All-cons, All-filter, All-head, All-nil, All-tail}
use Rattle.zpl_region.proofs.ListLemmas.{all_from_among, among_filtered}
use Rattle.grid_layout.specs.Layout.{Arrangement, IsArrayBox, box_at, no_box}
use Rattle.remap_plan.specs.Request.{asked_of, asks_of, home_of, is_home, is_number, rank_of}
use Rattle.remap_plan.specs.Tuples.{first_tuples, joined, tuple_at, tuples_in}

abbrev IsLong : ℕ → List ℤ → Type 0
IsLong k t = length t ≡ k

-- ---- tuples one behind the other
tuple_later : (k n : ℕ) (t rest : List ℤ) → length t ≡ k → tuple_at k (suc n) (t ++ rest) ≡ tuple_at k n rest
tuple_later k n t rest long =
    let place : suc n * k ≡ length t + n * k = omega (arith, long) in
    ap (λ m. take k (drop m (t ++ rest))) place ∙ ap (take k) (drop-append-add t rest (n * k))

tuple_first : (k : ℕ) (t rest : List ℤ) → length t ≡ k → tuple_at k 0 (t ++ rest) ≡ t
tuple_first k t rest long =
    let none : 0 * k ≡ 0 = omega arith in
    ap (λ m. take k (drop m (t ++ rest))) none ∙ (ap (λ m. take m (t ++ rest)) (sym long) ∙ take-append_seam t rest)

first_more : (k n : ℕ) (t rest : List ℤ) → length t ≡ k → first_tuples k (suc n) (t ++ rest) ≡ t ∷ first_tuples k n rest
first_more k zero t rest long = ap (λ u. u ∷ []) (tuple_first k t rest long)
first_more k (suc n) t rest long =
    ap (λ l. l ++ (tuple_at k (suc n) (t ++ rest) ∷ [])) (first_more k n t rest long)
    ∙ ap (λ u. t ∷ (first_tuples k n rest ++ (u ∷ []))) (tuple_later k n t rest long)

first_joined : (k : ℕ) (ts : List (List ℤ)) → All (IsLong k) ts → first_tuples k (length ts) (joined ts) ≡ ts
first_joined k [] each = refl
first_joined k (t ∷ ts) each =
    first_more k (length ts) t (joined ts) (All-head (IsLong k) t ts each) ∙ ap (λ l. t ∷ l) (first_joined k ts (All-tail (IsLong k) t ts each))

length-joined : (k : ℕ) (ts : List (List ℤ)) → All (IsLong k) ts → length (joined ts) ≡ length ts * k
length-joined k [] each = omega arith
length-joined k (t ∷ ts) each =
    let here : length t ≡ k = All-head (IsLong k) t ts each in
    let rest = length-joined k ts (All-tail (IsLong k) t ts each) in
    length-append t (joined ts) ∙ omega (arith, here, rest)

pub tuples-joined : (k : ℕ) (ts : List (List ℤ)) → 1 ≤ k → All (IsLong k) ts → tuples_in k (joined ts) ≡ ts
tuples-joined k ts some each =
    ap (λ n. first_tuples k n (joined ts)) (ap (λ n. n / k) (length-joined k ts each) ∙ mul-div_cancel (length ts) some) ∙ first_joined k ts each

-- ---- the tuples of a list are whole
tuple_long : (k i : ℕ) (xs : List ℤ) → suc i * k ≤ length xs → length (tuple_at k i xs) ≡ k
tuple_long k i xs inside = length-take k (drop (i * k) xs) ∙ (ap (min k) (length-drop (i * k) xs) ∙ omega (arith, inside))

firsts_long : (k n : ℕ) (xs : List ℤ) → n * k ≤ length xs → All (IsLong k) (first_tuples k n xs)
firsts_long k zero xs inside = All-nil (IsLong k)
firsts_long k (suc n) xs inside =
    All-append (IsLong k) (first_tuples k n xs) (tuple_at k n xs ∷ []) (firsts_long k n xs (omega (arith, inside))) (All-cons (IsLong k) (tuple_at k n xs) [] (tuple_long k n xs inside) (All-nil (IsLong k)))

pub tuples_long : (k : ℕ) (xs : List ℤ) → All (IsLong k) (tuples_in k xs)
tuples_long k xs = firsts_long k (length xs / k) xs (div-mul-le_self (length xs) k)

-- ---- what is asked
number_is : (p : ℕ) (o : Option ℕ) → is_number p o ≡ true → o ≡ Some p
number_is p None e = absurd (let bad : false ≡ true = e in cc)
number_is p (Some q) e = ap Some (eqb-true q p e)

module _ (a : Arrangement) (array to : ℕ) (wanted : List ℤ) (arrays : All IsArrayBox a.boxes) (below : array < length a.boxes) where
  pub asked_whole : tuples_in (rank_of a array) (asks_of a array to wanted) ≡ asked_of a array to wanted
  asked_whole =
      let box : IsArrayBox (box_at a array) = arrays array no_box below in
      tuples-joined (rank_of a array) (asked_of a array to wanted) box.region.rank_above
      (All-filter (is_home a array to) (IsLong (rank_of a array)) (tuples_in (rank_of a array) wanted) (tuples_long (rank_of a array) wanted))

  pub asked_home : All (λ t. home_of a array t ≡ Some to) (tuples_in (rank_of a array) (asks_of a array to wanted))
  asked_home =
      subst (All (λ t. home_of a array t ≡ Some to)) (sym asked_whole)
      (all_from_among (λ t. home_of a array t ≡ Some to) (asked_of a array to wanted)
      (λ t m. number_is to (home_of a array t) (among_filtered (is_home a array to) (tuples_in (rank_of a array) wanted) t m).1))
