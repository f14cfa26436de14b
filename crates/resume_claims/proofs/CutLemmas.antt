-- The turns of two runs, one behind the other, are those of one run.
use Rattle.std.proofs.Common.{◌≡◌, ℕ, zero, suc, ◌+◌, ◌-◌, ◌%◌, ◌<◌, ◌≤◌, Bool, true, false, cond, List, [], ◌∷◌, ◌++◌, length, get_or}
use Rattle.std.proofs.Common.{refl, sym, ◌∙◌, ap, subst, arith, append_assoc, append-nil, add-suc}
use Rattle.std.proofs.lemmas.List.{get_or-append-add, get_or_append_left, length-append}
use Rattle.std.proofs.Math.Seq.{get_or-append_seam}
use Rattle.std.proofs.Math.Dec.{ltb}
use Rattle.std.proofs.lemmas.Bool.{lt-ltb, ltb-true, ltb_from_iff}
use Rattle.std.proofs.lemmas.Bool.Decides.{nat_tests}
use Rattle.grid_meaning.specs.Order.{given, turn_number}
use Rattle.grid_meaning.proofs.GridLemmas.{length-given}

module _ (count : ℕ) where
  -- behind the first turns come those of the order that follows
  number-behind : (xs ys : List ℕ) (j : ℕ) → turn_number (xs ++ ys) count (length xs + j) ≡ turn_number ys count j
  number-behind xs ys j =
      let long : length (xs ++ ys) ≡ length xs + length ys = length-append xs ys in
      let test : ltb j (length ys) ≡ ltb (length xs + j) (length (xs ++ ys)) =
      ltb_from_iff (
        λ e. let below = ltb-true j (length ys) e in omega (arith, long, below),
        λ h. lt-ltb j (length ys) (omega (arith, long, h)),
      ) in
      let left : length xs + j - length (xs ++ ys) ≡ j - length ys = omega (arith, long) in
      ap (λ b. cond b (get_or (xs ++ ys) (length xs + j) 0) ((length xs + j - length (xs ++ ys)) % count)) (sym test)
      ∙ (ap (λ p. cond (ltb j (length ys)) p ((length xs + j - length (xs ++ ys)) % count)) (get_or-append-add xs ys j 0)
      ∙ ap (λ (n : ℕ). cond (ltb j (length ys)) (get_or ys j 0) (n % count)) left)

  number-front : (xs ys : List ℕ) (k : ℕ) → k < length xs → turn_number (xs ++ ys) count k ≡ get_or xs k 0
  number-front xs ys k below =
      ap (λ b. cond b (get_or (xs ++ ys) k 0) ((k - length (xs ++ ys)) % count))
      (lt-ltb k (length (xs ++ ys)) (omega (arith, length-append xs ys, below)))
      ∙ get_or_append_left xs ys 0 k below

  -- the first turns as an order
  given-at : (order : List ℕ) (n k : ℕ) → k < n → get_or (given order count n) k 0 ≡ turn_number order count k
  given-at order zero k below = absurd (omega (arith, below))
  given-at order (suc n) k below = by (λ less. given-at order n k less) (ltb k n) refl
    where
      long : length (given order count n) ≡ n
      long = length-given order count n

      by : (k < n → get_or (given order count n) k 0 ≡ turn_number order count k) → (test : Bool) → ltb k n ≡ test
          → get_or (given order count (suc n)) k 0 ≡ turn_number order count k
      by before true e =
          let less = ltb-true k n e in
          get_or_append_left (given order count n) (turn_number order count n ∷ []) 0 k (omega (arith, long, less))
          ∙ before less
      by before false e =
          let last : k ≡ n = grind (arith, nat_tests, below, e) in
          ap (λ i. get_or (given order count (suc n)) i 0) (omega (arith, last, long))
          ∙ (get_or-append_seam (given order count n) (turn_number order count n) [] 0
          ∙ ap (turn_number order count) (sym last))

  pub given-front : (order ys : List ℕ) (n k : ℕ) → k ≤ n → given (given order count n ++ ys) count k ≡ given order count k
  given-front order ys n zero within = refl
  given-front order ys n (suc k) within =
      let below : k < length (given order count n) = omega (arith, within, length-given order count n) in
      ap (λ g. g ++ turn_number (given order count n ++ ys) count k ∷ []) (given-front order ys n k (omega (arith, within)))
      ∙ ap (λ t. given order count k ++ t ∷ [])
      (number-front (given order count n) ys k below ∙ given-at order n k (omega (arith, within)))

  pub given-number-front : (order ys : List ℕ) (n k : ℕ) → k < n
      → turn_number (given order count n ++ ys) count k ≡ turn_number order count k
  given-number-front order ys n k below =
      number-front (given order count n) ys k (omega (arith, below, length-given order count n))
      ∙ given-at order n k below

  pub given-number : (order ys : List ℕ) (k j : ℕ) → turn_number (given order count k ++ ys) count (k + j) ≡ turn_number ys count j
  given-number order ys k j =
      ap (λ n. turn_number (given order count k ++ ys) count (n + j)) (sym (length-given order count k))
      ∙ number-behind (given order count k) ys j

  -- the turns of both
  pub given-both : (order ys : List ℕ) (k j : ℕ)
      → given (given order count k ++ ys) count (k + j) ≡ given order count k ++ given ys count j
  given-both order ys k zero =
      let none : k + 0 ≡ k = omega arith in
      ap (given (given order count k ++ ys) count) none
      ∙ (given-front order ys k k (omega arith) ∙ sym (append-nil (given order count k)))
  given-both order ys k (suc j) =
      let more : k + suc j ≡ suc (k + j) = omega arith in
      ap (given (given order count k ++ ys) count) more
      ∙ (ap (λ g. g ++ turn_number (given order count k ++ ys) count (k + j) ∷ []) (given-both order ys k j)
      ∙ (ap (λ t. (given order count k ++ given ys count j) ++ t ∷ []) (given-number order ys k j)
      ∙ append_assoc (given order count k) (given ys count j) (turn_number ys count j ∷ [])))
