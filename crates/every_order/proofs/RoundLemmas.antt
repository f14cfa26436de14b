-- Turns round the processors behind an order are rounds of turns.
use Rattle.std.proofs.Common.{◌≡◌, ℕ, zero, suc, ◌+◌, ◌-◌, ◌*◌, ◌%◌, ◌<◌, ◌≤◌, Bool, true, false}
use Rattle.std.proofs.Common.{List, [], ◌∷◌, ◌++◌, length, map, take, refl, sym, ◌∙◌, ap}
use Rattle.std.proofs.Common.{arith, append_assoc, append-nil, nat_lt, cond, get_or}
use Rattle.std.proofs.Math.Nat.{add-mod_right, mod-eq_of_lt}
use Rattle.std.proofs.Math.Seq.{take-suc}
use Rattle.std.proofs.lemmas.Bool.Decides.{nat_tests}
use Rattle.std.proofs.lemmas.List.FromFn.{map-range_with_len_more}
use Rattle.std.specs.List.{range_with_len}
use Rattle.grid_links.specs.Run.{laps}
use Rattle.grid_meaning.specs.Order.{given, turn_number}

-- ---- the first turns are those of the order
inside_order : (order : List ℕ) (count k : ℕ) → k < length order
    → turn_number order count k ≡ get_or order k 0
inside_order order count k below = by (nat_lt k (length order)) refl
  where
    by : (b : Bool) → nat_lt k (length order) ≡ b
        → cond b (get_or order k 0) ((k - length order) % count) ≡ get_or order k 0
    by true e = refl
    by false e = absurd (grind (arith, nat_tests))

front_given : (order : List ℕ) (count k : ℕ) → k ≤ length order
    → given order count k ≡ take k order
front_given order count zero within = refl
front_given order count (suc k) within =
    ap (λ l. l ++ turn_number order count k ∷ []) (front_given order count k (omega (arith, within)))
    ∙ (ap (λ p. take k order ++ p ∷ []) (inside_order order count k (omega (arith, within)))
    ∙ sym (take-suc order k 0 (omega (arith, within))))

take_all : {X : Type 0} (xs : List X) → take (length xs) xs ≡ xs
take_all [] = refl
take_all (x ∷ xs) = ap (λ l. x ∷ l) (take_all xs)

-- ---- behind it they go round
abbrev round : ℕ → ℕ → List ℕ
round count j = map (λ i. i % count) (range_with_len 0 j)

behind_order : (order : List ℕ) (count j : ℕ)
    → turn_number order count (length order + j) ≡ j % count
behind_order order count j = by (nat_lt (length order + j) (length order)) refl
  where
    left : length order + j - length order ≡ j
    left = omega arith

    by : (b : Bool) → nat_lt (length order + j) (length order) ≡ b
        → cond b (get_or order (length order + j) 0) ((length order + j - length order) % count)
        ≡ j % count
    by true e = absurd (grind (arith, nat_tests))
    by false e = ap (λ i. i % count) left

behind_given : (order : List ℕ) (count j : ℕ)
    → given order count (length order + j) ≡ order ++ round count j
behind_given order count zero =
    let same : length order + 0 ≡ length order = omega arith in
    ap (given order count) same
    ∙ (front_given order count (length order) (omega arith)
    ∙ (take_all order ∙ sym (append-nil order)))
behind_given order count (suc j) =
    let same : length order + suc j ≡ suc (length order + j) = omega arith in
    let one : suc j ≡ j + 1 = omega arith in
    let none : 0 + j ≡ j = omega arith in
    ap (given order count) same
    ∙ (ap (λ l. l ++ turn_number order count (length order + j) ∷ []) (behind_given order count j)
    ∙ (ap (λ p. (order ++ round count j) ++ p ∷ []) (behind_order order count j)
    ∙ (append_assoc order (round count j) (j % count ∷ [])
    ∙ ap (λ l. order ++ l)
    (sym (ap (round count) one ∙ map-range_with_len_more (λ i. i % count) 0 j j none)))))

-- ---- and rounds are that
numbers_append : (a n m : ℕ)
    → range_with_len a (n + m) ≡ range_with_len a n ++ range_with_len (a + n) m
numbers_append a zero m =
    let none : 0 + m ≡ m = omega arith in
    let same : a ≡ a + 0 = omega arith in
    ap (range_with_len a) none ∙ ap (λ b. range_with_len b m) same
numbers_append a (suc n) m =
    let more : suc n + m ≡ suc (n + m) = omega arith in
    let same : a + 1 + n ≡ a + suc n = omega arith in
    ap (range_with_len a) more
    ∙ ap (λ l. a ∷ l) (numbers_append (a + 1) n m
    ∙ ap (λ b. range_with_len (a + 1) n ++ range_with_len b m) same)

map_append : (f : ℕ → ℕ) (xs ys : List ℕ) → map f (xs ++ ys) ≡ map f xs ++ map f ys
map_append f [] ys = refl
map_append f (x ∷ xs) ys = ap (λ l. f x ∷ l) (map_append f xs ys)

below_count : (count a n : ℕ) → a + n ≤ count
    → map (λ i. i % count) (range_with_len a n) ≡ range_with_len a n
below_count count a zero within = refl
below_count count a (suc n) within =
    ap (λ p. p ∷ map (λ i. i % count) (range_with_len (a + 1) n))
    (mod-eq_of_lt (omega (arith, within)))
    ∙ ap (λ l. a ∷ l) (below_count count (a + 1) n (omega (arith, within)))

one_round_on : (count a n : ℕ)
    → map (λ i. i % count) (range_with_len (a + count) n)
    ≡ map (λ i. i % count) (range_with_len a n)
one_round_on count a zero = refl
one_round_on count a (suc n) =
    let same : a + count + 1 ≡ a + 1 + count = omega arith in
    ap (λ p. p ∷ map (λ i. i % count) (range_with_len (a + count + 1) n)) (add-mod_right a count)
    ∙ ap (λ l. a % count ∷ l)
    (ap (λ b. map (λ i. i % count) (range_with_len b n)) same ∙ one_round_on count (a + 1) n)

laps_round : (count r : ℕ) → laps count r ≡ round count (r * count)
laps_round count zero =
    let none : 0 * count ≡ 0 = omega arith in sym (ap (round count) none)
laps_round count (suc r) =
    let same : suc r * count ≡ count + r * count = omega arith in
    sym (ap (round count) same
    ∙ (ap (map (λ i. i % count)) (numbers_append 0 count (r * count))
    ∙ (map_append (λ i. i % count) (range_with_len 0 count) (range_with_len (0 + count) (r * count))
    ∙ (ap (λ l. l ++ map (λ i. i % count) (range_with_len (0 + count) (r * count)))
    (below_count count 0 count (omega arith))
    ∙ ap (λ l. range_with_len 0 count ++ l)
    (one_round_on count 0 (r * count) ∙ sym (laps_round count r))))))

pub given_laps : (order : List ℕ) (count r : ℕ)
    → given order count (length order + r * count) ≡ order ++ laps count r
given_laps order count r =
    behind_given order count (r * count) ∙ ap (λ l. order ++ l) (sym (laps_round count r))
