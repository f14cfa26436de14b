-- Places at which lines begin, and newlines.
use Rattle.std.proofs.Common.{◌≡◌, ℕ, zero, suc, ◌+◌, ◌-◌, ◌<◌, ◌≤◌, ◌==◌, Bool, true, false, List, [], ◌∷◌, ◌++◌, length, take, drop, get_or, inl, inr, refl, ap, sym, ◌∙◌, subst, arith, add-one, drop-cons}
use Rattle.std.specs.Prelude.{◌≢◌, All, if◌then◌else◌}
use Rattle.std.proofs.lemmas.Bool.Decides.{nat_tests}
use Rattle.std.proofs.lemmas.List.Elements.{All-head, All-tail}
use Rattle.grid_save.specs.Fault.{EndsLine}
use Rattle.save_texts.specs.Newlines.{newlines}

-- ---- where lines begin
pub at_start : (bytes : List ℕ) (at : ℕ) → at ≡ 0 → EndsLine (take at bytes)
at_start bytes at same = subst (λ k. EndsLine (take k bytes)) (sym same) (inl refl)

last_at : (bytes : List ℕ) (k : ℕ) → k < length bytes → take (suc k) bytes ≡ take k bytes ++ get_or bytes k 0 ∷ []
last_at [] k inside = absurd (omega (arith, inside))
last_at (b ∷ bytes) zero inside = refl
last_at (b ∷ bytes) (suc k) inside = ap (λ bs. b ∷ bs) (last_at bytes k (omega (arith, inside)))

pub ends_there : (bytes : List ℕ) (at : ℕ) → at ≢ 0 → at ≤ length bytes → get_or bytes (at - 1) 0 ≡ 10 → EndsLine (take at bytes)
ends_there bytes zero some inside is = absurd (some refl)
ends_there bytes (suc k) some inside is =
    let e : suc k - 1 ≡ k = omega arith in
    let here : get_or bytes k 0 ≡ 10 = subst (λ i. get_or bytes i 0 ≡ 10) e is in
    inr (take k bytes, last_at bytes k (omega (arith, inside)) ∙ ap (λ b. take k bytes ++ b ∷ []) here)

last_same : (xs ys : List ℕ) (x : ℕ) → xs ++ x ∷ [] ≡ ys ++ 10 ∷ [] → x ≡ 10
last_same [] [] x e = cc
last_same [] (y ∷ []) x e = absurd cc
last_same [] (y ∷ (z ∷ ys)) x e = absurd cc
last_same (w ∷ []) [] x e = absurd cc
last_same (w ∷ (z ∷ xs)) [] x e = absurd cc
last_same (w ∷ xs) (y ∷ ys) x e = let tails : xs ++ x ∷ [] ≡ ys ++ 10 ∷ [] = cc in last_same xs ys x tails

pub ended_there : (bytes : List ℕ) (at : ℕ) → at ≢ 0 → at ≤ length bytes → EndsLine (take at bytes) → get_or bytes (at - 1) 0 ≡ 10
ended_there bytes zero some inside ends = absurd (some refl)
ended_there bytes (suc k) some inside ends = by ends where
  e : suc k - 1 ≡ k
  e = omega arith

  last : take (suc k) bytes ≡ take k bytes ++ get_or bytes k 0 ∷ []
  last = last_at bytes k (omega (arith, inside))

  no : (xs : List ℕ) (x : ℕ) → [] ≡ xs ++ x ∷ [] → ⊥
  no [] x h = cc
  no (y ∷ ys) x h = cc

  by : EndsLine (take (suc k) bytes) → get_or bytes (suc k - 1) 0 ≡ 10
  by (inl none) = absurd (no (take k bytes) (get_or bytes k 0) (sym none ∙ last))
  by (inr (front, whole)) = subst (λ i. get_or bytes i 0 ≡ 10) (sym e) (last_same (take k bytes) front (get_or bytes k 0) (sym last ∙ whole))

-- ---- newlines
newline_test : (b : ℕ) → b ≡ 10 → (b == 10) ≡ true
newline_test b same = grind (arith, nat_tests)

other_test : (b : ℕ) → b ≢ 10 → (b == 10) ≡ false
other_test b h = by (b == 10) refl where
  by : (t : Bool) → (b == 10) ≡ t → t ≡ false
  by false e = refl
  by true e = absurd (h (grind (arith, nat_tests)))

opened : (bytes : List ℕ) (i : ℕ) → i < length bytes → drop i bytes ≡ get_or bytes i 0 ∷ drop (i + 1) bytes
opened bytes i inside = rw (add-one, drop-cons bytes i 0) refl

pub newline_on : (bytes : List ℕ) (i count : ℕ) → i < length bytes → get_or bytes i 0 ≡ 10 → count + newlines (drop i bytes) ≡ newlines bytes →
    (count + 1) + newlines (drop (i + 1) bytes) ≡ newlines bytes
newline_on bytes i count inside is had =
    let test = newline_test (get_or bytes i 0) is in
    let here : newlines (get_or bytes i 0 ∷ drop (i + 1) bytes) ≡ newlines (drop (i + 1) bytes) + 1 = rw test refl in
    let whole = ap newlines (opened bytes i inside) ∙ here in
    omega (arith, whole, had)

pub other_on : (bytes : List ℕ) (i count : ℕ) → i < length bytes → get_or bytes i 0 ≢ 10 → count + newlines (drop i bytes) ≡ newlines bytes →
    count + newlines (drop (i + 1) bytes) ≡ newlines bytes
other_on bytes i count inside other had =
    let test = other_test (get_or bytes i 0) other in
    let here : newlines (get_or bytes i 0 ∷ drop (i + 1) bytes) ≡ newlines (drop (i + 1) bytes) = rw test refl in
    let whole = ap newlines (opened bytes i inside) ∙ here in
    omega (arith, whole, had)

pub past_end : (ds : List ℕ) (i : ℕ) → length ds ≤ i → drop i ds ≡ []
past_end [] zero most = refl
past_end [] (suc i) most = refl
past_end (d ∷ ds) zero most = absurd (omega (arith, most))
past_end (d ∷ ds) (suc i) most = past_end ds i (omega (arith, most))

pub all_counted : (bytes : List ℕ) (i count : ℕ) → length bytes ≤ i → count + newlines (drop i bytes) ≡ newlines bytes → count ≡ newlines bytes
all_counted bytes i count over had =
    let none : newlines (drop i bytes) ≡ 0 = ap newlines (past_end bytes i over) in
    omega (arith, none, had)

pub newlines_most : (bytes : List ℕ) → newlines bytes ≤ length bytes
newlines_most [] = omega arith
newlines_most (b ∷ bytes) = by (b == 10) (newlines_most bytes) where
  by : (t : Bool) → newlines bytes ≤ length bytes → (if t then newlines bytes + 1 else newlines bytes) ≤ suc (length bytes)
  by true more = omega (arith, more)
  by false more = omega (arith, more)

-- a line without a newline in it, and one behind it
pub newlines-line : (line rest : List ℕ) → All (λ b. (b == 10) ≡ false) line → newlines (line ++ 10 ∷ rest) ≡ newlines rest + 1
newlines-line [] rest all = refl
newlines-line (b ∷ line) rest all =
    let test : (b == 10) ≡ false = All-head (λ c. (c == 10) ≡ false) b line all in
    rw test (newlines-line line rest (All-tail (λ c. (c == 10) ≡ false) b line all))
