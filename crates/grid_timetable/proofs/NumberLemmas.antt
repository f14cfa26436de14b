-- The numbers of the moves that pass a test, where moves come behind them.
use Rattle.std.proofs.Common.{◌≡◌, ◌⊎◌, ℕ, zero, suc, ◌+◌, ◌-◌, ◌<◌, ◌≤◌, Bool, true, false, cond, List, [], ◌∷◌, ◌++◌, length, drop, Some, refl, sym, ◌∙◌, ap, ap₂, subst, inl, inr, arith}
use Rattle.std.proofs.lemmas.Option.{slice_get_within}
use Rattle.std.proofs.lemmas.Bool.{cases_lt}
use Rattle.std.specs.List.{slice_get}
use Rattle.grid_timetable.specs.Run.{Move, numbers_from}

-- ---- lists
pub slice_get-append : {X : Type 0} (a b : List X) (i : ℕ) → i < length a → slice_get (a ++ b) i ≡ slice_get a i
slice_get-append [] b i below = absurd (omega arith)
slice_get-append (y ∷ a) b zero below = refl
slice_get-append (y ∷ a) b (suc i) below = slice_get-append a b i (omega arith)

pub slice_get-behind : {X : Type 0} (a b : List X) (i : ℕ) → slice_get (a ++ b) (length a + i) ≡ slice_get b i
slice_get-behind [] b i = ap (slice_get b) (omega arith)
slice_get-behind (y ∷ a) b i =
    let e : length (y ∷ a) + i ≡ suc (length a + i) = omega arith in
    ap (slice_get (y ∷ a ++ b)) e ∙ slice_get-behind a b i

-- ---- numbers
append_where : (b : Bool) (n : ℕ) (a l r : List ℕ) → a ≡ l ++ r → cond b (n ∷ a) a ≡ cond b (n ∷ l) l ++ r
append_where true n a l r e = ap (λ w. n ∷ w) e
append_where false n a l r e = e

pub numbers-append : (test : Move → Bool) (n : ℕ) (xs ys : List Move)
    → numbers_from test n (xs ++ ys) ≡ numbers_from test n xs ++ numbers_from test (n + length xs) ys
numbers-append test n [] ys = ap (λ m. numbers_from test m ys) (omega arith)
numbers-append test n (x ∷ xs) ys =
    let e : suc n + length xs ≡ n + length (x ∷ xs) = omega arith in
    append_where (test x) n _ _ _
    (numbers-append test (suc n) xs ys ∙ ap (λ m. numbers_from test (suc n) xs ++ numbers_from test m ys) e)

pub record IsBetween (low high i : ℕ) : Type 0 where
  pub low_end : low ≤ i
  pub high_end : i < high

within_where : (b : Bool) (n high : ℕ) (rest : List ℕ) (k i : ℕ) → n < high
    → ((k i : ℕ) → slice_get rest k ≡ Some i → IsBetween (suc n) high i)
    → slice_get (cond b (n ∷ rest) rest) k ≡ Some i → IsBetween n high i
within_where true n high rest zero i some later e = let same : n ≡ i = cc in record { low_end = omega arith; high_end = omega arith }
within_where true n high rest (suc k) i some later e =
    let is = later k i e in record { low_end = omega (arith, is.low_end); high_end = is.high_end }
within_where false n high rest k i some later e =
    let is = later k i e in record { low_end = omega (arith, is.low_end); high_end = is.high_end }

pub numbers-within : (test : Move → Bool) (n : ℕ) (xs : List Move) (k i : ℕ) → slice_get (numbers_from test n xs) k ≡ Some i
    → IsBetween n (n + length xs) i
numbers-within test n [] k i e = cc
numbers-within test n (x ∷ xs) k i e =
    let same : suc n + length xs ≡ n + length (x ∷ xs) = omega arith in
    within_where (test x) n _ _ k i (omega arith)
    (λ k i e. subst (λ h. IsBetween (suc n) h i) same (numbers-within test (suc n) xs k i e)) e

-- ---- one move more
-- its number, where it passes
abbrev pub number_where : Bool → ℕ → List ℕ
number_where true n = n ∷ []
number_where false n = []

numbers-one : (b : Bool) (n : ℕ) → cond b (n ∷ []) [] ≡ number_where b n
numbers-one true n = refl
numbers-one false n = refl

pub numbers-push : (test : Move → Bool) (xs : List Move) (x : Move)
    → numbers_from test 1 (xs ++ x ∷ []) ≡ numbers_from test 1 xs ++ number_where (test x) (1 + length xs)
numbers-push test xs x =
    numbers-append test 1 xs (x ∷ []) ∙ ap (λ w. numbers_from test 1 xs ++ w) (numbers-one (test x) (1 + length xs))

-- a number of more moves is one of the first ones, or that of the last one
pub record IsLastNumber (test : Move → Bool) (xs : List Move) (x : Move) (k i : ℕ) : Type 0 where
  pub passes : test x ≡ true
  pub place : k ≡ length (numbers_from test 1 xs)
  pub number : i ≡ 1 + length xs

last_where : (b : Bool) (n : ℕ) (k i : ℕ) → slice_get (number_where b n) k ≡ Some i → (b ≡ true) × (k ≡ 0) × (i ≡ n)
last_where true n zero i e = (refl, refl, cc)
last_where true n (suc k) i e = cc
last_where false n k i e = cc

pub numbers-cases : (test : Move → Bool) (xs : List Move) (x : Move) (k i : ℕ)
    → slice_get (numbers_from test 1 (xs ++ x ∷ [])) k ≡ Some i
    → (slice_get (numbers_from test 1 xs) k ≡ Some i) ⊎ IsLastNumber test xs x k i
numbers-cases test xs x k i e =
    let numbers : List ℕ = numbers_from test 1 xs in
    let more : List ℕ = number_where (test x) (1 + length xs) in
    let f : slice_get (numbers ++ more) k ≡ Some i = ap (λ w. slice_get w k) (sym (numbers-push test xs x)) ∙ e in
    one_of (cases_lt k (length numbers)) f
  where
    one_of : (k < length (numbers_from test 1 xs)) ⊎ (length (numbers_from test 1 xs) ≤ k)
        → slice_get (numbers_from test 1 xs ++ number_where (test x) (1 + length xs)) k ≡ Some i
        → (slice_get (numbers_from test 1 xs) k ≡ Some i) ⊎ IsLastNumber test xs x k i
    one_of (inl below) f = inl (sym (slice_get-append _ _ k below) ∙ f)
    one_of (inr past) f =
        let numbers : List ℕ = numbers_from test 1 xs in
        let there : length numbers + (k - length numbers) ≡ k = omega arith in
        let last = last_where (test x) (1 + length xs) (k - length numbers) i
        (sym (slice_get-behind numbers _ (k - length numbers))
        ∙ (ap (slice_get (numbers ++ number_where (test x) (1 + length xs))) there ∙ f)) in
        inr (record { passes = last.0; place = omega (arith, last.1); number = last.2 })

-- the first ones stay
pub numbers-kept : (test : Move → Bool) (xs : List Move) (x : Move) (k i : ℕ) → slice_get (numbers_from test 1 xs) k ≡ Some i
    → slice_get (numbers_from test 1 (xs ++ x ∷ [])) k ≡ Some i
numbers-kept test xs x k i e =
    ap (λ w. slice_get w k) (numbers-push test xs x)
    ∙ (slice_get-append _ _ k (slice_get_within _ k i e) ∙ e)

pub numbers-last : (test : Move → Bool) (xs : List Move) (x : Move) → test x ≡ true
    → slice_get (numbers_from test 1 (xs ++ x ∷ [])) (length (numbers_from test 1 xs)) ≡ Some (1 + length xs)
numbers-last test xs x passes =
    let numbers : List ℕ = numbers_from test 1 xs in
    let end : length numbers ≡ length numbers + 0 = omega arith in
    ap₂ slice_get (numbers-push test xs x ∙ ap (λ b. numbers ++ number_where b (1 + length xs)) passes) end
    ∙ slice_get-behind numbers ((1 + length xs) ∷ []) 0

pub slice_get-drop : {X : Type 0} (n : ℕ) (xs : List X) (k : ℕ) → slice_get (drop n xs) k ≡ slice_get xs (n + k)
slice_get-drop zero xs k = ap (slice_get xs) (omega arith)
slice_get-drop (suc n) [] k = refl
slice_get-drop (suc n) (x ∷ xs) k =
    let e : suc n + k ≡ suc (n + k) = omega arith in
    slice_get-drop n xs k ∙ ap (slice_get (x ∷ xs)) (sym e)
