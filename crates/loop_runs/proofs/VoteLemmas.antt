-- The least member that met a zero divisor, over the tuples of a processor and over all processors.
--
--   flags_from, flags_have   over tuples
--   vote_least, vote_none    over processors
use Rattle.std.proofs.Common.{◌≡◌, ◌⊎◌, inl, inr, refl, sym, ◌∙◌, ap, subst, arith, ℕ, zero, suc}
use Rattle.std.proofs.Common.{◌+◌, ◌-◌, ◌<◌, ◌≤◌, Bool, true, false, List, [], ◌∷◌, pos, neg_ℤ}
use Rattle.std.proofs.Common.{Option, Some, None}
use Rattle.std.specs.Prelude.{fold, if◌then◌else◌, int_lt, nat_lt, unsigned_abs}
use Rattle.std.specs.Int.{int_min}
use Rattle.std.specs.List.{range_with_len}
use Rattle.std.proofs.lemmas.Bool.Decides.{nat_tests}
use Rattle.std.proofs.lemmas.Int.{clamps, ints}
use Rattle.row_runs.specs.Straight.{Every}
use Rattle.grid_meaning.specs.Collective.{flag_word, least_flag, word_flag}
use Rattle.grid_meaning.specs.Local.{Local}
use Rattle.row_orders.specs.Agreement.{joined_over}
use Rattle.needs_runs.specs.of_plan_meaning.Loops.{least_of}
use Rattle.loop_runs.proofs.ColumnLemmas.{AnyOf, FlagFrom}

-- ---- two flags
abbrev pub less_of : Option ℕ → Option ℕ → Option ℕ
less_of None b = b
less_of (Some x) None = Some x
less_of (Some x) (Some y) = if nat_lt y x then Some y else Some x

pub same_less : (a b : Option ℕ) → least_of a b ≡ less_of a b
same_less None None = refl
same_less None (Some y) = refl
same_less (Some x) None = refl
same_less (Some x) (Some y) = refl

less_from : (m : ℕ) (a b : Option ℕ) → FlagFrom m a → FlagFrom m b → FlagFrom m (less_of a b)
less_from m None b one other = other
less_from m (Some x) None one other = one
less_from m (Some x) (Some y) one other = by (nat_lt y x)
  where
    by : (c : Bool) → FlagFrom m (if c then Some y else Some x)
    by true = other
    by false = one

less_left : (m : ℕ) (b : Option ℕ) → FlagFrom m b → less_of (Some m) b ≡ Some m
less_left m None from = refl
less_left m (Some y) from =
    let none : nat_lt y m ≡ false = grind (arith, nat_tests, from) in
    ap (λ c. if c then Some y else Some m) none

less_right : (m : ℕ) (a : Option ℕ) → FlagFrom m a → less_of a (Some m) ≡ Some m
less_right m None from = refl
less_right m (Some x) from = by (nat_lt m x) refl
  where
    by : (c : Bool) → nat_lt m x ≡ c → (if c then Some m else Some x) ≡ Some m
    by true e = refl
    by false e = let same : x ≡ m = grind (arith, nat_tests, from, e) in ap Some same

-- ---- words
not_less : (x : ℕ) → int_lt (pos x) (pos 0) ≡ false
not_less x = grind (arith, ints)

word_less : (a b : Option ℕ) → least_flag (flag_word a) (flag_word b) ≡ flag_word (less_of a b)
word_less None b = refl
word_less (Some x) None =
    ap (λ c. if c then neg_ℤ (pos 1) else (if int_lt (neg_ℤ (pos 1)) (pos 0) then pos x
    else int_min (pos x) (neg_ℤ (pos 1)))) (not_less x)
word_less (Some x) (Some y) =
    ap (λ c. if c then pos y else (if int_lt (pos y) (pos 0) then pos x
    else int_min (pos x) (pos y))) (not_less x)
    ∙ (ap (λ c. if c then pos x else int_min (pos x) (pos y)) (not_less y)
    ∙ by (nat_lt y x) refl)
  where
    by : (c : Bool) → nat_lt y x ≡ c
        → int_min (pos x) (pos y) ≡ flag_word (if nat_lt y x then Some y else Some x)
    by true e =
        let low : y < x = grind (arith, nat_tests, e) in
        let least : int_min (pos x) (pos y) ≡ pos y = omega (arith, ints, clamps, low) in
        least ∙ sym (ap (λ c. flag_word (if c then Some y else Some x)) e)
    by false e =
        let low : x ≤ y = grind (arith, nat_tests, e) in
        let least : int_min (pos x) (pos y) ≡ pos x = omega (arith, ints, clamps, low) in
        least ∙ sym (ap (λ c. flag_word (if c then Some y else Some x)) e)

word_back : (a : Option ℕ) → word_flag (flag_word a) ≡ a
word_back None = refl
word_back (Some x) =
    ap (λ c. if c then None else Some (unsigned_abs (pos x))) (not_less x)

-- ---- over some flags, from one on
module _ {X : Type 0} (flag_at : X → Option ℕ) where
  abbrev pub all_less : Option ℕ → List X → Option ℕ
  all_less flag [] = flag
  all_less flag (x ∷ xs) = all_less (less_of flag (flag_at x)) xs

  pub less_have : (m : ℕ) (xs : List X) (flag : Option ℕ) → FlagFrom m flag
      → Every (λ x. FlagFrom m (flag_at x)) xs
      → (flag ≡ Some m) ⊎ AnyOf (λ x. flag_at x ≡ Some m) xs → all_less flag xs ≡ Some m
  less_have m [] flag from all (inl has) = has
  less_have m [] flag from all (inr has) = absurd has
  less_have m (x ∷ xs) flag from all (inl has) =
      less_have m xs (less_of flag (flag_at x)) (less_from m flag (flag_at x) from all.0) all.1
      (inl (ap (λ f. less_of f (flag_at x)) has ∙ less_left m (flag_at x) all.0))
  less_have m (x ∷ xs) flag from all (inr (inl has)) =
      less_have m xs (less_of flag (flag_at x)) (less_from m flag (flag_at x) from all.0) all.1
      (inl (ap (less_of flag) has ∙ less_right m flag from))
  less_have m (x ∷ xs) flag from all (inr (inr has)) =
      less_have m xs (less_of flag (flag_at x)) (less_from m flag (flag_at x) from all.0) all.1
      (inr has)

  pub less_all : (m : ℕ) (xs : List X) (flag : Option ℕ) → FlagFrom m flag
      → Every (λ x. FlagFrom m (flag_at x)) xs → FlagFrom m (all_less flag xs)
  less_all m [] flag from all = from
  less_all m (x ∷ xs) flag from all =
      less_all m xs (less_of flag (flag_at x)) (less_from m flag (flag_at x) from all.0) all.1

  pub less_none : (xs : List X) → Every (λ x. flag_at x ≡ None) xs → all_less None xs ≡ None
  less_none [] all = refl
  less_none (x ∷ xs) all = ap (λ f. all_less f xs) all.0 ∙ less_none xs all.1

-- ---- over processors
module _ (locals : ℕ → Local) (count : ℕ) (some : 0 < count) where
  abbrev flag_of : ℕ → Option ℕ
  flag_of p = (locals p).flag

  words_fold : (flag : Option ℕ) (a n : ℕ)
      → fold (λ value p. least_flag value (flag_word (locals p).flag)) (flag_word flag)
      (range_with_len a n)
      ≡ flag_word (all_less flag_of flag (range_with_len a n))
  words_fold flag a zero = refl
  words_fold flag a (suc n) =
      ap (λ v. fold (λ value p. least_flag value (flag_word (locals p).flag)) v
      (range_with_len (a + 1) n)) (word_less flag (flag_of a))
      ∙ words_fold (less_of flag (flag_of a)) (a + 1) n

  pub voted_flag : word_flag (joined_over count least_flag (λ local. flag_word local.flag) locals)
      ≡ all_less flag_of (flag_of 0) (range_with_len 1 (count - 1))
  voted_flag =
      ap word_flag (words_fold (flag_of 0) 1 (count - 1))
      ∙ word_back (all_less flag_of (flag_of 0) (range_with_len 1 (count - 1)))

  range_every : (P : ℕ → Type 0) (a n : ℕ) → ((p : ℕ) → p < a + n → P p)
      → Every P (range_with_len a n)
  range_every P a zero all = tt
  range_every P a (suc n) all =
      (all a (omega arith), range_every P (a + 1) n (λ p low. all p (omega (arith, low))))

  ahead : (a p : ℕ) → a ≤ p → (a ≡ p) ⊎ (a + 1 ≤ p)
  ahead a p low = by (nat_lt a p) refl
    where
      by : (b : Bool) → nat_lt a p ≡ b → (a ≡ p) ⊎ (a + 1 ≤ p)
      by true e = let less : a < p = grind (arith, nat_tests, e) in inr (omega (arith, less))
      by false e = let more : p ≤ a = grind (arith, nat_tests, e) in inl (omega (arith, low, more))

  range_any : (P : ℕ → Type 0) (a n p : ℕ) → a ≤ p → p < a + n → P p
      → AnyOf P (range_with_len a n)
  range_any P a zero p low high is = absurd (omega (arith, low, high))
  range_any P a (suc n) p low high is =
      by (ahead a p low) (λ more. range_any P (a + 1) n p more (omega (arith, high)) is)
    where
      by : (a ≡ p) ⊎ (a + 1 ≤ p) → (a + 1 ≤ p → AnyOf P (range_with_len (a + 1) n))
          → AnyOf P (range_with_len a (suc n))
      by (inl e) rest = inl (subst P (sym e) is)
      by (inr more) rest = inr (rest more)

  pub vote_none : ((p : ℕ) → p < count → flag_of p ≡ None)
      → word_flag (joined_over count least_flag (λ local. flag_word local.flag) locals) ≡ None
  vote_none none =
      voted_flag
      ∙ (ap (λ f. all_less flag_of f (range_with_len 1 (count - 1))) (none 0 some)
      ∙ less_none flag_of (range_with_len 1 (count - 1))
      (range_every (λ p. flag_of p ≡ None) 1 (count - 1) (λ p low. none p (omega (arith, low, some)))))

  pub vote_least : (m p : ℕ) → p < count → flag_of p ≡ Some m
      → ((q : ℕ) → q < count → FlagFrom m (flag_of q))
      → word_flag (joined_over count least_flag (λ local. flag_word local.flag) locals) ≡ Some m
  vote_least m p low has from =
      voted_flag
      ∙ less_have flag_of m (range_with_len 1 (count - 1)) (flag_of 0) (from 0 some)
      (range_every (λ q. FlagFrom m (flag_of q)) 1 (count - 1)
      (λ q low. from q (omega (arith, low, some))))
      (where_it_is p low has)
    where
      where_it_is : (p : ℕ) → p < count → flag_of p ≡ Some m
          → (flag_of 0 ≡ Some m)
          ⊎ AnyOf (λ q. flag_of q ≡ Some m) (range_with_len 1 (count - 1))
      where_it_is zero low has = inl has
      where_it_is (suc p) low has =
          inr (range_any (λ q. flag_of q ≡ Some m) 1 (count - 1) (suc p) (omega arith)
          (omega (arith, low)) has)
