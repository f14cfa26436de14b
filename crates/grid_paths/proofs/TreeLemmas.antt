-- Who is blocked in a tree, from whom a process hears, and whom it tells.
use Rattle.std.proofs.Common.{◌≡◌, ℕ, zero, suc, ◌+◌, ◌<◌, ◌≤◌, Bool, true, false, cond, ◌||◌, ◌==◌, List, [], ◌∷◌, ◌++◌, All, Option, Some, None, refl, sym, ◌∙◌, ap, ap₂, subst, arith, eqb-true, eq-eqb}
use Rattle.std.proofs.lemmas.Bool.{ne_eqb}
use Rattle.std.proofs.lemmas.List.Sums.{sum_by-cons}
use Rattle.std.proofs.lemmas.List.Elements.{All-nil, All-cons, All-head, All-tail}
use Rattle.grid_paths.specs.Tree.{times, Tree, parents, IsTree}

-- ---- how often a number is in a list
pub times-cons : (n m : ℕ) (numbers : List ℕ)
    → times n (m ∷ numbers) ≡ cond (m == n) 1 0 + times n numbers
times-cons n m numbers = sum_by-cons (λ k. cond (k == n) 1 0) m numbers

pub times_self : (n : ℕ) → times n (n ∷ []) ≡ 1
times_self n = times-cons n n [] ∙ ap (λ b. cond b 1 0 + 0) (eq-eqb n n refl)

pub times_one : (n m : ℕ) → times n (m ∷ []) ≤ 1
times_one n m = subst (λ k. k ≤ 1) (sym (times-cons n m [])) (few (m == n))
  where
    few : (b : Bool) → cond b 1 0 + 0 ≤ 1
    few true = omega arith
    few false = omega arith

pub times_other : (n m : ℕ) → (m ≡ n → ⊥) → times n (m ∷ []) ≡ 0
times_other n m other = times-cons n m [] ∙ ap (λ b. cond b 1 0 + 0) (ne_eqb m n other)

pub times_below : (p q : ℕ) (numbers : List ℕ) → All (λ c. q < c) numbers → p ≤ q
    → times p numbers ≡ 0
times_below p q [] above less = refl
times_below p q (c ∷ numbers) above less =
    let apart : c ≡ p → ⊥ = λ same. omega
    (arith, All-head (λ k. q < k) c numbers above, same, less) in
    times-cons p c numbers
    ∙ ap₂ (λ b n. cond b 1 0 + n) (ne_eqb c p apart)
    (times_below p q numbers (All-tail (λ k. q < k) c numbers above) less)

pub All-each : {X : Type 0} (P Q : X → Type 0) (xs : List X) → ((x : X) → P x → Q x) → All P xs
    → All Q xs
All-each P Q xs f all = λ i d below. f _ (all i d below)

pub times_parents : (n : ℕ) (parent : Option ℕ) → times n (parents parent) ≤ 1
times_parents n None = omega arith
times_parents n (Some m) = times_one n m

-- ---- those before the first that is blocked
abbrev pub any_blocked : (ℕ → Bool) → List ℕ → Bool
any_blocked blocked [] = false
any_blocked blocked (c ∷ numbers) = blocked c || any_blocked blocked numbers

abbrev front_where : Bool → ℕ → List ℕ → List ℕ
front_where true c front = []
front_where false c front = c ∷ front

abbrev pub clear_front : (ℕ → Bool) → List ℕ → List ℕ
clear_front blocked [] = []
clear_front blocked (c ∷ numbers) = front_where (blocked c) c (clear_front blocked numbers)

-- either none is blocked, and all are in front; or there is a first one
pub data Fronts (blocked : ℕ → Bool) (numbers front : List ℕ) (any : Bool) : Type 0 where
  AllClear : any ≡ false → front ≡ numbers → Fronts blocked numbers front any
  FirstBlocked : any ≡ true → (c : ℕ) (rest : List ℕ) → numbers ≡ front ++ c ∷ rest
      → blocked c ≡ true → Fronts blocked numbers front any

pub fronts : (blocked : ℕ → Bool) (numbers : List ℕ)
    → Fronts blocked numbers (clear_front blocked numbers) (any_blocked blocked numbers)
fronts blocked [] = AllClear refl refl
fronts blocked (c ∷ numbers) = by (blocked c) refl (fronts blocked numbers)
  where
    by : (b : Bool) → blocked c ≡ b
        → Fronts blocked numbers (clear_front blocked numbers) (any_blocked blocked numbers)
        → Fronts blocked (c ∷ numbers) (front_where b c (clear_front blocked numbers))
        (b || any_blocked blocked numbers)
    by true e rest = FirstBlocked refl c numbers refl e
    by false e (AllClear none same) = AllClear none (ap (λ l. c ∷ l) same)
    by false e (FirstBlocked any d rest same stuck) =
        FirstBlocked any d rest (ap (λ l. c ∷ l) same) stuck

pub All-clear_front : (P : ℕ → Type 0) (blocked : ℕ → Bool) (numbers : List ℕ) → All P numbers
    → All P (clear_front blocked numbers)
All-clear_front P blocked [] all = All-nil P
All-clear_front P blocked (c ∷ numbers) all =
    by (blocked c) (All-clear_front P blocked numbers (All-tail P c numbers all))
  where
    by : (b : Bool) → All P (clear_front blocked numbers)
        → All P (front_where b c (clear_front blocked numbers))
    by true rest = All-nil P
    by false rest = All-cons P c _ (All-head P c numbers all) rest

pub times-clear_front : (n : ℕ) (blocked : ℕ → Bool) (numbers : List ℕ)
    → times n (clear_front blocked numbers) ≤ times n numbers
times-clear_front n blocked [] = omega arith
times-clear_front n blocked (c ∷ numbers) = by (blocked c) (times-clear_front n blocked numbers)
  where
    by : (b : Bool) → times n (clear_front blocked numbers) ≤ times n numbers
        → times n (front_where b c (clear_front blocked numbers)) ≤ times n (c ∷ numbers)
    by true less = omega arith
    by false less =
        omega (arith, less, times-cons n c numbers, times-cons n c (clear_front blocked numbers))

pub times-clear_front_blocked : (n : ℕ) (blocked : ℕ → Bool) (numbers : List ℕ) → blocked n ≡ true
    → times n (clear_front blocked numbers) ≡ 0
times-clear_front_blocked n blocked [] stuck = refl
times-clear_front_blocked n blocked (c ∷ numbers) stuck =
    by (blocked c) refl (times-clear_front_blocked n blocked numbers stuck)
  where
    by : (b : Bool) → blocked c ≡ b → times n (clear_front blocked numbers) ≡ 0
        → times n (front_where b c (clear_front blocked numbers)) ≡ 0
    by true e rest = refl
    by false e rest =
        let apart : c ≡ n → ⊥ = λ same. let both : false ≡ true = sym e
        ∙ (ap blocked same ∙ stuck) in cc in
        times-cons n c (clear_front blocked numbers)
        ∙ ap₂ (λ b k. cond b 1 0 + k) (ne_eqb c n apart) rest

-- one that is blocked and in a list
pub any_blocked-in : (n : ℕ) (blocked : ℕ → Bool) (numbers : List ℕ) → 1 ≤ times n numbers
    → blocked n ≡ true → any_blocked blocked numbers ≡ true
any_blocked-in n blocked [] some stuck = absurd (omega arith)
any_blocked-in n blocked (c ∷ numbers) some stuck =
    by (c == n) refl (blocked c) refl (any_blocked-in n blocked numbers)
  where
    by : (same : Bool) → (c == n) ≡ same → (b : Bool) → blocked c ≡ b
        → (1 ≤ times n numbers → blocked n ≡ true → any_blocked blocked numbers ≡ true)
        → (b || any_blocked blocked numbers) ≡ true
    by same e true f rest = refl
    by true e false f rest =
        let both : false ≡ true = sym f ∙ (ap blocked (eqb-true c n e) ∙ stuck) in cc
    by false e false f rest =
        let count = times-cons n c numbers ∙ ap (λ b. cond b 1 0 + times n numbers) e in
        rest (omega (arith, count, some)) stuck

-- the same of two tests that agree
pub any_blocked-same : (one other : ℕ → Bool) (numbers : List ℕ)
    → All (λ c. one c ≡ other c) numbers
    → any_blocked one numbers ≡ any_blocked other numbers
any_blocked-same one other [] all = refl
any_blocked-same one other (c ∷ numbers) all =
    ap₂ (λ a b. a || b) (All-head (λ k. one k ≡ other k) c numbers all)
    (any_blocked-same one other numbers (All-tail (λ k. one k ≡ other k) c numbers all))

-- ---- a process is blocked if it stays away, or one of its children is blocked
-- as far as so many generations show
abbrev pub blocked_in : Tree → (ℕ → Bool) → ℕ → ℕ → Bool
blocked_in tree away zero p = away p
blocked_in tree away (suc n) p =
    away p || any_blocked (blocked_in tree away n) (tree.children p)

abbrev pub blocked_of : ℕ → Tree → (ℕ → Bool) → ℕ → Bool
blocked_of count tree away p = blocked_in tree away count p

module _ (count : ℕ) (tree : Tree) (is : IsTree count tree) (away : ℕ → Bool) where
  abbrev blocked : ℕ → Bool
  blocked p = blocked_of count tree away p

  settled : (n p : ℕ) → p < count → count ≤ n + p → blocked_in tree away (suc n) p
      ≡ blocked_in tree away n p
  settled zero p below far = absurd (omega arith)
  settled (suc n) p below far =
      ap (λ b. away p || b)
      (any_blocked-same (blocked_in tree away (suc n)) (blocked_in tree away n) (tree.children p)
      (All-each (λ c. (p < c) × (c < count))
      (λ c. blocked_in tree away (suc n) c ≡ blocked_in tree away n c)
      (tree.children p) (λ c both. settled n c both.1 (omega (arith, both.0, far)))
      (is.children p below)))

  pub blocked_by : (p : ℕ) → p < count
      → blocked p ≡ (away p || any_blocked blocked (tree.children p))
  blocked_by p below = sym (settled count p below (omega arith))

  pub away_blocked : (p : ℕ) → p < count → away p ≡ true → blocked p ≡ true
  away_blocked p below e =
      blocked_by p below ∙ ap (λ b. b || any_blocked blocked (tree.children p)) e

  -- the parent of one that is blocked is, and so is the root
  parent_blocked : (p q : ℕ) → p < count → tree.parent p ≡ Some q → blocked p ≡ true
      → blocked q ≡ true
  parent_blocked p q below parent stuck =
      let less : q < p = is.parent p q below parent in
      let inside : q < count = omega (arith, less, below) in
      let once : times p (tree.children q) ≡ 1 =
      is.family q p inside below ∙ (ap (λ o. times q (parents o)) parent ∙ times_self q) in
      blocked_by q inside
      ∙ (ap (λ b. away q || b)
      (any_blocked-in p blocked (tree.children q) (omega (arith, once)) stuck) ∙ or_true (away q))
    where
      or_true : (b : Bool) → (b || true) ≡ true
      or_true true = refl
      or_true false = refl

  root_below : (n p : ℕ) → p < n → p < count → blocked p ≡ true → blocked 0 ≡ true
  root_below zero p less below stuck = absurd (omega arith)
  root_below (suc n) p less below stuck = by (tree.parent p) refl (root_below n)
    where
      by : (parent : Option ℕ) → tree.parent p ≡ parent
          → ((q : ℕ) → q < n → q < count → blocked q ≡ true → blocked 0 ≡ true)
          → blocked 0 ≡ true
      by None e rest = subst (λ r. blocked r ≡ true) (is.root p below e) stuck
      by (Some q) e rest =
          let lower : q < p = is.parent p q below e in
          rest q (omega (arith, lower, less)) (omega (arith, lower, below))
          (parent_blocked p q below e stuck)

  pub root_blocked : (p : ℕ) → p < count → away p ≡ true → blocked 0 ≡ true
  root_blocked p below e = root_below (suc p) p (omega arith) below (away_blocked p below e)

  -- who isn't blocked has a parent, and hears from all of its children
  pub clear_parent : (some p : ℕ) → some < count → away some ≡ true → p < count
      → blocked p ≡ false → (q : ℕ) × (tree.parent p ≡ Some q)
  clear_parent some p there e below clear = by (tree.parent p) refl
    where
      by : (parent : Option ℕ) → tree.parent p ≡ parent → (q : ℕ) × (tree.parent p ≡ Some q)
      by (Some q) f = (q, f)
      by None f =
          let both : false ≡ true =
          sym clear ∙ (ap blocked (is.root p below f) ∙ root_blocked some there e) in cc
