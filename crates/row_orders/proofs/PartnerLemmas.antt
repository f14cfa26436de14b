-- Who sends to whom, and who takes from whom.
use Rattle.std.proofs.Common.{◌≡◌, ◌⊎◌, ℕ, zero, suc, ◌+◌, ◌-◌, ◌<◌, ◌≤◌, Bool, true, false, cond, not, ◌==◌, nat_lt, List, [], ◌∷◌, filter, All, refl, sym, ◌∙◌, ap, ap₂, subst, inl, inr, arith, eq-eqb, eqb-true, eq-or-lt_of_le}
use Rattle.std.proofs.lemmas.Bool.{eqb-false, ne_eqb}
use Rattle.std.proofs.lemmas.List.Sums.{sum_by-cons}
use Rattle.std.proofs.lemmas.List.Elements.{All-nil, All-cons, All-filter}
use Rattle.std.specs.List.{range_with_len}
use Rattle.grid_meaning.specs.of_node_form.declared.tables.Tables.{Tables}
use Rattle.grid_meaning.specs.Collective.{others, others_where, star}
use Rattle.grid_meaning.specs.Local.{processors, processor_numbers}
use Rattle.grid_paths.specs.Tree.{times, parents}
use Rattle.grid_paths.specs.Path.{AreOthers}
use Rattle.row_orders.specs.Rows.{ArePartners}

-- ---- how often
pub times-cons : (q m : ℕ) (ms : List ℕ) → times q (m ∷ ms) ≡ cond (m == q) 1 0 + times q ms
times-cons q m ms = sum_by-cons (λ k. cond (k == q) 1 0) m ms

pub times-filter : (test : ℕ → Bool) (q : ℕ) (ms : List ℕ) → times q (filter test ms)
    ≡ cond (test q) (times q ms) 0
times-filter test q [] = by (test q)
  where
    by : (b : Bool) → times q [] ≡ cond b (times q []) 0
    by true = refl
    by false = refl
times-filter test q (m ∷ ms) = by (m == q) (test m) refl refl (times-filter test q ms)
    ∙ ap (λ n. cond (test q) n 0) (sym (times-cons q m ms))
  where
    nothing : (b : Bool) (n : ℕ) → cond b n 0 ≡ cond b (0 + n) 0
    nothing true n = omega arith
    nothing false n = refl

    by : (same kept : Bool) → (m == q) ≡ same → test m ≡ kept → times q (filter test ms)
        ≡ cond (test q) (times q ms) 0
        → times q (cond kept (m ∷ filter test ms) (filter test ms))
        ≡ cond (test q) (cond same 1 0 + times q ms) 0
    by true true e t rest =
        let tested : test q ≡ true = ap test (sym (eqb-true m q e)) ∙ t in
        times-cons q m (filter test ms)
        ∙ (ap₂ (λ b n. cond b 1 0 + n) e (rest ∙ ap (λ b. cond b (times q ms) 0) tested)
        ∙ sym (ap (λ b. cond b (1 + times q ms) 0) tested))
    by true false e t rest =
        let tested : test q ≡ false = ap test (sym (eqb-true m q e)) ∙ t in
        rest ∙ (ap (λ b. cond b (times q ms) 0) tested
        ∙ sym (ap (λ b. cond b (1 + times q ms) 0) tested))
    by false true e t rest =
        times-cons q m (filter test ms)
        ∙ (ap (λ b. cond b 1 0 + times q (filter test ms)) e
        ∙ (zero_more (times q (filter test ms)) ∙ (rest ∙ nothing (test q) (times q ms))))
      where
        zero_more : (n : ℕ) → 0 + n ≡ n
        zero_more n = omega arith
    by false false e t rest = rest ∙ nothing (test q) (times q ms)

times-range_below : (q a n : ℕ) → q < a → times q (range_with_len a n) ≡ 0
times-range_below q a zero less = refl
times-range_below q a (suc n) less =
    times-cons q a (range_with_len (a + 1) n)
    ∙ ap₂ (λ b m. cond b 1 0 + m) (ne_eqb a q (λ same. omega (arith, less, same)))
    (times-range_below q (a + 1) n (omega arith))

pub times-range : (q a n : ℕ) → a ≤ q → q < a + n → times q (range_with_len a n) ≡ 1
times-range q a zero low high = absurd (omega arith)
times-range q a (suc n) low high = times-cons q a (range_with_len (a + 1) n)
    ∙ by (eq-or-lt_of_le low) (λ more. times-range q (a + 1) n more (omega arith))
  where
    by : (a ≡ q) ⊎ (a < q) → (a + 1 ≤ q → times q (range_with_len (a + 1) n) ≡ 1)
        → cond (a == q) 1 0 + times q (range_with_len (a + 1) n) ≡ 1
    by (inl same) further =
        ap₂ (λ b m. cond b 1 0 + m) (eq-eqb a q same)
        (times-range_below q (a + 1) n (omega (arith, same)))
    by (inr more) further =
        ap₂ (λ b m. cond b 1 0 + m) (ne_eqb a q (λ same. omega (arith, more, same)))
        (further (omega arith))

-- ---- partners by how many words go from one to the other
pub times-others_where : (code : Tables) (p q : ℕ) (many : ℕ → ℕ) → q < processors code
    → times q (others_where code p many) ≡ cond (nat_lt 0 (many q)) (cond (not (q == p)) 1 0) 0
times-others_where code p q many below =
    times-filter (λ r. nat_lt 0 (many r)) q (others code p)
    ∙ ap (λ n. cond (nat_lt 0 (many q)) n 0)
    (times-filter (λ r. not (r == p)) q (processor_numbers code)
    ∙ ap (λ n. cond (not (q == p)) n 0)
    (times-range q 0 (processors code) (omega arith) (omega arith)))

pub same_turned : (p q : ℕ) → (q == p) ≡ (p == q)
same_turned p q = by (q == p) refl
  where
    by : (b : Bool) → (q == p) ≡ b → b ≡ (p == q)
    by true e = sym (eq-eqb p q (sym (eqb-true q p e)))
    by false e = sym (ne_eqb p q (λ same. eqb-false q p e (sym same)))

pub partners_by_words : (code : Tables) (to from : ℕ → ℕ → ℕ)
    → ((p q : ℕ) → p < processors code → q < processors code → to p q ≡ from q p)
    → ArePartners (processors code) (λ p. others_where code p (to p))
    (λ p. others_where code p (from p))
partners_by_words code to from same = record {
  both_ways = λ p q a b.
      times-others_where code p q (to p) b
      ∙ (ap₂ (λ n e. cond (nat_lt 0 n) (cond (not e) 1 0) 0) (same p q a b) (same_turned p q)
      ∙ sym (times-others_where code q p (from q) a));
  once = λ p q a b.
      subst (λ n. n ≤ 1) (sym (times-others_where code p q (to p) b))
      (few (nat_lt 0 (to p q)) (not (q == p)));
}
  where
    few : (x y : Bool) → cond x (cond y 1 0) 0 ≤ 1
    few true true = omega arith
    few true false = omega arith
    few false y = omega arith

pub below-range : (from many count : ℕ) → from + many ≤ count
    → All (λ q. q < count) (range_with_len from many)
below-range from zero count enough = All-nil (λ q. q < count)
below-range from (suc many) count enough =
    All-cons (λ q. q < count) from (range_with_len (from + 1) many) (omega arith)
    (below-range (from + 1) many count (omega arith))

filtered : (test : ℕ → Bool) (ms : List ℕ) → All (λ q. test q ≡ true) (filter test ms)
filtered test [] = All-nil (λ q. test q ≡ true)
filtered test (m ∷ ms) = by (test m) refl (filtered test ms)
  where
    by : (b : Bool) → test m ≡ b → All (λ q. test q ≡ true) (filter test ms)
        → All (λ q. test q ≡ true) (cond b (m ∷ filter test ms) (filter test ms))
    by true e rest = All-cons (λ q. test q ≡ true) m (filter test ms) e rest
    by false e rest = rest

pub others_where_others : (code : Tables) (p : ℕ) (many : ℕ → ℕ)
    → AreOthers (processors code) p (others_where code p many)
others_where_others code p many = λ i d below. (
  All-filter _ (λ q. q < processors code) (others code p)
      (All-filter _ (λ q. q < processors code) (processor_numbers code)
      (below-range 0 (processors code) (processors code) (omega arith))) i d below,
  apart _ (All-filter _ (λ q. not (q == p) ≡ true) (others code p)
      (filtered (λ q. not (q == p)) (processor_numbers code)) i d below),
)
  where
    apart : (q : ℕ) → not (q == p) ≡ true → (q == p) ≡ false
    apart q e = by (q == p) e
      where
        by : (b : Bool) → not b ≡ true → b ≡ false
        by true h = cc
        by false h = refl

-- ---- the star
pub star_family : (code : Tables) (p q : ℕ) → p < processors code → q < processors code
    → times q (star code p).children ≡ times p (parents (star code q).parent)
star_family code zero zero a b = times-range_below 0 1 (processors code - 1) (omega arith)
star_family code zero (suc q) a b = times-range (suc q) 1 (processors code - 1) (omega arith)
    (omega arith)
star_family code (suc p) zero a b = refl
star_family code (suc p) (suc q) a b = sym
    (times-cons (suc p) 0 []
    ∙ ap (λ e. cond e 1 0 + 0) (ne_eqb 0 (suc p) (λ same. omega (arith, same))))
