-- A walk over some processors, which passes over none that it looks for.
use Rattle.std.proofs.Common.{◌≡◌, ℕ, zero, suc, ◌+◌, ◌-◌, ◌<◌, ◌≤◌, ◌==◌, ◌&&◌, inl, inr, not, Bool, true, false, cond, min, nat_lt, List, [], ◌∷◌, ◌++◌, length, refl, sym, ap, ◌∙◌, arith}
use Rattle.std.specs.Prelude.{Some, filter, slice_get}
use Rattle.std.specs.List.{range_with_len}
use Rattle.std.proofs.lemmas.Bool.{cases_lt}
use Rattle.std.proofs.lemmas.List.{append-nil}
use Rattle.std.proofs.lemmas.List.Elements.{filter-append}
use Rattle.std.proofs.lemmas.Bool.Decides.{nat_tests}
use Rattle.grid_meaning.specs.of_node_form.declared.tables.Tables.{Tables}
use Rattle.grid_meaning.specs.Collective.{others_where}
use Rattle.grid_meaning.specs.Local.{processors}
use Rattle.node_stages.specs.declared.partners.Place.TheVariants.{There, Behind}
use Rattle.node_stages.specs.Place.{IsNth}
use Rattle.node_stages.proofs.PartnerLemmas.{filter-last, found_at, range-more}

-- the numbers below n that pass, and how many they are
abbrev pub passing : (ℕ → Bool) → ℕ → List ℕ
passing test n = filter test (range_with_len 0 n)

abbrev pub many : (ℕ → Bool) → ℕ → ℕ
many test n = length (passing test n)

-- ---- the list itself, one number after another
passing-more : (test : ℕ → Bool) (n : ℕ) → passing test (suc n) ≡ passing test n ++ cond (test n) (n ∷ []) []
passing-more test n =
    let same : 0 + n ≡ n = omega arith in
    ap (filter test) (range-more 0 n)
    ∙ (filter-append test (range_with_len 0 n) ((0 + n) ∷ []) ∙ ap (λ k. passing test n ++ filter test (k ∷ [])) same)

passing-one : (test : ℕ → Bool) (n : ℕ) → test n ≡ true → passing test (n + 1) ≡ passing test n ++ n ∷ []
passing-one test n is =
    let next : n + 1 ≡ suc n = omega arith in
    ap (passing test) next ∙ (passing-more test n ∙ ap (λ b. passing test n ++ cond b (n ∷ []) []) is)

passing-same : (test : ℕ → Bool) (n : ℕ) → test n ≡ false → passing test (n + 1) ≡ passing test n
passing-same test n is =
    let next : n + 1 ≡ suc n = omega arith in
    ap (passing test) next ∙ (passing-more test n ∙ (ap (λ b. passing test n ++ cond b (n ∷ []) []) is ∙ append-nil (passing test n)))

passing-none : (test : ℕ → Bool) (m n : ℕ) → m ≤ n → ((k : ℕ) → m ≤ k → k < n → test k ≡ false) → passing test n ≡ passing test m
passing-none test m zero le fails = let same : m ≡ 0 = omega arith in ap (passing test) (sym same)
passing-none test m (suc n) le fails = elim (cases_lt m (suc n)) [
  | inl below ↦
      let next : n + 1 ≡ suc n = omega arith in
      ap (passing test) (sym next) ∙ (passing-same test n (fails n (omega arith) (omega arith))
      ∙ passing-none test m n (omega arith) (λ k above within. fails k above (omega arith)))
  | inr above ↦ let same : suc n ≡ m = omega arith in ap (passing test) same
]

many-more : (test : ℕ → Bool) (n : ℕ) → many test (suc n) ≡ many test n + cond (test n) 1 0
many-more test n =
    let same : 0 + n ≡ n = omega arith in
    ap (λ list. length (filter test list)) (range-more 0 n)
    ∙ (filter-last test (range_with_len 0 n) (0 + n) ∙ ap (λ k. many test n + cond (test k) 1 0) same)

pub many-one : (test : ℕ → Bool) (n : ℕ) → test n ≡ true → many test (n + 1) ≡ many test n + 1
many-one test n is =
    let next : n + 1 ≡ suc n = omega arith in
    ap (many test) next ∙ (many-more test n ∙ ap (λ b. many test n + cond b 1 0) is)

pub many-same : (test : ℕ → Bool) (n : ℕ) → test n ≡ false → many test (n + 1) ≡ many test n
many-same test n is =
    let next : n + 1 ≡ suc n = omega arith in
    let none : many test n + 0 ≡ many test n = omega arith in
    ap (many test) next ∙ (many-more test n ∙ (ap (λ b. many test n + cond b 1 0) is ∙ none))

-- none between two numbers
many-none : (test : ℕ → Bool) (m n : ℕ) → m ≤ n → ((k : ℕ) → m ≤ k → k < n → test k ≡ false) → many test n ≡ many test m
many-none test m zero le fails = let same : m ≡ 0 = omega arith in ap (many test) (sym same)
many-none test m (suc n) le fails = elim (cases_lt m (suc n)) [
  | inl below ↦
      let next : n + 1 ≡ suc n = omega arith in
      ap (many test) (sym next) ∙ (many-same test n (fails n (omega arith) (omega arith))
      ∙ many-none test m n (omega arith) (λ k above within. fails k above (omega arith)))
  | inr above ↦ let same : suc n ≡ m = omega arith in ap (many test) same
]

-- ---- the walk: so many passed before q, and so many are left
abbrev pub Walked : (ℕ → Bool) → ℕ → ℕ → ℕ → ℕ → Type 0
Walked test count q left place = many test (min q count) + left ≡ place

pub walk_on : (test : ℕ → Bool) (count at next left place : ℕ) → at ≤ next → ((k : ℕ) → at ≤ k → k < next → k < count → test k ≡ false)
    → Walked test count at left place → Walked test count next left place
walk_on test count at next left place le fails was =
    let same = many-none test (min at count) (min next count) (omega arith) (λ k above below. fails k (omega arith) (omega arith) (omega arith)) in
    ap (λ n. n + left) same ∙ was

pub walk_from : (test : ℕ → Bool) (count next place : ℕ) → ((k : ℕ) → 0 ≤ k → k < next → k < count → test k ≡ false) → Walked test count next place place
walk_from test count next place fails =
    walk_on test count 0 next place place (omega arith) fails (let none : min 0 count ≡ 0 = omega arith in ap (λ n. many test n + place) none ∙ omega arith)

-- one that passes, and one that doesn't
pub walk_past : (test : ℕ → Bool) (count q left place : ℕ) → q < count → test q ≡ true → 0 < left → Walked test count q left place → Walked test count (q + 1) (left - 1) place
walk_past test count q left place below is some was =
    let here : min q count ≡ q = omega arith in
    let there : min (q + 1) count ≡ q + 1 = omega arith in
    let before : many test q + left ≡ place = ap (λ n. many test n + left) (sym here) ∙ was in
    let more = many-one test q is in
    ap (λ n. many test n + (left - 1)) there ∙ omega (arith, more, before, some)

pub walk_by : (test : ℕ → Bool) (count q left place : ℕ) → q < count → test q ≡ false → Walked test count q left place → Walked test count (q + 1) left place
walk_by test count q left place below is was =
    let here : min q count ≡ q = omega arith in
    let there : min (q + 1) count ≡ q + 1 = omega arith in
    let before : many test q + left ≡ place = ap (λ n. many test n + left) (sym here) ∙ was in
    let same = many-same test q is in
    ap (λ n. many test n + left) there ∙ omega (arith, same, before)

-- ---- the others with words, as numbers that pass
abbrev pub is_partner : ℕ → (ℕ → ℕ) → ℕ → Bool
is_partner p words q = not (q == p) && nat_lt 0 (words q)

both_filters : (one two : ℕ → Bool) (xs : List ℕ) → filter two (filter one xs) ≡ filter (λ k. one k && two k) xs
both_filters one two [] = refl
both_filters one two (x ∷ xs) = by (one x) (both_filters one two xs)
  where
    by : (c : Bool) → filter two (filter one xs) ≡ filter (λ k. one k && two k) xs
        → filter two (cond c (x ∷ filter one xs) (filter one xs)) ≡ cond (c && two x) (x ∷ filter (λ k. one k && two k) xs) (filter (λ k. one k && two k) xs)
    by true rest = ap (λ list. cond (two x) (x ∷ list) list) rest
    by false rest = rest

pub partners_are : (code : Tables) (p : ℕ) (words : ℕ → ℕ) → others_where code p words ≡ passing (is_partner p words) (processors code)
partners_are code p words = both_filters (λ q. not (q == p)) (λ q. nat_lt 0 (words q)) (range_with_len 0 (processors code))

pub found_there : (code : Tables) (p : ℕ) (words : ℕ → ℕ) (count q place : ℕ) → count ≡ processors code → q < count → is_partner p words q ≡ true
    → Walked (is_partner p words) count q 0 place → IsNth (others_where code p words) place (There q)
found_there code p words count q place same below is was =
    let here : min q count ≡ q = omega arith in
    let start : 0 + q ≡ q = omega arith in
    let none : many (is_partner p words) q + 0 ≡ many (is_partner p words) q = omega arith in
    let counted : many (is_partner p words) q ≡ place = sym none ∙ (ap (λ n. many (is_partner p words) n + 0) (sym here) ∙ was) in
    let within : q < processors code = omega arith in
    ap (λ list. slice_get list place) (partners_are code p words)
    ∙ (ap (slice_get (passing (is_partner p words) (processors code))) (sym counted)
    ∙ (found_at (is_partner p words) 0 (processors code) q within (ap (is_partner p words) start ∙ is) ∙ ap Some start))

pub found_behind : (code : Tables) (p : ℕ) (words : ℕ → ℕ) (count q left place : ℕ) → count ≡ processors code → count ≤ q
    → Walked (is_partner p words) count q left place → IsNth (others_where code p words) place (Behind left)
found_behind code p words count q left place same past was =
    let all : min q count ≡ processors code = omega arith in
    sym (ap (λ list. length list + left) (partners_are code p words) ∙ (ap (λ n. many (is_partner p words) n + left) (sym all) ∙ was))

-- who doesn't lie in a reach that has all with words doesn't pass
pub passes_not : (p q : ℕ) (words : ℕ → ℕ) → (0 < words q → ⊥) → is_partner p words q ≡ false
passes_not p q words none =
    let no : nat_lt 0 (words q) ≡ false = by (nat_lt 0 (words q)) refl in
    ap (λ b. not (q == p) && b) no ∙ and_false (not (q == p))
  where
    by : (b : Bool) → nat_lt 0 (words q) ≡ b → nat_lt 0 (words q) ≡ false
    by true e = let some : 0 < words q = grind (arith, nat_tests) in absurd (none some)
    by false e = e

    and_false : (b : Bool) → (b && false) ≡ false
    and_false true = refl
    and_false false = refl

pub passes : (p q : ℕ) (words : ℕ → ℕ) (has : Bool) → (q ≡ p → ⊥) → has ≡ nat_lt 0 (words q) → has ≡ true → is_partner p words q ≡ true
passes p q words has apart is yes_has =
    let no : (q == p) ≡ false = grind (arith, nat_tests) in
    ap (λ same. not same && nat_lt 0 (words q)) no ∙ (sym is ∙ yes_has)

pub fails_itself : (p q : ℕ) (words : ℕ → ℕ) → q ≡ p → is_partner p words q ≡ false
fails_itself p q words same =
    let one : (q == p) ≡ true = grind (arith, nat_tests) in
    ap (λ t. not t && nat_lt 0 (words q)) one

pub fails_without : (p q : ℕ) (words : ℕ → ℕ) (has : Bool) → has ≡ nat_lt 0 (words q) → has ≡ false → is_partner p words q ≡ false
fails_without p q words has is none = ap (λ b. not (q == p) && b) (sym is ∙ none) ∙ and_false (not (q == p))
  where
    and_false : (b : Bool) → (b && false) ≡ false
    and_false true = refl
    and_false false = refl

-- ---- a walk that lists who passes: the list holds those before q
abbrev pub Listed : (ℕ → Bool) → ℕ → ℕ → List ℕ → Type 0
Listed test count q list = list ≡ passing test (min q count)

pub listed_on : (test : ℕ → Bool) (count at next : ℕ) (list : List ℕ) → at ≤ next → ((k : ℕ) → at ≤ k → k < next → k < count → test k ≡ false)
    → Listed test count at list → Listed test count next list
listed_on test count at next list le fails was =
    was ∙ sym (passing-none test (min at count) (min next count) (omega arith) (λ k above below. fails k (omega arith) (omega arith) (omega arith)))

pub listed_from : (test : ℕ → Bool) (count next : ℕ) → ((k : ℕ) → 0 ≤ k → k < next → k < count → test k ≡ false) → Listed test count next []
listed_from test count next fails =
    listed_on test count 0 next [] (omega arith) fails (let none : min 0 count ≡ 0 = omega arith in ap (passing test) (sym none))

-- one that passes, and one that doesn't
pub listed_more : (test : ℕ → Bool) (count q : ℕ) (list : List ℕ) → q < count → test q ≡ true → Listed test count q list → Listed test count (q + 1) (list ++ q ∷ [])
listed_more test count q list below is was =
    let here : min q count ≡ q = omega arith in
    let there : q + 1 ≡ min (q + 1) count = omega arith in
    ap (λ l. l ++ q ∷ []) (was ∙ ap (passing test) here) ∙ (sym (passing-one test q is) ∙ ap (passing test) there)

pub listed_by : (test : ℕ → Bool) (count q : ℕ) (list : List ℕ) → q < count → test q ≡ false → Listed test count q list → Listed test count (q + 1) list
listed_by test count q list below is was =
    let here : min q count ≡ q = omega arith in
    let there : q + 1 ≡ min (q + 1) count = omega arith in
    was ∙ (ap (passing test) here ∙ (sym (passing-same test q is) ∙ ap (passing test) there))

-- they are no more than the numbers before q
passing_few : (test : ℕ → Bool) (n : ℕ) → length (passing test n) ≤ n
passing_few test zero = omega arith
passing_few test (suc n) =
    let before = passing_few test n in
    let step = many-more test n in
    let one : cond (test n) 1 0 ≤ 1 = by (test n) in
    omega (arith, before, step, one)
  where
    by : (b : Bool) → cond b 1 0 ≤ 1
    by true = omega arith
    by false = omega arith

pub listed_few : (test : ℕ → Bool) (count q : ℕ) (list : List ℕ) → q < count → count ≤ 64 → Listed test count q list → length list < 64
listed_few test count q list below most was =
    let same = ap length was in
    let few = passing_few test (min q count) in
    omega (arith, same, few)

pub listed_all : (code : Tables) (p : ℕ) (words : ℕ → ℕ) (count q : ℕ) (list : List ℕ) → count ≡ processors code → count ≤ q
    → Listed (is_partner p words) count q list → list ≡ others_where code p words
listed_all code p words count q list same past was =
    let all : min q count ≡ processors code = omega arith in
    was ∙ (ap (passing (is_partner p words)) all ∙ sym (partners_are code p words))
