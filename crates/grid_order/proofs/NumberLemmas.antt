-- Numbers that grow digit by digit.
use Rattle.std.proofs.Common.{◌≡◌, ℕ, ◌+◌, ◌-◌, ◌*◌, ◌<◌, ◌≤◌, Bool, true, false, ◌&&◌, List, [], ◌∷◌, length, take, drop, fold, Option, Some, None, nat_lt, sym, ap, ◌∙◌, subst, refl, zero, suc, arith, rules, tests}
use Rattle.std.specs.Prelude.{if◌then◌else◌, ◌==◌}
use Rattle.std.proofs.lemmas.List.{take-append-drop}
use Rattle.std.proofs.lemmas.List.Sums.{fold-append}
use Rattle.std.proofs.lemmas.List.Folds.{list_all-append}
use Rattle.std.specs.Char.{is_ascii_digit}
use Rattle.std.specs.List.{list_all}
use Rattle.grid_order.specs.Item.{decimal, number_below}

abbrev step : ℕ → ℕ → ℕ
step number digit = 10 * number + (digit - 48)

grows : (n : ℕ) (digits : List ℕ) → n ≤ fold step n digits
grows n [] = omega arith
grows n (digit ∷ digits) = omega (arith, grows (step n digit) digits)

-- a number is no less than its front
decimal-front : (i : ℕ) (digits : List ℕ) → decimal (take i digits) ≤ decimal digits
decimal-front i digits =
    subst (λ n. decimal (take i digits) ≤ n)
    (sym (fold-append step 0 (take i digits) (drop i digits)) ∙ ap decimal (take-append-drop i digits))
    (grows (decimal (take i digits)) (drop i digits))

-- a word whose front has a byte that is no digit is no number
not_all-front : (i : ℕ) (digits : List ℕ) → list_all is_ascii_digit (take i digits) ≡ false → list_all is_ascii_digit digits ≡ false
not_all-front i digits not =
    ap (list_all is_ascii_digit) (sym (take-append-drop i digits))
    ∙ list_all-append is_ascii_digit (take i digits) (drop i digits)
    ∙ ap (λ b. b && list_all is_ascii_digit (drop i digits)) not

first_fails : (a b c : Bool) (x : Option ℕ) → a ≡ false → None ≡ (if a && b && c then x else None)
first_fails true b c x e = cc
first_fails false b c x e = refl

second_fails : (a b c : Bool) (x : Option ℕ) → b ≡ false → None ≡ (if a && b && c then x else None)
second_fails false b c x e = refl
second_fails true true c x e = cc
second_fails true false c x e = refl

third_fails : (a b c : Bool) (x : Option ℕ) → c ≡ false → None ≡ (if a && b && c then x else None)
third_fails false b c x e = refl
third_fails true false c x e = refl
third_fails true true true x e = cc
third_fails true true false x e = refl

all_hold : (a b c : Bool) (x : Option ℕ) → a ≡ true → b ≡ true → c ≡ true → x ≡ (if a && b && c then x else None)
all_hold a b c x p q r = rw (p, q, r) refl

-- ---- when a word is a number below a limit
pub no_digits : (limit : ℕ) (word : List ℕ) → length word ≡ 0 → None ≡ number_below limit word
unfolding number_below
no_digits limit word none =
    let not : nat_lt 0 (length word) ≡ false = search (rules, tests) in
    first_fails (nat_lt 0 (length word)) (list_all is_ascii_digit word) (nat_lt (decimal word) limit) (Some (decimal word)) not

pub no_digit : (limit : ℕ) (word : List ℕ) (i : ℕ) → list_all is_ascii_digit (take i word) ≡ false → None ≡ number_below limit word
unfolding number_below
no_digit limit word i not =
    second_fails (nat_lt 0 (length word)) (list_all is_ascii_digit word) (nat_lt (decimal word) limit) (Some (decimal word))
    (not_all-front i word not)

pub too_great : (limit : ℕ) (word : List ℕ) (i : ℕ) → limit ≤ decimal (take i word) → None ≡ number_below limit word
unfolding number_below
too_great limit word i most =
    let whole : limit ≤ decimal word = omega (arith, most, decimal-front i word) in
    let not : nat_lt (decimal word) limit ≡ false = search (rules, tests) in
    third_fails (nat_lt 0 (length word)) (list_all is_ascii_digit word) (nat_lt (decimal word) limit) (Some (decimal word)) not

pub is_number : (limit : ℕ) (word : List ℕ) → 0 < length word → list_all is_ascii_digit word ≡ true → decimal word < limit
    → Some (decimal word) ≡ number_below limit word
unfolding number_below
is_number limit word some digits below =
    let first : nat_lt 0 (length word) ≡ true = search (rules, tests) in
    let third : nat_lt (decimal word) limit ≡ true = search (rules, tests) in
    all_hold (nat_lt 0 (length word)) (list_all is_ascii_digit word) (nat_lt (decimal word) limit) (Some (decimal word))
    first digits third

pub false_last : (b : Bool) → (b && false) ≡ false
false_last true = refl
false_last false = refl

pub eqb-false-pos : (n : ℕ) → (n == 0) ≡ false → 0 < n
eqb-false-pos zero e = cc
eqb-false-pos (suc n) e = omega arith
