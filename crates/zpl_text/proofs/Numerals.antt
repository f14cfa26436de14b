-- The value of digits, front by front.
use Rattle.std.proofs.Common.{◌≡◌, ℕ, zero, suc, ◌+◌, ◌^◌, ◌<◌, ◌≤◌, leb, List, [], ◌∷◌, ◌++◌}
use Rattle.std.proofs.Common.{length, get_or, take, drop, map, pos, ◌<ℤ◌, IsTrue, subst, arith}
use Rattle.std.specs.List.{list_all}
use Rattle.std.specs.Char.{is_ascii_digit, digit_value}
use Rattle.std.specs.Str.Parse.{digits_value}
use Rattle.std.specs.Int.Digits.{number_from_digits_after}
use Rattle.std.proofs.lemmas.Bool.{and_parts, leb-true}
use Rattle.std.proofs.lemmas.Int.{ints}
use Rattle.std.proofs.lemmas.Int.Digits.{digits_value_is, number_after_append, number_after_ge}
use Rattle.std.proofs.lemmas.List.{map-append, take-append-drop}
use Rattle.std.proofs.lemmas.Str.{digit_value_digit}
use Rattle.zpl_text.specs.Cutting.{greatest}

-- each of the bytes is a digit, and has its value
pub digit_at : (digits : List ℕ) (i : ℕ) → IsTrue (list_all is_ascii_digit digits)
    → i < length digits → digit_value (get_or digits i 0) + 48 ≡ get_or digits i 0
digit_at [] i all fits = absurd (omega arith)
digit_at (b ∷ digits) zero all fits =
    let test = (and_parts (is_ascii_digit b) (list_all is_ascii_digit digits) all).0 in
    let range = and_parts (leb 48 b) (leb b 57) test in
    digit_value_digit b (leb-true 48 b range.0, leb-true b 57 range.1)
digit_at (b ∷ digits) (suc i) all fits =
    digit_at digits i (and_parts (is_ascii_digit b) (list_all is_ascii_digit digits) all).1
    (omega arith)

-- the value of a front is at most that of the whole
value_of_front : (front rest : List ℕ) → digits_value 10 front ≤ digits_value 10 (front ++ rest)
value_of_front front rest =
    rw (
      digits_value_is 10 front,
      digits_value_is 10 (front ++ rest),
      map-append digit_value front
          rest,
      number_after_append 10 0 (map digit_value front) (map digit_value rest),
    )
    (number_after_ge 10 (number_from_digits_after 10 0 (map digit_value front))
    (map digit_value rest) (omega arith))

-- where the value of a front passes 64 bits, the number is over the greatest
pub over_greatest : (digits : List ℕ) (n : ℕ) → 2 ^ 64 ≤ digits_value 10 (take n digits)
    → greatest <ℤ pos (digits_value 10 digits)
over_greatest digits n over =
    let whole = subst (λ (xs : List ℕ). digits_value 10 (take n digits) ≤ digits_value 10 xs)
    (take-append-drop n digits) (value_of_front (take n digits) (drop n digits)) in
    omega (arith, ints)
