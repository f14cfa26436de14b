-- Digits, byte by byte.
use Rattle.std.proofs.Common.{◌≡◌, ℕ, zero, suc, ◌+◌, ◌<◌, leb, List, [], ◌∷◌, length, get_or, IsTrue, arith}
use Rattle.std.specs.List.{list_all}
use Rattle.std.specs.Char.{is_ascii_digit, digit_value}
use Rattle.std.proofs.lemmas.Bool.{and_parts, leb-true}
use Rattle.std.proofs.lemmas.Str.{digit_value_digit}

-- each of the bytes is a digit, and has its value
pub digit_at : (digits : List ℕ) (i : ℕ) → IsTrue (list_all is_ascii_digit digits)
    → i < length digits → digit_value (get_or digits i 0) + 48 ≡ get_or digits i 0
digit_at [] i all fits = absurd (omega arith)
digit_at (b ∷ digits) zero all fits =
    let test = (and_parts (is_ascii_digit b) (list_all is_ascii_digit digits) all).0 in
    let range = and_parts (leb 48 b) (leb b 57) test in
    digit_value_digit b (leb-true 48 b range.0, leb-true b 57 range.1)
digit_at (b ∷ digits) (suc i) all fits =
    digit_at digits i (and_parts (is_ascii_digit b) (list_all is_ascii_digit digits) all).1
    (omega arith)
