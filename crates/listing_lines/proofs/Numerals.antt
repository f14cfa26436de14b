-- Numbers as they are written, and how they are read.
use Rattle.std.proofs.Common.{◌≡◌, ℕ, suc, ◌^◌, ◌<◌, Bool, true, false, ◌&&◌, List, [], ◌∷◌, length, ℤ, pos, negsuc, refl, arith, Result, Ok}
use Rattle.std.specs.Char.{is_ascii_digit}
use Rattle.std.specs.Fmt.{signed_decimal, decimal}
use Rattle.std.specs.List.{list_all, list_any}
use Rattle.std.specs.Str.{IsUtf8, all_ascii_digits}
use Rattle.std.specs.Str.Parse.{ParsesSigned, digits_value}
use Rattle.std.proofs.lemmas.Fmt.{digits_decimal, decimal_nonempty, parse-signed_decimal, IsAscii-signed}
use Rattle.std.proofs.lemmas.Str.{IsUtf8-from_ascii}
use Rattle.std.proofs.lemmas.Str.Parse.{IsNumeralModel, numerals_by_value, tells_all_ascii_digits}
use Rattle.std.specs.Int.Signed.{mag}
use Rattle.zpl_nums.specs.Integer.{IsInteger}
use Rattle.listing_lines.specs.Reading.{is_number_byte}
use mir.Syntax.{w64}

-- a number of 64 bits, by its magnitude
pub small : (z : ℤ) → IsInteger z → mag z < 2 ^ 63
small z h = omega arith

-- its text is ASCII, and is read as the number
pub IsUtf8-number : (z : ℤ) (text : List ℕ) → IsInteger z → text ≡ signed_decimal z → IsUtf8 text
IsUtf8-number z text h e = IsUtf8-from_ascii text (rw e (IsAscii-signed z (small z h)))

pub parsed : {E : Type 0} (z : ℤ) (text : List ℕ) (r : Result ℤ E) → IsInteger z → text ≡ signed_decimal z → ParsesSigned w64 10 text r → r ≡ Ok z
parsed z text r h e p = parse-signed_decimal w64 z text r h (small z h) e p

-- ---- bytes of numbers
own : IsNumeralModel (λ ds. all_ascii_digits ds ≡ true) (digits_value 10)
own = numerals_by_value _ tells_all_ascii_digits

both : (a b : Bool) → (a && b) ≡ true → (a ≡ true) × (b ≡ true)
both true b h = (refl, h)
both false b h = absurd cc

from_digits : (ds : List ℕ) → all_ascii_digits ds ≡ true → list_all is_number_byte ds ≡ true
from_digits [] h = refl
from_digits (d ∷ ds) h =
    let parts = both (is_ascii_digit d) (all_ascii_digits ds) h in
    rw (parts.0, from_digits ds parts.1)

pub number_bytes : (z : ℤ) → IsInteger z → list_all is_number_byte (signed_decimal z) ≡ true
number_bytes (pos n) h = from_digits (decimal n) (digits_decimal own n (omega (arith, small (pos n) h)))
number_bytes (negsuc n) h = from_digits (decimal (suc n)) (digits_decimal own (suc n) (omega (arith, small (negsuc n) h)))

any_digit : (ds : List ℕ) → all_ascii_digits ds ≡ true → 0 < length ds → list_any is_ascii_digit ds ≡ true
any_digit [] h some = absurd (omega arith)
any_digit (d ∷ ds) h some = let parts = both (is_ascii_digit d) (all_ascii_digits ds) h in rw (parts.0)

pub has_digit : (z : ℤ) → IsInteger z → list_any is_ascii_digit (signed_decimal z) ≡ true
has_digit (pos n) h = any_digit (decimal n) (digits_decimal own n (omega (arith, small (pos n) h))) (decimal_nonempty n (omega (arith, small (pos n) h)))
has_digit (negsuc n) h =
    any_digit (decimal (suc n)) (digits_decimal own (suc n) (omega (arith, small (negsuc n) h))) (decimal_nonempty (suc n) (omega (arith, small (negsuc n) h)))

pub some_bytes : (z : ℤ) → IsInteger z → 0 < length (signed_decimal z)
some_bytes (pos n) h = decimal_nonempty n (omega (arith, small (pos n) h))
some_bytes (negsuc n) h = omega arith
