-- Texts as numbers.
use Rattle.std.proofs.Common.{◌≡◌, ℕ, ◌≤◌, ◌^◌, ◌==◌, ◌&&◌, ℤ, int_le, Bool, true, false, List, [], ◌∷◌, length, Option, Some, None, refl, sym, ap, arith, w64, if◌then◌else◌}
use Rattle.std.specs.Prelude.{FitsSigned, MatchOption, SomeIff}
use borrow.Author.Tests.{eqb-true}
use Rattle.std.specs.List.{list_all}
use Rattle.std.specs.Char.{is_ascii_digit}
use Rattle.std.specs.Str.Parse.{digits_value}
use Rattle.std.proofs.lemmas.Int.{ints}
use Rattle.zpl_nums.specs.Integer.{least, greatest}
use Rattle.zpl_parts.specs.of_zpl_binding.Settings.{digits_of, integer_in_range}

pub no-digits : (text : List ℕ) → (length text == 0) ≡ true → digits_of text ≡ None
no-digits [] h = refl
no-digits (first ∷ rest) h = absurd (omega (arith, eqb-true (length (first ∷ rest)) 0 h))

pub not-digits : (text : List ℕ) → list_all is_ascii_digit text ≡ false → digits_of text ≡ None
not-digits [] h = refl
not-digits (first ∷ rest) h =
    ap (λ b. if b then Some (digits_value 10 (first ∷ rest)) else None) h

pub all-digits : (text : List ℕ) → (length text == 0) ≡ false →
    list_all is_ascii_digit text ≡ true → digits_of text ≡ Some (digits_value 10 text)
all-digits [] e h = cc
all-digits (first ∷ rest) e h =
    ap (λ b. if b then Some (digits_value 10 (first ∷ rest)) else None) h

-- ---- within 64 bits

in_range : (z : ℤ) → (b c : Bool) → int_le least z ≡ b → int_le z greatest ≡ c →
    (r : Option ℤ) → SomeIff r (FitsSigned w64 z) z → r ≡ (if b && c then Some z else None)
in_range z true true e f (Some x) h = ap Some h.1
in_range z true true e f None h =
    let fits : FitsSigned w64 z = grind (arith, ints) in absurd (h fits)
in_range z true false e f (Some x) h =
    let fits = h.0 in absurd (grind (arith, ints))
in_range z true false e f None h = refl
in_range z false c e f (Some x) h =
    let fits = h.0 in absurd (grind (arith, ints))
in_range z false c e f None h = refl

pub range-of : (r : Option ℤ) (z : ℤ) → SomeIff r (FitsSigned w64 z) z →
    r ≡ integer_in_range z
range-of r z h = in_range z (int_le least z) (int_le z greatest) refl refl r h

pub told_number : (r : Option ℕ) (n : ℕ) → MatchOption r (2 ^ 64 ≤ n) (λ value. value ≡ n) →
    MatchOption r (2 ^ 64 ≤ n) (λ value. Some n ≡ Some value)
told_number None n h = h
told_number (Some value) n h = ap Some (sym h)
