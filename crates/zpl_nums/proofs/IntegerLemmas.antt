-- Lemmas on wrapping, and on truth values as numbers.
use Rattle.std.proofs.Common.{◌≡◌, ℕ, zero, suc, ◌+◌, ◌-◌, ◌*◌, ◌/◌, ◌%◌, ◌^◌, ◌<◌, ◌≤◌, Bool, true}
use Rattle.std.proofs.Common.{false, cond, ltb, ◌⊎◌, ℤ, pos, negsuc, ◌+ℤ◌, ◌*ℤ◌, neg_ℤ, refl, sym}
use Rattle.std.proofs.Common.{◌∙◌, ap, inl, inr, arith, w64}
use Rattle.std.specs.Int.{int_wrap, int_max, int_min, cast_signed, cast_unsigned}
use Rattle.std.specs.Int.RustNames.{int_div, int_rem, int_lt}
use Rattle.std.proofs.lemmas.Int.{ints, clamps, int_wrap_fits, int_wrap-add_left}
use Rattle.std.proofs.lemmas.Int.{int_wrap-add_right, int_wrap-mul_left, int_wrap-mul_right}
use Rattle.std.proofs.lemmas.Int.{SFits-int_wrap}
use Rattle.std.proofs.Math.Nat.{mod-eq_of_lt, div-le_self}
use Rattle.std.proofs.Math.IntN.{+ℤ_assoc, +ℤ_idr, *ℤ-zero}
use borrow.Author.Differences.{up, down, product_is}
use lib.Signed.{mag, mag_rem}
use Rattle.zpl_nums.specs.Integer.{IsInteger, wrapped, truth, is_true, IsTruth}

-- the bits of a number of less than 2^64 in size, read as a signed number
pub wrapped_of_bits : (z : ℤ) → mag z < 2 ^ 64 → cast_signed w64 (cast_unsigned w64 z) ≡ wrapped z
unfolding int_wrap
wrapped_of_bits (pos n) below = ap (cast_signed w64) (sym (mod-eq_of_lt below))
wrapped_of_bits (negsuc n) below =
    let small : n % 2 ^ 64 ≡ n = mod-eq_of_lt below in
    ap (cast_signed w64) (omega arith)

mag-neg_ℤ : (n : ℕ) → mag (neg_ℤ (pos n)) ≤ n
mag-neg_ℤ zero = omega arith
mag-neg_ℤ (suc n) = omega arith

-- a quotient is no larger than its dividend
pub mag-int_div : (a b : ℤ) → mag (int_div a b) ≤ mag a + 1
mag-int_div (pos a) (pos b) = omega (arith, div-le_self a b)
mag-int_div (pos a) (negsuc b) = omega (arith, div-le_self a (suc b), mag-neg_ℤ (a / suc b))
mag-int_div (negsuc a) (pos b) = omega (arith, div-le_self (suc a) b, mag-neg_ℤ (suc a / b))
mag-int_div (negsuc a) (negsuc b) = omega (arith, div-le_self (suc a) (suc b))

-- the quotient of the bits
pub wrapped_quotient : (a b : ℤ) → IsInteger a
    → cast_signed w64 (cast_unsigned w64 (int_div a b)) ≡ wrapped (int_div a b)
wrapped_quotient a b fits =
    let below : mag (int_div a b) < 2 ^ 64 = omega (arith, mag-int_div a b, fits.sfits) in
    wrapped_of_bits (int_div a b) below

-- a truth value is true as itself
pub is_true-truth : (b : Bool) → is_true (truth b) ≡ b
is_true-truth true = refl
is_true-truth false = refl

pub IsTruth-truth : (b : Bool) → IsTruth (truth b)
IsTruth-truth true = inr refl
IsTruth-truth false = inl refl

pub int_max_assoc : (a b c : ℤ) → int_max (int_max a b) c ≡ int_max a (int_max b c)
int_max_assoc a b c = omega (arith, ints, clamps)

pub int_min_assoc : (a b c : ℤ) → int_min (int_min a b) c ≡ int_min a (int_min b c)
int_min_assoc a b c = omega (arith, ints, clamps)

pub wrapped-add_assoc : (a b c : ℤ)
    → wrapped (wrapped (a +ℤ b) +ℤ c) ≡ wrapped (a +ℤ wrapped (b +ℤ c))
wrapped-add_assoc a b c =
    int_wrap-add_left w64 (a +ℤ b) c
    ∙ (ap wrapped (+ℤ_assoc a b c) ∙ sym (int_wrap-add_right w64 a (b +ℤ c)))

-- an integer is what is up less what is down
by_parts : (a b : ℤ) → up a ≡ up b → down a ≡ down b → a ≡ b
by_parts a b e f = omega (arith, ints)

pub *ℤ_assoc : (a b c : ℤ) → (a *ℤ b) *ℤ c ≡ a *ℤ (b *ℤ c)
*ℤ_assoc a b c =
    let ab = product_is a b in
    let bc = product_is b c in
    let left = product_is (a *ℤ b) c in
    let right = product_is a (b *ℤ c) in
    by_parts ((a *ℤ b) *ℤ c) (a *ℤ (b *ℤ c))
    (left.0 ∙ (regroup (up a) (down a) (up b) (down b) (up c) (down c) ab bc ∙ sym right.0))
    (left.1 ∙ (regroup' (up a) (down a) (up b) (down b) (up c) (down c) ab bc ∙ sym right.1))
  where
    regroup : (x x' y y' z z' : ℕ) {p p' q q' : ℕ} → (p ≡ x * y + x' * y') × (p' ≡ x * y' + x' * y)
        → (q ≡ y * z + y' * z') × (q' ≡ y * z' + y' * z) → p * z + p' * z' ≡ x * q + x' * q'
    regroup x x' y y' z z' e f = rw (e.0, e.1, f.0, f.1) (omega arith)

    regroup' : (x x' y y' z z' : ℕ) {p p' q q' : ℕ} → (p ≡ x * y + x' * y') × (p' ≡ x * y' + x' * y)
        → (q ≡ y * z + y' * z') × (q' ≡ y * z' + y' * z) → p * z' + p' * z ≡ x * q' + x' * q
    regroup' x x' y y' z z' e f = rw (e.0, e.1, f.0, f.1) (omega arith)

pub wrapped-mul_assoc : (a b c : ℤ)
    → wrapped (wrapped (a *ℤ b) *ℤ c) ≡ wrapped (a *ℤ wrapped (b *ℤ c))
wrapped-mul_assoc a b c =
    int_wrap-mul_left w64 (a *ℤ b) c
    ∙ (ap wrapped (*ℤ_assoc a b c) ∙ sym (int_wrap-mul_right w64 a (b *ℤ c)))

-- the signed number of 64 bits is the natural, or 2^64 less
signed_at : (r : ℕ) (low : Bool) → ltb r (2 ^ 63) ≡ low → r < 2 ^ 64
    → (cond low (pos r) (negsuc (2 ^ 64 - suc r)) ≡ pos r)
    ⊎ (cond low (pos r) (negsuc (2 ^ 64 - suc r)) +ℤ pos (2 ^ 64) ≡ pos r)
signed_at r true e below = inl refl
signed_at r false e below = inr (omega (arith, ints))

signed_of : (r : ℕ) → r < 2 ^ 64
    → (cast_signed w64 r ≡ pos r) ⊎ (cast_signed w64 r +ℤ pos (2 ^ 64) ≡ pos r)
signed_of r below = signed_at r (ltb r (2 ^ 63)) refl below

-- the multiples of 2^64 by which the parts of a number differ from it
differs_above : (s : ℤ) (n r q : ℕ) → n ≡ 2 ^ 64 * q + r → (s ≡ pos r) ⊎ (s +ℤ pos (2 ^ 64) ≡ pos r)
    → (k : ℤ) × (pos n ≡ s +ℤ (k *ℤ pos (2 ^ 64)))
differs_above s n r q parts signed =
    elim signed [
      | inl e ↦ (pos q, omega (arith, ints))
      | inr e ↦ (pos (suc q), omega (arith, ints))
    ]

differs_below : (s : ℤ) (n r q : ℕ) → r < 2 ^ 64 → n ≡ 2 ^ 64 * q + r
    → (s ≡ pos (2 ^ 64 - 1 - r)) ⊎ (s +ℤ pos (2 ^ 64) ≡ pos (2 ^ 64 - 1 - r))
    → (k : ℤ) × (negsuc n ≡ s +ℤ (k *ℤ pos (2 ^ 64)))
differs_below s n r q small parts (inl e) = (negsuc q, omega (arith, ints))
differs_below s n r zero small parts (inr e) = (pos 0, omega (arith, ints))
differs_below s n r (suc q) small parts (inr e) = (negsuc q, omega (arith, ints))

-- a number and what wrapping leaves of it differ by a multiple of 2^64
pub wrapped_differs : (z : ℤ) → (k : ℤ) × (z ≡ wrapped z +ℤ (k *ℤ pos (2 ^ 64)))
unfolding int_wrap
wrapped_differs (pos n) =
    differs_above (cast_signed w64 (n % 2 ^ 64)) n (n % 2 ^ 64) (n / 2 ^ 64) (omega arith)
    (signed_of (n % 2 ^ 64) (omega arith))
wrapped_differs (negsuc n) =
    differs_below (cast_signed w64 (2 ^ 64 - 1 - n % 2 ^ 64)) n (n % 2 ^ 64) (n / 2 ^ 64)
    (omega arith) (omega arith) (signed_of (2 ^ 64 - 1 - n % 2 ^ 64) (omega arith))

pub wrapped_zero : wrapped (pos 0) ≡ pos 0
unfolding int_wrap
wrapped_zero = refl

pub wrapped_one : wrapped (pos 1) ≡ pos 1
unfolding int_wrap
wrapped_one = refl

wrapped_power : wrapped (pos (2 ^ 64)) ≡ pos 0
unfolding int_wrap
wrapped_power = refl

wrapped_multiple : (k : ℤ) → wrapped (k *ℤ pos (2 ^ 64)) ≡ pos 0
wrapped_multiple k =
    sym (int_wrap-mul_right w64 k (pos (2 ^ 64)))
    ∙ (ap (λ x. wrapped (k *ℤ x)) wrapped_power ∙ (ap wrapped (*ℤ-zero k) ∙ wrapped_zero))

-- and it is the only integer of 64 bits that does
pub wrapped_only : (z y k : ℤ) → IsInteger y → z ≡ y +ℤ (k *ℤ pos (2 ^ 64)) → y ≡ wrapped z
wrapped_only z y k fits e =
    sym (ap wrapped e
    ∙ (sym (int_wrap-add_right w64 y (k *ℤ pos (2 ^ 64)))
    ∙ (ap (λ x. wrapped (y +ℤ x)) (wrapped_multiple k)
    ∙ (ap wrapped (+ℤ_idr y) ∙ int_wrap_fits w64 y fits))))

-- ---- what stays within 64 bits
pub IsInteger-truth : (b : Bool) → IsInteger (truth b)
IsInteger-truth true = record { sfits = omega arith }
IsInteger-truth false = record { sfits = omega arith }

pub IsInteger-wrapped : (z : ℤ) → IsInteger (wrapped z)
IsInteger-wrapped z = SFits-int_wrap w64 z

pub IsInteger-int_rem : (a b : ℤ) → IsInteger a → IsInteger (int_rem a b)
IsInteger-int_rem a b f = record { sfits = omega (arith, mag_rem a b, f.sfits) }

pub IsInteger-int_max : (a b : ℤ) → IsInteger a → IsInteger b → IsInteger (int_max a b)
IsInteger-int_max a b f g =
    elim (int_lt b a) as (λ t. IsInteger (cond t a b)) [ true ↦ f | false ↦ g ]

pub IsInteger-int_min : (a b : ℤ) → IsInteger a → IsInteger b → IsInteger (int_min a b)
IsInteger-int_min a b f g =
    elim (int_lt b a) as (λ t. IsInteger (cond t b a)) [ true ↦ g | false ↦ f ]
