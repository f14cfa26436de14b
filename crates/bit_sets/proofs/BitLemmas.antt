-- Bits of words.
use Rattle.std.proofs.Common.{◌≡◌, ◌≢◌, ℕ, ◌*◌, ◌/◌, ◌%◌, ◌^◌, ◌<◌, ◌≤◌, ◌⊎◌, refl}
use Rattle.std.proofs.Common.{true, false, ◌||◌, eqb, List, length}
use Rattle.std.proofs.Common.{get_or, set, sym, ◌∙◌, ap, inl, inr, arith, eq-eqb, w64}
use Rattle.std.proofs.Common.{get_or-set_other, get_or-set_same}
use Rattle.std.proofs.lemmas.List.{get_or_past}
use Rattle.std.proofs.lemmas.Bool.{cases_eq, cases_lt}
use Rattle.std.proofs.lemmas.Nat.Bits.{bit_at-lt, bit_at-zero, bit_at_or, bit_at_set_other, bit_at_set_same}
use Rattle.std.proofs.lemmas.Nat.Bits.{bit_at_clear_other, bit_at_clear_same}
use Rattle.std.specs.Prelude.{bit_and, bit_or, max}
use Rattle.std.specs.Int.{bit_at, bit_not}
use Rattle.bit_sets.specs.Bits.{bit_of}

-- ---- past the last word
pub bit_past : (words : List ℕ) (n : ℕ) → length words ≤ n / 64 → bit_of words n ≡ false
bit_past words n past =
    ap (λ word. eqb (bit_at word (n % 64)) 1) (get_or_past words (n / 64) 0 past)
    ∙ ap (λ bit. eqb bit 1) (bit_at-zero (n % 64))

-- ---- one word is changed
module _ (words : List ℕ) (n word : ℕ) (within : n / 64 < length words)
    (read : word ≡ get_or words (n / 64) 0) where
  pub changed_same : (next : ℕ) → bit_of (set words (n / 64) next) n ≡ eqb (bit_at next (n % 64)) 1
  changed_same next =
      ap (λ x. eqb (bit_at x (n % 64)) 1) (get_or-set_same words (n / 64) next 0 within)

  pub changed_other : (next : ℕ)
      → ((i : ℕ) → i < 64 → i ≢ n % 64 → bit_at next i ≡ bit_at word i) → (k : ℕ) → k ≢ n
      → bit_of (set words (n / 64) next) k ≡ bit_of words k
  changed_other next same k other =
      elim (cases_eq (k / 64) (n / 64)) as (λ _. bit_of (set words (n / 64) next) k ≡ bit_of words k) [
        | inl row ↦
            ap (λ x. eqb (bit_at (get_or (set words (n / 64) next) x 0) (k % 64)) 1) row
            ∙ ap (λ x. eqb (bit_at x (k % 64)) 1) (get_or-set_same words (n / 64) next 0 within)
            ∙ ap (λ x. eqb x 1) (same (k % 64) (omega arith) (omega arith))
            ∙ ap (λ x. eqb (bit_at x (k % 64)) 1) (read ∙ ap (λ x. get_or words x 0) (sym row))
        | inr apart ↦
            ap (λ x. eqb (bit_at x (k % 64)) 1) (get_or-set_other words (n / 64) (k / 64) next 0 apart)
      ]

  pub in_same : bit_of (set words (n / 64) (bit_or word (1 * 2 ^ (n % 64) % 2 ^ 64))) n ≡ true
  in_same =
      changed_same (bit_or word (1 * 2 ^ (n % 64) % 2 ^ 64))
      ∙ eq-eqb _ 1 (bit_at_set_same w64 word (n % 64) (omega arith))

  pub in_other : (k : ℕ) → k ≢ n
      → bit_of (set words (n / 64) (bit_or word (1 * 2 ^ (n % 64) % 2 ^ 64))) k ≡ bit_of words k
  in_other =
      changed_other (bit_or word (1 * 2 ^ (n % 64) % 2 ^ 64))
      (λ i small apart. bit_at_set_other w64 word (n % 64) (omega arith) i apart)

  pub out_same :
      bit_of (set words (n / 64) (bit_and word (bit_not w64 (1 * 2 ^ (n % 64) % 2 ^ 64)))) n ≡ false
  out_same =
      changed_same (bit_and word (bit_not w64 (1 * 2 ^ (n % 64) % 2 ^ 64)))
      ∙ ap (λ bit. eqb bit 1) (bit_at_clear_same w64 word (n % 64) (omega arith))

  pub out_other : (k : ℕ) → k ≢ n
      → bit_of (set words (n / 64) (bit_and word (bit_not w64 (1 * 2 ^ (n % 64) % 2 ^ 64)))) k
      ≡ bit_of words k
  out_other =
      changed_other (bit_and word (bit_not w64 (1 * 2 ^ (n % 64) % 2 ^ 64)))
      (λ i small apart. bit_at_clear_other w64 word (n % 64) (omega arith) i small apart)

-- ---- the bits of two sets
bit_is : (bit : ℕ) → bit < 2 → (bit ≡ 0) ⊎ (bit ≡ 1)
bit_is bit few =
    elim (cases_eq bit 0) [ inl none ↦ inl none | inr some ↦ inr (omega arith) ]

either_bit : (one other : ℕ) → one < 2 → other < 2
    → eqb (max one other) 1 ≡ (eqb one 1 || eqb other 1)
either_bit one other few less = by (bit_is one few) (bit_is other less)
  where
    at : (x y : ℕ) → one ≡ x → other ≡ y → eqb (max x y) 1 ≡ (eqb x 1 || eqb y 1)
        → eqb (max one other) 1 ≡ (eqb one 1 || eqb other 1)
    at x y first second is =
        ap (λ n. eqb (max n other) 1) first
        ∙ ap (λ n. eqb (max x n) 1) second
        ∙ is
        ∙ ap (λ n. eqb n 1 || eqb y 1) (sym first)
        ∙ ap (λ n. eqb one 1 || eqb n 1) (sym second)

    by : (one ≡ 0) ⊎ (one ≡ 1) → (other ≡ 0) ⊎ (other ≡ 1)
        → eqb (max one other) 1 ≡ (eqb one 1 || eqb other 1)
    by (inl first) (inl second) = at 0 0 first second refl
    by (inl first) (inr second) = at 0 1 first second refl
    by (inr first) (inl second) = at 1 0 first second refl
    by (inr first) (inr second) = at 1 1 first second refl

-- a number of the union is in one of the sets
pub of_either : (new old other : List ℕ)
    → ((at : ℕ) → at < length old → get_or new at 0 ≡ bit_or (get_or old at 0) (get_or other at 0))
    → length new ≡ length old → (n : ℕ) → bit_of old n ≡ false → bit_of other n ≡ false
    → bit_of new n ≡ false
of_either new old other both same n one none =
    elim (cases_lt (n / 64) (length old)) [
      | inl within ↦
          ap (λ word. eqb (bit_at word (n % 64)) 1) (both (n / 64) within)
          ∙ ap (λ bit. eqb bit 1) (bit_at_or (get_or old (n / 64) 0) (get_or other (n / 64) 0) (n % 64))
          ∙ either_bit (bit_at (get_or old (n / 64) 0) (n % 64)) (bit_at (get_or other (n / 64) 0) (n % 64))
          (bit_at-lt (get_or old (n / 64) 0) (n % 64)) (bit_at-lt (get_or other (n / 64) 0) (n % 64))
          ∙ ap (λ b. b || bit_of other n) one ∙ none
      | inr past ↦ bit_past new n (omega (arith, same))
    ]
