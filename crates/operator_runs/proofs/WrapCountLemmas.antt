-- How many borders a copy has: one for each choice of the dimensions in which it is read with a shift,
-- but none for no dimension.
use Rattle.std.proofs.Common.{◌≡◌, refl, sym, ◌∙◌, ap, arith, ℕ, suc, ◌+◌, ◌-◌, ◌*◌, ◌^◌, Bool, true, false}
use Rattle.std.proofs.Common.{List, [], ◌∷◌, length, filter, ℤ, cond}
use Rattle.std.specs.Prelude.{flat_map}
use Rattle.std.proofs.lemmas.List.{length-append}
use Rattle.zpl_nums.specs.Integer.{is_true}
use Rattle.print_runs.specs.of_zpl_lowering.Slate.{border_slots, is_moving}
use Rattle.print_runs.specs.of_zpl_lowering.Hoist.{border_vectors, choices, kept_or_not}
use Rattle.operator_runs.proofs.WrapLemmas.{zeros_first}

doubled : (d : ℤ) (xs : List (List ℤ)) → is_true d ≡ true
    → length (flat_map (kept_or_not d) xs) ≡ 2 * length xs
doubled d [] e = refl
doubled d (x ∷ xs) e =
    length-append (kept_or_not d x) (flat_map (kept_or_not d) xs)
    ∙ ap (λ n. n + length (flat_map (kept_or_not d) xs)) (two e)
    ∙ ap (λ n. 2 + n) (doubled d xs e)
    ∙ (let q : 2 + 2 * length xs ≡ 2 * suc (length xs) = omega arith in q)
  where
    two : is_true d ≡ true → length (kept_or_not d x) ≡ 2
    two e = rw e refl

single : (d : ℤ) (xs : List (List ℤ)) → is_true d ≡ false
    → length (flat_map (kept_or_not d) xs) ≡ length xs
single d [] e = refl
single d (x ∷ xs) e =
    length-append (kept_or_not d x) (flat_map (kept_or_not d) xs)
    ∙ ap (λ n. n + length (flat_map (kept_or_not d) xs)) (one e)
    ∙ ap (λ n. 1 + n) (single d xs e)
    ∙ (let q : 1 + length xs ≡ suc (length xs) = omega arith in q)
  where
    one : is_true d ≡ false → length (kept_or_not d x) ≡ 1
    one e = rw e refl

power : (n : ℕ) → 2 * 2 ^ n ≡ 2 ^ suc n
power n = omega arith

choices_counted : (v : List ℤ) → length (choices v) ≡ 2 ^ length (filter is_moving v)
choices_counted [] = refl
choices_counted (d ∷ v) = by (is_true d) refl (choices_counted v)
  where
    by : (b : Bool) → is_true d ≡ b → length (choices v) ≡ 2 ^ length (filter is_moving v)
        → length (flat_map (kept_or_not d) (choices v))
        ≡ 2 ^ length (cond (is_true d) (d ∷ filter is_moving v) (filter is_moving v))
    by true e rest =
        doubled d (choices v) e ∙ ap (λ n. 2 * n) rest
        ∙ power (length (filter is_moving v))
        ∙ sym (ap (λ b. 2 ^ length (cond b (d ∷ filter is_moving v) (filter is_moving v))) e)
    by false e rest =
        single d (choices v) e ∙ rest
        ∙ sym (ap (λ b. 2 ^ length (cond b (d ∷ filter is_moving v) (filter is_moving v))) e)

-- the slots that a copy has are those that its rows fill
pub slots_counted : (shift : List ℤ) → suc (2 * length (border_vectors shift)) ≡ border_slots shift
slots_counted shift =
    let all : suc (length (border_vectors shift)) ≡ 2 ^ length (filter is_moving shift) =
    ap length (sym (zeros_first shift)) ∙ choices_counted shift in
    let few : length (border_vectors shift) ≡ 2 ^ length (filter is_moving shift) - 1 =
    omega (arith, all) in
    ap (λ n. suc (2 * n)) few
    ∙ (let q : suc (2 * (2 ^ length (filter is_moving shift) - 1))
    ≡ 1 + 2 * (2 ^ length (filter is_moving shift) - 1) = omega arith in q)
