-- How a counter that wraps goes on, and when it is done.
use Rattle.std.proofs.Common.{◌≡◌, ◌-◌, ◌^◌, Bool, true, false, not, ◌&&◌, ◌||◌, ℤ, pos, negsuc}
use Rattle.std.proofs.Common.{◌+ℤ◌, ◌-ℤ◌, neg_ℤ, ◌≤ℤ◌, refl, sym, ap, ◌∙◌, arith, w64}
use Rattle.std.specs.Prelude.{int_lt, int_le}
use Rattle.std.proofs.lemmas.Int.{ints, int_wrap_fits, int_wrap-add_left}
use Rattle.zpl_nums.specs.Integer.{IsInteger, wrapped}
use Rattle.row_runs.proofs.CounterLemmas.{tell_their_end}

pub not_below : (x y : ℤ) → int_lt x y ≡ false → y ≤ℤ x
not_below x y e = grind (arith, ints)

pub le_not : (x y : ℤ) → int_le x y ≡ not (int_lt y x)
le_not (pos a) (pos b) = grind (arith, ints)
le_not (pos a) (negsuc b) = refl
le_not (negsuc a) (pos b) = refl
le_not (negsuc a) (negsuc b) = grind (arith, ints)

not_le : (x y : ℤ) → int_lt x y ≡ not (int_le y x)
not_le x y = sym (twice (int_lt x y)) ∙ ap not (sym (le_not y x))
  where
    twice : (b : Bool) → not (not b) ≡ b
    twice true = refl
    twice false = refl

sum_fits : (h b : ℤ) → IsInteger h → IsInteger b → pos 1 ≤ℤ b → (h +ℤ b) ≤ℤ pos (2 ^ 63 - 1)
    → IsInteger (h +ℤ b)
sum_fits (pos a) (pos c) f g one e = record { sfits = omega (arith, ints, f.sfits, g.sfits) }
sum_fits (pos a) (negsuc c) f g one e = absurd (omega (arith, ints))
sum_fits (negsuc a) (pos c) f g one e = record { sfits = grind (arith, ints, f.sfits, g.sfits) }
sum_fits (negsuc a) (negsuc c) f g one e = absurd (omega (arith, ints))

fits_below : (h b : ℤ) → IsInteger h → IsInteger b → pos 1 ≤ℤ b → negsuc (2 ^ 63 - 1) ≤ℤ (h -ℤ b)
    → IsInteger (h -ℤ b)
fits_below (pos a) (pos c) f g one e = record { sfits = grind (arith, ints, f.sfits, g.sfits) }
fits_below (pos a) (negsuc c) f g one e = absurd (omega (arith, ints))
fits_below (negsuc a) (pos c) f g one e = record { sfits = grind (arith, ints, f.sfits, g.sfits) }
fits_below (negsuc a) (negsuc c) f g one e = absurd (omega (arith, ints))

greatest_le : (l z : ℤ) → IsInteger l → z ≤ℤ l → z ≤ℤ pos (2 ^ 63 - 1)
greatest_le (pos a) z f e = grind (arith, ints, f.sfits)
greatest_le (negsuc a) z f e = grind (arith, ints, f.sfits)

least_le : (l z : ℤ) → IsInteger l → l ≤ℤ z → negsuc (2 ^ 63 - 1) ≤ℤ z
least_le (pos a) z f e = grind (arith, ints, f.sfits)
least_le (negsuc a) z f e = grind (arith, ints, f.sfits)

module _ (v by last : ℤ) (fv : IsInteger v) (fb : IsInteger by) (fl : IsInteger last)
    (one : pos 1 ≤ℤ by) where
  -- the next value, where it isn't past the last one
  pub next_up : int_lt last (v +ℤ by) ≡ false → wrapped (v +ℤ by) ≡ v +ℤ by
  next_up e =
      int_wrap_fits w64 (v +ℤ by)
      (sum_fits v by fv fb one (greatest_le last (v +ℤ by) fl (not_below last (v +ℤ by) e)))

  pub next_down : int_lt (v -ℤ by) last ≡ false → wrapped (v -ℤ by) ≡ v -ℤ by
  next_down e =
      int_wrap_fits w64 (v -ℤ by)
      (fits_below v by fv fb one (least_le last (v -ℤ by) fl (not_below (v -ℤ by) last e)))

  -- one step back
  back_up : wrapped (wrapped (v +ℤ by) -ℤ by) ≡ v
  back_up =
      ap wrapped (minus (wrapped (v +ℤ by)) by)
      ∙ int_wrap-add_left w64 (v +ℤ by) (neg_ℤ by)
      ∙ ap wrapped (same v by) ∙ int_wrap_fits w64 v fv
    where
      minus : (a b : ℤ) → a -ℤ b ≡ a +ℤ neg_ℤ b
      minus a b = omega (arith, ints)

      same : (v by : ℤ) → (v +ℤ by) +ℤ neg_ℤ by ≡ v
      same v by = omega (arith, ints)

  back_down : wrapped (wrapped (v -ℤ by) +ℤ by) ≡ v
  back_down =
      int_wrap-add_left w64 (v -ℤ by) by
      ∙ ap wrapped (same v by) ∙ int_wrap_fits w64 v fv
    where
      same : (v by : ℤ) → (v -ℤ by) +ℤ by ≡ v
      same v by = omega (arith, ints)

  either : (a b c : Bool) → (a && b) ≡ not c → (not a || not b) ≡ c
  either true true true e = cc
  either true true false e = refl
  either true false true e = refl
  either true false false e = cc
  either false b true e = refl
  either false b false e = cc

  -- whether it is done, told behind a step
  pub done_up : (let next = wrapped (v +ℤ by) in
      (int_le next (wrapped (next -ℤ by)) || int_lt last next) ≡ int_lt last (v +ℤ by))
  done_up =
      let next = wrapped (v +ℤ by) in
      ap (λ z. int_le next z || int_lt last next) back_up
      ∙ ap (λ b. b || int_lt last next) (le_not next v)
      ∙ ap (λ b. not (int_lt v next) || b) (not_le last next)
      ∙ either (int_lt v next) (int_le next last) (int_lt last (v +ℤ by))
      (tell_their_end.up v by last fv fb fl one)

  pub done_down : (let next = wrapped (v -ℤ by) in
      (int_le (wrapped (next +ℤ by)) next || int_lt next last) ≡ int_lt (v -ℤ by) last)
  done_down =
      let next = wrapped (v -ℤ by) in
      ap (λ z. int_le z next || int_lt next last) back_down
      ∙ ap (λ b. b || int_lt next last) (le_not v next)
      ∙ ap (λ b. not (int_lt next v) || b) (not_le next last)
      ∙ either (int_lt next v) (int_le last next) (int_lt (v -ℤ by) last)
      (tell_their_end.down v by last fv fb fl one)
