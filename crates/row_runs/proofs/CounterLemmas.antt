-- The steps of a counted loop, in integers that wrap.
use Rattle.std.proofs.Common.{◌≡◌, ◌-◌, ◌^◌, Bool, true, false, not, ◌&&◌, ℤ, pos, negsuc, ◌+ℤ◌}
use Rattle.std.proofs.Common.{◌-ℤ◌, ◌*ℤ◌}
use Rattle.std.proofs.Common.{◌≤ℤ◌, ◌<ℤ◌, refl, sym, ap, ◌∙◌, arith, w64}
use Rattle.std.specs.Prelude.{int_lt, int_le}
use Rattle.std.proofs.lemmas.Int.{ints, int_wrap_fits}
use Rattle.zpl_nums.specs.Integer.{IsInteger, wrapped}
use Rattle.zpl_nums.proofs.IntegerLemmas.{wrapped_only}
use Rattle.row_runs.specs.Counter.{goes_up, goes_down, TellTheirEnd}

below : (x y : ℤ) → int_lt x y ≡ true → x <ℤ y
below x y e = omega (arith, ints)

not_below : (x y : ℤ) → int_lt x y ≡ false → y ≤ℤ x
not_below x y e = grind (arith, ints)

lt_true : (x y : ℤ) (b : Bool) → int_lt x y ≡ b → x <ℤ y → b ≡ true
lt_true x y true e l = refl
lt_true x y false e l = let k = not_below x y e in absurd (omega (arith, ints))

lt_false : (x y : ℤ) (b : Bool) → int_lt x y ≡ b → y ≤ℤ x → b ≡ false
lt_false x y false e l = refl
lt_false x y true e l = let k = below x y e in absurd (omega (arith, ints))

le_not : (x y : ℤ) → int_le x y ≡ not (int_lt y x)
le_not (pos a) (pos b) = grind (arith, ints)
le_not (pos a) (negsuc b) = refl
le_not (negsuc a) (pos b) = refl
le_not (negsuc a) (negsuc b) = grind (arith, ints)

sum_fits : (h b : ℤ) → IsInteger h → IsInteger b → pos 1 ≤ℤ b → (h +ℤ b) ≤ℤ pos (2 ^ 63 - 1)
    → IsInteger (h +ℤ b)
sum_fits (pos a) (pos c) f g one e = record { sfits = omega (arith, ints, f.sfits, g.sfits) }
sum_fits (pos a) (negsuc c) f g one e = absurd (omega (arith, ints))
sum_fits (negsuc a) (pos c) f g one e = record { sfits = grind (arith, ints, f.sfits, g.sfits) }
sum_fits (negsuc a) (negsuc c) f g one e = absurd (omega (arith, ints))

sum_past : (h b : ℤ) → IsInteger h → IsInteger b → pos (2 ^ 63 - 1) <ℤ (h +ℤ b)
    → IsInteger ((h +ℤ b) +ℤ negsuc (2 ^ 64 - 1))
sum_past (pos a) (pos c) f g e = record { sfits = grind (arith, ints, f.sfits, g.sfits) }
sum_past (pos a) (negsuc c) f g e = absurd (omega (arith, ints, f.sfits))
sum_past (negsuc a) (pos c) f g e = absurd (omega (arith, ints, g.sfits))
sum_past (negsuc a) (negsuc c) f g e = absurd (omega (arith, ints))

back : (z : ℤ) → z ≡ (z +ℤ negsuc (2 ^ 64 - 1)) +ℤ (pos 1 *ℤ pos (2 ^ 64))
back (pos a) = grind (arith, ints)
back (negsuc a) = grind (arith, ints)

-- whether a counted loop goes on upward, told by the sum that may have wrapped
up_told : (h b l : ℤ) → IsInteger h → IsInteger b → IsInteger l → pos 1 ≤ℤ b
    → goes_up h b l ≡ not (int_lt l (h +ℤ b))
up_told h b l f g k one = by (int_lt (pos (2 ^ 63 - 1)) (h +ℤ b)) refl
  where
    by : (c : Bool) → int_lt (pos (2 ^ 63 - 1)) (h +ℤ b) ≡ c
        → goes_up h b l ≡ not (int_lt l (h +ℤ b))
    by false e =
        let within = not_below (pos (2 ^ 63 - 1)) (h +ℤ b) e in
        let same : wrapped (h +ℤ b) ≡ h +ℤ b =
        int_wrap_fits w64 (h +ℤ b) (sum_fits h b f g one within) in
        let up : h <ℤ (h +ℤ b) = omega (arith, ints, one) in
        ap (λ z. int_lt h z && int_le z l) same
        ∙ ap (λ c. c && int_le (h +ℤ b) l) (lt_true h (h +ℤ b) (int_lt h (h +ℤ b)) refl up)
        ∙ le_not (h +ℤ b) l
    by true e =
        let over = below (pos (2 ^ 63 - 1)) (h +ℤ b) e in
        let same : (h +ℤ b) +ℤ negsuc (2 ^ 64 - 1) ≡ wrapped (h +ℤ b) =
        wrapped_only (h +ℤ b) ((h +ℤ b) +ℤ negsuc (2 ^ 64 - 1)) (pos 1) (sum_past h b f g over)
        (back (h +ℤ b)) in
        let down : ((h +ℤ b) +ℤ negsuc (2 ^ 64 - 1)) ≤ℤ h = lower h b g in
        let past : l <ℤ (h +ℤ b) = above l (h +ℤ b) k over in
        ap (λ z. int_lt h z && int_le z l) (sym same)
        ∙ ap (λ c. c && int_le ((h +ℤ b) +ℤ negsuc (2 ^ 64 - 1)) l)
        (lt_false h ((h +ℤ b) +ℤ negsuc (2 ^ 64 - 1))
        (int_lt h ((h +ℤ b) +ℤ negsuc (2 ^ 64 - 1))) refl down)
        ∙ ap not (sym (lt_true l (h +ℤ b) (int_lt l (h +ℤ b)) refl past))
      where
        lower : (h b : ℤ) → IsInteger b → ((h +ℤ b) +ℤ negsuc (2 ^ 64 - 1)) ≤ℤ h
        lower h (pos c) g = grind (arith, ints, g.sfits)
        lower h (negsuc c) g = grind (arith, ints)

        above : (l z : ℤ) → IsInteger l → pos (2 ^ 63 - 1) <ℤ z → l <ℤ z
        above (pos a) z k o = grind (arith, ints, k.sfits)
        above (negsuc a) z k o = grind (arith, ints)

-- ---- downward
fits_below : (h b : ℤ) → IsInteger h → IsInteger b → pos 1 ≤ℤ b → negsuc (2 ^ 63 - 1) ≤ℤ (h -ℤ b)
    → IsInteger (h -ℤ b)
fits_below (pos a) (pos c) f g one e = record { sfits = grind (arith, ints, f.sfits, g.sfits) }
fits_below (pos a) (negsuc c) f g one e = absurd (omega (arith, ints))
fits_below (negsuc a) (pos c) f g one e = record { sfits = grind (arith, ints, f.sfits, g.sfits) }
fits_below (negsuc a) (negsuc c) f g one e = absurd (omega (arith, ints))

fits_past : (h b : ℤ) → IsInteger h → IsInteger b → (h -ℤ b) <ℤ negsuc (2 ^ 63 - 1)
    → IsInteger ((h -ℤ b) +ℤ pos (2 ^ 64))
fits_past (pos a) (pos c) f g e = absurd (grind (arith, ints, g.sfits))
fits_past (pos a) (negsuc c) f g e = absurd (grind (arith, ints, g.sfits))
fits_past (negsuc a) (pos c) f g e = record { sfits = grind (arith, ints, f.sfits, g.sfits) }
fits_past (negsuc a) (negsuc c) f g e = absurd (grind (arith, ints, f.sfits))

back_down : (z : ℤ) → z ≡ (z +ℤ pos (2 ^ 64)) +ℤ (negsuc 0 *ℤ pos (2 ^ 64))
back_down (pos a) = grind (arith, ints)
back_down (negsuc a) = grind (arith, ints)

-- whether it goes on downward
down_told : (h b l : ℤ) → IsInteger h → IsInteger b → IsInteger l → pos 1 ≤ℤ b
    → goes_down h b l ≡ not (int_lt (h -ℤ b) l)
down_told h b l f g k one = by (int_lt (h -ℤ b) (negsuc (2 ^ 63 - 1))) refl
  where
    by : (c : Bool) → int_lt (h -ℤ b) (negsuc (2 ^ 63 - 1)) ≡ c
        → goes_down h b l ≡ not (int_lt (h -ℤ b) l)
    by false e =
        let within = not_below (h -ℤ b) (negsuc (2 ^ 63 - 1)) e in
        let same : wrapped (h -ℤ b) ≡ h -ℤ b =
        int_wrap_fits w64 (h -ℤ b) (fits_below h b f g one within) in
        let down : (h -ℤ b) <ℤ h = omega (arith, ints, one) in
        ap (λ z. int_lt z h && int_le l z) same
        ∙ ap (λ c. c && int_le l (h -ℤ b)) (lt_true (h -ℤ b) h (int_lt (h -ℤ b) h) refl down)
        ∙ le_not l (h -ℤ b)
    by true e =
        let over = below (h -ℤ b) (negsuc (2 ^ 63 - 1)) e in
        let next = (h -ℤ b) +ℤ pos (2 ^ 64) in
        let same : next ≡ wrapped (h -ℤ b) =
        wrapped_only (h -ℤ b) next (negsuc 0) (fits_past h b f g over) (back_down (h -ℤ b)) in
        let up : h ≤ℤ next = upper h b g in
        let past : (h -ℤ b) <ℤ l = under l (h -ℤ b) k over in
        ap (λ z. int_lt z h && int_le l z) (sym same)
        ∙ ap (λ c. c && int_le l next) (lt_false next h (int_lt next h) refl up)
        ∙ ap not (sym (lt_true (h -ℤ b) l (int_lt (h -ℤ b) l) refl past))
      where
        upper : (h b : ℤ) → IsInteger b → h ≤ℤ ((h -ℤ b) +ℤ pos (2 ^ 64))
        upper h (pos c) g = grind (arith, ints, g.sfits)
        upper h (negsuc c) g = grind (arith, ints)

        under : (l z : ℤ) → IsInteger l → z <ℤ negsuc (2 ^ 63 - 1) → z <ℤ l
        under (pos a) z k o = grind (arith, ints)
        under (negsuc a) z k o = grind (arith, ints, k.sfits)

pub tell_their_end : TellTheirEnd
tell_their_end = record { up = up_told; down = down_told }
