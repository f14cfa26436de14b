-- Which block owns a coordinate.
use Rattle.std.proofs.Common.{◌≡◌, ◌≢◌, ◌↔◌, refl, sym, ◌∙◌, subst, arith, ℕ, zero, suc, ◌+◌, ◌-◌, ◌*◌, ◌/◌, ◌^◌, ◌<◌, ◌≤◌, ◌⊎◌, inl, inr, true, false, ℤ, pos, ◌+ℤ◌, ◌-ℤ◌, ◌≤ℤ◌, ◌<ℤ◌, div-lt_iff_lt-mul}
use Rattle.std.specs.Prelude.{int_le, ◌==◌}
use Rattle.std.proofs.lemmas.Nat.{le-div}
use Rattle.std.proofs.Math.Nat.{mul-le-mul_right, div-mul-le_self, lt-div-mul-add}
use Rattle.std.proofs.lemmas.Bool.{cases_lt, eq-eqb}
use Rattle.std.proofs.lemmas.Bool.Decides.{nat_tests}
use Rattle.std.proofs.lemmas.Int.{ints}
use Rattle.zpl_region.specs.Dim.{IsUpTo}
use Rattle.zpl_region.proofs.ListLemmas.{le_from_test, test_from_le}
use Rattle.grid_layout.specs.declared.axes.Axis.{Axis}
use Rattle.grid_layout.specs.Block.{block_first, block_last, block_start, last_begun, block_of}

-- ---- quotients, by what they are at most and below
pub div_below_by : (a d q : ℕ) → 0 < d → a < q * d → a / d < q
div_below_by a d q some small = (div-lt_iff_lt-mul {x = a} {y = q} some).1 small

-- ---- the block that is found
-- it begins at most at x, unless it is block 0, and no later block does
pub record IsLastBegun (axis : Axis) (count : ℕ) (x : ℤ) (top c : ℕ) : Type 0 where
  pub up_to : c ≤ top
  pub begun : 0 < c → block_start axis count c ≤ℤ x
  pub later : (j : ℕ) → c < j → j ≤ top → x <ℤ block_start axis count j

pub test_fails : (z x : ℤ) → x <ℤ z → int_le z x ≡ false
test_fails z x above = elim (int_le z x) as (λ b. int_le z x ≡ b → b ≡ false) [
  | true ↦ λ e. let below : z ≤ℤ x = le_from_test z x e in absurd (omega (arith, ints, below, above))
  | false ↦ λ e. refl
] refl

at_top : (axis : Axis) (count : ℕ) (x : ℤ) (top : ℕ) → block_start axis count (suc top) ≤ℤ x → last_begun axis count x (suc top) ≡ suc top
at_top axis count x top begun = let e : int_le (block_start axis count (suc top)) x ≡ true = test_from_le _ _ begun in rw e refl

below_top : (axis : Axis) (count : ℕ) (x : ℤ) (top : ℕ) → x <ℤ block_start axis count (suc top)
    → last_begun axis count x (suc top) ≡ last_begun axis count x top
below_top axis count x top later = let e : int_le (block_start axis count (suc top)) x ≡ false = test_fails _ _ later in rw e refl

top_or_below : (c top : ℕ) → c ≤ suc top → (c ≡ suc top) ⊎ (c ≤ top)
top_or_below c top within = grind (arith, within)

pub last_begun_is : (axis : Axis) (count : ℕ) (x : ℤ) (top c : ℕ) → IsLastBegun axis count x top c → last_begun axis count x top ≡ c
last_begun_is axis count x zero c h = omega (arith, h.up_to)
last_begun_is axis count x (suc top) c h = elim (top_or_below c top h.up_to) [
  | inl e ↦
      let begun : block_start axis count (suc top) ≤ℤ x =
      let P : ℕ → Type 0 = λ n. block_start axis count n ≤ℤ x in subst P e (h.begun (omega (arith, e))) in
      at_top axis count x top begun ∙ sym e
  | inr below ↦
      let later : x <ℤ block_start axis count (suc top) = h.later (suc top) (omega (arith, below)) (omega arith) in
      below_top axis count x top later ∙ last_begun_is axis count x top c (record {
        up_to = below;
        begun = h.begun;
        later = λ j after within. h.later j after (omega (arith, within));
      })
]

-- ---- where a coordinate lies

-- one before the first is block 0's
pub block_before : (axis : Axis) (count : ℕ) (x : ℤ) → x <ℤ axis.low → block_of axis count x ≡ 0
block_before axis count x before = last_begun_is axis count x (count - 1) 0 (record {
  up_to = omega arith;
  begun = λ some. absurd (omega (arith, some));
  later = λ j after within. let before' : x <ℤ axis.low = before in grind (arith, ints);
})

-- one behind the last is the last block's
pub start_within : (axis : Axis) (count c : ℕ) → 1 ≤ count → c ≤ count → c * axis.extent / count ≤ axis.extent
start_within axis count c some within =
    let product : c * axis.extent < suc axis.extent * count = grind (arith, mul-le-mul_right axis.extent within) in
    omega (arith, div_below_by (c * axis.extent) count (suc axis.extent) some product)

pub block_behind : (axis : Axis) (count : ℕ) (x : ℤ) → 1 ≤ count → (axis.low +ℤ pos axis.extent) ≤ℤ x → block_of axis count x ≡ count - 1
block_behind axis count x some behind = last_begun_is axis count x (count - 1) (count - 1) (record {
  up_to = omega arith;
  begun = λ _. let within : (count - 1) * axis.extent / count ≤ axis.extent = start_within axis count (count - 1) some (omega arith) in
      omega (arith, ints, behind, within);
  later = λ j after within. absurd (omega (arith, after, within));
})

-- one among them, by a quotient
record IsQuotient (e n y k : ℕ) : Type 0 where
  below : k < n
  begun : k * e / n ≤ y
  later : (j : ℕ) → k < j → y < j * e / n

quotient : (e n y : ℕ) → 1 ≤ n → y < e → IsQuotient e n y (((y + 1) * n - 1) / e)
quotient e n y some within =
    let m : ℕ = (y + 1) * n - 1 in
    let k : ℕ = m / e in
    let positive : 0 < e = omega (arith, within) in
    let product : (y + 1) * n ≤ e * n = mul-le-mul_right n (omega (arith, within)) in
    let least : n ≤ (y + 1) * n = omega arith in
    let low : k * e ≤ m = div-mul-le_self m e in
    let high : m < k * e + e = lt-div-mul-add positive in
    record {
      below = div_below_by m e n positive (omega (arith, product, least, some));
      begun = omega (arith, div_below_by (k * e) n (y + 1) some (omega (arith, low, least, some)));
      later = λ j after.
          let more : suc k * e ≤ j * e = mul-le-mul_right e after in
          le-div (suc y) (j * e) n some (omega (arith, more, high, least));
    }

pub block_among : (axis : Axis) (count y : ℕ) (x : ℤ) → 1 ≤ count → y < axis.extent → x ≡ axis.low +ℤ pos y
    → block_of axis count x ≡ ((y + 1) * count - 1) / axis.extent
block_among axis count y x some inside is =
    let q : IsQuotient axis.extent count y (((y + 1) * count - 1) / axis.extent) = quotient axis.extent count y some inside in
    last_begun_is axis count x (count - 1) (((y + 1) * count - 1) / axis.extent) (record {
      up_to = omega (arith, q.below);
      begun = λ _. let begun : (((y + 1) * count - 1) / axis.extent) * axis.extent / count ≤ y = q.begun in omega (arith, ints, begun, is);
      later = λ j after within. let later : y < j * axis.extent / count = q.later j after in omega (arith, ints, later, is);
    })

-- ---- the block that a coordinate lies in
pub fails_from_test : (z x : ℤ) → int_le z x ≡ false → x <ℤ z
fails_from_test z x e = grind (arith, ints)

pub found : (axis : Axis) (count : ℕ) (x : ℤ) (top : ℕ) → IsLastBegun axis count x top (last_begun axis count x top)
found axis count x zero = record {
  up_to = omega arith;
  begun = λ some. absurd (omega (arith, some));
  later = λ j after within. absurd (omega (arith, after, within));
}
found axis count x (suc top) = elim (int_le (block_start axis count (suc top)) x) as (λ b. int_le (block_start axis count (suc top)) x ≡ b → IsLastBegun axis count x (suc top) (last_begun axis count x (suc top))) [
  | true ↦ λ e.
      let begun : block_start axis count (suc top) ≤ℤ x = le_from_test _ _ e in
      subst (IsLastBegun axis count x (suc top)) (sym (at_top axis count x top begun)) (record {
        up_to = omega arith;
        begun = λ _. begun;
        later = λ j after within. absurd (omega (arith, after, within));
      })
  | false ↦ λ e.
      let later : x <ℤ block_start axis count (suc top) = fails_from_test _ _ e in
      subst (IsLastBegun axis count x (suc top)) (sym (below_top axis count x top later)) (one_higher axis count x top (last_begun axis count x top) later (found axis count x top))
] refl
  where
    one_higher : (axis : Axis) (count : ℕ) (x : ℤ) (top c : ℕ) → x <ℤ block_start axis count (suc top) → IsLastBegun axis count x top c → IsLastBegun axis count x (suc top) c
    one_higher axis count x top c later h = record {
      up_to = omega (arith, h.up_to);
      begun = h.begun;
      later = λ j after within. elim (top_or_below j top within) [
        | inl e ↦ let P : ℕ → Type 0 = λ n. x <ℤ block_start axis count n in subst P (sym e) later
        | inr below ↦ h.later j after below
      ];
    }

-- later blocks begin later
starts_rise : (axis : Axis) (n c j : ℕ) → 1 ≤ n → c ≤ j → block_start axis n c ≤ℤ block_start axis n j
starts_rise axis n c j some le =
    let low : c * axis.extent / n * n ≤ c * axis.extent = div-mul-le_self (c * axis.extent) n in
    let more : c * axis.extent ≤ j * axis.extent = mul-le-mul_right axis.extent le in
    let rise : c * axis.extent / n ≤ j * axis.extent / n = le-div (c * axis.extent / n) (j * axis.extent) n some (omega (arith, low, more)) in
    omega (arith, ints, rise)

pub last_of_more : (axis : Axis) (n c : ℕ) → suc c < n → block_last axis n c ≡ block_start axis n (suc c) -ℤ pos 1
last_of_more axis n c more = let e : (suc c == n) ≡ false = differ (suc c) n (omega arith) in rw e refl
  where
    differ : (a b : ℕ) → a ≢ b → (a == b) ≡ false
    differ a b other = grind (arith, nat_tests)

last_of_all : (axis : Axis) (n c : ℕ) → suc c ≡ n → block_last axis n c ≡ pos (2 ^ 40)
last_of_all axis n c e = let t : (suc c == n) ≡ true = eq-eqb (suc c) n e in rw t refl

first_begun : (axis : Axis) (n : ℕ) (x : ℤ) (c : ℕ) → block_first axis n c ≤ℤ x → 0 < c → block_start axis n c ≤ℤ x
first_begun axis n x zero h some = absurd (omega (arith, some))
first_begun axis n x (suc c) h some = h

begun_first : (axis : Axis) (n : ℕ) (x : ℤ) (c : ℕ) → IsUpTo 40 x → (0 < c → block_start axis n c ≤ℤ x) → block_first axis n c ≤ℤ x
begun_first axis n x zero bounds h = bounds.0
begun_first axis n x (suc c) bounds h = h (omega arith)

abbrev pub LiesIn : Axis → ℕ → ℕ → ℤ → Type 0
LiesIn axis n c x = (block_first axis n c ≤ℤ x) × (x ≤ℤ block_last axis n c)

pub in_block : (axis : Axis) (n c : ℕ) (x : ℤ) → c < n → LiesIn axis n c x → c ≡ block_of axis n x
in_block axis n c x below lies = sym (last_begun_is axis n x (n - 1) c (record {
  up_to = omega arith;
  begun = first_begun axis n x c lies.0;
  later = λ j after within.
      let last : block_last axis n c ≡ block_start axis n (suc c) -ℤ pos 1 = last_of_more axis n c (omega (arith, after, within)) in
      let high : x ≤ℤ block_last axis n c = lies.1 in
      let rise : block_start axis n (suc c) ≤ℤ block_start axis n j = starts_rise axis n (suc c) j (omega arith) after in
      omega (arith, ints, last, high, rise);
}))

pub block_holds : (axis : Axis) (n c : ℕ) (x : ℤ) → c < n → IsUpTo 40 x → c ≡ block_of axis n x → LiesIn axis n c x
block_holds axis n c x below bounds is =
    let h : IsLastBegun axis n x (n - 1) c = subst (IsLastBegun axis n x (n - 1)) (sym is) (found axis n x (n - 1)) in
    (begun_first axis n x c bounds h.begun, high h (cases_lt (suc c) n))
  where
    high : IsLastBegun axis n x (n - 1) c → (suc c < n) ⊎ (n ≤ suc c) → x ≤ℤ block_last axis n c
    high h (inl more) =
        let last : block_last axis n c ≡ block_start axis n (suc c) -ℤ pos 1 = last_of_more axis n c more in
        let later : x <ℤ block_start axis n (suc c) = h.later (suc c) (omega arith) (omega (arith, more)) in
        omega (arith, ints, last, later)
    high h (inr end) = let last : block_last axis n c ≡ pos (2 ^ 40) = last_of_all axis n c (omega (arith, end, below)) in let up = bounds.1 in omega (arith, ints, last, up)

pub one_block : (axis : Axis) (n c : ℕ) (x : ℤ) → c < n → IsUpTo 40 x → LiesIn axis n c x ↔ (c ≡ block_of axis n x)
one_block axis n c x below bounds = (in_block axis n c x below, block_holds axis n c x below bounds)

pub block_below : (axis : Axis) (n : ℕ) (x : ℤ) → 1 ≤ n → block_of axis n x < n
block_below axis n x some = let h = (found axis n x (n - 1)).up_to in omega (arith, h)
