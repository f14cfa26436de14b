-- How many tuples a box has, and how many words an array.
use Rattle.std.proofs.Common.{◌≡◌, sym, ◌∙◌, ap, subst, arith, ℕ, zero, suc, ◌+◌, ◌*◌, ◌<◌, ◌≤◌, List, [], ◌∷◌, ◌++◌, length, get_or, take, All, rules}
use Rattle.std.proofs.Math.Nat.{mul-le-mul_right}
use Rattle.std.specs.Prelude.{sum_by, ◌-◌, ◌^◌, min}
use Rattle.std.proofs.lemmas.List.Sums.{sum_by-append, sum_by-cons}
use Rattle.std.proofs.lemmas.Int.{ints}
use Rattle.zpl_region.specs.declared.dims.Dim.{Dim}
use Rattle.zpl_region.specs.declared.dims.Dim.TheVariants.{Range, Flood}
use Rattle.zpl_region.specs.declared.regions.Region.{Region}
use Rattle.zpl_region.specs.Dim.{HasStep}
use Rattle.zpl_region.specs.Hull.{IsBoxed, dim_emptied}
use Rattle.zpl_region.specs.Region.{members}
use Rattle.zpl_region.proofs.EndLemmas.{length-tuple_count}
use Rattle.grid_layout.specs.Layout.{HasWideBounds, blocks_of}
use Rattle.zpl_region.specs.Ends.{coordinate_count, tuple_count}
use Rattle.std.proofs.Math.Seq.{take-suc}
use Rattle.grid_layout.specs.declared.blocks.Blocks.{Blocks}
use Rattle.grid_layout.specs.declared.boxes.ArrayBox.{ArrayBox}
use Rattle.grid_layout.specs.Words.{box_words, numbers_from, words_of}
use Rattle.grid_layout.proofs.ThreeLemmas.{by_three}

pub product_below : (a b m n : ℕ) → a ≤ m → b ≤ n → a * b ≤ m * n
product_below a b m n p q =
    let first : a * b ≤ m * b = mul-le-mul_right b p in
    let second : b * m ≤ n * m = mul-le-mul_right m q in
    let swap : m * b ≡ b * m = omega arith in
    let back : n * m ≡ m * n = omega arith in
    omega (arith, first, second, swap, back)

pub tuples_of : (dims : List Dim) (e : Dim) (x y z : ℕ) → length dims ≡ 3 → x ≡ coordinate_count (get_or dims 0 e) → y ≡ coordinate_count (get_or dims 1 e) → z ≡ coordinate_count (get_or dims 2 e)
    → x * y * z ≡ tuple_count dims
tuples_of dims e x y z l = by_three (λ dims. x ≡ coordinate_count (get_or dims 0 e) → y ≡ coordinate_count (get_or dims 1 e) → z ≡ coordinate_count (get_or dims 2 e) → x * y * z ≡ tuple_count dims) dims l
    (λ a b c p q r. sums x y z (coordinate_count a) (coordinate_count b) (coordinate_count c) p q r)
  where
    sums : (x y z a b c : ℕ) → x ≡ a → y ≡ b → z ≡ c → x * y * z ≡ a * (b * (c * 1))
    sums x y z a b c p q r = rw (p, q, r) (omega arith)

pub numbers_more : (k n : ℕ) → numbers_from k (suc n) ≡ numbers_from k n ++ ((k + n) ∷ [])
numbers_more k zero = let e : k ≡ k + 0 = omega arith in ap (λ m. m ∷ []) e
numbers_more k (suc n) = let e : suc k + n ≡ k + suc n = omega arith in ap (λ l. k ∷ l) (numbers_more (suc k) n ∙ ap (λ m. numbers_from (suc k) n ++ (m ∷ [])) e)

-- one number more
pub sum_more : (f : ℕ → ℕ) (n : ℕ) → sum_by f (numbers_from 0 (n + 1)) ≡ sum_by f (numbers_from 0 n) + f n
sum_more f n =
    let e : n + 1 ≡ suc n = omega arith in
    let one : f n + 0 ≡ f n = omega arith in
    let same : 0 + n ≡ n = omega arith in
    ap (λ m. sum_by f (numbers_from 0 m)) e
    ∙ (ap (sum_by f) (numbers_more 0 n ∙ ap (λ m. numbers_from 0 n ++ (m ∷ [])) same) ∙ (sum_by-append f (numbers_from 0 n) (n ∷ []) ∙ ap (λ m. sum_by f (numbers_from 0 n) + m) (sum_by-cons f n [] ∙ one)))

-- ---- boxes
boxed_step : (dim : Dim) → IsBoxed dim → HasStep dim
boxed_step (Range lo hi step align) boxed = let e = boxed.0 in omega (arith, ints, e)
boxed_step Flood boxed = tt

pub box_tuples : (r : Region) → All IsBoxed r.dims → length (members r) ≡ tuple_count r.dims
box_tuples r boxed = length-tuple_count r.dims (λ k d here. boxed_step (get_or r.dims k d) (boxed k d here))

pub emptied_wide : (dim : Dim) → HasWideBounds (dim_emptied dim)
emptied_wide (Range lo hi step align) = search rules
emptied_wide Flood = tt

-- ---- sums up to a limit
pub saturated : (w t s f more r limit : ℕ) → w ≡ min s limit → t ≡ f → r ≡ min (w + t) limit → more ≡ s + f → r ≡ min more limit
saturated w t s f more r limit p q e h = omega (arith, p, q, e, h)

pub boxes_more : (blocks : Blocks) (boxes : List ArrayBox) (i : ℕ) (box : ArrayBox) → i < length boxes
    → sum_by (box_words blocks) (take (i + 1) boxes) ≡ sum_by (box_words blocks) (take i boxes) + box_words blocks (get_or boxes i box)
boxes_more blocks boxes i box h =
    let e : i + 1 ≡ suc i = omega arith in
    let one : box_words blocks (get_or boxes i box) + 0 ≡ box_words blocks (get_or boxes i box) = omega arith in
    ap (λ n. sum_by (box_words blocks) (take n boxes)) e
    ∙ (ap (sum_by (box_words blocks)) (take-suc boxes i box h)
    ∙ (sum_by-append (box_words blocks) (take i boxes) (get_or boxes i box ∷ [])
    ∙ ap (λ m. sum_by (box_words blocks) (take i boxes) + m) (sum_by-cons (box_words blocks) (get_or boxes i box) [] ∙ one)))

pub saturated_by : (w t s f more r limit : ℕ) → w ≡ min s limit → t ≡ min f limit → r ≡ min (w + t) limit → more ≡ s + f → r ≡ min more limit
saturated_by w t s f more r limit p q e h = omega (arith, p, q, e, h)

pub fits_storage : (blocks : Blocks) (grid : List ℕ) (boxes items : List ArrayBox) (w : ℕ) → blocks ≡ blocks_of grid boxes → items ≡ boxes
    → w ≡ min (sum_by (box_words blocks) boxes) (2 ^ 128 - 1) → w ≤ 16777216 → words_of (record { grid = blocks.grid; boxes = items }) ≤ 16777216
fits_storage blocks grid boxes items w e i sum few =
    let told : w ≡ min (sum_by (box_words (blocks_of grid boxes)) boxes) (2 ^ 128 - 1) = subst (λ b. w ≡ min (sum_by (box_words b) boxes) (2 ^ 128 - 1)) e sum in
    subst (λ b. words_of (record { grid = b.grid; boxes = items }) ≤ 16777216) (sym e)
    (subst (λ ys. words_of (record { grid = grid; boxes = ys }) ≤ 16777216) (sym i) (omega (arith, told, few)))
