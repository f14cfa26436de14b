-- What a processor has at the start, and what it keeps.
use Rattle.std.proofs.Common.{◌≡◌, ℕ, zero, suc, ◌+◌, ◌<◌, ◌≤◌, Bool, true, false, cond, List, [], ◌∷◌, ◌++◌, All, length, map, take, drop, get_or, ℤ, refl, sym, ◌∙◌, ap, subst, arith, append_assoc, add-one}
use Rattle.std.specs.Prelude.{Some, slice_get, insert}
use Rattle.std.proofs.Math.ListN.{get_or-map}
use Rattle.std.proofs.Math.Seq.{take-suc, drop-cons}
use Rattle.std.proofs.lemmas.Bool.{lt-ltb, le-ltb}
use Rattle.std.proofs.lemmas.List.{length-map}
use Rattle.std.proofs.lemmas.List.Elements.{All-head, All-tail}
use Rattle.std.proofs.lemmas.Option.{slice_get_within, get_or_from_slice_get}
use Rattle.grid_meaning.specs.of_node_form.declared.arrays.ArrayDim.{ArrayDim}
use Rattle.grid_meaning.specs.of_node_form.declared.arrays.ArrayRow.{ArrayRow}
use Rattle.grid_meaning.specs.of_grid_layout.declared.boxes.ArrayBox.{ArrayBox}
use Rattle.grid_meaning.specs.Collective.{kept_with}
use Rattle.grid_meaning.specs.Stored.{box_of, stored, width_above, width_below}
use Rattle.grid_meaning.specs.of_node_form.Fits.{storage_dim}
use Rattle.grid_meaning.specs.of_zpl_region.declared.dims.Dim.{Dim}
use Rattle.node_local.specs.declared.standings.Kept.{Kept}
use Rattle.node_local.specs.Standing.{entry_of}

-- ---- rows one after another
pub map_take_more : {X Y : Type 0} (f : X → Y) (xs : List X) (i : ℕ) (x : X) → slice_get xs i ≡ Some x
    → map f (take (i + 1) xs) ≡ map f (take i xs) ++ f x ∷ []
map_take_more f xs i x found =
    let there = slice_get_within xs i x found in
    ap (λ k. map f (take k xs)) (add-one i)
    ∙ (ap (map f) (take-suc xs i x there ∙ ap (λ y. take i xs ++ y ∷ []) (get_or_from_slice_get xs i x x found))
    ∙ map-more f (take i xs) x)
  where
    map-more : {X Y : Type 0} (f : X → Y) (ys : List X) (x : X) → map f (ys ++ x ∷ []) ≡ map f ys ++ f x ∷ []
    map-more f [] x = refl
    map-more f (y ∷ ys) x = ap (λ zs. f y ∷ zs) (map-more f ys x)

-- ---- stored arrays
-- what holds of each stored array holds of one of them
pub box_stored : (P : ArrayBox → Type 0) (rows : List ArrayRow) (i : ℕ) (row : ArrayRow)
    → All P (map box_of (stored rows)) → slice_get rows i ≡ Some row → row.stored ≡ true → P (box_of row)
box_stored P [] i row all found is = cc
box_stored P (first ∷ rows) zero row all found is =
    let same : first ≡ row = cc in
    let kept : stored (first ∷ rows) ≡ first ∷ stored rows = ap (λ b. cond b (first ∷ stored rows) (stored rows)) (ap (λ (r : ArrayRow). r.stored) same ∙ is) in
    subst (λ r. P (box_of r)) same
    (All-head P (box_of first) (map box_of (stored rows)) (subst (λ rs. All P (map box_of rs)) kept all))
box_stored P (first ∷ rows) (suc i) row all found is =
    box_stored P rows i row (by_test first.stored all) found is
  where
    by_test : (b : Bool) → All P (map box_of (cond b (first ∷ stored rows) (stored rows))) → All P (map box_of (stored rows))
    by_test true kept = All-tail P (box_of first) (map box_of (stored rows)) kept
    by_test false kept = kept

-- ---- three dimensions by number
pub three_dims : {Y : Type 0} (f : ArrayDim → Y) (dims : List ArrayDim) (e : ArrayDim) (x y z : Y) → length dims ≡ 3
    → x ≡ f (get_or dims 0 e) → y ≡ f (get_or dims 1 e) → z ≡ f (get_or dims 2 e)
    → x ∷ y ∷ z ∷ [] ≡ map f dims
three_dims f [] e x y z many p q r = absurd (omega arith)
three_dims f (a ∷ []) e x y z many p q r = absurd (omega arith)
three_dims f (a ∷ b ∷ []) e x y z many p q r = absurd (omega arith)
three_dims f (a ∷ b ∷ c ∷ []) e x y z many p q r =
    ap (λ u. u ∷ y ∷ z ∷ []) p ∙ (ap (λ u. f a ∷ u ∷ z ∷ []) q ∙ ap (λ u. f a ∷ f b ∷ u ∷ []) r)
three_dims f (a ∷ b ∷ c ∷ d ∷ dims) e x y z many p q r = absurd (omega arith)

-- ---- what is kept
module _ (kept : List Kept) (from : ℕ) (words : List ℤ) where
  split : (i : ℕ) (e : Kept) → i < length kept
      → drop i (map entry_of kept) ≡ entry_of (get_or kept i e) ∷ drop (i + 1) (map entry_of kept)
  split i e there =
      let inside : i < length (map entry_of kept) = subst (λ n. i < n) (sym (length-map kept entry_of)) there in
      drop-cons (map entry_of kept) i (entry_of e) inside
      ∙ (ap (λ x. x ∷ drop (suc i) (map entry_of kept)) (get_or-map entry_of kept i e)
      ∙ ap (λ k. entry_of (get_or kept i e) ∷ drop k (map entry_of kept)) (sym (add-one i)))

  front : (i : ℕ) (e : Kept) → i < length kept
      → take (i + 1) (map entry_of kept) ≡ take i (map entry_of kept) ++ entry_of (get_or kept i e) ∷ []
  front i e there =
      let inside : i < length (map entry_of kept) = subst (λ n. i < n) (sym (length-map kept entry_of)) there in
      ap (λ k. take k (map entry_of kept)) (add-one i)
      ∙ (take-suc (map entry_of kept) i (entry_of e) inside
      ∙ ap (λ x. take i (map entry_of kept) ++ x ∷ []) (get_or-map entry_of kept i e))

  pub kept_here : (i : ℕ) (e : Kept) → i < length kept → from < (get_or kept i e).from
      → kept_with from words (map entry_of kept) ≡ take i (map entry_of kept) ++ kept_with from words (drop i (map entry_of kept))
      → kept_with from words (map entry_of kept) ≡ insert (map entry_of kept) i (from, words)
  kept_here i e there less so =
      let here = split i e there in
      so ∙ ap (λ rest. take i (map entry_of kept) ++ rest)
      (ap (kept_with from words) here
      ∙ (ap (λ b. cond b ((from, words) ∷ (entry_of (get_or kept i e) ∷ drop (i + 1) (map entry_of kept)))
      (entry_of (get_or kept i e) ∷ kept_with from words (drop (i + 1) (map entry_of kept)))) (lt-ltb from (get_or kept i e).from less)
      ∙ ap (λ rest. (from, words) ∷ rest) (sym here)))

  pub kept_there : (i : ℕ) (e : Kept) → i < length kept → (get_or kept i e).from ≤ from
      → kept_with from words (map entry_of kept) ≡ take i (map entry_of kept) ++ kept_with from words (drop i (map entry_of kept))
      → kept_with from words (map entry_of kept) ≡ take (i + 1) (map entry_of kept) ++ kept_with from words (drop (i + 1) (map entry_of kept))
  kept_there i e there more so =
      so ∙ (ap (λ rest. take i (map entry_of kept) ++ rest)
      (ap (kept_with from words) (split i e there)
      ∙ ap (λ b. cond b ((from, words) ∷ (entry_of (get_or kept i e) ∷ drop (i + 1) (map entry_of kept)))
      (entry_of (get_or kept i e) ∷ kept_with from words (drop (i + 1) (map entry_of kept)))) (le-ltb from (get_or kept i e).from more))
      ∙ (sym (append_assoc (take i (map entry_of kept)) (entry_of (get_or kept i e) ∷ []) (kept_with from words (drop (i + 1) (map entry_of kept))))
      ∙ ap (λ xs. xs ++ kept_with from words (drop (i + 1) (map entry_of kept))) (sym (front i e there))))

-- an insertion, seen as entries
pub entries_insert : (kept : List Kept) (i : ℕ) (x : Kept)
    → map entry_of (insert kept i x) ≡ insert (map entry_of kept) i (entry_of x)
entries_insert [] i x = by i
  where
    by : (i : ℕ) → map entry_of (insert [] i x) ≡ insert [] i (entry_of x)
    by zero = refl
    by (suc i) = refl
entries_insert (k ∷ kept) zero x = refl
entries_insert (k ∷ kept) (suc i) x = ap (λ rest. entry_of k ∷ rest) (entries_insert kept i x)

-- ---- a stored array as layouts have it
pub box_made : {dims : List Dim} {low high : List ℤ} (row : ArrayRow) → dims ≡ map storage_dim row.dims
    → low ≡ map width_below row.dims → high ≡ map width_above row.dims
    → record { shape = record { rank = row.rank; dims = dims }; low = low; high = high } ≡ box_of row
box_made {dims} {low} {high} row p q r =
    ap (λ ds. record { shape = record { rank = row.rank; dims = ds }; low = low; high = high }) p
    ∙ (ap (λ ws. record { shape = record { rank = row.rank; dims = map storage_dim row.dims }; low = ws; high = high }) q
    ∙ ap (λ ws. record { shape = record { rank = row.rank; dims = map storage_dim row.dims }; low = map width_below row.dims; high = ws }) r)
