-- Items, each once.
use Rattle.std.proofs.Common.{◌≡◌, refl, sym, ap, ◌∙◌, ℕ, zero, suc, ◌+◌, Bool, true, false, add-one}
use Rattle.std.proofs.Common.{List, [], ◌∷◌, ◌++◌, map, take}
use Rattle.std.specs.Prelude.{if◌then◌else◌, ◌||◌, Option, Some, None, slice_get}
use Rattle.std.specs.List.{list_any}
use Rattle.std.proofs.lemmas.List.{map-append}
use Rattle.std.specs.Prelude.{◌&&◌, ◌==◌}
use Rattle.std.specs.Bool.{Decides}
use Rattle.std.specs.Cmp.Lexicographic.{pointwise}
use Rattle.std.specs.Ordering.{int_eq}
use Rattle.std.proofs.lemmas.Bool.Decides.{Decides-eqb, Decides-int_eq}
use Rattle.std.proofs.lemmas.Slice.Eq.{slice_eq-Decides}
use Rattle.flat_passes.proofs.of_code_parts.WalkLemmas.{both_left, both_right}
use Rattle.indexmap.specs.IndexSet.{insert_key}
use Rattle.flat_passes.specs.of_node_form.declared.arrays.Item.{Item}
use Rattle.flat_passes.specs.of_code_parts.Uses.{is_item}
use Rattle.plan_form.specs.Units.{with_item}
use Rattle.plan_form.specs.Items.{item_of}
use Rattle.plan_form.specs.declared.items.ItemKey.{ItemKey}

module _ (eq : ItemKey → ItemKey → Bool)
    (same : (x y : ItemKey) → eq x y ≡ is_item (item_of x) (item_of y)) where
  any_same : (key : ItemKey) (keys : List ItemKey)
      → list_any (eq key) keys ≡ list_any (is_item (item_of key)) (map item_of keys)
  any_same key [] = refl
  any_same key (other ∷ keys) =
      ap (λ b. b || list_any (eq key) keys) (same key other)
      ∙ ap (λ b. is_item (item_of key) (item_of other) || b) (any_same key keys)

  pub item_added : (keys : List ItemKey) (key : ItemKey)
      → map item_of (insert_key eq keys key) ≡ with_item (map item_of keys) (item_of key)
  item_added keys key =
      at (list_any (eq key) keys)
      ∙ ap (λ b. if b then map item_of keys else map item_of keys ++ item_of key ∷ [])
      (any_same key keys)
    where
      at : (b : Bool) → map item_of (if b then keys else keys ++ key ∷ [])
          ≡ if b then map item_of keys else map item_of keys ++ item_of key ∷ []
      at true = refl
      at false = map-append item_of keys (key ∷ [])

-- the front of a list with one more
pub taken_more : {X : Type 0} (xs : List X) (k : ℕ) (x : X) → slice_get xs k ≡ Some x
    → take (k + 1) xs ≡ take k xs ++ x ∷ []
taken_more xs k x there = ap (λ n. take n xs) (add-one k) ∙ step xs k there
  where
    step : {X : Type 0} (xs : List X) (k : ℕ) {x : X} → slice_get xs k ≡ Some x
        → take (suc k) xs ≡ take k xs ++ x ∷ []
    step [] zero there = cc
    step [] (suc k) there = cc
    step (y ∷ ys) zero {x = x} there =
        let e : y ≡ x = cc in
        ap (λ z. z ∷ []) e
    step (y ∷ ys) (suc k) there = ap (λ rest. y ∷ rest) (step ys k there)

-- ---- equal items
same_parts : (one other : Item) → one.array ≡ other.array → one.slot ≡ other.slot
    → one.shift ≡ other.shift → one ≡ other
same_parts one other array slot shift =
    ap (λ n. record one { array = n }) array
    ∙ ap (λ n. record one { array = other.array; slot = n }) slot
    ∙ ap (λ d. record other { shift = d }) shift

pub is_item-Decides : (one other : Item) → Decides (is_item one other) (one ≡ other)
is_item-Decides one other = (same, itself)
  where
    shifts : Decides (pointwise int_eq one.shift other.shift) (one.shift ≡ other.shift)
    shifts = slice_eq-Decides Decides-int_eq one.shift other.shift _ refl

    same : is_item one other ≡ true → one ≡ other
    same is =
        let front = both_left ((one.array == other.array) && (one.slot == other.slot)) _ is in
        same_parts one other
        ((Decides-eqb one.array other.array).0
        (both_left (one.array == other.array) _ front))
        ((Decides-eqb one.slot other.slot).0
        (both_right (one.array == other.array) _ front))
        (shifts.0 (both_right ((one.array == other.array) && (one.slot == other.slot)) _ is))

    itself : one ≡ other → is_item one other ≡ true
    itself is =
        ap (λ b. b && (one.slot == other.slot) && pointwise int_eq one.shift other.shift)
        ((Decides-eqb one.array other.array).1 (ap (λ (item : Item). item.array) is))
        ∙ ap (λ b. b && pointwise int_eq one.shift other.shift)
        ((Decides-eqb one.slot other.slot).1 (ap (λ (item : Item). item.slot) is))
        ∙ shifts.1 (ap (λ (item : Item). item.shift) is)
