-- Items as they are told from others in memory.
use Rattle.std.proofs.Common.{◌≡◌, refl, sym, ap, ◌∙◌, ℕ, ◌==◌, Bool, true, false, [], ◌∷◌}
use Rattle.std.specs.Prelude.{◌&&◌, ◌||◌, cond, if◌then◌else◌, Some, unwrap_or}
use Rattle.std.specs.HashMap.{get_by}
use Rattle.std.specs.Cmp.Lexicographic.{pointwise}
use Rattle.std.specs.Ordering.{int_eq}
use Rattle.last_writes.specs.of_node_form.declared.arrays.Item.{Item}
use Rattle.last_writes.specs.of_code_parts.Exchanged.{is_among}
use Rattle.last_writes.specs.of_code_parts.Uses.{is_item}
use Rattle.last_writes.proofs.of_plan_form.ItemLemmas.{is_item-Decides}
use Rattle.comm_combine.specs.Fresh.{is_key, last_exchange}
use Rattle.comm_combine.specs.declared.fresh.Fresh.{Fresh}
use Rattle.comm_combine.specs.declared.fresh.ItemKey.{ItemKey}

-- equality goes both ways
same_items : (one other : Item) → is_item one other ≡ is_item other one
same_items one other = by (is_item one other) (is_item other one) refl refl
  where
    itself : (one other : Item) → is_item one other ≡ true → is_item other one ≡ true
    itself one other is =
        (is_item-Decides other one).1 (sym ((is_item-Decides one other).0 is))

    by : (a b : Bool) → is_item one other ≡ a → is_item other one ≡ b → a ≡ b
    by true b one_way other_way = sym (itself one other one_way) ∙ other_way
    by false true one_way other_way = sym one_way ∙ itself other one other_way
    by false false one_way other_way = refl

abbrev pub key_of : Item → ItemKey
key_of item = record { array = item.array; slot = item.slot; shift = item.shift }

grouped : (a b c : Bool) → (a && (b && c)) ≡ ((a && b) && c)
grouped true b c = refl
grouped false b c = refl

or_none : (b : Bool) → b ≡ (b || false)
or_none true = refl
or_none false = refl

among_one : (item other : Item) → is_key item (key_of other) ≡ is_among (item ∷ []) other
among_one item other =
    grouped (item.array == other.array) (item.slot == other.slot)
    (pointwise int_eq item.shift other.shift)
    ∙ (same_items item other ∙ or_none (is_item other item))

-- the row of each item, where one item gets another
pub exchanged_one : (old new : Fresh) (item other : Item) (number : ℕ)
    → get_by (is_key other) new.exchanged
    ≡ cond (is_key item (key_of other)) (Some number) (get_by (is_key other) old.exchanged)
    → last_exchange new other
    ≡ (if is_among (item ∷ []) other then number else last_exchange old other)
exchanged_one old new item other number is =
    ap (λ row. unwrap_or row 0) is
    ∙ (by (is_key item (key_of other))
    ∙ ap (λ b. if b then number else last_exchange old other) (among_one item other))
  where
    by : (b : Bool)
        → unwrap_or (cond b (Some number) (get_by (is_key other) old.exchanged)) 0
        ≡ (if b then number else last_exchange old other)
    by true = refl
    by false = refl
