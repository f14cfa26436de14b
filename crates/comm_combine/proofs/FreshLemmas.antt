-- What code keeps of fresh items is what the definition has.
use Rattle.std.proofs.Common.{◌≡◌, refl, sym, ap, ◌∙◌, arith, ℕ, ◌+◌, ◌≤◌}
use Rattle.std.proofs.Common.{Bool, true, false, not, List, [], ◌++◌}
use Rattle.std.specs.Prelude.{◌&&◌, ◌||◌, if◌then◌else◌, filter, max, nat_lt}
use Rattle.std.proofs.Math.Path.{fun_ext}
use Rattle.std.proofs.lemmas.Bool.{le-ltb, lt-ltb}
use Rattle.std.proofs.lemmas.List.Folds.{list_any-append}
use Rattle.std.proofs.lemmas.Map.Views.{any-filter_same}
use Rattle.last_writes.specs.of_node_form.declared.arrays.Item.{Item}
use Rattle.last_writes.specs.of_node_form.declared.instructions.Instr.{Instr}
use Rattle.last_writes.specs.of_node_form.declared.tables.Tables.{Tables}
use Rattle.last_writes.specs.of_code_parts.Exchanged.{is_among}
use Rattle.last_writes.specs.of_code_parts.Uses.{changes, is_item, written_arrays, written_slots}
use Rattle.last_writes.proofs.of_plan_form.ItemLemmas.{is_item-Decides}
use Rattle.last_writes.specs.Last.{is_listed, last_change, noted}
use Rattle.comm_combine.specs.Fresh.{AreExchanged, IsNew, IsWrittenBy, is_fresh, last_exchange}
use Rattle.comm_combine.specs.Fresh.{stale_by}
use Rattle.comm_combine.specs.Repeats.{stale_items}
use Rattle.comm_combine.specs.declared.fresh.Fresh.{Fresh}

-- ---- behind so many rows these items are fresh
pub record Knows (fresh : Fresh) (items : List Item) (rows : ℕ) : Type 0 where
  pub same : (item : Item) → is_fresh fresh item ≡ is_among items item
  pub exchanged : (item : Item) → last_exchange fresh item ≤ rows
  pub written : (item : Item) → last_change fresh.written item ≤ rows

pub new_known : (fresh : Fresh) (rows : ℕ) → IsNew fresh → Knows fresh [] rows
new_known fresh rows new = record {
  same = λ item. le-ltb (last_change fresh.written item) (last_exchange fresh item)
      (omega (arith, new.exchanged item));
  exchanged = λ item. omega (arith, new.exchanged item);
  written = λ item. omega (arith, new.arrays item.array, new.slots item.slot);
}

pub later_known : (fresh : Fresh) (items : List Item) (rows : ℕ) → Knows fresh items rows
    → Knows fresh items (rows + 1)
later_known fresh items rows known = record {
  same = known.same;
  exchanged = λ item. omega (arith, known.exchanged item);
  written = λ item. omega (arith, known.written item);
}

-- those of the items that aren't fresh
pub same_stale : (fresh : Fresh) (known : List Item) (rows : ℕ) → Knows fresh known rows
    → (items : List Item) → stale_by (is_fresh fresh) items ≡ stale_items known items
same_stale fresh known rows knows items =
    ap (λ (test : Item → Bool). filter (λ item. not (test item)) items) (fun_ext knows.same)

-- ---- an exchange
pub exchange_known : (old new : Fresh) (known items : List Item) (rows : ℕ)
    → AreExchanged old items (rows + 1) new → Knows old known rows
    → Knows new (items ++ known) (rows + 1)
exchange_known old new known items rows are knows = record {
  same = λ item. same item (is_among items item) refl;
  exchanged = λ item. below item (is_among items item) (are.exchanged item);
  written = λ item. omega (arith, knows.written item, unwritten item);
}
  where
    unwritten : (item : Item) → last_change new.written item ≡ last_change old.written item
    unwritten item = ap (λ w. last_change w item) are.written

    below : (item : Item) (b : Bool)
        → last_exchange new item ≡ (if b then rows + 1 else last_exchange old item)
        → last_exchange new item ≤ rows + 1
    below item true is = omega (arith, is)
    below item false is = omega (arith, is, knows.exchanged item)

    same : (item : Item) (b : Bool) → is_among items item ≡ b
        → is_fresh new item ≡ is_among (items ++ known) item
    same item b is =
        ap (λ n. nat_lt n (last_exchange new item)) (unwritten item)
        ∙ (ap (nat_lt (last_change old.written item))
        (are.exchanged item ∙ ap (λ b. if b then rows + 1 else last_exchange old item) is)
        ∙ (by b
        ∙ (ap (λ b. b || is_among known item) (sym is)
        ∙ sym (list_any-append (is_item item) items known))))
      where
        by : (b : Bool)
            → nat_lt (last_change old.written item) (if b then rows + 1 else last_exchange old item)
            ≡ (b || is_among known item)
        by true =
            lt-ltb (last_change old.written item) (rows + 1) (omega (arith, knows.written item))
        by false = knows.same item

-- ---- a row that writes
both_max : (a b : Bool) (m x y : ℕ) → x ≤ m → y ≤ m
    → max (if a then m else x) (if b then m else y) ≡ (if a || b then m else max x y)
both_max true true m x y below beside = omega arith
both_max true false m x y below beside = omega (arith, beside)
both_max false true m x y below beside = omega (arith, below)
both_max false false m x y below beside = refl

left_max : (a b n : ℕ) → max a b ≤ n → a ≤ n
left_max a b n below = omega (arith, below)

right_max : (a b n : ℕ) → max a b ≤ n → b ≤ n
right_max a b n below = omega (arith, below)

pub write_known : (tables : Tables) (row : Instr) (old new : Fresh) (known : List Item) (rows : ℕ)
    → IsWrittenBy tables row old (rows + 1) new → Knows old known rows
    → Knows new (filter (λ item. not (changes tables row item)) known) (rows + 1)
write_known tables row old new known rows is knows = record {
  same = λ item. same item (changes tables row item) refl;
  exchanged = λ item. omega (arith, unmoved item, knows.exchanged item);
  written = λ item. below item (changes tables row item) (now item);
}
  where
    unmoved : (item : Item) → last_exchange new item ≡ last_exchange old item
    unmoved item = ap (λ e. last_exchange (record old { exchanged = e }) item) is.exchanged

    now : (item : Item) → last_change new.written item
        ≡ (if changes tables row item then rows + 1 else last_change old.written item)
    now item =
        ap (λ n. max n (noted new.written.slots item.slot)) (is.arrays item.array)
        ∙ (ap (max (if is_listed (written_arrays tables row) item.array then rows + 1
        else noted old.written.arrays item.array)) (is.slots item.slot)
        ∙ both_max (is_listed (written_arrays tables row) item.array)
        (is_listed (written_slots row) item.slot) (rows + 1)
        (noted old.written.arrays item.array) (noted old.written.slots item.slot)
        (omega (
          arith,
          left_max (noted old.written.arrays item.array)
              (noted old.written.slots item.slot) rows (knows.written item),
        ))
        (omega (
          arith,
          right_max (noted old.written.arrays item.array)
              (noted old.written.slots item.slot) rows (knows.written item),
        )))

    below : (item : Item) (b : Bool) → last_change new.written item
        ≡ (if b then rows + 1 else last_change old.written item)
        → last_change new.written item ≤ rows + 1
    below item true is = omega (arith, is)
    below item false is = omega (arith, is, knows.written item)

    kept : (item : Item) (b : Bool) → changes tables row item ≡ b → (other : Item)
        → is_item item other ≡ true → not (changes tables row other) ≡ not b
    kept item b is other e =
        let same : item ≡ other = (is_item-Decides item other).0 e in
        ap (λ one. not (changes tables row one)) (sym same) ∙ ap not is

    same : (item : Item) (b : Bool) → changes tables row item ≡ b
        → is_fresh new item
        ≡ is_among (filter (λ item. not (changes tables row item)) known) item
    same item b changed =
        ap (λ n. nat_lt n (last_exchange new item))
        (now item ∙ ap (λ b. if b then rows + 1 else last_change old.written item) changed)
        ∙ (ap (nat_lt (if b then rows + 1 else last_change old.written item)) (unmoved item)
        ∙ (by b
        ∙ sym (any-filter_same (is_item item) (λ item. not (changes tables row item)) (not b)
        (kept item b changed) known)))
      where
        by : (b : Bool)
            → nat_lt (if b then rows + 1 else last_change old.written item) (last_exchange old item)
            ≡ (not b && is_among known item)
        by true = le-ltb (rows + 1) (last_exchange old item) (omega (arith, knows.exchanged item))
        by false = knows.same item
