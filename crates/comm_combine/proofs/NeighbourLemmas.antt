-- No neighbours are left, and no repeat comes back.
use Rattle.std.proofs.Common.{◌≡◌, ◌⊎◌, inl, inr, refl, sym, ap, ◌∙◌, subst, ℕ, ◌+◌, Bool, true, false}
use Rattle.std.proofs.Common.{not, true≢false, List, [], ◌∷◌, ◌++◌}
use Rattle.std.specs.Prelude.{◌&&◌, ◌||◌, filter, fold, if◌then◌else◌, Option, Some, None}
use Rattle.std.specs.List.{list_any}
use Rattle.std.proofs.lemmas.List.Folds.{list_any-append}
use Rattle.last_writes.specs.of_node_form.declared.arrays.Item.{Item}
use Rattle.last_writes.specs.of_node_form.declared.instructions.Instr.{Instr}
use Rattle.last_writes.specs.of_node_form.declared.instructions.Instr.TheVariants as instr
use Rattle.last_writes.specs.of_node_form.declared.tables.Tables.{Tables}
use Rattle.last_writes.specs.of_code_parts.Exchanged.{HasNoRepeats, IsMerged, fresh_behind, is_among, is_apart}
use Rattle.last_writes.specs.of_code_parts.Exchanged.{is_behind_finish, is_exchange_row, stales, starts_new}
use Rattle.last_writes.specs.of_code_parts.Stretch.{ends_stretch, right_from}
use Rattle.last_writes.specs.of_code_parts.Uses.{is_item, items_of}
use Rattle.last_writes.proofs.of_code_parts.ListLemmas.{one_passes, some_passes}
use Rattle.last_writes.proofs.of_code_parts.MergedLemmas.{merged_either_way}
use Rattle.last_writes.proofs.of_code_parts.RepeatLemmas.{repeats_either_way}
use Rattle.last_writes.specs.of_plan_form.Units.{with_item}
use Rattle.last_writes.proofs.of_plan_form.ItemLemmas.{is_item-Decides}
use Rattle.comm_combine.specs.Merge.{neighbours_merged, pending_items, pending_with}
use Rattle.comm_combine.proofs.NewLemmas.{Within, all_fresh, within_left, within_none}
use Rattle.comm_combine.proofs.PendingLemmas.{merged_is, merged_right, plan_merged}

-- ---- a walk that finds nothing wrong anywhere
none_wrong : (code : List Instr) (at : ℕ) (known : Unit {0}) (rows : List Instr)
    → right_from tt (λ known row. known) (λ known row. true) code at known rows ≡ true
none_wrong code at known [] = refl
none_wrong code at known (row ∷ rows) =
    by (ends_stretch row) _ (none_wrong code (at + 1) _ rows)
  where
    by : (a b : Bool) → b ≡ true → ((a || true) && b) ≡ true
    by true b rest = rest
    by false b rest = rest

-- ---- neighbours
apart_row : (known : Bool) (row : Instr) → is_exchange_row row ≡ false
    → (is_apart known row ≡ true) × (is_behind_finish known row ≡ false)
apart_row known (instr.Start exchange) other = absurd (true≢false other)
apart_row known (instr.Finish exchange) other = absurd (true≢false other)
apart_row known row other = (refl, refl)

started_false : (b known started : Bool) → known ≡ false → started ≡ (if b then false else known)
    → started ≡ false
started_false true known started none is = is
started_false false known started none is = is ∙ none

pub none_left : (tables : Tables) → IsMerged (neighbours_merged tables)
none_left tables =
    subst IsMerged (sym (merged_is tables))
    ((merged_either_way (plan_merged tables)).0
    (merged_right tables false is_behind_finish is_apart tt (λ known row. known)
    (λ known row. true) (λ known pending old. known ≡ false) (λ known old. Unit {0})
    (λ known pending old none. refl) (λ known old after. tt) refl
    (λ known pending old exchange fine none. none) (λ known pending old exchange none. none)
    (λ known old none. tt) (λ known items old number there none. refl)
    (λ known started items old number other there none b is.
    (ap not (started_false b known started none is), tt))
    (λ known old row ends other after. apart_row known row other)
    (none_wrong tables.code 0 tt tables.code)))

-- ---- items
abbrev Apart : List Item → List Item → Type 0
Apart items others = (item : Item) → is_among items item ≡ true → is_among others item ≡ false

one_of : (a b : Bool) → (a || b) ≡ true → (a ≡ true) ⊎ (b ≡ true)
one_of true b e = inl refl
one_of false b e = inr e

not_true : (b : Bool) → (b ≡ true → ⊥) → b ≡ false
not_true true none = absurd (none refl)
not_true false none = refl

not_false : (b : Bool) → not b ≡ true → b ≡ false
not_false true denied = sym denied
not_false false denied = refl

either_left : (a b : Bool) → a ≡ true → (a || b) ≡ true
either_left true b e = refl
either_left false b e = absurd (true≢false (sym e))

either_right : (a b : Bool) → b ≡ true → (a || b) ≡ true
either_right true b e = refl
either_right false b e = e

itself : (item : Item) → is_item item item ≡ true
itself item = (is_item-Decides item item).1 refl

-- of items that are apart none is among the others
none_among : (known items : List Item) → Apart known items → list_any (is_among known) items ≡ false
none_among known items apart =
    not_true (list_any (is_among known) items)
    (λ any. let p = one_passes (is_among known) items any in
    true≢false (sym (some_passes (is_item p.x) items p.x p.there (itself p.x)) ∙ apart p.x p.passes))

some_among : (known items : List Item) (item : Item) → is_among known item ≡ true
    → is_among items item ≡ true → list_any (is_among known) items ≡ true
some_among known items item there among =
    let p = one_passes (is_item item) items among in
    some_passes (is_among known) items p.x p.there
    (subst (λ one. is_among known one ≡ true) ((is_item-Decides item p.x).0 p.passes) there)

-- an item of those that were put in with others
among_one : (items : List Item) (one item : Item) → is_among (with_item items one) item ≡ true
    → (is_among items item ≡ true) ⊎ (is_among (one ∷ []) item ≡ true)
among_one items one item = by (is_among items one)
  where
    by : (b : Bool) → is_among (if b then items else items ++ one ∷ []) item ≡ true
        → (is_among items item ≡ true) ⊎ (is_among (one ∷ []) item ≡ true)
    by true there = inl there
    by false there =
        one_of (is_among items item) _
        (sym (list_any-append (is_item item) items (one ∷ [])) ∙ there)

among_with : (more items : List Item) (item : Item)
    → is_among (fold with_item items more) item ≡ true
    → (is_among items item ≡ true) ⊎ (is_among more item ≡ true)
among_with [] items item there = inl there
among_with (one ∷ more) items item there =
    from (among_with more (with_item items one) item there)
  where
    or_none : (a b : Bool) → (a || false) ≡ true → (a || b) ≡ true
    or_none true b e = refl
    or_none false b e = absurd (true≢false (sym e))

    first : (is_among items item ≡ true) ⊎ (is_among (one ∷ []) item ≡ true)
        → (is_among items item ≡ true) ⊎ (is_among (one ∷ more) item ≡ true)
    first (inl old) = inl old
    first (inr new) = inr (or_none (is_item item one) (is_among more item) new)

    from : (is_among (with_item items one) item ≡ true) ⊎ (is_among more item ≡ true)
        → (is_among items item ≡ true) ⊎ (is_among (one ∷ more) item ≡ true)
    from (inl with_one) = first (among_one items one item with_one)
    from (inr later) = inr (either_right (is_item item one) (is_among more item) later)

among_back : (more known : List Item) (item : Item) → is_among known item ≡ true
    → is_among (more ++ known) item ≡ true
among_back more known item there =
    list_any-append (is_item item) more known
    ∙ either_right (is_among more item) (is_among known item) there

among_front : (more known : List Item) (item : Item) → is_among more item ≡ true
    → is_among (more ++ known) item ≡ true
among_front more known item there =
    list_any-append (is_item item) more known
    ∙ either_left (is_among more item) (is_among known item) there

within_both : (more items known : List Item) → Within more known → Within items known
    → Within (more ++ items) known
within_both more items known one other item there =
    from (one_of (is_among more item) (is_among items item)
    (sym (list_any-append (is_item item) more items) ∙ there))
  where
    from : (is_among more item ≡ true) ⊎ (is_among items item ≡ true)
        → is_among known item ≡ true
    from (inl first) = one item first
    from (inr last) = other item last

-- ---- repeats
record IsNew (known : List Item) (pending : Option (List Item)) (old : List Item) : Type 0 where
  fresh : Within known old
  waiting : Within (pending_items pending) old
  apart : Apart known (pending_items pending)

module _ (tables : Tables) where
  abbrev plan : Tables
  plan = plan_merged tables

  starts : (known : List Item) (pending : Option (List Item)) (old : List Item) (exchange : ℕ)
      → starts_new tables old (instr.Start exchange) ≡ true → IsNew known pending old
      → IsNew known (Some (pending_with pending (items_of tables exchange)))
      (fresh_behind tables old (instr.Start exchange))
  starts known pending old exchange fine is = record {
    fresh = λ item there. among_back (items_of tables exchange) old item (is.fresh item there);
    waiting = λ item there.
        waits item (among_with (items_of tables exchange) (pending_items pending) item there);
    apart = λ item there.
        not_true (is_among (pending_with pending (items_of tables exchange)) item)
        (λ waiting. clash item there
        (among_with (items_of tables exchange) (pending_items pending) item waiting));
  }
    where
      waits : (item : Item) → (is_among (pending_items pending) item ≡ true)
          ⊎ (is_among (items_of tables exchange) item ≡ true)
          → is_among (items_of tables exchange ++ old) item ≡ true
      waits item (inl was) =
          among_back (items_of tables exchange) old item (is.waiting item was)
      waits item (inr comes) = among_front (items_of tables exchange) old item comes

      clash : (item : Item) → is_among known item ≡ true
          → (is_among (pending_items pending) item ≡ true)
          ⊎ (is_among (items_of tables exchange) item ≡ true) → ⊥
      clash item there (inl was) = true≢false (sym was ∙ is.apart item there)
      clash item there (inr comes) =
          true≢false (sym (some_among old (items_of tables exchange) item (is.fresh item there) comes)
          ∙ not_false (list_any (is_among old) (items_of tables exchange)) fine)

  finishes : (known : List Item) (pending : Option (List Item)) (old : List Item) (exchange : ℕ)
      → IsNew known pending old
      → IsNew known pending (fresh_behind tables old (instr.Finish exchange))
  finishes known pending old exchange is =
      subst (IsNew known pending) (sym (all_fresh tables old)) is

  finish_right : (known started items old : List Item) (number other : ℕ)
      → items_of plan number ≡ items → IsNew known (Some items) old
      → (b : Bool) → started ≡ (if b then [] else fresh_behind plan known (instr.Start number))
      → (starts_new plan started (instr.Finish other) ≡ true)
      × Within (fresh_behind plan started (instr.Finish other)) old
  finish_right known started items old number other there is b from = (
    refl,
    subst (λ l. Within l old) (sym (all_fresh tables started ∙ from)) (by b),
  )
    where
      by : (b : Bool) → Within (if b then [] else items_of plan number ++ known) old
      by true = within_none old
      by false =
          within_both (items_of plan number) known old
          (subst (λ l. Within l old) (sym there) is.waiting) is.fresh

  kept_row : (row : Instr) (items : List Item) → ends_stretch row ≡ false
      → is_exchange_row row ≡ false
      → (starts_new plan items row ≡ true)
      × (fresh_behind plan items row ≡ filter (λ item. not (stales tables item row)) items)
      × (fresh_behind tables items row ≡ filter (λ item. not (stales tables item row)) items)
  kept_row (instr.Start exchange) items ends none = absurd (true≢false none)
  kept_row (instr.Finish exchange) items ends none = absurd (true≢false none)
  kept_row row items ends none = (refl, refl, refl)

  other_row : (known old : List Item) (row : Instr) → ends_stretch row ≡ false
      → is_exchange_row row ≡ false → Within known old
      → (starts_new plan known row ≡ true)
      × IsNew (fresh_behind plan known row) None (fresh_behind tables old row)
  other_row known old row ends other within = (
    (kept_row row known ends other).0,
    record {
      fresh =
          subst (λ l. Within l (fresh_behind tables old row))
          (sym (kept_row row known ends other).1)
          (subst (λ l. Within (filter (λ item. not (stales tables item row)) known) l)
          (sym (kept_row row old ends other).2) (within_left tables row known old within));
      waiting = within_none (fresh_behind tables old row);
      apart = λ item there. refl;
    },
  )

  pub still_new : HasNoRepeats tables → HasNoRepeats (neighbours_merged tables)
  still_new none =
      subst HasNoRepeats (sym (merged_is tables))
      ((repeats_either_way (plan_merged tables)).0
      (merged_right tables [] (fresh_behind (plan_merged tables)) (starts_new (plan_merged tables)) []
      (fresh_behind tables) (starts_new tables) IsNew Within
      (λ known pending old is. record {
        fresh = within_none old;
        waiting = is.waiting;
        apart = λ item there. absurd (true≢false (sym there));
      })
      (λ known old after. within_none old)
      (record { fresh = within_none []; waiting = within_none []; apart = λ item there. refl })
      starts finishes (λ known old is. is.fresh)
      (λ known items old number there is.
      ap not (ap (list_any (is_among known)) there ∙ none_among known items is.apart))
      finish_right other_row ((repeats_either_way tables).1 none)))
