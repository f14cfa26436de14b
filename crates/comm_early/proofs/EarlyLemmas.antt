-- What early starts leave, and keep.
use Rattle.std.proofs.Common.{◌≡◌, refl, sym, ap, ◌∙◌, ℕ, ◌+◌, Bool, true, false, not}
use Rattle.std.proofs.Common.{true≢false, List, [], ◌∷◌, ◌++◌, length}
use Rattle.std.specs.Prelude.{◌&&◌, ◌||◌, cond, filter, if◌then◌else◌, Option}
use Rattle.std.specs.List.{AllByRecursion, list_any}
use Rattle.std.proofs.lemmas.List.Elements.{filter-append}
use Rattle.std.proofs.lemmas.Map.Views.{any-filter_same}
use Rattle.last_writes.specs.of_node_form.declared.arrays.Item.{Item}
use Rattle.last_writes.specs.of_node_form.declared.instructions.Instr.{Instr}
use Rattle.last_writes.specs.of_node_form.declared.instructions.Instr.TheVariants as instr
use Rattle.last_writes.specs.of_node_form.declared.tables.Tables.{Tables}
use Rattle.last_writes.specs.of_code_parts.Early.{IsEarly, Passed, is_in_time}
use Rattle.last_writes.specs.of_code_parts.Early.{may_cross, none_passed, open_behind, passed_by}
use Rattle.last_writes.specs.of_code_parts.Exchanged.{HasNoRepeats, IsMerged, fresh_behind, is_among, is_apart}
use Rattle.last_writes.specs.of_code_parts.Exchanged.{is_behind_finish, stales, starts_new}
use Rattle.last_writes.specs.of_code_parts.Stretch.{ends_stretch, right_from}
use Rattle.last_writes.specs.of_code_parts.Uses.{changes, is_item, items_of}
use Rattle.last_writes.proofs.of_code_parts.EarlyLemmas.{early_either_way}
use Rattle.last_writes.proofs.of_code_parts.MergedLemmas.{merged_either_way}
use Rattle.last_writes.proofs.of_code_parts.RepeatLemmas.{repeats_either_way}
use Rattle.last_writes.proofs.of_plan_form.ItemLemmas.{is_item-Decides}
use Rattle.last_writes.proofs.of_code_parts.WalkLemmas.{both_right}
use Rattle.comm_early.specs.Send.{open_behind_all, put_early, put_row, sent_early}
use Rattle.comm_early.proofs.PassedLemmas.{facts_back, right_back, stays_right}

both : (a b : Bool) → a ≡ true → b ≡ true → (a && b) ≡ true
both true b one other = other
both false b one other = one

-- ---- a walk that finds nothing wrong anywhere
module _ (code : List Instr) where
  none_wrong : (at : ℕ) (known : Unit {0}) (rows : List Instr)
      → right_from tt (λ known row. known) (λ known row. true) code at known rows ≡ true
  none_wrong at known [] = refl
  none_wrong at known (row ∷ rows) =
      both (ends_stretch row || true) _ (by (ends_stretch row)) (none_wrong (at + 1) _ rows)
    where
      by : (b : Bool) → (b || true) ≡ true
      by true = refl
      by false = refl

module _ (tables : Tables) (links : Option ℕ) where
  -- ---- no start could be earlier
  abbrev timely : List Instr → Bool
  timely before = right_back none_passed passed_by (is_in_time tables links) before

  abbrev passed : List Instr → Passed
  passed before = facts_back none_passed passed_by (is_in_time tables links) before

  open_passed : (before : List Instr) → (passed before).open_now ≡ open_behind_all before
  open_passed [] = refl
  open_passed (row ∷ before) = ap (λ numbers. open_behind numbers row) (open_passed before)

  no_start : (before : List Instr) (row : Instr) (count exchange : ℕ)
      → may_cross tables links count row exchange ≡ true
      → is_in_time tables links (passed before) row ≡ true
  no_start before (instr.Start other) count exchange crosses = absurd (true≢false (sym crosses))
  no_start before row count exchange crosses = refl

  put_timely : (exchange : ℕ) (before : List Instr) → timely before ≡ true
      → timely (put_early tables links exchange before) ≡ true
  put_timely exchange [] right = refl
  put_timely exchange (last ∷ before) right =
      by (may_cross tables links (length (open_behind_all before)) last exchange) refl
      (put_timely exchange before
      (both_right (is_in_time tables links (passed before) last) (timely before) right))
    where
      by : (b : Bool)
          → may_cross tables links (length (open_behind_all before)) last exchange ≡ b
          → timely (put_early tables links exchange before) ≡ true
          → timely (if b then last ∷ put_early tables links exchange before
          else instr.Start exchange ∷ last ∷ before) ≡ true
      by true crosses rest =
          both (is_in_time tables links (passed (put_early tables links exchange before)) last) _
          (no_start (put_early tables links exchange before) last
          (length (open_behind_all before)) exchange crosses) rest
      by false stops rest =
          both (not (may_cross tables links (length (passed before).open_now) last exchange)) _
          (ap not (ap (λ numbers. may_cross tables links (length numbers) last exchange)
          (open_passed before) ∙ stops)) right

  row_timely : (before : List Instr) (row : Instr) → timely before ≡ true
      → timely (put_row tables links before row) ≡ true
  row_timely before (instr.Start exchange) right = put_timely exchange before right
  row_timely before row right = right

  pub early : IsEarly links (sent_early links tables)
  early =
      (early_either_way links (sent_early links tables)).0
      (stays_right tables links none_passed passed_by (is_in_time tables links) tt
      (λ known row. known) (λ known row. true) (λ before known. timely before ≡ true) refl
      (λ before known row fine right. row_timely before row right)
      (λ before known right. right)
      (none_wrong tables.code 0 tt tables.code))

  -- ---- neighbours don't come back
  abbrev apart : List Instr → Bool
  apart before = right_back false is_behind_finish is_apart before

  abbrev finished : List Instr → Bool
  finished before = facts_back false is_behind_finish is_apart before

  put_apart : (exchange : ℕ) (before : List Instr)
      → (finished (put_early tables links exchange before) ≡ finished before)
      × (apart (put_early tables links exchange before) ≡ apart before)
  put_apart exchange [] = (refl, refl)
  put_apart exchange (last ∷ before) = by _ (put_apart exchange before)
    where
      by : (b : Bool) → (finished (put_early tables links exchange before) ≡ finished before)
          × (apart (put_early tables links exchange before) ≡ apart before)
          → (finished (if b then last ∷ put_early tables links exchange before
          else instr.Start exchange ∷ last ∷ before) ≡ finished (last ∷ before))
          × (apart (if b then last ∷ put_early tables links exchange before
          else instr.Start exchange ∷ last ∷ before) ≡ apart (last ∷ before))
      by true rest = (
        ap (λ known. is_behind_finish known last) rest.0,
        ap (λ known. is_apart known last
            && apart (put_early tables links exchange before)) rest.0
            ∙ ap (λ b. is_apart (finished before) last && b) rest.1,
      )
      by false rest = (refl, refl)

  record IsApartAs (before : List Instr) (known : Bool) : Type 0 where
    same : finished before ≡ known
    right : apart before ≡ true

  row_apart : (before : List Instr) (known : Bool) (row : Instr) → is_apart known row ≡ true
      → IsApartAs before known
      → IsApartAs (put_row tables links before row) (is_behind_finish known row)
  row_apart before known (instr.Start exchange) fine is = record {
    same = (put_apart exchange before).0 ∙ is.same;
    right = (put_apart exchange before).1 ∙ is.right;
  }
  row_apart before known row fine is = record {
    same = ap (λ known. is_behind_finish known row) is.same;
    right = both (is_apart (finished before) row) _
        (ap (λ known. is_apart known row) is.same ∙ fine) is.right;
  }

  pub still_merged : IsMerged tables → IsMerged (sent_early links tables)
  still_merged merged =
      (merged_either_way (sent_early links tables)).0
      (stays_right tables links false is_behind_finish is_apart false is_behind_finish is_apart
      IsApartAs (record { same = refl; right = refl }) row_apart (λ before known is. is.right)
      ((merged_either_way tables).1 merged))

  -- ---- nor repeats
  abbrev fresh : List Instr → List Item
  fresh before = facts_back [] (fresh_behind tables) (starts_new tables) before

  abbrev new : List Instr → Bool
  new before = right_back [] (fresh_behind tables) (starts_new tables) before

  -- a row that the start crosses leaves its items fresh
  abbrev AreKept : Instr → List Item → Type 0
  AreKept row items = AllByRecursion (λ item. stales tables item row ≡ false) items

  no_one : (test : Item → Bool) (items : List Item) → not (list_any test items) ≡ true
      → AllByRecursion (λ item. test item ≡ false) items
  no_one test [] none = tt
  no_one test (item ∷ items) none = by (test item) refl none (no_one test items)
    where
      by : (b : Bool) → test item ≡ b → not (b || list_any test items) ≡ true
          → (not (list_any test items) ≡ true → AllByRecursion (λ item. test item ≡ false) items)
          → AllByRecursion (λ item. test item ≡ false) (item ∷ items)
      by true is none rest = absurd (true≢false (sym none))
      by false is none rest = (is, rest none)

  all_of : (test : Item → Bool) → ((item : Item) → test item ≡ false) → (items : List Item)
      → AllByRecursion (λ item. test item ≡ false) items
  all_of test none [] = tt
  all_of test none (item ∷ items) = (none item, all_of test none items)

  kept : (row : Instr) (count exchange : ℕ) → may_cross tables links count row exchange ≡ true
      → AreKept row (items_of tables exchange)
  kept (instr.Fix slot region) count exchange crosses =
      no_one (changes tables (instr.Fix slot region)) (items_of tables exchange) crosses
  kept (instr.Room array slot) count exchange crosses =
      no_one (changes tables (instr.Room array slot)) (items_of tables exchange) crosses
  kept (instr.Clear array) count exchange crosses =
      no_one (changes tables (instr.Clear array)) (items_of tables exchange) crosses
  kept (instr.Loop slot group) count exchange crosses =
      no_one (changes tables (instr.Loop slot group)) (items_of tables exchange) crosses
  kept (instr.Print text) count exchange crosses =
      all_of (changes tables (instr.Print text)) (λ item. refl) (items_of tables exchange)
  kept (instr.Set scalar expr line) count exchange crosses =
      all_of (changes tables (instr.Set scalar expr line)) (λ item. refl) (items_of tables exchange)
  kept (instr.Number expr) count exchange crosses =
      all_of (changes tables (instr.Number expr)) (λ item. refl) (items_of tables exchange)
  kept (instr.Truth expr) count exchange crosses =
      all_of (changes tables (instr.Truth expr)) (λ item. refl) (items_of tables exchange)
  kept (instr.Finish other) count exchange crosses =
      all_of (λ item. false) (λ item. refl) (items_of tables exchange)
  kept row count exchange crosses = absurd (true≢false (sym crosses))

  -- what a row that is no start leaves
  abbrev left_by : Instr → List Item → List Item
  left_by row items = filter (λ item. not (stales tables item row)) items

  left_all : (row : Instr) (items : List Item) → AreKept row items → left_by row items ≡ items
  left_all row [] kept = refl
  left_all row (item ∷ items) kept =
      ap (λ b. cond (not b) (item ∷ left_by row items) (left_by row items)) kept.0
      ∙ ap (λ rest. item ∷ rest) (left_all row items kept.1)

  among_left : (row : Instr) (known items : List Item) → AreKept row items
      → list_any (is_among (left_by row known)) items ≡ list_any (is_among known) items
  among_left row known [] kept = refl
  among_left row known (item ∷ items) kept =
      ap (λ b. b || list_any (is_among (left_by row known)) items)
      (any-filter_same (is_item item) (λ other. not (stales tables other row)) true same known)
      ∙ ap (λ b. is_among known item || b) (among_left row known items kept.1)
    where
      same : (other : Item) → is_item item other ≡ true → not (stales tables other row) ≡ true
      same other is =
          ap not (ap (λ one. stales tables one row) (sym ((is_item-Decides item other).0 is))
          ∙ kept.0)

  -- a row that is crossed is no start
  crossed_fresh : (row : Instr) (count exchange : ℕ) (known : List Item)
      → may_cross tables links count row exchange ≡ true
      → fresh_behind tables known row ≡ left_by row known
  crossed_fresh (instr.Start other) count exchange known crosses =
      absurd (true≢false (sym crosses))
  crossed_fresh row count exchange known crosses = refl

  crossed_new : (row : Instr) (count exchange : ℕ) (known : List Item)
      → may_cross tables links count row exchange ≡ true → starts_new tables known row ≡ true
  crossed_new (instr.Start other) count exchange known crosses =
      absurd (true≢false (sym crosses))
  crossed_new row count exchange known crosses = refl

  record IsPut (exchange : ℕ) (before after : List Instr) : Type 0 where
    same : fresh after ≡ items_of tables exchange ++ fresh before
    right : not (list_any (is_among (fresh before)) (items_of tables exchange)) ≡ true
        → new before ≡ true → new after ≡ true

  put_fresh : (exchange : ℕ) (before : List Instr)
      → IsPut exchange before (put_early tables links exchange before)
  put_fresh exchange [] = record {
    same = refl;
    right = λ none fine. both _ true none refl;
  }
  put_fresh exchange (last ∷ before) =
      by (may_cross tables links (length (open_behind_all before)) last exchange) refl
      (put_fresh exchange before)
    where
      by : (b : Bool)
          → may_cross tables links (length (open_behind_all before)) last exchange ≡ b
          → IsPut exchange before (put_early tables links exchange before)
          → IsPut exchange (last ∷ before)
          (if b then last ∷ put_early tables links exchange before
          else instr.Start exchange ∷ last ∷ before)
      by true crosses rest = record {
        same =
            crossed_fresh last (length (open_behind_all before)) exchange
            (fresh (put_early tables links exchange before)) crosses
            ∙ (ap (left_by last) rest.same
            ∙ (filter-append (λ item. not (stales tables item last)) (items_of tables exchange)
            (fresh before)
            ∙ (ap (λ l. l ++ left_by last (fresh before))
            (left_all last (items_of tables exchange)
            (kept last (length (open_behind_all before)) exchange crosses))
            ∙ ap (λ l. items_of tables exchange ++ l)
            (sym (crossed_fresh last (length (open_behind_all before)) exchange (fresh before)
            crosses)))));
        right = λ none fine.
            both (starts_new tables (fresh (put_early tables links exchange before)) last) _
            (crossed_new last (length (open_behind_all before)) exchange
            (fresh (put_early tables links exchange before)) crosses)
            (rest.right
            (ap not (sym (ap (λ known. list_any (is_among known) (items_of tables exchange))
            (crossed_fresh last (length (open_behind_all before)) exchange (fresh before) crosses)
            ∙ among_left last (fresh before) (items_of tables exchange)
            (kept last (length (open_behind_all before)) exchange crosses)))
            ∙ none)
            (both_right (starts_new tables (fresh before) last) (new before) fine));
      }
      by false stops rest = record { same = refl; right = λ none fine. both _ _ none fine }

  record IsNewAs (before : List Instr) (known : List Item) : Type 0 where
    same : fresh before ≡ known
    right : new before ≡ true

  row_new : (before : List Instr) (known : List Item) (row : Instr)
      → starts_new tables known row ≡ true → IsNewAs before known
      → IsNewAs (put_row tables links before row) (fresh_behind tables known row)
  row_new before known (instr.Start exchange) fine is =
      let put = put_fresh exchange before in
      record {
        same = put.same ∙ ap (λ l. items_of tables exchange ++ l) is.same;
        right = put.right
            (ap (λ known. not (list_any (is_among known) (items_of tables exchange))) is.same ∙ fine)
            is.right;
      }
  row_new before known row fine is = record {
    same = ap (λ known. fresh_behind tables known row) is.same;
    right = both (starts_new tables (fresh before) row) _
        (ap (λ known. starts_new tables known row) is.same ∙ fine) is.right;
  }

  pub still_new : HasNoRepeats tables → HasNoRepeats (sent_early links tables)
  still_new none =
      (repeats_either_way (sent_early links tables)).0
      (stays_right tables links [] (fresh_behind tables) (starts_new tables) []
      (fresh_behind tables) (starts_new tables) IsNewAs (record { same = refl; right = refl })
      row_new (λ before known is. is.right) ((repeats_either_way tables).1 none))
