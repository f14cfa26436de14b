-- Drafts of code that is rewritten row by row.
use Rattle.std.proofs.Common.{◌≡◌, refl, sym, ap, ◌∙◌, subst, arith, ℕ, zero, suc, ◌+◌, ◌≤◌}
use Rattle.std.proofs.Common.{Bool, true, false, List, [], ◌∷◌, ◌++◌, length, length-append}
use Rattle.std.proofs.Common.{append_assoc, append-nil}
use Rattle.std.specs.Prelude.{Option, Some, drop, flat_map, if◌then◌else◌, map, slice_get}
use Rattle.std.proofs.lemmas.List.{drop_all, length-map}
use Rattle.flat_form.specs.of_node_form.declared.members.Member.{Member}
use Rattle.flat_form.specs.of_node_form.declared.instructions.Instr.{Instr}
use Rattle.flat_form.specs.of_node_form.declared.instructions.Instr.TheVariants as instr
use Rattle.flat_form.specs.of_node_form.declared.tables.Tables.{Tables}
use Rattle.flat_form.specs.of_code_parts.Stretch.{ends_stretch, is_goal, leads_to}
use Rattle.flat_passes.specs.declared.draft.Draft.{Draft}
use Rattle.flat_passes.specs.Draft.{empty_draft, moved_draft, with_rows}
use Rattle.flat_passes.specs.Numbers.{number_among, numbers_from}
use Rattle.flat_passes.specs.Rewritten.{stretches_of, with_moved_goal}
use Rattle.flat_passes.specs.Grouped.{Grouped, Runs, Plain, all_numbered, ended_by, group_of}
use Rattle.flat_passes.specs.Grouped.{grouped, groups_of, numbered, rewritten_rows}
use Rattle.flat_passes.proofs.NumberLemmas.{becomes, by_number, counted, moved_rows, new_length}
use Rattle.flat_passes.proofs.NumberLemmas.{passed_by_rows, same_moved_goal}

-- ---- rows read by number
pub rest_at : {A : Type 0} (xs : List A) (k : ℕ) (x : A) → slice_get xs k ≡ Some x
    → drop k xs ≡ x ∷ drop (k + 1) xs
rest_at [] k x e = absurd cc
rest_at (y ∷ xs) zero x e = let same : y ≡ x = cc in rw same refl
rest_at (y ∷ xs) (suc k) x e =
    let step = rest_at xs k x e in
    let more : suc k + 1 ≡ suc (k + 1) = omega arith in
    rw more step

-- ---- rows appended one after another
abbrev draft_of : List Instr → List (List Member) → Draft
draft_of code groups = record { code = code; groups = groups }

same_draft : {code other : List Instr} {groups others : List (List Member)} → code ≡ other
    → groups ≡ others → draft_of code groups ≡ draft_of other others
same_draft code groups = cc

pub groups_both : (xs ys : List Grouped) → groups_of (xs ++ ys) ≡ groups_of xs ++ groups_of ys
groups_both [] ys = refl
groups_both (x ∷ xs) ys =
    ap (λ more. group_of x ++ more) (groups_both xs ys)
    ∙ sym (append_assoc (group_of x) (groups_of xs) (groups_of ys))

pub numbered_both : (n : ℕ) (xs ys : List Grouped)
    → all_numbered n (xs ++ ys)
    ≡ all_numbered n xs ++ all_numbered (n + length (groups_of xs)) ys
numbered_both n [] ys = let e : n + 0 ≡ n = omega arith in rw e refl
numbered_both n (x ∷ xs) ys =
    let e : n + length (group_of x) + length (groups_of xs) ≡ n + length (groups_of (x ∷ xs)) =
    omega (arith, length-append (group_of x) (groups_of xs)) in
    ap (λ more. numbered n x ∷ more) (numbered_both (n + length (group_of x)) xs ys)
    ∙ ap (λ k. numbered n x ∷ (all_numbered (n + length (group_of x)) xs ++ all_numbered k ys)) e

pub rows_both : (draft : Draft) (xs ys : List Grouped)
    → with_rows (with_rows draft xs) ys ≡ with_rows draft (xs ++ ys)
rows_both draft xs ys =
    same_draft (append_assoc draft.code (all_numbered (length draft.groups) xs)
    (all_numbered (length (draft.groups ++ groups_of xs)) ys)
    ∙ (ap (λ k. draft.code ++ (all_numbered (length draft.groups) xs ++ all_numbered k ys))
    (length-append draft.groups (groups_of xs))
    ∙ ap (λ rows. draft.code ++ rows) (sym (numbered_both (length draft.groups) xs ys))))
    (append_assoc draft.groups (groups_of xs) (groups_of ys)
    ∙ ap (λ more. draft.groups ++ more) (sym (groups_both xs ys)))

pub no_rows : (draft : Draft) → with_rows draft [] ≡ draft
no_rows draft = same_draft (append-nil draft.code) (append-nil draft.groups)

pub numbered_length : (n : ℕ) (rows : List Grouped) → length (all_numbered n rows) ≡ length rows
numbered_length n [] = refl
numbered_length n (row ∷ rows) = ap suc (numbered_length (n + length (group_of row)) rows)

-- ---- A walk over code that has come to a row: what the rest makes of the draft and of the numbers
-- is what the whole makes of none.
module _ (step : Instr → List Grouped) (code : List Instr) where
  abbrev steps : Instr → ℕ
  steps row = length (step row)

  pub record IsAhead (at : ℕ) (draft : Draft) (numbers : List ℕ) : Type 0 where
    pub rows : with_rows draft (flat_map step (drop at code))
        ≡ with_rows empty_draft (flat_map step code)
    pub places : numbers ++ numbers_from steps (length draft.code) (drop at code)
        ≡ numbers_from steps 0 code

  pub ahead_first : (draft : Draft) (numbers : List ℕ) → draft ≡ empty_draft → numbers ≡ []
      → IsAhead 0 draft numbers
  ahead_first draft numbers no_draft no_numbers = record {
    rows = ap (λ d. with_rows d (flat_map step code)) no_draft;
    places =
        ap (λ n. n ++ numbers_from steps (length draft.code) code) no_numbers
        ∙ ap (λ (d : Draft). numbers_from steps (length d.code) code) no_draft;
  }

  pub ahead_more : (at : ℕ) (row : Instr) (draft after : Draft) (numbers noted : List ℕ)
      → slice_get code at ≡ Some row → IsAhead at draft numbers
      → after ≡ with_rows draft (step row) → noted ≡ numbers ++ length draft.code ∷ []
      → IsAhead (at + 1) after noted
  ahead_more at row draft after numbers noted here ahead written note =
      let left : drop at code ≡ row ∷ drop (at + 1) code = rest_at code at row here in
      let rows : with_rows draft (step row ++ flat_map step (drop (at + 1) code))
      ≡ with_rows empty_draft (flat_map step code) =
      ap (λ rest. with_rows draft (flat_map step rest)) (sym left) ∙ ahead.rows in
      let places : numbers ++ (length draft.code
      ∷ numbers_from steps (length draft.code + steps row) (drop (at + 1) code))
      ≡ numbers_from steps 0 code =
      ap (λ rest. numbers ++ numbers_from steps (length draft.code) rest) (sym left)
      ∙ ahead.places in
      let long : length after.code ≡ length draft.code + steps row =
      ap (λ (d : Draft). length d.code) written
      ∙ (length-append draft.code (all_numbered (length draft.groups) (step row))
      ∙ ap (λ n. length draft.code + n) (numbered_length (length draft.groups) (step row))) in
      record {
        rows =
            ap (λ d. with_rows d (flat_map step (drop (at + 1) code))) written
            ∙ (rows_both draft (step row) (flat_map step (drop (at + 1) code)) ∙ rows);
        places =
            ap (λ n. n ++ numbers_from steps (length after.code) (drop (at + 1) code)) note
            ∙ (append_assoc numbers (length draft.code ∷ [])
            (numbers_from steps (length after.code) (drop (at + 1) code))
            ∙ (ap (λ k. numbers
            ++ (length draft.code ∷ numbers_from steps k (drop (at + 1) code))) long ∙ places));
      }

  pub ahead_rows : (at : ℕ) (draft : Draft) (numbers : List ℕ) → IsAhead at draft numbers
      → length code ≤ at → draft ≡ with_rows empty_draft (flat_map step code)
  ahead_rows at draft numbers ahead past =
      sym (no_rows draft)
      ∙ (ap (λ rest. with_rows draft (flat_map step rest)) (sym (drop_all at code past))
      ∙ ahead.rows)

  pub ahead_places : (at : ℕ) (draft : Draft) (numbers : List ℕ) → IsAhead at draft numbers
      → length code ≤ at → numbers ≡ numbers_from steps 0 code
  ahead_places at draft numbers ahead past =
      sym (append-nil numbers)
      ∙ (ap (λ rest. numbers ++ numbers_from steps (length draft.code) rest)
      (sym (drop_all at code past))
      ∙ ahead.places)

-- ---- goals moved in rows with their groups inline
abbrev pub move_grouped : (ℕ → ℕ) → Grouped → Grouped
move_grouped moved (Runs slot group) = Runs slot group
move_grouped moved (Plain row) = Plain (with_moved_goal moved row)

numbered_moved : (moved : ℕ → ℕ) (n : ℕ) (rows : List Grouped)
    → map (with_moved_goal moved) (all_numbered n rows)
    ≡ all_numbered n (map (move_grouped moved) rows)
numbered_moved moved n [] = refl
numbered_moved moved n (Runs slot group ∷ rows) =
    ap (λ more. instr.Loop slot n ∷ more) (numbered_moved moved (n + 1) rows)
numbered_moved moved n (Plain row ∷ rows) =
    ap (λ more. with_moved_goal moved row ∷ more) (numbered_moved moved (n + 0) rows)

groups_moved : (moved : ℕ → ℕ) (rows : List Grouped)
    → groups_of (map (move_grouped moved) rows) ≡ groups_of rows
groups_moved moved [] = refl
groups_moved moved (Runs slot group ∷ rows) = ap (λ more. group ∷ more) (groups_moved moved rows)
groups_moved moved (Plain row ∷ rows) = groups_moved moved rows

same_end : (one other : ℕ → ℕ) (row : Instr)
    → ((g : ℕ) → leads_to g row ≡ true → one g ≡ other g) → ended_by one row ≡ ended_by other row
same_end one other row same = ap (λ r. Plain r) (same_moved_goal one other row same)

-- ---- The draft of rows that are rewritten one by one, with its goals moved, is the code of the
-- pass with its groups.
module _ (tables : Tables) (step : Instr → List Grouped) (rewrite : List Grouped → List Grouped)
    (by_steps : (rows : List Instr) → rewrite (map (grouped tables) rows) ≡ flat_map step rows)
    (one_for_one : (row : Instr) → ends_stretch row ≡ true → length (step row) ≡ 1)
    (moves : (moved : ℕ → ℕ) (row : Instr)
    → map (move_grouped moved) (step row) ≡ (if ends_stretch row then ended_by moved row ∷ [] else step row)) where
  abbrev inline : List Instr → List Grouped
  inline rows = rewrite (map (grouped tables) rows)

  abbrev places : ℕ → ℕ
  places = by_number step inline ended_by by_steps one_for_one same_end tables.code

  moves_to : (row : Instr)
      → map (move_grouped places) (step row)
      ≡ becomes step inline ended_by by_steps one_for_one same_end tables.code places
      (ends_stretch row) row
  moves_to row = moves places row ∙ by (ends_stretch row)
    where
      by : (b : Bool) → (if b then ended_by places row ∷ [] else step row)
          ≡ becomes step inline ended_by by_steps one_for_one same_end tables.code places b row
      by true = refl
      by false = refl

  moved_inline : map (move_grouped places) (flat_map step tables.code)
      ≡ rewritten_rows tables rewrite
  moved_inline =
      moved_rows step inline ended_by by_steps one_for_one same_end tables.code move_grouped
      moves_to

  long : length (all_numbered 0 (flat_map step tables.code))
      ≡ counted (λ row. length (step row)) tables.code
  long =
      numbered_length 0 (flat_map step tables.code)
      ∙ (sym (length-map (flat_map step tables.code) (move_grouped places))
      ∙ (ap length moved_inline
      ∙ new_length step inline ended_by by_steps one_for_one same_end tables.code))

  pub drafted : moved_draft (numbers_from (λ row. length (step row)) 0 tables.code)
      (with_rows empty_draft (flat_map step tables.code))
      ≡ record {
        code = all_numbered 0 (rewritten_rows tables rewrite);
        groups = groups_of (rewritten_rows tables rewrite);
      }
  drafted =
      same_draft (ap (λ end. map (with_moved_goal (number_among
      (numbers_from (λ row. length (step row)) 0 tables.code) end))
      (all_numbered 0 (flat_map step tables.code))) long
      ∙ (numbered_moved places 0 (flat_map step tables.code)
      ∙ ap (all_numbered 0) moved_inline))
      (sym (groups_moved places (flat_map step tables.code)) ∙ ap groups_of moved_inline)
