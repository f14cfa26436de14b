-- Flat programs that are rewritten one row after another, by what is known in front of each.
use Rattle.std.proofs.Common.{◌≡◌, inl, refl, sym, ap, ◌∙◌, arith, ℕ, ◌+◌, ◌≤◌}
use Rattle.std.proofs.Common.{Bool, true, false, true≢false, List, [], ◌∷◌, ◌++◌, length, map, drop}
use Rattle.std.specs.Prelude.{◌||◌, Some, slice_get}
use Rattle.std.specs.List.{AllByRecursion, list_any}
use Rattle.std.proofs.lemmas.List.{append-nil, append_assoc, drop_all, length-append, map-append}
use Rattle.temp_norm.specs.of_node_form.declared.instructions.Instr.{Instr}
use Rattle.temp_norm.specs.of_node_form.declared.instructions.Instr.TheVariants as instr
use Rattle.temp_norm.specs.of_node_form.declared.members.Member.{Member}
use Rattle.temp_norm.specs.of_row_runs.Cut.{moved_by, passed}
use Rattle.temp_norm.specs.of_code_parts.Stretch.{ends_stretch, is_goal, leads_to}
use Rattle.temp_norm.specs.of_flat_passes.declared.draft.Draft.{Draft}
use Rattle.temp_norm.specs.of_flat_passes.Draft.{empty_draft, moved_draft, with_rows}
use Rattle.temp_norm.specs.of_flat_passes.Grouped.{Grouped, Plain, Runs, all_numbered, ended_by, groups_of}
use Rattle.temp_norm.specs.of_flat_passes.Numbers.{number_among}
use Rattle.temp_norm.specs.of_flat_passes.Rewritten.{stretches_of, with_moved_goal}
use Rattle.temp_norm.proofs.of_flat_passes.DraftLemmas.{move_grouped, numbered_length, rest_at, rows_both}
use Rattle.temp_norm.proofs.of_flat_passes.NumberLemmas.{same_moved_goal, straight_unmoved}
use Rattle.plan_form.proofs.WalkLemmas as walks

either_first : (a b : Bool) → a ≡ true → (a || b) ≡ true
either_first true b e = refl
either_first false b e = absurd (true≢false (sym e))

either_last : (a b : Bool) → b ≡ true → (a || b) ≡ true
either_last true b e = refl
either_last false b e = e

-- ---- goals moved
numbered_moved : (moved : ℕ → ℕ) (n : ℕ) (rows : List Grouped)
    → map (with_moved_goal moved) (all_numbered n rows)
    ≡ all_numbered n (map (move_grouped moved) rows)
numbered_moved moved n [] = refl
numbered_moved moved n (Runs slot group ∷ rows) =
    ap (λ more. instr.Loop slot n ∷ more) (numbered_moved moved (n + 1) rows)
numbered_moved moved n (Plain row ∷ rows) =
    ap (λ more. with_moved_goal moved row ∷ more) (numbered_moved moved (n + 0) rows)

groups_moved : (moved : ℕ → ℕ) (rows : List Grouped)
    → groups_of (map (move_grouped moved) rows) ≡ groups_of rows
groups_moved moved [] = refl
groups_moved moved (Runs slot group ∷ rows) = ap (λ more. group ∷ more) (groups_moved moved rows)
groups_moved moved (Plain row ∷ rows) = groups_moved moved rows

own_goal : (row : Instr) → with_moved_goal (λ g. g) row ≡ row
own_goal (instr.Jump goal) = refl
own_goal (instr.Unless expr goal line) = refl
own_goal row = refl

-- the row is no jump, no test and no end of a stretch
abbrev pub IsStraightRow : Grouped → Type 0
IsStraightRow (Runs slot group) = Unit {0}
IsStraightRow (Plain row) = ends_stretch row ≡ false

straight_rows : (moved : ℕ → ℕ) (rows : List Grouped) → AllByRecursion IsStraightRow rows
    → map (move_grouped moved) rows ≡ rows
straight_rows moved [] all = refl
straight_rows moved (Runs slot group ∷ rows) all =
    ap (λ l. Runs slot group ∷ l) (straight_rows moved rows all.1)
straight_rows moved (Plain row ∷ rows) all =
    ap (λ r. Plain r ∷ map (move_grouped moved) rows) (straight_unmoved moved row all.0)
    ∙ ap (λ l. Plain row ∷ l) (straight_rows moved rows all.1)

abbrev pub draft_with : List Instr → List (List Member) → Draft
draft_with code groups = record { code = code; groups = groups }

-- ---- A walk over code: in front of a row something is known, of which a goal and the end of a
-- stretch know nothing; a row becomes the rows of its step; and what is known gives rows of its own
-- where it is forgotten.
module _ {F : Type 0} (code : List Instr) (nothing : F) (step : F → Instr → List Grouped)
    (learn : F → Instr → F) (close : F → List Grouped) where
  abbrev pub closed : F → List Instr → List Grouped
  closed = walks.closed {F = F} {Old = Instr} {New = Grouped} ends_stretch (is_goal code) nothing step learn close ended_by

  abbrev walk : (ℕ → ℕ) → F → ℕ → List Instr → List Grouped
  walk = walks.walk {F = F} {Old = Instr} {New = Grouped} ends_stretch (is_goal code) nothing step learn close ended_by

  abbrev numbers : F → ℕ → ℕ → List Instr → List ℕ
  numbers = walks.numbers {F = F} {Old = Instr} {New = Grouped} ends_stretch (is_goal code) nothing step learn close ended_by

  abbrev pub in_front : Bool → F → List Grouped
  in_front = walks.in_front {F = F} {Old = Instr} {New = Grouped} ends_stretch (is_goal code) nothing step learn close ended_by

  abbrev pub known : Bool → F → F
  known = walks.known {F = F} {Old = Instr} {New = Grouped} ends_stretch (is_goal code) nothing step learn close ended_by

  abbrev put : Bool → (ℕ → ℕ) → F → Instr → List Grouped
  put = walks.put {F = F} {Old = Instr} {New = Grouped} ends_stretch (is_goal code) nothing step learn close ended_by

  abbrev pub learnt : Bool → F → Instr → F
  learnt = walks.learnt {F = F} {Old = Instr} {New = Grouped} ends_stretch (is_goal code) nothing step learn close ended_by

  -- what a row becomes, with its goal where it was
  abbrev pub put_rows : Bool → F → Instr → List Grouped
  put_rows true facts row = close facts ++ Plain row ∷ []
  put_rows false facts row = step facts row

  put_is : (b : Bool) (facts : F) (row : Instr)
      → put b (λ g. g) facts row ≡ put_rows b facts row
  put_is true facts row = ap (λ r. close facts ++ Plain r ∷ []) (own_goal row)
  put_is false facts row = refl

  -- the draft of the rows in front of one, where they come to stand, and what is known there
  pub record IsWalked (draft : Draft) (noted : List ℕ) (facts : F) (at : ℕ) : Type 0 where
    pub rows : List Grouped
    pub is : draft ≡ with_rows empty_draft rows
    pub left : rows ++ walk (λ g. g) facts at (drop at code) ≡ walk (λ g. g) nothing 0 code
    pub numbered : noted ++ numbers facts at (length rows) (drop at code)
        ≡ numbers nothing 0 0 code

  pub walk_begins : IsWalked empty_draft [] nothing 0
  walk_begins = record { rows = []; is = refl; left = refl; numbered = refl }

  -- one row more: whether it is a goal
  pub walk_steps : (old front new : Draft) (noted : List ℕ) (facts : F) (at : ℕ) (row : Instr)
      → slice_get code at ≡ Some row → (b : Bool) → is_goal code at ≡ b
      → front ≡ with_rows old (in_front b facts)
      → new ≡ with_rows front (put_rows (ends_stretch row) (known b facts) row)
      → IsWalked old noted facts at
      → IsWalked new (noted ++ length front.code ∷ [])
      (learnt (ends_stretch row) (known b facts) row) (at + 1)
  walk_steps old front new noted facts at row there b goal front_is new_is w = record {
    rows = (w.rows ++ before) ++ behind;
    is =
        new_is
        ∙ (ap (λ d. with_rows d behind) front_laid
        ∙ rows_both empty_draft (w.rows ++ before) behind);
    left =
        append_assoc (w.rows ++ before) behind rest
        ∙ (append_assoc w.rows before (behind ++ rest)
        ∙ (ap (λ l. w.rows ++ l) (sym first) ∙ w.left));
    numbered =
        append_assoc noted (length front.code ∷ [])
        (numbers next (at + 1) (length ((w.rows ++ before) ++ behind)) (drop (at + 1) code))
        ∙ (ap (λ l. noted ++ l) (ap (λ n. n
        ∷ numbers next (at + 1) (length ((w.rows ++ before) ++ behind)) (drop (at + 1) code)) long
        ∙ sym first_number) ∙ w.numbered);
  }
    where
      before : List Grouped
      before = in_front b facts

      behind : List Grouped
      behind = put_rows (ends_stretch row) (known b facts) row

      next : F
      next = learnt (ends_stretch row) (known b facts) row

      rest : List Grouped
      rest = walk (λ g. g) next (at + 1) (drop (at + 1) code)

      front_laid : front ≡ with_rows empty_draft (w.rows ++ before)
      front_laid =
          front_is
          ∙ (ap (λ d. with_rows d before) w.is ∙ rows_both empty_draft w.rows before)

      long : length front.code ≡ length (w.rows ++ before)
      long = ap (λ (d : Draft). length d.code) front_laid ∙ numbered_length 0 (w.rows ++ before)

      first : walk (λ g. g) facts at (drop at code) ≡ before ++ (behind ++ rest)
      first =
          ap (walk (λ g. g) facts at) (rest_at code at row there)
          ∙ (ap (λ b. in_front b facts ++ (put (ends_stretch row) (λ g. g) (known b facts) row
          ++ walk (λ g. g) (learnt (ends_stretch row) (known b facts) row) (at + 1)
          (drop (at + 1) code))) goal
          ∙ ap (λ l. before ++ (l ++ rest)) (put_is (ends_stretch row) (known b facts) row))

      first_number : numbers facts at (length w.rows) (drop at code)
          ≡ length (w.rows ++ before)
          ∷ numbers next (at + 1) (length ((w.rows ++ before) ++ behind)) (drop (at + 1) code)
      first_number =
          ap (numbers facts at (length w.rows)) (rest_at code at row there)
          ∙ (ap (λ b. (length w.rows + length (in_front b facts))
          ∷ numbers (learnt (ends_stretch row) (known b facts) row) (at + 1)
          ((length w.rows + length (in_front b facts))
          + length (put (ends_stretch row) (λ g. g) (known b facts) row))
          (drop (at + 1) code)) goal
          ∙ (ap (λ l. (length w.rows + length before)
          ∷ numbers next (at + 1) ((length w.rows + length before) + length l)
          (drop (at + 1) code)) (put_is (ends_stretch row) (known b facts) row)
          ∙ (ap (λ n. n ∷ numbers next (at + 1) (n + length behind) (drop (at + 1) code))
          (sym (length-append w.rows before))
          ∙ ap (λ n. length (w.rows ++ before) ∷ numbers next (at + 1) n (drop (at + 1) code))
          (sym (length-append (w.rows ++ before) behind)))))

  -- ---- all rows
  module _ (none : close nothing ≡ [])
      (closes : (facts : F) → AllByRecursion IsStraightRow (close facts))
      (steps : (facts : F) (row : Instr) → ends_stretch row ≡ false
      → AllByRecursion IsStraightRow (step facts row)) where
    front_moved : (m : ℕ → ℕ) (b : Bool) (facts : F)
        → map (move_grouped m) (in_front b facts) ≡ in_front b facts
    front_moved m true facts = straight_rows m (close facts) (closes facts)
    front_moved m false facts = refl

    put_moved : (m : ℕ → ℕ) (b : Bool) (facts : F) (row : Instr) → ends_stretch row ≡ b
        → map (move_grouped m) (put b (λ g. g) facts row) ≡ put b m facts row
    put_moved m true facts row ends =
        map-append (move_grouped m) (close facts) (ended_by (λ g. g) row ∷ [])
        ∙ (ap (λ l. l ++ move_grouped m (ended_by (λ g. g) row) ∷ [])
        (straight_rows m (close facts) (closes facts))
        ∙ ap (λ r. close facts ++ Plain (with_moved_goal m r) ∷ []) (own_goal row))
    put_moved m false facts row ends = straight_rows m (step facts row) (steps facts row ends)

    walk_moved : (m : ℕ → ℕ) (facts : F) (at : ℕ) (rows : List Instr)
        → map (move_grouped m) (walk (λ g. g) facts at rows) ≡ walk m facts at rows
    walk_moved m facts at [] = straight_rows m (close facts) (closes facts)
    walk_moved m facts at (row ∷ rows) =
        let front = in_front (is_goal code at) facts in
        let now = known (is_goal code at) facts in
        let behind = put (ends_stretch row) (λ g. g) now row in
        let next = learnt (ends_stretch row) now row in
        map-append (move_grouped m) front (behind ++ walk (λ g. g) next (at + 1) rows)
        ∙ (ap (λ l. l ++ map (move_grouped m) (behind ++ walk (λ g. g) next (at + 1) rows))
        (front_moved m (is_goal code at) facts)
        ∙ ap (λ l. front ++ l)
        (map-append (move_grouped m) behind (walk (λ g. g) next (at + 1) rows)
        ∙ (ap (λ l. l ++ map (move_grouped m) (walk (λ g. g) next (at + 1) rows))
        (put_moved m (ends_stretch row) now row refl)
        ∙ ap (λ l. put (ends_stretch row) m now row ++ l) (walk_moved m next (at + 1) rows))))

    -- goals alone count
    put_goals : (one other : ℕ → ℕ) (b : Bool) (facts : F) (row : Instr)
        → ((g : ℕ) → leads_to g row ≡ true → one g ≡ other g)
        → put b one facts row ≡ put b other facts row
    put_goals one other true facts row agree =
        ap (λ r. close facts ++ Plain r ∷ []) (same_moved_goal one other row agree)
    put_goals one other false facts row agree = refl

    walk_goals : (one other : ℕ → ℕ) → ((g : ℕ) → is_goal code g ≡ true → one g ≡ other g)
        → (facts : F) (at : ℕ) (rows : List Instr)
        → ((g : ℕ) → list_any (leads_to g) rows ≡ true → is_goal code g ≡ true)
        → walk one facts at rows ≡ walk other facts at rows
    walk_goals one other agree facts at [] within = refl
    walk_goals one other agree facts at (row ∷ rows) within =
        let now = known (is_goal code at) facts in
        let next = learnt (ends_stretch row) now row in
        ap (λ l. in_front (is_goal code at) facts ++ l)
        (ap (λ l. l ++ walk one next (at + 1) rows)
        (put_goals one other (ends_stretch row) now row
        (λ g leads. agree g (within g (either_first (leads_to g row) _ leads))))
        ∙ ap (λ l. put (ends_stretch row) other now row ++ l)
        (walk_goals one other agree next (at + 1) rows
        (λ g leads. within g (either_last (leads_to g row) _ leads))))

    pub walk_ends : (old draft : Draft) (noted : List ℕ) (facts : F) (at : ℕ)
        → length code ≤ at → draft ≡ with_rows old (close facts) → IsWalked old noted facts at
        → moved_draft noted draft
        ≡ (let made = passed (closed nothing) ended_by (stretches_of code) in
        draft_with (all_numbered 0 made) (groups_of made))
    walk_ends old draft noted facts at past draft_is w =
        ap (λ n. moved_draft n draft) noted_is
        ∙ (ap (moved_draft list) whole
        ∙ (ap (λ n. draft_with (map (with_moved_goal (number_among list n)) (all_numbered 0 new))
        (groups_of new)) (numbered_length 0 new)
        ∙ (ap (λ l. draft_with l (groups_of new)) (numbered_moved m 0 new)
        ∙ (ap (draft_with (all_numbered 0 (map (move_grouped m) new))) (sym (groups_moved m new))
        ∙ ap (λ l. draft_with (all_numbered 0 l) (groups_of l)) rows))))
      where
        new : List Grouped
        new = walk (λ g. g) nothing 0 code

        list : List ℕ
        list = numbers nothing 0 0 code

        m : ℕ → ℕ
        m = number_among list (length new)

        noted_is : noted ≡ list
        noted_is =
            sym (append-nil noted)
            ∙ (ap (λ l. noted ++ numbers facts at (length w.rows) l) (sym (drop_all at code past))
            ∙ w.numbered)

        whole : draft ≡ with_rows empty_draft new
        whole =
            draft_is
            ∙ (ap (λ d. with_rows d (close facts)) w.is
            ∙ (rows_both empty_draft w.rows (close facts)
            ∙ ap (with_rows empty_draft)
            (ap (λ l. w.rows ++ walk (λ g. g) facts at l) (sym (drop_all at code past))
            ∙ w.left)))

        moved : ℕ → ℕ
        moved = moved_by (closed nothing) ended_by (stretches_of code)

        plus_none : (g : ℕ) → 0 + g ≡ g
        plus_none g = omega arith

        agree : (g : ℕ) → is_goal code g ≡ true → m g ≡ moved g
        agree g goal =
            sym (walks.moved_number {F = F} {Old = Instr} {New = Grouped} ends_stretch
            (is_goal code) nothing step learn close ended_by none code g
            (inl (ap (is_goal code) (plus_none g) ∙ goal)))

        rows : map (move_grouped m) new ≡ passed (closed nothing) ended_by (stretches_of code)
        rows =
            walk_moved m nothing 0 code
            ∙ (walk_goals m moved agree nothing 0 code (λ g leads. leads)
            ∙ sym (walks.passed_walk {F = F} {Old = Instr} {New = Grouped} ends_stretch
            (is_goal code) nothing step learn close ended_by none code))
