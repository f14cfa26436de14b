-- Plans that are written one old row after another.
use Rattle.std.proofs.Common.{◌≡◌, ◌⊎◌, inl, inr, refl, sym, ap, ◌∙◌, arith, subst, ℕ, zero, suc}
use Rattle.std.proofs.Common.{◌+◌, ◌-◌, ◌≤◌, ◌<◌, Bool, true, false, true≢false, add-one}
use Rattle.std.proofs.Common.{List, [], ◌∷◌, ◌++◌, length, map, drop}
use Rattle.std.specs.Prelude.{Option, Some, None, flat_map, fold, slice_get, ◌||◌}
use Rattle.std.specs.List.{AllByRecursion, list_any}
use Rattle.std.proofs.Common.{eq-eqb}
use Rattle.std.proofs.lemmas.Grind.{flat_map-append}
use Rattle.std.proofs.lemmas.List.{append-nil, append_assoc, length-append, map-append}
use Rattle.flat_passes.specs.of_node_form.declared.arrays.Item.{Item}
use Rattle.flat_passes.specs.of_node_form.declared.instructions.Instr.{Instr}
use Rattle.flat_passes.specs.of_node_form.declared.instructions.Instr.TheVariants as instr
use Rattle.flat_passes.specs.of_node_form.declared.tables.Tables.{Tables}
use Rattle.flat_passes.specs.of_row_runs.Cut.{moved_by, passed}
use Rattle.flat_passes.specs.of_code_parts.Stretch.{ends_stretch, is_goal, leads_to}
use Rattle.flat_passes.specs.Numbers.{number_among}
use Rattle.flat_passes.specs.Rewritten.{stretches_of, with_moved_goal}
use Rattle.flat_passes.proofs.NumberLemmas.{same_moved_goal, straight_unmoved}
use Rattle.plan_form.specs.Units.{PlanUnit, Exchange, Single, PlanRow, StartOf, FinishOf, Other}
use Rattle.plan_form.specs.Units.{exchanges_in, laid_out, numbered_from, unit_rows}
use Rattle.std.proofs.Math.Path.{fun_ext}
use Rattle.plan_form.specs.Rewrite.{ended_by, rows_by, with_units}
use Rattle.plan_form.specs.Draft.{empty_draft, plan_of, with_number, with_unit, written}
use Rattle.plan_form.specs.declared.draft.PlanDraft.{PlanDraft}
use Rattle.plan_form.proofs.WalkLemmas as walks

-- ---- rows by numbers
pub exchanges_both : (xs ys : List PlanRow)
    → exchanges_in (xs ++ ys) ≡ exchanges_in xs ++ exchanges_in ys
exchanges_both xs ys = flat_map-append _ xs ys

pub numbered_both : (n : ℕ) (xs ys : List PlanRow)
    → numbered_from n (xs ++ ys)
    ≡ numbered_from n xs ++ numbered_from (n + length (exchanges_in xs)) ys
numbered_both n [] ys = ap (λ k. numbered_from k ys) (omega arith)
numbered_both n (StartOf items ∷ xs) ys =
    ap (λ l. instr.Start n ∷ l)
    (numbered_both (n + 1) xs ys
    ∙ ap (λ k. numbered_from (n + 1) xs ++ numbered_from k ys) (omega arith))
numbered_both n (FinishOf items ∷ xs) ys =
    ap (λ l. instr.Finish (n - 1) ∷ l) (numbered_both n xs ys)
numbered_both n (Other row ∷ xs) ys = ap (λ l. row ∷ l) (numbered_both n xs ys)

pub numbered_length : (n : ℕ) (rows : List PlanRow) → length (numbered_from n rows) ≡ length rows
numbered_length n [] = refl
numbered_length n (StartOf items ∷ rows) = ap suc (numbered_length (n + 1) rows)
numbered_length n (FinishOf items ∷ rows) = ap suc (numbered_length n rows)
numbered_length n (Other row ∷ rows) = ap suc (numbered_length n rows)

-- ---- a draft has these rows, and these numbers of old rows
abbrev pub laid : List PlanRow → List ℕ → PlanDraft
laid rows numbers = record {
  code = numbered_from 0 rows;
  exchanges = exchanges_in rows;
  numbers = numbers;
}

laid_one : (rows : List PlanRow) (numbers : List ℕ) (unit : PlanUnit)
    → with_unit (laid rows numbers) unit ≡ laid (rows ++ unit_rows unit) numbers
laid_one rows numbers (Exchange items) =
    let more = StartOf items ∷ FinishOf items ∷ [] in
    let count = length (exchanges_in rows) in
    let first : 0 + count ≡ count = omega arith in
    let last : (0 + count) + 1 - 1 ≡ count = omega arith in
    let code : numbered_from 0 (rows ++ more)
    ≡ numbered_from 0 rows ++ (instr.Start count ∷ instr.Finish count ∷ []) =
    numbered_both 0 rows more
    ∙ (ap (λ k. numbered_from 0 rows ++ (instr.Start k ∷ instr.Finish ((0 + count) + 1 - 1) ∷ [])) first
    ∙ ap (λ k. numbered_from 0 rows ++ (instr.Start count ∷ instr.Finish k ∷ [])) last) in
    ap (λ l. record { code = l; exchanges = exchanges_in rows ++ items ∷ []; numbers = numbers })
    (sym code)
    ∙ ap (λ l. record { code = numbered_from 0 (rows ++ more); exchanges = l; numbers = numbers })
    (sym (exchanges_both rows more))
laid_one rows numbers (Single row) =
    ap (λ l. record { code = l; exchanges = exchanges_in rows; numbers = numbers })
    (sym (numbered_both 0 rows (Other row ∷ [])))
    ∙ ap (λ l. record { code = numbered_from 0 (rows ++ Other row ∷ []); exchanges = l; numbers = numbers })
    (sym (append-nil (exchanges_in rows)) ∙ sym (exchanges_both rows (Other row ∷ [])))

pub laid_more : (rows : List PlanRow) (numbers : List ℕ) (units : List PlanUnit)
    → written (laid rows numbers) units ≡ laid (rows ++ flat_map unit_rows units) numbers
laid_more rows numbers [] = ap (λ l. laid l numbers) (sym (append-nil rows))
laid_more rows numbers (unit ∷ units) =
    ap (λ draft. written draft units) (laid_one rows numbers unit)
    ∙ (laid_more (rows ++ unit_rows unit) numbers units
    ∙ ap (λ l. laid l numbers) (append_assoc rows (unit_rows unit) (flat_map unit_rows units)))

-- ---- goals moved
abbrev pub moved_row : (ℕ → ℕ) → PlanRow → PlanRow
moved_row moved (StartOf items) = StartOf items
moved_row moved (FinishOf items) = FinishOf items
moved_row moved (Other row) = Other (with_moved_goal moved row)

numbered_moved : (moved : ℕ → ℕ) (n : ℕ) (rows : List PlanRow)
    → map (with_moved_goal moved) (numbered_from n rows)
    ≡ numbered_from n (map (moved_row moved) rows)
numbered_moved moved n [] = refl
numbered_moved moved n (StartOf items ∷ rows) =
    ap (λ l. instr.Start n ∷ l) (numbered_moved moved (n + 1) rows)
numbered_moved moved n (FinishOf items ∷ rows) =
    ap (λ l. instr.Finish (n - 1) ∷ l) (numbered_moved moved n rows)
numbered_moved moved n (Other row ∷ rows) =
    ap (λ l. with_moved_goal moved row ∷ l) (numbered_moved moved n rows)

exchanges_moved : (moved : ℕ → ℕ) (rows : List PlanRow)
    → exchanges_in (map (moved_row moved) rows) ≡ exchanges_in rows
exchanges_moved moved [] = refl
exchanges_moved moved (StartOf items ∷ rows) = ap (λ l. items ∷ l) (exchanges_moved moved rows)
exchanges_moved moved (FinishOf items ∷ rows) = exchanges_moved moved rows
exchanges_moved moved (Other row ∷ rows) = exchanges_moved moved rows

-- the unit is no jump, no test and no end of a stretch
abbrev pub IsStraightUnit : PlanUnit → Type 0
IsStraightUnit (Exchange items) = Unit {0}
IsStraightUnit (Single row) = ends_stretch row ≡ false

straight_rows : (moved : ℕ → ℕ) (units : List PlanUnit) → AllByRecursion IsStraightUnit units
    → map (moved_row moved) (flat_map unit_rows units) ≡ flat_map unit_rows units
straight_rows moved [] all = refl
straight_rows moved (Exchange items ∷ units) all =
    ap (λ l. StartOf items ∷ FinishOf items ∷ l) (straight_rows moved units all.1)
straight_rows moved (Single row ∷ units) all =
    ap (λ r. Other r ∷ map (moved_row moved) (flat_map unit_rows units))
    (straight_unmoved moved row all.0)
    ∙ ap (λ l. Other row ∷ l) (straight_rows moved units all.1)

-- ---- rows of code
own_goal : (row : Instr) → with_moved_goal (λ g. g) row ≡ row
own_goal (instr.Jump goal) = refl
own_goal (instr.Unless expr goal line) = refl
own_goal row = refl

pub dropped : {X : Type 0} (xs : List X) (k : ℕ) (x : X) → slice_get xs k ≡ Some x
    → drop k xs ≡ x ∷ drop (k + 1) xs
dropped xs k x there = step xs k there ∙ ap (λ n. x ∷ drop n xs) (sym (add-one k))
  where
    step : {X : Type 0} (xs : List X) (k : ℕ) {x : X} → slice_get xs k ≡ Some x
        → drop k xs ≡ x ∷ drop (suc k) xs
    step [] zero there = cc
    step [] (suc k) there = cc
    step (y ∷ ys) zero {x = x} there =
        let e : y ≡ x = cc in
        ap (λ z. z ∷ ys) e
    step (y ∷ ys) (suc k) there = step ys k there

pub dropped_all : {X : Type 0} (xs : List X) (k : ℕ) → length xs ≤ k → drop k xs ≡ []
dropped_all [] zero past = refl
dropped_all [] (suc k) past = refl
dropped_all (x ∷ xs) zero past = absurd (omega (arith, past))
dropped_all (x ∷ xs) (suc k) past = dropped_all xs k (omega (arith, past))

either_first : (a b : Bool) → a ≡ true → (a || b) ≡ true
either_first true b e = refl
either_first false b e = absurd (true≢false (sym e))

either_last : (a b : Bool) → b ≡ true → (a || b) ≡ true
either_last true b e = refl
either_last false b e = e

-- ---- passes
-- In front of a row something is known, of which a goal and the end of a stretch know nothing; a
-- row becomes the units of its step; and what is known gives units of its own where it is forgotten.
module _ {F : Type 0} (tables : Tables) (nothing : F) (step : F → Instr → List PlanUnit)
    (learn : F → Instr → F) (close : F → List PlanUnit) where
  abbrev pub step_rows : F → Instr → List PlanRow
  step_rows facts row = flat_map unit_rows (step facts row)

  abbrev pub close_rows : F → List PlanRow
  close_rows facts = flat_map unit_rows (close facts)

  abbrev pub closed_from : F → List Instr → List PlanRow
  closed_from = walks.closed {F = F} {Old = Instr} {New = PlanRow} ends_stretch (is_goal tables.code) nothing step_rows learn close_rows ended_by

  abbrev pub closed_rows : List Instr → List PlanRow
  closed_rows = closed_from nothing

  abbrev pub walk : (ℕ → ℕ) → F → ℕ → List Instr → List PlanRow
  walk moved facts at rows = walks.walk {F = F} {Old = Instr} {New = PlanRow} ends_stretch (is_goal tables.code) nothing step_rows learn close_rows ended_by moved facts at rows

  abbrev pub numbers : F → ℕ → ℕ → List Instr → List ℕ
  numbers facts at n rows = walks.numbers {F = F} {Old = Instr} {New = PlanRow} ends_stretch (is_goal tables.code) nothing step_rows learn close_rows ended_by facts at n rows

  -- the units in front of a goal, and those that a row becomes
  abbrev pub front_units : Bool → F → List PlanUnit
  front_units true facts = close facts
  front_units false facts = []

  abbrev pub known : Bool → F → F
  known = walks.known {F = F} {Old = Instr} {New = PlanRow} ends_stretch (is_goal tables.code) nothing step_rows learn close_rows ended_by

  abbrev pub put_units : Bool → F → Instr → List PlanUnit
  put_units true facts row = close facts ++ Single row ∷ []
  put_units false facts row = step facts row

  abbrev pub learnt : Bool → F → Instr → F
  learnt = walks.learnt {F = F} {Old = Instr} {New = PlanRow} ends_stretch (is_goal tables.code) nothing step_rows learn close_rows ended_by

  -- the draft of the rows in front of one, and what is known there
  pub record IsWalked (draft : PlanDraft) (facts : F) (at : ℕ) : Type 0 where
    pub rows : List PlanRow
    pub so_far : List ℕ
    pub is : draft ≡ laid rows so_far
    pub left : rows ++ walk (λ g. g) facts at (drop at tables.code)
        ≡ walk (λ g. g) nothing 0 tables.code
    pub numbered : so_far ++ numbers facts at (length rows) (drop at tables.code)
        ≡ numbers nothing 0 0 tables.code

  pub walk_begins : IsWalked empty_draft nothing 0
  walk_begins = record { rows = []; so_far = []; is = refl; left = refl; numbered = refl }

  abbrev in_front : Bool → F → List PlanRow
  in_front = walks.in_front {F = F} {Old = Instr} {New = PlanRow} ends_stretch (is_goal tables.code) nothing step_rows learn close_rows ended_by

  abbrev put : Bool → (ℕ → ℕ) → F → Instr → List PlanRow
  put = walks.put {F = F} {Old = Instr} {New = PlanRow} ends_stretch (is_goal tables.code) nothing step_rows learn close_rows ended_by

  front_is : (b : Bool) (facts : F) → in_front b facts ≡ flat_map unit_rows (front_units b facts)
  front_is true facts = refl
  front_is false facts = refl

  put_is : (b : Bool) (facts : F) (row : Instr)
      → put b (λ g. g) facts row ≡ flat_map unit_rows (put_units b facts row)
  put_is true facts row =
      ap (λ r. close_rows facts ++ Other r ∷ []) (own_goal row)
      ∙ sym (flat_map-append unit_rows (close facts) (Single row ∷ []))
  put_is false facts row = refl

  -- one row more: whether it is a goal
  pub walk_steps : (draft : PlanDraft) (facts : F) (at : ℕ) (row : Instr)
      → slice_get tables.code at ≡ Some row → (b : Bool) → is_goal tables.code at ≡ b
      → IsWalked draft facts at
      → IsWalked (written (with_number (written draft (front_units b facts)))
      (put_units (ends_stretch row) (known b facts) row))
      (learnt (ends_stretch row) (known b facts) row) (at + 1)
  walk_steps draft facts at row there b goal w = record {
    rows = (w.rows ++ front) ++ behind;
    so_far = w.so_far ++ length (w.rows ++ front) ∷ [];
    is =
        ap (λ d. written (with_number (written d (front_units b facts))) units) w.is
        ∙ (ap (λ d. written (with_number d) units) (laid_more w.rows w.so_far (front_units b facts))
        ∙ (ap (λ n. written (laid (w.rows ++ front) (w.so_far ++ n ∷ [])) units)
        (numbered_length 0 (w.rows ++ front))
        ∙ laid_more (w.rows ++ front) (w.so_far ++ length (w.rows ++ front) ∷ []) units));
    left =
        append_assoc (w.rows ++ front) behind rest
        ∙ (append_assoc w.rows front (behind ++ rest)
        ∙ (ap (λ l. w.rows ++ l) (sym first) ∙ w.left));
    numbered =
        append_assoc w.so_far (length (w.rows ++ front) ∷ [])
        (numbers next (at + 1) (length ((w.rows ++ front) ++ behind)) (drop (at + 1) tables.code))
        ∙ (ap (λ l. w.so_far ++ l) (sym first_number) ∙ w.numbered);
  }
    where
      front : List PlanRow
      front = flat_map unit_rows (front_units b facts)

      units : List PlanUnit
      units = put_units (ends_stretch row) (known b facts) row

      behind : List PlanRow
      behind = flat_map unit_rows units

      next : F
      next = learnt (ends_stretch row) (known b facts) row

      rest : List PlanRow
      rest = walk (λ g. g) next (at + 1) (drop (at + 1) tables.code)

      first : walk (λ g. g) facts at (drop at tables.code) ≡ front ++ (behind ++ rest)
      first =
          ap (walk (λ g. g) facts at) (dropped tables.code at row there)
          ∙ (ap (λ b. in_front b facts ++ (put (ends_stretch row) (λ g. g) (known b facts) row
          ++ walk (λ g. g) (learnt (ends_stretch row) (known b facts) row) (at + 1)
          (drop (at + 1) tables.code))) goal
          ∙ (ap (λ l. l ++ (put (ends_stretch row) (λ g. g) (known b facts) row ++ rest))
          (front_is b facts)
          ∙ ap (λ l. front ++ (l ++ rest)) (put_is (ends_stretch row) (known b facts) row)))

      first_number : numbers facts at (length w.rows) (drop at tables.code)
          ≡ length (w.rows ++ front)
          ∷ numbers next (at + 1) (length ((w.rows ++ front) ++ behind)) (drop (at + 1) tables.code)
      first_number =
          ap (numbers facts at (length w.rows)) (dropped tables.code at row there)
          ∙ (ap (λ b. (length w.rows + length (in_front b facts))
          ∷ numbers (learnt (ends_stretch row) (known b facts) row) (at + 1)
          ((length w.rows + length (in_front b facts))
          + length (put (ends_stretch row) (λ g. g) (known b facts) row))
          (drop (at + 1) tables.code)) goal
          ∙ (ap (λ l. (length w.rows + length l)
          ∷ numbers next (at + 1) ((length w.rows + length l)
          + length (put (ends_stretch row) (λ g. g) (known b facts) row))
          (drop (at + 1) tables.code)) (front_is b facts)
          ∙ (ap (λ l. (length w.rows + length front)
          ∷ numbers next (at + 1) ((length w.rows + length front) + length l)
          (drop (at + 1) tables.code)) (put_is (ends_stretch row) (known b facts) row)
          ∙ (ap (λ n. n ∷ numbers next (at + 1) (n + length behind) (drop (at + 1) tables.code))
          (sym (length-append w.rows front))
          ∙ ap (λ n. length (w.rows ++ front) ∷ numbers next (at + 1) n (drop (at + 1) tables.code))
          (sym (length-append (w.rows ++ front) behind))))))

  -- ---- all rows
  module _ (none : close nothing ≡ [])
      (closes : (facts : F) → AllByRecursion IsStraightUnit (close facts))
      (steps : (facts : F) (row : Instr) → ends_stretch row ≡ false
      → AllByRecursion IsStraightUnit (step facts row)) where
    front_moved : (m : ℕ → ℕ) (b : Bool) (facts : F)
        → map (moved_row m) (in_front b facts) ≡ in_front b facts
    front_moved m true facts = straight_rows m (close facts) (closes facts)
    front_moved m false facts = refl

    put_moved : (m : ℕ → ℕ) (b : Bool) (facts : F) (row : Instr) → ends_stretch row ≡ b
        → map (moved_row m) (put b (λ g. g) facts row) ≡ put b m facts row
    put_moved m true facts row ends =
        map-append (moved_row m) (close_rows facts) (ended_by (λ g. g) row ∷ [])
        ∙ (ap (λ l. l ++ moved_row m (ended_by (λ g. g) row) ∷ [])
        (straight_rows m (close facts) (closes facts))
        ∙ ap (λ r. close_rows facts ++ Other (with_moved_goal m r) ∷ []) (own_goal row))
    put_moved m false facts row ends = straight_rows m (step facts row) (steps facts row ends)

    walk_moved : (m : ℕ → ℕ) (facts : F) (at : ℕ) (rows : List Instr)
        → map (moved_row m) (walk (λ g. g) facts at rows) ≡ walk m facts at rows
    walk_moved m facts at [] = straight_rows m (close facts) (closes facts)
    walk_moved m facts at (row ∷ rows) =
        let front = in_front (is_goal tables.code at) facts in
        let now = known (is_goal tables.code at) facts in
        let behind = put (ends_stretch row) (λ g. g) now row in
        let next = learnt (ends_stretch row) now row in
        map-append (moved_row m) front (behind ++ walk (λ g. g) next (at + 1) rows)
        ∙ (ap (λ l. l ++ map (moved_row m) (behind ++ walk (λ g. g) next (at + 1) rows))
        (front_moved m (is_goal tables.code at) facts)
        ∙ ap (λ l. front ++ l)
        (map-append (moved_row m) behind (walk (λ g. g) next (at + 1) rows)
        ∙ (ap (λ l. l ++ map (moved_row m) (walk (λ g. g) next (at + 1) rows))
        (put_moved m (ends_stretch row) now row refl)
        ∙ ap (λ l. put (ends_stretch row) m now row ++ l)
        (walk_moved m next (at + 1) rows))))

    -- goals alone count
    put_goals : (one other : ℕ → ℕ) (b : Bool) (facts : F) (row : Instr)
        → ((g : ℕ) → leads_to g row ≡ true → one g ≡ other g)
        → put b one facts row ≡ put b other facts row
    put_goals one other true facts row agree =
        ap (λ r. close_rows facts ++ Other r ∷ []) (same_moved_goal one other row agree)
    put_goals one other false facts row agree = refl

    walk_goals : (one other : ℕ → ℕ)
        → ((g : ℕ) → is_goal tables.code g ≡ true → one g ≡ other g)
        → (facts : F) (at : ℕ) (rows : List Instr)
        → ((g : ℕ) → list_any (leads_to g) rows ≡ true → is_goal tables.code g ≡ true)
        → walk one facts at rows ≡ walk other facts at rows
    walk_goals one other agree facts at [] within = refl
    walk_goals one other agree facts at (row ∷ rows) within =
        let now = known (is_goal tables.code at) facts in
        let next = learnt (ends_stretch row) now row in
        ap (λ l. in_front (is_goal tables.code at) facts ++ l)
        (ap (λ l. l ++ walk one next (at + 1) rows)
        (put_goals one other (ends_stretch row) now row
        (λ g leads. agree g (within g (either_first (leads_to g row) _ leads))))
        ∙ ap (λ l. put (ends_stretch row) other now row ++ l)
        (walk_goals one other agree next (at + 1) rows
        (λ g leads. within g (either_last (leads_to g row) _ leads))))

    pub walk_ends : (draft : PlanDraft) (facts : F) (at : ℕ) → length tables.code ≤ at
        → IsWalked draft facts at
        → plan_of (written draft (close facts)) tables
        ≡ laid_out tables (passed closed_rows ended_by (stretches_of tables.code))
    walk_ends draft facts at past w =
        ap (λ d. plan_of d tables) whole
        ∙ (ap (λ n. record tables {
          exchanges = exchanges_in new;
          code = map (with_moved_goal (number_among list n)) (numbered_from 0 new);
        }) (numbered_length 0 new)
        ∙ (ap (λ l. record tables { exchanges = exchanges_in new; code = l })
        (numbered_moved m 0 new)
        ∙ (ap (λ l. record tables { exchanges = l; code = numbered_from 0 (map (moved_row m) new) })
        (sym (exchanges_moved m new))
        ∙ ap (laid_out tables) rows)))
      where
        new : List PlanRow
        new = walk (λ g. g) nothing 0 tables.code

        list : List ℕ
        list = numbers nothing 0 0 tables.code

        m : ℕ → ℕ
        m = number_among list (length new)

        whole : written draft (close facts) ≡ laid new list
        whole =
            ap (λ d. written d (close facts)) w.is
            ∙ (laid_more w.rows w.so_far (close facts)
            ∙ (ap (λ l. laid l w.so_far)
            (ap (λ l. w.rows ++ walk (λ g. g) facts at l) (sym (dropped_all tables.code at past))
            ∙ w.left)
            ∙ ap (λ l. laid new l)
            (sym (append-nil w.so_far)
            ∙ (ap (λ l. w.so_far ++ numbers facts at (length w.rows) l)
            (sym (dropped_all tables.code at past))
            ∙ w.numbered))))

        moved : ℕ → ℕ
        moved = moved_by closed_rows ended_by (stretches_of tables.code)

        none_rows : close_rows nothing ≡ []
        none_rows = ap (flat_map unit_rows) none

        plus_none : (g : ℕ) → 0 + g ≡ g
        plus_none g = omega arith

        agree : (g : ℕ) → is_goal tables.code g ≡ true → m g ≡ moved g
        agree g goal =
            sym (walks.moved_number {F = F} {Old = Instr} {New = PlanRow} ends_stretch
            (is_goal tables.code) nothing step_rows learn close_rows ended_by none_rows tables.code
            g (inl (ap (is_goal tables.code) (plus_none g) ∙ goal)))

        rows : map (moved_row m) new ≡ passed closed_rows ended_by (stretches_of tables.code)
        rows =
            walk_moved m nothing 0 tables.code
            ∙ (walk_goals m moved agree nothing 0 tables.code (λ g leads. leads)
            ∙ sym (walks.passed_walk {F = F} {Old = Instr} {New = PlanRow} ends_stretch
            (is_goal tables.code) nothing step_rows learn close_rows ended_by none_rows tables.code))

    -- where the walk rewrites straight rows as a pass does, the plan is the pass's
    pub walk_passes : (rewrite : List PlanUnit → List PlanUnit)
        → ((rows : List Instr) → rows_by tables rewrite rows ≡ closed_rows rows)
        → (draft : PlanDraft) (facts : F) (at : ℕ) → length tables.code ≤ at
        → IsWalked draft facts at
        → plan_of (written draft (close facts)) tables ≡ with_units rewrite tables
    walk_passes rewrite same draft facts at past w =
        walk_ends draft facts at past w
        ∙ ap (λ f. laid_out tables (passed f ended_by (stretches_of tables.code)))
        (sym (fun_ext same))
