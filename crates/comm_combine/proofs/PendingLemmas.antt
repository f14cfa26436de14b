-- A walk over a plan whose neighbours are one, beside one over the plan that it is made of.
use Rattle.std.proofs.Common.{◌≡◌, refl, sym, ap, ◌∙◌, subst, arith, ℕ, ◌+◌, ◌-◌, Bool, true, false}
use Rattle.std.proofs.Common.{true≢false, List, [], ◌∷◌, ◌++◌, length}
use Rattle.std.specs.Prelude.{◌&&◌, ◌||◌, flat_map, if◌then◌else◌, Option, Some, None}
use Rattle.std.proofs.lemmas.Grind.{flat_map-append}
use Rattle.std.proofs.lemmas.List.{append_assoc, append-nil, length-append}
use Rattle.last_writes.specs.of_node_form.declared.arrays.Item.{Item}
use Rattle.last_writes.specs.of_node_form.declared.instructions.Instr.{Instr}
use Rattle.last_writes.specs.of_node_form.declared.instructions.Instr.TheVariants as instr
use Rattle.last_writes.specs.of_node_form.declared.tables.Tables.{Tables}
use Rattle.last_writes.specs.of_code_parts.Exchanged.{is_exchange_row}
use Rattle.last_writes.specs.of_code_parts.Stretch.{ends_stretch, is_goal, is_right_throughout, right_from}
use Rattle.last_writes.specs.of_code_parts.Uses.{items_of}
use Rattle.last_writes.specs.of_plan_form.Units.{PlanRow, Other, Single, exchanges_in, laid_out, numbered_from}
use Rattle.last_writes.specs.of_plan_form.Units.{unit_rows}
use Rattle.last_writes.specs.of_plan_form.Rewrite.{ended_by}
use Rattle.last_writes.proofs.of_plan_form.PassLemmas as pass
use Rattle.last_writes.proofs.of_plan_form.WalkLemmas as walks
use Rattle.comm_combine.specs.Merge.{neighbours_merged, pending_behind, pending_units, pending_with}
use Rattle.comm_combine.specs.Merge.{row_units, units_merged}
use Rattle.comm_combine.proofs.MergeLemmas.{closed_rows_are}
use Rattle.comm_combine.proofs.ReachLemmas.{GoalsMoved, all_moved, items_there, moved, new, numbers}
use Rattle.comm_combine.proofs.ReachLemmas.{units_walked, walk}

both_left : (a b : Bool) → (a && b) ≡ true → a ≡ true
both_left true b e = refl
both_left false b e = e

both_right : (a b : Bool) → (a && b) ≡ true → b ≡ true
both_right true b e = e
both_right false b e = absurd (true≢false (sym e))

both : (a b : Bool) → a ≡ true → b ≡ true → (a && b) ≡ true
both true b one other = other
both false b one other = one

abbrev pub plan_merged : Tables → Tables
plan_merged tables =
    laid_out tables
    (new {F = Option (List Item)} tables None row_units (pending_behind tables) pending_units refl)

pub merged_is : (tables : Tables) → neighbours_merged tables ≡ plan_merged tables
merged_is tables =
    units_walked {F = Option (List Item)} tables None row_units (pending_behind tables)
    pending_units refl units_merged (λ rows. closed_rows_are tables None rows)

-- What is known in the new walk goes with the exchange that is pending and what is known in the old
-- one; behind an exchange that is written, with the latter alone.
module _ (tables : Tables) {N O : Type 0} (nothing : N) (learn : N → Instr → N)
    (is_right : N → Instr → Bool) (old_nothing : O) (old_learn : O → Instr → O)
    (old_right : O → Instr → Bool) (Goes : N → Option (List Item) → O → Type 0)
    (After : N → O → Type 0)
    (forgets : (known : N) (pending : Option (List Item)) (old : O) → Goes known pending old
    → Goes nothing pending old)
    (still : (known : N) (old : O) → After known old → After nothing old)
    (begins : Goes nothing None old_nothing)
    (starts : (known : N) (pending : Option (List Item)) (old : O) (exchange : ℕ)
    → old_right old (instr.Start exchange) ≡ true → Goes known pending old
    → Goes known (Some (pending_with pending (items_of tables exchange)))
    (old_learn old (instr.Start exchange)))
    (finishes : (known : N) (pending : Option (List Item)) (old : O) (exchange : ℕ)
    → Goes known pending old → Goes known pending (old_learn old (instr.Finish exchange)))
    (without : (known : N) (old : O) → Goes known None old → After known old)
    (start_right : (known : N) (items : List Item) (old : O) (number : ℕ)
    → items_of (plan_merged tables) number ≡ items → Goes known (Some items) old
    → is_right known (instr.Start number) ≡ true)
    (finish_right : (known started : N) (items : List Item) (old : O) (number other : ℕ)
    → items_of (plan_merged tables) number ≡ items → Goes known (Some items) old
    → (b : Bool) → started ≡ (if b then nothing else learn known (instr.Start number))
    → (is_right started (instr.Finish other) ≡ true)
    × After (learn started (instr.Finish other)) old)
    (others : (known : N) (old : O) (row : Instr) → ends_stretch row ≡ false
    → is_exchange_row row ≡ false → After known old
    → (is_right known row ≡ true) × Goes (learn known row) None (old_learn old row)) where
  abbrev plan : Tables
  plan = plan_merged tables

  abbrev walked : Option (List Item) → ℕ → List Instr → List PlanRow
  walked = walk {F = Option (List Item)} tables None row_units (pending_behind tables)
      pending_units refl

  abbrev counted : Option (List Item) → ℕ → ℕ → List Instr → List ℕ
  counted = numbers {F = Option (List Item)} tables None row_units (pending_behind tables)
      pending_units refl

  abbrev learnt : Bool → Option (List Item) → Instr → Option (List Item)
  learnt = pass.learnt {F = Option (List Item)} tables None row_units (pending_behind tables)
      pending_units

  abbrev known_at : Bool → Option (List Item) → Option (List Item)
  known_at = pass.known {F = Option (List Item)} tables None row_units (pending_behind tables)
      pending_units

  abbrev closed : Option (List Item) → List PlanRow
  closed pending = flat_map unit_rows (pending_units pending)

  abbrev put : Bool → (ℕ → ℕ) → Option (List Item) → Instr → List PlanRow
  put = walks.put {F = Option (List Item)} {Old = Instr} {New = PlanRow} ends_stretch
      (is_goal tables.code) None
      (pass.step_rows {F = Option (List Item)} tables None row_units (pending_behind tables) pending_units)
      (pending_behind tables)
      (pass.close_rows {F = Option (List Item)} tables None row_units (pending_behind tables) pending_units)
      ended_by

  abbrev front : Bool → Option (List Item) → List PlanRow
  front = walks.in_front {F = Option (List Item)} {Old = Instr} {New = PlanRow} ends_stretch
      (is_goal tables.code) None
      (pass.step_rows {F = Option (List Item)} tables None row_units (pending_behind tables) pending_units)
      (pending_behind tables)
      (pass.close_rows {F = Option (List Item)} tables None row_units (pending_behind tables) pending_units)
      ended_by

  abbrev moves : ℕ → ℕ
  moves = moved {F = Option (List Item)} tables None row_units (pending_behind tables)
      pending_units refl

  abbrev from : ℕ → N → List Instr → Bool
  from n known rows = right_from nothing learn is_right plan.code n known rows

  abbrev old_from : ℕ → O → List Instr → Bool
  old_from at old rows = right_from old_nothing old_learn old_right tables.code at old rows

  abbrev reset : ℕ → N → N
  reset n known = if is_goal plan.code n then nothing else known

  reset_goes : (n : ℕ) (known : N) (pending : Option (List Item)) (old : O)
      → Goes known pending old → Goes (reset n known) pending old
  reset_goes n known pending old goes = by (is_goal plan.code n)
    where
      by : (b : Bool) → Goes (if b then nothing else known) pending old
      by true = forgets known pending old goes
      by false = goes

  reset_after : (n : ℕ) (known : N) (old : O) → After known old → After (reset n known) old
  reset_after n known old after = by (is_goal plan.code n)
    where
      by : (b : Bool) → After (if b then nothing else known) old
      by true = still known old after
      by false = after

  -- the rows from a number on are right, where so many exchanges start before them
  abbrev AreRight : ℕ → ℕ → N → List (List Item) → List PlanRow → Type 0
  AreRight n count known before rows =
      plan.exchanges ≡ before ++ exchanges_in rows → length before ≡ count
      → from n known (numbered_from count rows) ≡ true

  -- what is pending is written
  written : (pending : Option (List Item)) (old : O) (n count : ℕ) (known : N)
      (before : List (List Item)) (more : List PlanRow) → Goes (reset n known) pending old
      → ((m other : ℕ) (later : N) (all : List (List Item)) → m ≡ n + length (closed pending)
      → After (reset m later) old → AreRight m other later all more)
      → AreRight n count known before (closed pending ++ more)
  written None old n count known before more goes rest is size =
      rest n count known before (omega arith) (without (reset n known) old goes) is size
  written (Some items) old n count known before more goes rest is size =
      both (is_right (reset n known) (instr.Start count)) _
      (start_right (reset n known) items old count there goes)
      (both (is_right (reset (n + 1) (learn (reset n known) (instr.Start count)))
      (instr.Finish (count + 1 - 1))) _ finish.0
      (rest (n + 1 + 1) (count + 1)
      (learn (reset (n + 1) (learn (reset n known) (instr.Start count)))
      (instr.Finish (count + 1 - 1))) (before ++ items ∷ []) (omega arith)
      (reset_after (n + 1 + 1) (learn (reset (n + 1) (learn (reset n known) (instr.Start count)))
      (instr.Finish (count + 1 - 1))) old finish.1)
      (is ∙ sym (append_assoc before (items ∷ []) (exchanges_in more)))
      (length-append before (items ∷ []) ∙ ap (λ k. k + 1) size)))
    where
      there : items_of plan count ≡ items
      there = items_there plan before (exchanges_in more) items count is size

      finish : (is_right (reset (n + 1) (learn (reset n known) (instr.Start count)))
          (instr.Finish (count + 1 - 1)) ≡ true)
          × After (learn (reset (n + 1) (learn (reset n known) (instr.Start count)))
          (instr.Finish (count + 1 - 1))) old
      finish =
          finish_right (reset n known) (reset (n + 1) (learn (reset n known) (instr.Start count)))
          items old count (count + 1 - 1) there goes (is_goal plan.code (n + 1)) refl

  abbrev IsLater : ℕ → Option (List Item) → O → List Instr → Type 0
  IsLater at pending old rows =
      (n count : ℕ) (known : N) (before : List (List Item))
      → GoalsMoved tables.code plan.code at (counted pending at n rows)
      → Goes (reset n known) pending old → old_from at old rows ≡ true
      → AreRight n count known before (walked pending at rows)

  -- ---- rows
  quiet_row : (pending : Option (List Item)) (at : ℕ) (rows : List Instr) (old : O)
      → IsLater (at + 1) pending old rows
      → (n count : ℕ) (known : N) (before : List (List Item))
      → GoalsMoved tables.code plan.code (at + 1) (counted pending (at + 1) (n + 0) rows)
      → Goes (reset n known) pending old → old_from (at + 1) old rows ≡ true
      → AreRight n count known before (walked pending (at + 1) rows)
  quiet_row pending at rows old later n count known before goals goes right =
      later n count known before
      (subst (λ k. GoalsMoved tables.code plan.code (at + 1) (counted pending (at + 1) k rows)) none
      goals) goes right
    where
      none : n + 0 ≡ n
      none = omega arith

  end_row : (row moved_row : Instr) → ends_stretch moved_row ≡ true
      → (pending : Option (List Item)) (at : ℕ) (rows : List Instr) (old : O)
      → IsLater (at + 1) None old_nothing rows
      → (n count : ℕ) (known : N) (before : List (List Item))
      → GoalsMoved tables.code plan.code (at + 1) (counted None (at + 1)
      (n + length (closed pending ++ Other row ∷ [])) rows)
      → Goes (reset n known) pending old → old_from (at + 1) old_nothing rows ≡ true
      → AreRight n count known before
      ((closed pending ++ Other moved_row ∷ []) ++ walked None (at + 1) rows)
  end_row row moved_row ends pending at rows old later n count known before goals goes right =
      subst (AreRight n count known before)
      (sym (append_assoc (closed pending) (Other moved_row ∷ []) (walked None (at + 1) rows)))
      (written pending old n count known before (Other moved_row ∷ walked None (at + 1) rows) goes
      (λ m other later_known all place after is size.
      ap (λ b. (b || is_right (reset m later_known) moved_row)
      && from (m + 1) (if b then nothing else learn (reset m later_known) moved_row)
      (numbered_from other (walked None (at + 1) rows))) ends
      ∙ later (m + 1) other nothing all
      (subst (λ k. GoalsMoved tables.code plan.code (at + 1) (counted None (at + 1) k rows))
      (number m place) goals) (reset_goes (m + 1) nothing None old_nothing begins) right is size))
    where
      number : (m : ℕ) → m ≡ n + length (closed pending)
          → n + length (closed pending ++ Other row ∷ []) ≡ m + 1
      number m place = omega (arith, place, length-append (closed pending) (Other row ∷ []))

  single_row : (row : Instr) → ends_stretch row ≡ false → is_exchange_row row ≡ false
      → (pending : Option (List Item)) (at : ℕ) (rows : List Instr) (old : O)
      → IsLater (at + 1) None (old_learn old row) rows
      → (n count : ℕ) (known : N) (before : List (List Item))
      → GoalsMoved tables.code plan.code (at + 1) (counted None (at + 1)
      (n + length (flat_map unit_rows (pending_units pending ++ Single row ∷ []))) rows)
      → Goes (reset n known) pending old → old_from (at + 1) (old_learn old row) rows ≡ true
      → AreRight n count known before
      (flat_map unit_rows (pending_units pending ++ Single row ∷ []) ++ walked None (at + 1) rows)
  single_row row ends quiet pending at rows old later n count known before goals goes right =
      subst (AreRight n count known before) (sym (split (walked None (at + 1) rows)))
      (written pending old n count known before (Other row ∷ walked None (at + 1) rows) goes
      (λ m other later_known all place after is size.
      let fine = others (reset m later_known) old row ends quiet after in
      ap (λ b. (b || is_right (reset m later_known) row)
      && from (m + 1) (if b then nothing else learn (reset m later_known) row)
      (numbered_from other (walked None (at + 1) rows))) ends
      ∙ both (is_right (reset m later_known) row) _ fine.0
      (later (m + 1) other (learn (reset m later_known) row) all
      (subst (λ k. GoalsMoved tables.code plan.code (at + 1) (counted None (at + 1) k rows))
      (number m place) goals)
      (reset_goes (m + 1) (learn (reset m later_known) row) None (old_learn old row) fine.1)
      right is size)))
    where
      parts : flat_map unit_rows (pending_units pending ++ Single row ∷ [])
          ≡ closed pending ++ Other row ∷ []
      parts = flat_map-append unit_rows (pending_units pending) (Single row ∷ [])

      split : (more : List PlanRow)
          → flat_map unit_rows (pending_units pending ++ Single row ∷ []) ++ more
          ≡ closed pending ++ Other row ∷ more
      split more =
          ap (λ l. l ++ more) parts ∙ append_assoc (closed pending) (Other row ∷ []) more

      number : (m : ℕ) → m ≡ n + length (closed pending)
          → n + length (flat_map unit_rows (pending_units pending ++ Single row ∷ [])) ≡ m + 1
      number m place =
          omega (
            arith,
            place,
            ap length parts,
            length-append (closed pending) (Other row ∷ []),
          )

  one_row : (row : Instr) (pending : Option (List Item)) (at : ℕ) (rows : List Instr) (old : O)
      → ((now : Option (List Item)) (past : O) → IsLater (at + 1) now past rows)
      → (n count : ℕ) (known : N) (before : List (List Item))
      → GoalsMoved tables.code plan.code (at + 1)
      (counted (learnt (ends_stretch row) pending row) (at + 1)
      (n + length (put (ends_stretch row) (λ g. g) pending row)) rows)
      → Goes (reset n known) pending old
      → ((ends_stretch row || old_right old row)
      && old_from (at + 1) (if ends_stretch row then old_nothing else old_learn old row) rows)
      ≡ true
      → AreRight n count known before (put (ends_stretch row) moves pending row
      ++ walked (learnt (ends_stretch row) pending row) (at + 1) rows)
  one_row (instr.Start exchange) pending at rows old later n count known before goals goes right =
      quiet_row (Some (pending_with pending (items_of tables exchange))) at rows
      (old_learn old (instr.Start exchange)) (later _ _) n count known before goals
      (starts (reset n known) pending old exchange
      (both_left (old_right old (instr.Start exchange)) _ right) goes)
      (both_right (old_right old (instr.Start exchange)) _ right)
  one_row (instr.Finish exchange) pending at rows old later n count known before goals goes right =
      quiet_row pending at rows (old_learn old (instr.Finish exchange)) (later _ _) n count known
      before goals (finishes (reset n known) pending old exchange goes)
      (both_right (old_right old (instr.Finish exchange)) _ right)
  one_row (instr.Jump goal) pending at rows old later n count known before goals goes right =
      end_row (instr.Jump goal) (instr.Jump (moves goal)) refl pending at rows old (later _ _) n
      count known before goals goes right
  one_row (instr.Unless expr goal line) pending at rows old later n count known before goals goes right =
      end_row (instr.Unless expr goal line) (instr.Unless expr (moves goal) line) refl pending at
      rows old (later _ _) n count known before goals goes right
  one_row (instr.Trap kind line) pending at rows old later n count known before goals goes right =
      end_row (instr.Trap kind line) (instr.Trap kind line) refl pending at rows old (later _ _) n
      count known before goals goes right
  one_row instr.End pending at rows old later n count known before goals goes right =
      end_row instr.End instr.End refl pending at rows old (later _ _) n count known before goals
      goes right
  one_row row pending at rows old later n count known before goals goes right =
      single_row row refl refl pending at rows old (later _ _) n count known before goals goes
      (both_right (old_right old row) _ right)

  -- in front of a row, whether it is a goal
  at_row : (b : Bool) (row : Instr) (pending : Option (List Item)) (at : ℕ) (rows : List Instr)
      (old : O) → is_goal tables.code at ≡ b
      → ((now : Option (List Item)) (past : O) → IsLater (at + 1) now past rows)
      → (n count : ℕ) (known : N) (before : List (List Item))
      → ((is_goal tables.code at ≡ true → is_goal plan.code (n + length (front b pending)) ≡ true)
      × GoalsMoved tables.code plan.code (at + 1)
      (counted (learnt (ends_stretch row) (known_at b pending) row) (at + 1)
      ((n + length (front b pending))
      + length (put (ends_stretch row) (λ g. g) (known_at b pending) row)) rows))
      → Goes (reset n known) pending old
      → ((ends_stretch row || old_right (if b then old_nothing else old) row)
      && old_from (at + 1) (if ends_stretch row then old_nothing
      else old_learn (if b then old_nothing else old) row) rows) ≡ true
      → AreRight n count known before (front b pending
      ++ (put (ends_stretch row) moves (known_at b pending) row
      ++ walked (learnt (ends_stretch row) (known_at b pending) row) (at + 1) rows))
  at_row true row pending at rows old goal later n count known before goals goes right =
      written pending old n count known before
      (put (ends_stretch row) moves None row
      ++ walked (learnt (ends_stretch row) None row) (at + 1) rows) goes
      (λ m other later_known all place after.
      one_row row None at rows old_nothing later m other later_known all
      (subst (λ k. GoalsMoved tables.code plan.code (at + 1)
      (counted (learnt (ends_stretch row) None row) (at + 1)
      (k + length (put (ends_stretch row) (λ g. g) None row)) rows)) (sym place) goals.1)
      (subst (λ b. Goes (if b then nothing else later_known) None old_nothing)
      (sym (ap (is_goal plan.code) place ∙ goals.0 goal)) begins) right)
  at_row false row pending at rows old inner later n count known before goals goes right =
      one_row row pending at rows old later n count known before
      (subst (λ k. GoalsMoved tables.code plan.code (at + 1)
      (counted (learnt (ends_stretch row) pending row) (at + 1)
      (k + length (put (ends_stretch row) (λ g. g) pending row)) rows)) none goals.1) goes right
    where
      none : n + 0 ≡ n
      none = omega arith

  all_right : (rows : List Instr) (at : ℕ) (pending : Option (List Item)) (old : O)
      → IsLater at pending old rows
  all_right [] at pending old n count known before goals goes right =
      subst (AreRight n count known before) (append-nil (closed pending))
      (written pending old n count known before [] goes
      (λ m other later_known all place after is size. refl))
  all_right (row ∷ rows) at pending old n count known before goals goes right =
      at_row (is_goal tables.code at) row pending at rows old refl
      (λ now past. all_right rows (at + 1) now past) n count known before goals goes right

  pub merged_right : is_right_throughout old_nothing old_learn old_right tables.code ≡ true
      → is_right_throughout nothing learn is_right (plan_merged tables).code ≡ true
  merged_right right =
      all_right tables.code 0 None old_nothing 0 0 nothing []
      (all_moved {F = Option (List Item)} tables None row_units (pending_behind tables)
      pending_units refl)
      (reset_goes 0 nothing None old_nothing begins) right refl refl
