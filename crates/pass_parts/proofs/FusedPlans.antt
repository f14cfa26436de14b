-- No loops can be joined in a plan that is written anew, where none could in the old one.
use Rattle.std.proofs.Common.{◌≡◌, inl, inr, refl, sym, ap, ◌∙◌, subst, arith, ℕ, ◌+◌, Bool}
use Rattle.std.proofs.Common.{true, false, List, [], ◌∷◌, ◌++◌, length, append_assoc, length-append}
use Rattle.std.specs.Prelude.{◌&&◌, ◌||◌, flat_map, if◌then◌else◌, Option, None}
use Rattle.std.specs.List.{AllByRecursion}
use Rattle.node_form.specs.declared.instructions.Instr.{Instr}
use Rattle.node_form.specs.declared.tables.Tables.{Tables}
use Rattle.code_parts.specs.Fused.{begins_anew, is_fused, last_loop}
use Rattle.code_parts.specs.Stretch.{ends_stretch, is_goal, right_from}
use Rattle.code_parts.proofs.WalkLemmas.{both_left, both_right}
use Rattle.node_emit.specs.of_flat_passes.Rewritten.{with_moved_goal}
use Rattle.pass_sizes.specs.of_plan_form.Rewrite.{ended_by}
use Rattle.pass_sizes.specs.of_plan_form.Units.{PlanUnit, PlanRow, Other, exchanges_in, laid_out, numbered_from}
use Rattle.pass_sizes.specs.of_plan_form.Units.{unit_rows}
use Rattle.pass_sizes.proofs.of_plan_form.PassLemmas as pass
use Rattle.pass_sizes.proofs.of_plan_form.PassLemmas.{numbered_both, numbered_length}
use Rattle.pass_sizes.proofs.of_plan_form.WalkLemmas as walks
use Rattle.pass_sizes.proofs.of_comm_combine.ReachLemmas.{GoalsMoved, all_moved, moved, new, numbers, walk}
use Rattle.pass_parts.proofs.NearLemmas.{IsLess, IsNearUnit, StepsNear, around_numbered, around_rows}
use Rattle.pass_parts.proofs.NearLemmas.{core_row, end_row, ends_moved, from, near_all, near_kept}
use Rattle.pass_parts.proofs.NearLemmas.{near_numbered, near_past, near_rows, reset, reset_less}

module _ {F : Type 0} (tables : Tables) (nothing : F) (step : F → Instr → List PlanUnit)
    (learn : F → Instr → F) (close : F → List PlanUnit) (none : close nothing ≡ [])
    (closes : (facts : F) → AllByRecursion IsNearUnit (close facts))
    (steps : (facts : F) (row : Instr) → ends_stretch row ≡ false
    → StepsNear row (step facts row)) where
  abbrev made : List PlanRow
  made = new {F = F} tables nothing step learn close none

  abbrev plan : Tables
  plan = laid_out tables made

  abbrev walked : F → ℕ → List Instr → List PlanRow
  walked = walk {F = F} tables nothing step learn close none

  abbrev counted : F → ℕ → ℕ → List Instr → List ℕ
  counted = numbers {F = F} tables nothing step learn close none

  abbrev moves : ℕ → ℕ
  moves = moved {F = F} tables nothing step learn close none

  abbrev learnt : Bool → F → Instr → F
  learnt = pass.learnt {F = F} tables nothing step learn close

  abbrev known_at : Bool → F → F
  known_at = pass.known {F = F} tables nothing step learn close

  abbrev closed : F → List PlanRow
  closed facts = flat_map unit_rows (close facts)

  abbrev put : Bool → (ℕ → ℕ) → F → Instr → List PlanRow
  put = walks.put {F = F} {Old = Instr} {New = PlanRow} ends_stretch (is_goal tables.code) nothing
      (pass.step_rows {F = F} tables nothing step learn close) learn
      (pass.close_rows {F = F} tables nothing step learn close) ended_by

  abbrev front : Bool → F → List PlanRow
  front = walks.in_front {F = F} {Old = Instr} {New = PlanRow} ends_stretch (is_goal tables.code)
      nothing (pass.step_rows {F = F} tables nothing step learn close) learn
      (pass.close_rows {F = F} tables nothing step learn close) ended_by

  abbrev old_from : ℕ → Option (ℕ × ℕ) → List Instr → Bool
  old_from at old rows = right_from None last_loop (begins_anew tables) tables.code at old rows

  abbrev IsLater : ℕ → F → Option (ℕ × ℕ) → List Instr → Type 0
  IsLater at facts old rows =
      (n count : ℕ) (known : Option (ℕ × ℕ))
      → GoalsMoved tables.code plan.code at (counted facts at n rows)
      → IsLess (reset plan n known) old → old_from at old rows ≡ true
      → from plan n known (numbered_from count (walked facts at rows)) ≡ true

  long : (count : ℕ) (rows : List PlanRow) → length (numbered_from count rows) ≡ length rows
  long count rows = numbered_length count rows

  -- rows that may stand between loops, and what is behind them
  past_rows : (units : List PlanUnit) (more : List PlanRow) (n count : ℕ)
      (known old : Option (ℕ × ℕ)) → AllByRecursion IsNearUnit units
      → IsLess (reset plan n known) old
      → ((m other : ℕ) (later : Option (ℕ × ℕ)) → m ≡ n + length (flat_map unit_rows units)
      → IsLess (reset plan m later) old → from plan m later (numbered_from other more) ≡ true)
      → from plan n known (numbered_from count (flat_map unit_rows units ++ more)) ≡ true
  past_rows units more n count known old near less rest =
      let rows = flat_map unit_rows units in
      let other = count + length (exchanges_in rows) in
      ap (from plan n known) (numbered_both count rows more)
      ∙ near_past plan (numbered_from count rows) (numbered_from other more) n known old
      (near_numbered count rows (near_rows units near)) less
      (λ m later place. rest m other later (place ∙ ap (λ k. n + k) (long count rows)))

  -- ---- a row that ends a stretch
  ended_row : (row : Instr) (facts : F) (at : ℕ) (rows : List Instr) (old : Option (ℕ × ℕ))
      → ends_stretch row ≡ true → IsLater (at + 1) nothing None rows
      → (n count : ℕ) (known : Option (ℕ × ℕ))
      → GoalsMoved tables.code plan.code (at + 1) (counted nothing (at + 1)
      (n + length (closed facts ++ ended_by (λ g. g) row ∷ [])) rows)
      → IsLess (reset plan n known) old → old_from (at + 1) None rows ≡ true
      → from plan n known (numbered_from count
      ((closed facts ++ ended_by moves row ∷ []) ++ walked nothing (at + 1) rows)) ≡ true
  ended_row row facts at rows old ends later n count known goals less right =
      ap (λ l. from plan n known (numbered_from count l))
      (append_assoc (closed facts) (ended_by moves row ∷ []) (walked nothing (at + 1) rows))
      ∙ past_rows (close facts) (ended_by moves row ∷ walked nothing (at + 1) rows) n count known
      old (closes facts) less
      (λ m other now place after.
      end_row plan (with_moved_goal moves row)
      (numbered_from other (walked nothing (at + 1) rows)) m now
      (ends_moved moves row ∙ ends)
      (later (m + 1) other None
      (subst (λ k. GoalsMoved tables.code plan.code (at + 1) (counted nothing (at + 1) k rows))
      (number m place) goals)
      (reset_less plan (m + 1) None None (inl refl)) right))
    where
      number : (m : ℕ) → m ≡ n + length (closed facts)
          → n + length (closed facts ++ ended_by (λ g. g) row ∷ []) ≡ m + 1
      number m place =
          omega (arith, place, length-append (closed facts) (ended_by (λ g. g) row ∷ []))

  -- ---- a row of a stretch
  straight_row : (row : Instr) (facts : F) (at : ℕ) (rows : List Instr) (old : Option (ℕ × ℕ))
      → ends_stretch row ≡ false → StepsNear row (step facts row)
      → IsLater (at + 1) (learn facts row) (last_loop old row) rows
      → (n count : ℕ) (known : Option (ℕ × ℕ))
      → GoalsMoved tables.code plan.code (at + 1) (counted (learn facts row) (at + 1)
      (n + length (flat_map unit_rows (step facts row))) rows)
      → IsLess (reset plan n known) old → begins_anew tables old row ≡ true
      → old_from (at + 1) (last_loop old row) rows ≡ true
      → from plan n known (numbered_from count
      (flat_map unit_rows (step facts row) ++ walked (learn facts row) (at + 1) rows)) ≡ true
  straight_row row facts at rows old ends (inl near) later n count known goals less right more =
      past_rows (step facts row) (walked (learn facts row) (at + 1) rows) n count known old near.1
      less
      (λ m other now place after.
      later m other now
      (subst (λ k. GoalsMoved tables.code plan.code (at + 1)
      (counted (learn facts row) (at + 1) k rows)) (sym place) goals)
      (subst (IsLess (reset plan m now)) (sym (near_kept row old near.0)) after) more)
  straight_row row facts at rows old ends (inr around) later n count known goals less right more =
      ap (from plan n known)
      (around_numbered row (step facts row) before after rest count around.1.is)
      ∙ near_past plan (numbered_from count first)
      (row ∷ (numbered_from second last ++ numbered_from third rest)) n known old
      (near_numbered count first (near_rows before around.1.near_before)) less
      (λ m now place behind.
      core_row plan row (numbered_from second last ++ numbered_from third rest) m now old ends
      around.0 behind right
      (λ next learned.
      near_past plan (numbered_from second last) (numbered_from third rest) (m + 1) next
      (last_loop old row) (near_numbered second last (near_rows after around.1.near_after)) learned
      (λ k final there less_there.
      later k third final
      (subst (λ number. GoalsMoved tables.code plan.code (at + 1)
      (counted (learn facts row) (at + 1) number rows)) (number m k place there) goals)
      less_there more)))
    where
      before : List PlanUnit
      before = around.1.before

      after : List PlanUnit
      after = around.1.after

      first : List PlanRow
      first = flat_map unit_rows before

      last : List PlanRow
      last = flat_map unit_rows after

      rest : List PlanRow
      rest = walked (learn facts row) (at + 1) rows

      second : ℕ
      second = count + length (exchanges_in first)

      third : ℕ
      third = count + length (exchanges_in first) + length (exchanges_in last)

      number : (m k : ℕ) → m ≡ n + length (numbered_from count first)
          → k ≡ m + 1 + length (numbered_from second last)
          → n + length (flat_map unit_rows (step facts row)) ≡ k
      number m k place there =
          omega (
            arith,
            place,
            there,
            long count first,
            long second last,
            ap length (around_rows row (step facts row) before after around.1.is),
            length-append first (Other row ∷ last),
          )

  one_row : (row : Instr) (facts : F) (at : ℕ) (rows : List Instr) (old : Option (ℕ × ℕ))
      → ((now : F) (past : Option (ℕ × ℕ)) → IsLater (at + 1) now past rows)
      → (n count : ℕ) (known : Option (ℕ × ℕ)) (e : Bool) → ends_stretch row ≡ e
      → GoalsMoved tables.code plan.code (at + 1) (counted (learnt e facts row) (at + 1)
      (n + length (put e (λ g. g) facts row)) rows)
      → IsLess (reset plan n known) old
      → ((e || begins_anew tables old row)
      && old_from (at + 1) (if e then None else last_loop old row) rows) ≡ true
      → from plan n known (numbered_from count
      (put e moves facts row ++ walked (learnt e facts row) (at + 1) rows)) ≡ true
  one_row row facts at rows old later n count known true ends goals less right =
      ended_row row facts at rows old ends (later nothing None) n count known goals less right
  one_row row facts at rows old later n count known false ends goals less right =
      straight_row row facts at rows old ends (steps facts row ends)
      (later (learn facts row) (last_loop old row)) n count known goals less
      (both_left (begins_anew tables old row) _ right)
      (both_right (begins_anew tables old row) _ right)

  -- in front of a row, whether it is a goal
  at_row : (b : Bool) (row : Instr) (facts : F) (at : ℕ) (rows : List Instr)
      (old : Option (ℕ × ℕ)) → is_goal tables.code at ≡ b
      → ((now : F) (past : Option (ℕ × ℕ)) → IsLater (at + 1) now past rows)
      → (n count : ℕ) (known : Option (ℕ × ℕ))
      → ((is_goal tables.code at ≡ true → is_goal plan.code (n + length (front b facts)) ≡ true)
      × GoalsMoved tables.code plan.code (at + 1)
      (counted (learnt (ends_stretch row) (known_at b facts) row) (at + 1)
      ((n + length (front b facts))
      + length (put (ends_stretch row) (λ g. g) (known_at b facts) row)) rows))
      → IsLess (reset plan n known) old
      → ((ends_stretch row || begins_anew tables (if b then None else old) row)
      && old_from (at + 1) (if ends_stretch row then None
      else last_loop (if b then None else old) row) rows) ≡ true
      → from plan n known (numbered_from count (front b facts
      ++ (put (ends_stretch row) moves (known_at b facts) row
      ++ walked (learnt (ends_stretch row) (known_at b facts) row) (at + 1) rows))) ≡ true
  at_row true row facts at rows old goal later n count known goals less right =
      past_rows (close facts) (put (ends_stretch row) moves nothing row
      ++ walked (learnt (ends_stretch row) nothing row) (at + 1) rows) n count known old
      (closes facts) less
      (λ m other now place after.
      one_row row nothing at rows None later m other now (ends_stretch row) refl
      (subst (λ k. GoalsMoved tables.code plan.code (at + 1)
      (counted (learnt (ends_stretch row) nothing row) (at + 1)
      (k + length (put (ends_stretch row) (λ g. g) nothing row)) rows)) (sym place) goals.1)
      (inl (ap (λ b. if b then None else now)
      (ap (is_goal plan.code) place ∙ goals.0 goal))) right)
  at_row false row facts at rows old inner later n count known goals less right =
      one_row row facts at rows old later n count known (ends_stretch row) refl
      (subst (λ k. GoalsMoved tables.code plan.code (at + 1)
      (counted (learnt (ends_stretch row) facts row) (at + 1)
      (k + length (put (ends_stretch row) (λ g. g) facts row)) rows)) none_more goals.1) less right
    where
      none_more : n + 0 ≡ n
      none_more = omega arith

  all_right : (rows : List Instr) (at : ℕ) (facts : F) (old : Option (ℕ × ℕ))
      → IsLater at facts old rows
  all_right [] at facts old n count known goals less right =
      near_all plan (numbered_from count (closed facts)) n known
      (near_numbered count (closed facts) (near_rows (close facts) (closes facts)))
  all_right (row ∷ rows) at facts old n count known goals less right =
      at_row (is_goal tables.code at) row facts at rows old refl
      (λ now past. all_right rows (at + 1) now past) n count known goals less right

  pub stays_fused : is_fused tables ≡ true → is_fused plan ≡ true
  stays_fused right =
      all_right tables.code 0 nothing None 0 0 None
      (all_moved {F = F} tables nothing step learn close none)
      (reset_less plan 0 None None (inl refl)) right
