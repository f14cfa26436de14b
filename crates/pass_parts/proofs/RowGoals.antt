-- Goals of code whose rows are rewritten one by one.
use Rattle.std.proofs.Common.{◌≡◌, ◌⊎◌, inl, inr, refl, sym, ap, ◌∙◌, subst, arith, ℕ}
use Rattle.std.proofs.Common.{◌+◌, Bool, true, false, true≢false, List, [], ◌∷◌, ◌++◌, length}
use Rattle.std.specs.Prelude.{◌||◌, Some, slice_get, unwrap_or}
use Rattle.std.specs.List.{list_any}
use Rattle.std.proofs.lemmas.Bool.Decides.{Decides-eqb}
use Rattle.std.proofs.lemmas.List.Folds.{list_any-append}
use Rattle.node_form.specs.declared.instructions.Instr.{Instr}
use Rattle.node_form.specs.declared.instructions.Instr.TheVariants as instr
use Rattle.row_runs.specs.Cut.{moved_by}
use Rattle.code_parts.specs.Stretch.{ends_stretch, is_goal, leads_to}
use Rattle.node_emit.specs.of_flat_passes.Rewritten.{stretches_of, with_moved_goal}
use Rattle.pass_sizes.proofs.of_plan_form.WalkLemmas as walks
use Rattle.pass_sizes.proofs.of_comm_combine.ReachLemmas.{GoalsMoved}
use Rattle.pass_parts.proofs.GoalLemmas.{goals_moved}

either_left : (a b : Bool) → a ≡ true → (a || b) ≡ true
either_left true b e = refl
either_left false b e = absurd (true≢false (sym e))

either_right : (a b : Bool) → b ≡ true → (a || b) ≡ true
either_right true b e = refl
either_right false b e = e

one_of : (a b : Bool) → (a || b) ≡ true → (a ≡ true) ⊎ (b ≡ true)
one_of true b e = inl refl
one_of false b e = inr e

module _ (code : List Instr) (step : Unit {0} → Instr → List Instr) where
  abbrev none_known : Unit {0} → Instr → Unit {0}
  none_known facts row = tt

  abbrev no_rows : Unit {0} → List Instr
  no_rows facts = []

  abbrev pub closed : List Instr → List Instr
  closed rows =
      walks.closed {F = Unit {0}} {Old = Instr} {New = Instr} ends_stretch (is_goal code) tt step
      none_known no_rows with_moved_goal tt rows

  abbrev pub moved : ℕ → ℕ
  moved = moved_by closed with_moved_goal (stretches_of code)

  abbrev pub put : Bool → (ℕ → ℕ) → Instr → List Instr
  put e m row =
      walks.put {F = Unit {0}} {Old = Instr} {New = Instr} ends_stretch (is_goal code) tt step
      none_known no_rows with_moved_goal e m tt row

  abbrev pub walk : Unit {0} → ℕ → List Instr → List Instr
  walk facts at rows =
      walks.walk {F = Unit {0}} {Old = Instr} {New = Instr} ends_stretch (is_goal code) tt step
      none_known no_rows with_moved_goal moved facts at rows

  abbrev pub numbers : Unit {0} → ℕ → ℕ → List Instr → List ℕ
  numbers facts at n rows =
      walks.numbers {F = Unit {0}} {Old = Instr} {New = Instr} ends_stretch (is_goal code) tt step
      none_known no_rows with_moved_goal facts at n rows

  abbrev pub in_front : Bool → Unit {0} → List Instr
  in_front b facts =
      walks.in_front {F = Unit {0}} {Old = Instr} {New = Instr} ends_stretch (is_goal code) tt step
      none_known no_rows with_moved_goal b facts

  abbrev pub new : List Instr
  new = walk tt 0 code

  leads_moved : (g : ℕ) (row : Instr) → leads_to g row ≡ true
      → leads_to (moved g) (with_moved_goal moved row) ≡ true
  leads_moved g (instr.Jump goal) leads =
      (Decides-eqb (moved goal) (moved g)).1 (ap moved ((Decides-eqb goal g).0 leads))
  leads_moved g (instr.Unless expr goal line) leads =
      (Decides-eqb (moved goal) (moved g)).1 (ap moved ((Decides-eqb goal g).0 leads))
  leads_moved g row leads = absurd (true≢false (sym leads))

  leads_end : (g : ℕ) (row : Instr) → leads_to g row ≡ true → ends_stretch row ≡ true
  leads_end g (instr.Jump goal) leads = refl
  leads_end g (instr.Unless expr goal line) leads = refl
  leads_end g row leads = absurd (true≢false (sym leads))

  any_first : (test : Instr → Bool) (xs ys : List Instr) → list_any test xs ≡ true
      → list_any test (xs ++ ys) ≡ true
  any_first test xs ys there =
      list_any-append test xs ys ∙ either_left (list_any test xs) _ there

  any_last : (test : Instr → Bool) (xs ys : List Instr) → list_any test ys ≡ true
      → list_any test (xs ++ ys) ≡ true
  any_last test xs ys there =
      list_any-append test xs ys ∙ either_right (list_any test xs) _ there

  ended : (g : ℕ) (row : Instr) (e : Bool) → e ≡ true → leads_to g row ≡ true
      → list_any (leads_to (moved g)) (put e moved row) ≡ true
  ended g row true is leads =
      either_left (leads_to (moved g) (with_moved_goal moved row)) false (leads_moved g row leads)
  ended g row false is leads = absurd (true≢false (sym is))

  goals_in : (g : ℕ) (facts : Unit {0}) (at : ℕ) (rows : List Instr)
      → list_any (leads_to g) rows ≡ true
      → list_any (leads_to (moved g)) (walk facts at rows) ≡ true
  goals_in g facts at [] any = absurd (true≢false (sym any))
  goals_in g facts at (row ∷ rows) any =
      any_last (leads_to (moved g)) (in_front (is_goal code at) facts) _
      (by _ (λ later. goals_in g _ (at + 1) rows later) (one_of (leads_to g row) _ any))
    where
      by : (next : Unit {0})
          → (list_any (leads_to g) rows ≡ true
          → list_any (leads_to (moved g)) (walk next (at + 1) rows) ≡ true)
          → (leads_to g row ≡ true) ⊎ (list_any (leads_to g) rows ≡ true)
          → list_any (leads_to (moved g)) (put (ends_stretch row) moved row
          ++ walk next (at + 1) rows) ≡ true
      by next rest (inl leads) =
          any_first (leads_to (moved g)) (put (ends_stretch row) moved row)
          (walk next (at + 1) rows) (ended g row (ends_stretch row) (leads_end g row leads) leads)
      by next rest (inr later) =
          any_last (leads_to (moved g)) (put (ends_stretch row) moved row)
          (walk next (at + 1) rows) (rest later)

  pub all_moved : GoalsMoved code new 0 (numbers tt 0 0 code)
  all_moved =
      goals_moved code new (numbers tt 0 0 code) 0
      (λ k number there goal.
      subst (λ n. is_goal new n ≡ true)
      (place k number there (ap (is_goal code) (plus k) ∙ goal))
      (goals_in k tt 0 code (ap (is_goal code) (plus k) ∙ goal)))
    where
      plus : (k : ℕ) → k ≡ 0 + k
      plus k = omega arith

      place : (k number : ℕ) → slice_get (numbers tt 0 0 code) k ≡ Some number
          → is_goal code k ≡ true → moved k ≡ number
      place k number there goal =
          walks.moved_number {F = Unit {0}} {Old = Instr} {New = Instr} ends_stretch
          (is_goal code) tt step none_known no_rows with_moved_goal refl code k
          (inl (ap (is_goal code) (sym (plus k)) ∙ goal))
          ∙ ap (λ o. unwrap_or o (length (walks.walk {F = Unit {0}} {Old = Instr} {New = Instr}
          ends_stretch (is_goal code) tt step none_known no_rows with_moved_goal (λ g. g) tt 0
          code))) there
