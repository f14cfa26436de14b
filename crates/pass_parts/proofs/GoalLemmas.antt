-- Goals of a flat program that is written anew, and its groups by their new numbers.
use Rattle.std.proofs.Common.{◌≡◌, ◌⊎◌, inl, inr, refl, sym, ap, ◌∙◌, subst, arith, ℕ, suc}
use Rattle.std.proofs.Common.{◌+◌, Bool, true, false, true≢false, List, [], ◌∷◌, ◌++◌, length}
use Rattle.std.specs.Prelude.{◌||◌, Some, slice_get, unwrap_or}
use Rattle.std.specs.List.{list_any}
use Rattle.std.proofs.lemmas.Bool.Decides.{Decides-eqb}
use Rattle.std.proofs.lemmas.List.Folds.{list_any-append}
use Rattle.node_form.specs.declared.members.Member.{Member}
use Rattle.node_form.specs.declared.instructions.Instr.{Instr}
use Rattle.node_form.specs.declared.instructions.Instr.TheVariants as instr
use Rattle.node_form.specs.declared.tables.Tables.{Tables}
use Rattle.row_runs.specs.Cut.{moved_by}
use Rattle.code_parts.specs.Stretch.{ends_stretch, is_goal, leads_to}
use Rattle.code_parts.specs.Uses.{members_of, rows_or_none}
use Rattle.node_emit.specs.of_flat_passes.Rewritten.{stretches_of, with_moved_goal}
use Rattle.node_emit.specs.of_flat_passes.Grouped.{Grouped, Plain, all_numbered, ended_by, groups_of}
use Rattle.node_emit.proofs.of_flat_passes.DraftLemmas.{numbered_both}
use Rattle.pass_sizes.proofs.of_plan_form.WalkLemmas as walks
use Rattle.pass_sizes.proofs.of_comm_combine.ReachLemmas.{GoalsMoved}

either_left : (a b : Bool) → a ≡ true → (a || b) ≡ true
either_left true b e = refl
either_left false b e = absurd (true≢false (sym e))

either_right : (a b : Bool) → b ≡ true → (a || b) ≡ true
either_right true b e = refl
either_right false b e = e

one_of : (a b : Bool) → (a || b) ≡ true → (a ≡ true) ⊎ (b ≡ true)
one_of true b e = inl refl
one_of false b e = inr e

-- ---- a group by its number
pub group_there : (tables : Tables) (before more : List (List Member)) (group : List Member) (n : ℕ)
    → tables.groups ≡ before ++ group ∷ more → length before ≡ n → members_of tables n ≡ group
group_there tables before more group n is size =
    ap (λ list. rows_or_none (slice_get list n)) is
    ∙ (ap (λ k. rows_or_none (slice_get (before ++ group ∷ more) k)) (sym size)
    ∙ ap rows_or_none (there before))
  where
    there : (before : List (List Member))
        → slice_get (before ++ group ∷ more) (length before) ≡ Some group
    there [] = refl
    there (one ∷ before) = there before

-- ---- goals by their new numbers
pub goals_moved : (old new : List Instr) (numbers : List ℕ) (at : ℕ)
    → ((k number : ℕ) → slice_get numbers k ≡ Some number → is_goal old (at + k) ≡ true
    → is_goal new number ≡ true)
    → GoalsMoved old new at numbers
goals_moved old new [] at each = tt
goals_moved old new (number ∷ numbers) at each = (
  λ goal. each 0 number refl (ap (is_goal old) none ∙ goal),
  goals_moved old new numbers (at + 1) (λ k other there goal.
      each (suc k) other there (ap (is_goal old) (more k) ∙ goal)),
)
  where
    none : at + 0 ≡ at
    none = omega arith

    more : (k : ℕ) → at + suc k ≡ at + 1 + k
    more k = omega arith

-- ---- a pass
module _ {F : Type 0} (tables : Tables) (nothing : F) (step : F → Instr → List Grouped)
    (learn : F → Instr → F) (close : F → List Grouped) (none : close nothing ≡ []) where
  abbrev closed : F → List Instr → List Grouped
  closed = walks.closed {F = F} {Old = Instr} {New = Grouped} ends_stretch (is_goal tables.code)
      nothing step learn close ended_by

  abbrev pub moved : ℕ → ℕ
  moved = moved_by (closed nothing) ended_by (stretches_of tables.code)

  abbrev pub walk : F → ℕ → List Instr → List Grouped
  walk facts at rows =
      walks.walk {F = F} {Old = Instr} {New = Grouped} ends_stretch (is_goal tables.code) nothing
      step learn close ended_by moved facts at rows

  abbrev pub numbers : F → ℕ → ℕ → List Instr → List ℕ
  numbers facts at n rows =
      walks.numbers {F = F} {Old = Instr} {New = Grouped} ends_stretch (is_goal tables.code)
      nothing step learn close ended_by facts at n rows

  abbrev pub put : Bool → (ℕ → ℕ) → F → Instr → List Grouped
  put = walks.put {F = F} {Old = Instr} {New = Grouped} ends_stretch (is_goal tables.code) nothing
      step learn close ended_by

  abbrev pub known : Bool → F → F
  known = walks.known {F = F} {Old = Instr} {New = Grouped} ends_stretch (is_goal tables.code)
      nothing step learn close ended_by

  abbrev pub learnt : Bool → F → Instr → F
  learnt = walks.learnt {F = F} {Old = Instr} {New = Grouped} ends_stretch (is_goal tables.code)
      nothing step learn close ended_by

  abbrev pub in_front : Bool → F → List Grouped
  in_front = walks.in_front {F = F} {Old = Instr} {New = Grouped} ends_stretch
      (is_goal tables.code) nothing step learn close ended_by

  abbrev pub new : List Grouped
  new = walk nothing 0 tables.code

  -- ---- jumps lead to where their goals have come to stand
  leads_moved : (g : ℕ) (row : Instr) → leads_to g row ≡ true
      → leads_to (moved g) (with_moved_goal moved row) ≡ true
  leads_moved g (instr.Jump goal) leads =
      (Decides-eqb (moved goal) (moved g)).1 (ap moved ((Decides-eqb goal g).0 leads))
  leads_moved g (instr.Unless expr goal line) leads =
      (Decides-eqb (moved goal) (moved g)).1 (ap moved ((Decides-eqb goal g).0 leads))
  leads_moved g row leads = absurd (true≢false (sym leads))

  leads_end : (g : ℕ) (row : Instr) → leads_to g row ≡ true → ends_stretch row ≡ true
  leads_end g (instr.Jump goal) leads = refl
  leads_end g (instr.Unless expr goal line) leads = refl
  leads_end g row leads = absurd (true≢false (sym leads))

  any_first : (test : Instr → Bool) (n : ℕ) (xs ys : List Grouped)
      → list_any test (all_numbered n xs) ≡ true
      → list_any test (all_numbered n (xs ++ ys)) ≡ true
  any_first test n xs ys there =
      ap (list_any test) (numbered_both n xs ys)
      ∙ (list_any-append test (all_numbered n xs)
      (all_numbered (n + length (groups_of xs)) ys)
      ∙ either_left (list_any test (all_numbered n xs)) _ there)

  any_last : (test : Instr → Bool) (n : ℕ) (xs ys : List Grouped)
      → ((k : ℕ) → list_any test (all_numbered k ys) ≡ true)
      → list_any test (all_numbered n (xs ++ ys)) ≡ true
  any_last test n xs ys there =
      ap (list_any test) (numbered_both n xs ys)
      ∙ (list_any-append test (all_numbered n xs)
      (all_numbered (n + length (groups_of xs)) ys)
      ∙ either_right (list_any test (all_numbered n xs)) _
      (there (n + length (groups_of xs))))

  -- a row that leads to the goal
  ended : (g : ℕ) (row : Instr) (facts : F) (e : Bool) → e ≡ true → leads_to g row ≡ true → (k : ℕ)
      → list_any (leads_to (moved g)) (all_numbered k (put e moved facts row)) ≡ true
  ended g row facts true is leads k =
      any_last (leads_to (moved g)) k (close facts) (Plain (with_moved_goal moved row) ∷ [])
      (λ j. either_left (leads_to (moved g) (with_moved_goal moved row)) false
      (leads_moved g row leads))
  ended g row facts false is leads k = absurd (true≢false (sym is))

  goals_in : (g : ℕ) (facts : F) (at : ℕ) (rows : List Instr) (n : ℕ)
      → list_any (leads_to g) rows ≡ true
      → list_any (leads_to (moved g)) (all_numbered n (walk facts at rows)) ≡ true
  goals_in g facts at [] n any = absurd (true≢false (sym any))
  goals_in g facts at (row ∷ rows) n any =
      let now = known (is_goal tables.code at) facts in
      let next = learnt (ends_stretch row) now row in
      any_last (leads_to (moved g)) n (in_front (is_goal tables.code at) facts)
      (put (ends_stretch row) moved now row ++ walk next (at + 1) rows)
      (λ k. by now next k (λ later j. goals_in g next (at + 1) rows j later)
      (one_of (leads_to g row) _ any))
    where
      by : (now next : F) (k : ℕ)
          → (list_any (leads_to g) rows ≡ true → (j : ℕ)
          → list_any (leads_to (moved g)) (all_numbered j (walk next (at + 1) rows)) ≡ true)
          → (leads_to g row ≡ true) ⊎ (list_any (leads_to g) rows ≡ true)
          → list_any (leads_to (moved g)) (all_numbered k
          (put (ends_stretch row) moved now row ++ walk next (at + 1) rows)) ≡ true
      by now next k rest (inl leads) =
          any_first (leads_to (moved g)) k (put (ends_stretch row) moved now row)
          (walk next (at + 1) rows)
          (ended g row now (ends_stretch row) (leads_end g row leads) leads k)
      by now next k rest (inr later) =
          any_last (leads_to (moved g)) k (put (ends_stretch row) moved now row)
          (walk next (at + 1) rows) (λ j. rest later j)

  -- ---- so goals are goals still
  pub all_moved : GoalsMoved tables.code (all_numbered 0 new) 0 (numbers nothing 0 0 tables.code)
  all_moved =
      goals_moved tables.code (all_numbered 0 new) (numbers nothing 0 0 tables.code) 0
      (λ k number there goal.
      subst (λ n. is_goal (all_numbered 0 new) n ≡ true)
      (place k number there (ap (is_goal tables.code) (plus k) ∙ goal))
      (goals_in k nothing 0 tables.code 0 (ap (is_goal tables.code) (plus k) ∙ goal)))
    where
      plus : (k : ℕ) → k ≡ 0 + k
      plus k = omega arith

      place : (k number : ℕ) → slice_get (numbers nothing 0 0 tables.code) k ≡ Some number
          → is_goal tables.code k ≡ true → moved k ≡ number
      place k number there goal =
          walks.moved_number {F = F} {Old = Instr} {New = Grouped} ends_stretch
          (is_goal tables.code) nothing step learn close ended_by none tables.code k
          (inl (ap (is_goal tables.code) (sym (plus k)) ∙ goal))
          ∙ ap (λ o. unwrap_or o (length (walks.walk {F = F} {Old = Instr} {New = Grouped}
          ends_stretch (is_goal tables.code) nothing step learn close ended_by (λ g. g) nothing 0
          tables.code))) there
