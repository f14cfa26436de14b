-- A walk over a plan that looks for loops that could be one, past rows that may stand between them.
use Rattle.std.proofs.Common.{◌≡◌, ◌⊎◌, inl, inr, refl, sym, ap, ◌∙◌, arith, ℕ, ◌+◌, Bool, true, false}
use Rattle.std.proofs.Common.{true≢false, List, [], ◌∷◌, ◌++◌, length, append_assoc}
use Rattle.std.specs.Prelude.{◌&&◌, ◌||◌, flat_map, if◌then◌else◌, Option, None}
use Rattle.std.specs.List.{AllByRecursion}
use Rattle.std.proofs.lemmas.Grind.{flat_map-append}
use Rattle.node_form.specs.declared.instructions.Instr.{Instr}
use Rattle.node_form.specs.declared.instructions.Instr.TheVariants as instr
use Rattle.node_form.specs.declared.tables.Tables.{Tables}
use Rattle.code_parts.specs.Fused.{begins_anew, is_between_loops, last_loop}
use Rattle.code_parts.specs.Stretch.{ends_stretch, is_goal, right_from}
use Rattle.node_emit.specs.of_flat_passes.Rewritten.{with_moved_goal}
use Rattle.pass_sizes.specs.of_plan_form.Units.{PlanUnit, Exchange, Single, PlanRow, StartOf, FinishOf, Other}
use Rattle.pass_sizes.specs.of_plan_form.Units.{exchanges_in, numbered_from, unit_rows}
use Rattle.pass_sizes.proofs.of_plan_form.PassLemmas.{numbered_both}

both : (a b : Bool) → a ≡ true → b ≡ true → (a && b) ≡ true
both true b one other = other
both false b one other = one

-- ---- rows, and units, that may stand between two loops
abbrev pub IsNear : Instr → Type 0
IsNear row = is_between_loops row ≡ true

abbrev pub IsNearRow : PlanRow → Type 0
IsNearRow (StartOf items) = Unit {0}
IsNearRow (FinishOf items) = Unit {0}
IsNearRow (Other row) = is_between_loops row ≡ true

abbrev pub IsNearUnit : PlanUnit → Type 0
IsNearUnit (Exchange items) = Unit {0}
IsNearUnit (Single row) = is_between_loops row ≡ true

pub near_rows : (units : List PlanUnit) → AllByRecursion IsNearUnit units
    → AllByRecursion IsNearRow (flat_map unit_rows units)
near_rows [] near = tt
near_rows (Exchange items ∷ units) near = (tt, (tt, near_rows units near.1))
near_rows (Single row ∷ units) near = (near.0, near_rows units near.1)

pub near_numbered : (count : ℕ) (rows : List PlanRow) → AllByRecursion IsNearRow rows
    → AllByRecursion IsNear (numbered_from count rows)
near_numbered count [] near = tt
near_numbered count (StartOf items ∷ rows) near = (refl, near_numbered (count + 1) rows near.1)
near_numbered count (FinishOf items ∷ rows) near = (refl, near_numbered count rows near.1)
near_numbered count (Other row ∷ rows) near = (near.0, near_numbered count rows near.1)

-- ---- what a row becomes: rows that may stand between loops, where it may; else itself, among such
pub record IsAround (row : Instr) (units : List PlanUnit) : Type 0 where
  pub before : List PlanUnit
  pub after : List PlanUnit
  pub is : units ≡ before ++ Single row ∷ after
  pub near_before : AllByRecursion IsNearUnit before
  pub near_after : AllByRecursion IsNearUnit after

abbrev pub StepsNear : Instr → List PlanUnit → Type 0
StepsNear row units =
    ((is_between_loops row ≡ true) × AllByRecursion IsNearUnit units)
    ⊎ ((is_between_loops row ≡ false) × IsAround row units)

pub around_rows : (row : Instr) (units before after : List PlanUnit)
    → units ≡ before ++ Single row ∷ after
    → flat_map unit_rows units ≡ flat_map unit_rows before ++ Other row ∷ flat_map unit_rows after
around_rows row units before after is =
    ap (flat_map unit_rows) is ∙ flat_map-append unit_rows before (Single row ∷ after)

pub around_numbered : (row : Instr) (units before after : List PlanUnit) (more : List PlanRow)
    (count : ℕ) → units ≡ before ++ Single row ∷ after
    → (let first : List PlanRow = flat_map unit_rows before in
    let last : List PlanRow = flat_map unit_rows after in
    numbered_from count (flat_map unit_rows units ++ more)
    ≡ numbered_from count first
    ++ row ∷ (numbered_from (count + length (exchanges_in first)) last
    ++ numbered_from (count + length (exchanges_in first) + length (exchanges_in last)) more))
around_numbered row units before after more count is =
    let first = flat_map unit_rows before in
    let last = flat_map unit_rows after in
    ap (λ l. numbered_from count (l ++ more)) (around_rows row units before after is)
    ∙ (ap (numbered_from count) (append_assoc first (Other row ∷ last) more)
    ∙ (numbered_both count first (Other row ∷ (last ++ more))
    ∙ ap (λ l. numbered_from count first ++ row ∷ l)
    (numbered_both (count + length (exchanges_in first)) last more)))

pub ends_moved : (moved : ℕ → ℕ) (row : Instr)
    → ends_stretch (with_moved_goal moved row) ≡ ends_stretch row
ends_moved moved (instr.Jump goal) = refl
ends_moved moved (instr.Unless expr goal line) = refl
ends_moved moved row = refl

-- ---- what is known of loops
kept_by : (row : Instr) (last : Option (ℕ × ℕ)) → IsNear row → last_loop last row ≡ last
kept_by (instr.Vote group) last near = refl
kept_by (instr.TreeVote group) last near = refl
kept_by (instr.Start exchange) last near = refl
kept_by (instr.Finish exchange) last near = refl
kept_by _ last near = absurd (true≢false (sym near))

pub near_kept : (row : Instr) (last : Option (ℕ × ℕ)) → is_between_loops row ≡ true
    → last_loop last row ≡ last
near_kept row last near = kept_by row last near

-- nothing, or the same
abbrev pub IsLess : Option (ℕ × ℕ) → Option (ℕ × ℕ) → Type 0
IsLess known old = (known ≡ None) ⊎ (known ≡ old)

module _ (plan : Tables) where
  abbrev pub from : ℕ → Option (ℕ × ℕ) → List Instr → Bool
  from n known rows = right_from None last_loop (begins_anew plan) plan.code n known rows

  abbrev pub reset : ℕ → Option (ℕ × ℕ) → Option (ℕ × ℕ)
  reset n known = if is_goal plan.code n then None else known

  pub reset_less : (n : ℕ) (known old : Option (ℕ × ℕ)) → IsLess known old
      → IsLess (reset n known) old
  reset_less n known old less = by (is_goal plan.code n)
    where
      by : (b : Bool) → IsLess (if b then None else known) old
      by true = inl refl
      by false = less

  near_row : (n : ℕ) (known : Option (ℕ × ℕ)) (row : Instr) (more : List Instr) → IsNear row
      → from n known (row ∷ more) ≡ from (n + 1) (reset n known) more
  near_row n known (instr.Vote group) more near = refl
  near_row n known (instr.TreeVote group) more near = refl
  near_row n known (instr.Start exchange) more near = refl
  near_row n known (instr.Finish exchange) more near = refl
  near_row n known _ more near = absurd (true≢false (sym near))

  pub near_past : (rows more : List Instr) (n : ℕ) (known old : Option (ℕ × ℕ))
      → AllByRecursion IsNear rows → IsLess (reset n known) old
      → ((m : ℕ) (later : Option (ℕ × ℕ)) → m ≡ n + length rows → IsLess (reset m later) old
      → from m later more ≡ true)
      → from n known (rows ++ more) ≡ true
  near_past [] more n known old near less rest = rest n known (omega arith) less
  near_past (row ∷ rows) more n known old near less rest =
      near_row n known row (rows ++ more) near.0
      ∙ near_past rows more (n + 1) (reset n known) old near.1
      (reset_less (n + 1) (reset n known) old less)
      (λ m later place. rest m later (omega (arith, place)))

  pub near_all : (rows : List Instr) (n : ℕ) (known : Option (ℕ × ℕ)) → AllByRecursion IsNear rows
      → from n known rows ≡ true
  near_all [] n known near = refl
  near_all (row ∷ rows) n known near =
      near_row n known row rows near.0 ∙ near_all rows (n + 1) (reset n known) near.1

  none_right : (row : Instr) → begins_anew plan None row ≡ true
  none_right (instr.Loop slot group) = refl
  none_right row = refl

  pub less_right : (row : Instr) (known old : Option (ℕ × ℕ)) → IsLess known old
      → begins_anew plan old row ≡ true → begins_anew plan known row ≡ true
  less_right row known old (inl none) right =
      ap (λ k. begins_anew plan k row) none ∙ none_right row
  less_right row known old (inr same) right = ap (λ k. begins_anew plan k row) same ∙ right

  same_learnt : (row : Instr) (known old : Option (ℕ × ℕ)) → is_between_loops row ≡ false
      → last_loop known row ≡ last_loop old row
  same_learnt (instr.Vote group) known old other = absurd (true≢false other)
  same_learnt (instr.TreeVote group) known old other = absurd (true≢false other)
  same_learnt (instr.Start exchange) known old other = absurd (true≢false other)
  same_learnt (instr.Finish exchange) known old other = absurd (true≢false other)
  same_learnt row known old other = refl

  -- a row that may not stand between loops
  pub core_row : (row : Instr) (more : List Instr) (n : ℕ) (known old : Option (ℕ × ℕ))
      → ends_stretch row ≡ false → is_between_loops row ≡ false → IsLess (reset n known) old
      → begins_anew plan old row ≡ true
      → ((later : Option (ℕ × ℕ)) → IsLess (reset (n + 1) later) (last_loop old row)
      → from (n + 1) later more ≡ true)
      → from n known (row ∷ more) ≡ true
  core_row row more n known old ends other less right rest =
      ap (λ b. (b || begins_anew plan (reset n known) row)
      && from (n + 1) (if b then None else last_loop (reset n known) row) more) ends
      ∙ both (begins_anew plan (reset n known) row) _
      (less_right row (reset n known) old less right)
      (rest (last_loop (reset n known) row)
      (reset_less (n + 1) (last_loop (reset n known) row) (last_loop old row)
      (inr (same_learnt row (reset n known) old other))))

  pub end_row : (row : Instr) (more : List Instr) (n : ℕ) (known : Option (ℕ × ℕ))
      → ends_stretch row ≡ true → from (n + 1) None more ≡ true
      → from n known (row ∷ more) ≡ true
  end_row row more n known ends rest =
      ap (λ b. (b || begins_anew plan (reset n known) row)
      && from (n + 1) (if b then None else last_loop (reset n known) row) more) ends
      ∙ rest
