-- Plans that are rewritten unit by unit.
use Rattle.std.proofs.Common.{◌≡◌, refl, sym, ap, ◌∙◌, arith, ℕ, ◌+◌, ◌-◌, ◌≤◌, Bool, true, false}
use Rattle.std.proofs.Common.{List, [], ◌∷◌, length}
use Rattle.std.specs.Prelude.{cond, count_by, sum_by}
use Rattle.std.proofs.lemmas.List.Sums.{sum_by-cons}
use Rattle.row_runs.specs.Cut.{passed}
use Rattle.node_form.specs.declared.instructions.Instr.{Instr}
use Rattle.node_form.specs.declared.instructions.Instr.TheVariants as instr
use Rattle.node_form.specs.declared.tables.Tables.{Tables}
use Rattle.code_parts.specs.Counts.{count_of}
use Rattle.code_parts.specs.Stretch.{ends_stretch}
use Rattle.comm_needs.specs.of_flat_passes.Rewritten.{stretches_of}
use Rattle.comm_needs.specs.of_plan_form.Units.{PlanUnit, PlanRow, StartOf, FinishOf, Other}
use Rattle.comm_needs.specs.of_plan_form.Units.{exchanges_in, numbered_from, unit_of, unit_rows}
use Rattle.comm_needs.specs.of_plan_form.Units.{units_of}
use Rattle.comm_needs.specs.of_plan_form.Rewrite.{ended_by, rows_by, with_units}
use Rattle.pass_sizes.specs.Sizes.{IsBlind, PassesNoExchange, pair_size, pair_weight, plan_size}
use Rattle.pass_sizes.proofs.SumLemmas.{flat_sum, passed_most, passed_same, same_sum}

-- ---- weights of rows
-- a row, and an exchange where it starts
abbrev pub row_size : PlanRow → ℕ
row_size (StartOf items) = 2
row_size (FinishOf items) = 1
row_size (Other row) = 1

-- the same by pairs
abbrev pub row_pair : PlanRow → ℕ
row_pair (StartOf items) = 3
row_pair (FinishOf items) = 0
row_pair (Other row) = pair_weight row

abbrev pub row_count : (Instr → Bool) → PlanRow → ℕ
row_count test (StartOf items) = 0
row_count test (FinishOf items) = 0
row_count test (Other row) = cond (test row) 1 0

abbrev pub unit_weight : (PlanRow → ℕ) → PlanUnit → ℕ
unit_weight f unit = sum_by f (unit_rows unit)

-- ---- rows by numbers
pub laid_size : (n : ℕ) (rows : List PlanRow) →
    length (numbered_from n rows) + length (exchanges_in rows) ≡ sum_by row_size rows
laid_size n [] = refl
laid_size n (StartOf items ∷ rows) =
    omega (arith, laid_size (n + 1) rows, sum_by-cons row_size (StartOf items) rows)
laid_size n (FinishOf items ∷ rows) =
    omega (arith, laid_size n rows, sum_by-cons row_size (FinishOf items) rows)
laid_size n (Other row ∷ rows) =
    omega (arith, laid_size n rows, sum_by-cons row_size (Other row) rows)

pub laid_pairs : (n : ℕ) (rows : List PlanRow) →
    sum_by pair_weight (numbered_from n rows) ≡ sum_by row_pair rows
laid_pairs n [] = refl
laid_pairs n (StartOf items ∷ rows) =
    omega (
      arith,
      laid_pairs (n + 1) rows,
      sum_by-cons row_pair (StartOf items) rows,
      sum_by-cons pair_weight (instr.Start n) (numbered_from (n + 1) rows),
    )
laid_pairs n (FinishOf items ∷ rows) =
    omega (
      arith,
      laid_pairs n rows,
      sum_by-cons row_pair (FinishOf items) rows,
      sum_by-cons pair_weight (instr.Finish (n - 1)) (numbered_from n rows),
    )
laid_pairs n (Other row ∷ rows) =
    omega (
      arith,
      laid_pairs n rows,
      sum_by-cons row_pair (Other row) rows,
      sum_by-cons pair_weight row (numbered_from n rows),
    )

module _ (test : Instr → Bool) (none : PassesNoExchange test) where
  abbrev pub number : Instr → ℕ
  number row = cond (test row) 1 0

  pub off : (b : Bool) → b ≡ false → cond {A = ℕ} b 1 0 ≡ 0
  off true e = cc
  off false e = refl

  pub laid_count : (n : ℕ) (rows : List PlanRow) →
      count_by test (numbered_from n rows) ≡ sum_by (row_count test) rows
  laid_count n [] = refl
  laid_count n (StartOf items ∷ rows) =
      omega (
        arith,
        laid_count (n + 1) rows,
        sum_by-cons (row_count test) (StartOf items) rows,
        sum_by-cons number (instr.Start n) (numbered_from (n + 1) rows),
        off (test (instr.Start n)) (none.starts n),
      )
  laid_count n (FinishOf items ∷ rows) =
      omega (
        arith,
        laid_count n rows,
        sum_by-cons (row_count test) (FinishOf items) rows,
        sum_by-cons number (instr.Finish (n - 1)) (numbered_from n rows),
        off (test (instr.Finish (n - 1))) (none.finishes (n - 1)),
      )
  laid_count n (Other row ∷ rows) =
      omega (
        arith,
        laid_count n rows,
        sum_by-cons (row_count test) (Other row) rows,
        sum_by-cons number row (numbered_from n rows),
      )

-- ---- a pass over units
module _ (tables : Tables) (rewrite : List PlanUnit → List PlanUnit) where
  abbrev new_rows : List PlanRow
  new_rows = passed (rows_by tables rewrite) ended_by (stretches_of tables.code)

  -- what units weigh, those of a row
  abbrev pub unit_sum : (PlanUnit → ℕ) → Instr → ℕ
  unit_sum w row = sum_by w (unit_of tables row)

  units_sum : (w : PlanUnit → ℕ) (rows : List Instr) →
      sum_by w (units_of tables rows) ≡ sum_by (unit_sum w) rows
  units_sum w rows = flat_sum w (unit_of tables) rows

  pub units_most : (f : PlanRow → ℕ) (g : Instr → ℕ) →
      ((units : List PlanUnit) →
      sum_by (unit_weight f) (rewrite units) ≤ sum_by (unit_weight f) units) →
      ((row : Instr) → unit_sum (unit_weight f) row ≤ g row) →
      ((moved : ℕ → ℕ) (row : Instr) → ends_stretch row ≡ true → f (ended_by moved row) ≤ g row) →
      sum_by f new_rows ≤ sum_by g tables.code
  units_most f g few each last =
      passed_most f g (rows_by tables rewrite) ended_by
      (λ rows straight. omega (
        arith,
        flat_sum f unit_rows (rewrite (units_of tables rows)),
        few (units_of tables rows),
        units_sum (unit_weight f) rows,
        sum_most (unit_sum (unit_weight f)) g each rows,
      ))
      last tables.code
    where
      sum_most : (a b : Instr → ℕ) → ((row : Instr) → a row ≤ b row) → (rows : List Instr) →
          sum_by a rows ≤ sum_by b rows
      sum_most a b each [] = omega arith
      sum_most a b each (row ∷ rows) =
          omega (
            arith,
            each row,
            sum_most a b each rows,
            sum_by-cons a row rows,
            sum_by-cons b row rows,
          )

  pub units_same : (f : PlanRow → ℕ) (g : Instr → ℕ) →
      ((units : List PlanUnit) →
      sum_by (unit_weight f) (rewrite units) ≡ sum_by (unit_weight f) units) →
      ((row : Instr) → unit_sum (unit_weight f) row ≡ g row) →
      ((moved : ℕ → ℕ) (row : Instr) → ends_stretch row ≡ true → f (ended_by moved row) ≡ g row) →
      sum_by f new_rows ≡ sum_by g tables.code
  units_same f g few each last =
      passed_same f g (rows_by tables rewrite) ended_by
      (λ rows straight. omega (
        arith,
        flat_sum f unit_rows (rewrite (units_of tables rows)),
        few (units_of tables rows),
        units_sum (unit_weight f) rows,
        same_sum (unit_sum (unit_weight f)) g each rows,
      ))
      last tables.code

  -- ---- sizes, where exchanges don't weigh more
  row_sized : (row : Instr) → unit_sum (unit_weight row_size) row ≤ pair_weight row
  row_sized (instr.Start exchange) = omega arith
  row_sized (instr.Finish exchange) = omega arith
  row_sized row = omega arith

  row_paired : (row : Instr) → unit_sum (unit_weight row_pair) row ≤ pair_weight row
  row_paired (instr.Start exchange) = omega arith
  row_paired (instr.Finish exchange) = omega arith
  row_paired row = omega arith

  last_sized : (moved : ℕ → ℕ) (row : Instr) → ends_stretch row ≡ true →
      row_size (ended_by moved row) ≤ pair_weight row
  last_sized moved (instr.Start exchange) e = cc
  last_sized moved (instr.Finish exchange) e = cc
  last_sized moved row e = omega arith

  last_paired : (moved : ℕ → ℕ) (row : Instr) → ends_stretch row ≡ true →
      row_pair (ended_by moved row) ≤ pair_weight row
  last_paired moved (instr.Jump goal) e = omega arith
  last_paired moved (instr.Unless expr goal line) e = omega arith
  last_paired moved row e = omega arith

  pub size_most :
      ((units : List PlanUnit) →
      sum_by (unit_weight row_size) (rewrite units) ≤ sum_by (unit_weight row_size) units) →
      plan_size (with_units rewrite tables) ≤ pair_size tables
  size_most few =
      omega (
        arith,
        laid_size 0 new_rows,
        units_most row_size pair_weight few row_sized last_sized,
      )

  pub pair_most :
      ((units : List PlanUnit) →
      sum_by (unit_weight row_pair) (rewrite units) ≤ sum_by (unit_weight row_pair) units) →
      pair_size (with_units rewrite tables) ≤ pair_size tables
  pair_most few =
      omega (
        arith,
        laid_pairs 0 new_rows,
        units_most row_pair pair_weight few row_paired last_paired,
      )

  -- ---- counts
  module _ (test : Instr → Bool) (none : PassesNoExchange test) (blind : IsBlind test) where
    row_counted : (row : Instr) →
        unit_sum (unit_weight (row_count test)) row ≡ cond (test row) 1 0
    row_counted (instr.Start exchange) =
        sym (off test none (test (instr.Start exchange)) (none.starts exchange))
    row_counted (instr.Finish exchange) =
        sym (off test none (test (instr.Finish exchange)) (none.finishes exchange))
    row_counted row = omega arith

    last_counted : (moved : ℕ → ℕ) (row : Instr) → ends_stretch row ≡ true →
        row_count test (ended_by moved row) ≡ cond (test row) 1 0
    last_counted moved row e = ap {B = ℕ} (λ b. cond b 1 0) (blind.goals moved row)

    pub count_same :
        ((units : List PlanUnit) →
        sum_by (unit_weight (row_count test)) (rewrite units)
        ≡ sum_by (unit_weight (row_count test)) units) →
        count_of test (with_units rewrite tables) ≡ count_of test tables
    count_same few =
        laid_count test none 0 new_rows
        ∙ units_same (row_count test) (λ row. cond (test row) 1 0) few row_counted last_counted
