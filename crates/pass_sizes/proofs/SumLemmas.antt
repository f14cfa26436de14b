-- Sums over the rows of a pass, and over lists of lists.
use Rattle.std.proofs.Common.{◌≡◌, refl, subst, arith, ℕ, ◌+◌, ◌≤◌, Bool, true, false}
use Rattle.std.proofs.Common.{List, [], ◌∷◌, map}
use Rattle.std.specs.Prelude.{cond, flat_map, filter, sum_by, Option, Some, None}
use Rattle.std.specs.Option.{option_map}
use Rattle.std.specs.List.{AllByRecursion}
use Rattle.std.proofs.lemmas.List.Sums.{sum_by-append, sum_by-cons}
use Rattle.row_runs.specs.Cut.{Stretch, as_list, moved_by, passed}
use Rattle.row_runs.proofs.CutLemmas.{cut_rows}
use Rattle.node_form.specs.declared.instructions.Instr.{Instr}
use Rattle.code_parts.specs.Stretch.{ends_stretch, is_goal}
use Rattle.comm_needs.specs.of_flat_passes.Rewritten.{stretches_of}
use Rattle.comm_needs.proofs.of_flat_passes.StretchLemmas.{AsMuch, AtMost, IsCut, all_cut, as_much, at_most}

-- ---- lists
pub flat_sum : {X Y : Type 0} (f : Y → ℕ) (h : X → List Y) (xs : List X) →
    sum_by f (flat_map h xs) ≡ sum_by (λ x. sum_by f (h x)) xs
flat_sum f h [] = refl
flat_sum f h (x ∷ xs) =
    omega (
      arith,
      sum_by-append f (h x) (flat_map h xs),
      flat_sum f h xs,
      sum_by-cons (λ x. sum_by f (h x)) x xs,
    )

pub map_sum : {X Y : Type 0} (f : Y → ℕ) (h : X → Y) (xs : List X) →
    sum_by f (map h xs) ≡ sum_by (λ x. f (h x)) xs
map_sum f h [] = refl
map_sum f h (x ∷ xs) =
    omega (
      arith,
      sum_by-cons f (h x) (map h xs),
      map_sum f h xs,
      sum_by-cons (λ x. f (h x)) x xs,
    )

pub same_sum : {X : Type 0} (f g : X → ℕ) → ((x : X) → f x ≡ g x) → (xs : List X) →
    sum_by f xs ≡ sum_by g xs
same_sum f g each [] = refl
same_sum f g each (x ∷ xs) =
    omega (arith, each x, same_sum f g each xs, sum_by-cons f x xs, sum_by-cons g x xs)

pub zero_sum : {X : Type 0} (xs : List X) → sum_by (λ x. 0) xs ≡ 0
zero_sum [] = refl
zero_sum (x ∷ xs) = omega (arith, zero_sum xs, sum_by-cons (λ x. 0) x xs)

pub two_sums : {X : Type 0} (f g : X → ℕ) (xs : List X) →
    sum_by (λ x. f x + g x) xs ≡ sum_by f xs + sum_by g xs
two_sums f g [] = refl
two_sums f g (x ∷ xs) =
    omega (
      arith,
      two_sums f g xs,
      sum_by-cons (λ x. f x + g x) x xs,
      sum_by-cons f x xs,
      sum_by-cons g x xs,
    )

pub filter_sum : {X : Type 0} (f : X → ℕ) (test : X → Bool) (xs : List X) →
    sum_by f (filter test xs) ≤ sum_by f xs
filter_sum f test [] = omega arith
filter_sum f test (x ∷ xs) = by (test x) (filter_sum f test xs)
  where
    by : (b : Bool) → sum_by f (filter test xs) ≤ sum_by f xs →
        sum_by f (cond b (x ∷ filter test xs) (filter test xs)) ≤ sum_by f (x ∷ xs)
    by true rest =
        omega (arith, rest, sum_by-cons f x (filter test xs), sum_by-cons f x xs)
    by false rest = omega (arith, rest, sum_by-cons f x xs)

-- ---- a pass: its rows weigh no more than the old ones, stretch by stretch
abbrev pub AreStraight : List Instr → Type 0
AreStraight rows = AllByRecursion (λ row. ends_stretch row ≡ false) rows

module _ {New : Type 0} (f : New → ℕ) (g : Instr → ℕ) (rewrite : List Instr → List New)
    (retarget : (ℕ → ℕ) → Instr → New) where
  module _ (front : (rows : List Instr) → AreStraight rows →
      sum_by f (rewrite rows) ≤ sum_by g rows)
      (last : (moved : ℕ → ℕ) (row : Instr) → ends_stretch row ≡ true →
      f (retarget moved row) ≤ g row) where
    last_most : (moved : ℕ → ℕ) (o : Option Instr) →
        ((row : Instr) → o ≡ Some row → ends_stretch row ≡ true) →
        sum_by f (as_list (option_map (retarget moved) o)) ≤ sum_by g (as_list o)
    last_most moved None is = omega arith
    last_most moved (Some row) is =
        omega (
          arith,
          last moved row (is row refl),
          sum_by-cons f (retarget moved row) [],
          sum_by-cons g row [],
        )

    all_most : (code : List Instr) (moved : ℕ → ℕ) (stretches : List (Stretch Instr)) →
        AllByRecursion (IsCut ends_stretch (is_goal code)) stretches →
        AllByRecursion (AtMost (sum_by g) (sum_by f) (sum_by-append g) (sum_by-append f) refl
        rewrite retarget moved) stretches
    all_most code moved [] are = tt
    all_most code moved (stretch ∷ stretches) are = (
      record {
        front = front stretch.front are.0.straight;
        last = last_most moved stretch.last are.0.last;
      },
      all_most code moved stretches are.1,
    )

    pub passed_most : (code : List Instr) →
        sum_by f (passed rewrite retarget (stretches_of code)) ≤ sum_by g code
    passed_most code =
        let moved = moved_by rewrite retarget (stretches_of code) in
        subst (λ rows. sum_by f (passed rewrite retarget (stretches_of code)) ≤ sum_by g rows)
        (cut_rows ends_stretch (is_goal code) 0 code)
        (at_most (sum_by g) (sum_by f) (sum_by-append g) (sum_by-append f) refl rewrite retarget
        moved (stretches_of code)
        (all_most code moved (stretches_of code) (all_cut ends_stretch (is_goal code) 0 code)))

  module _ (front : (rows : List Instr) → AreStraight rows →
      sum_by f (rewrite rows) ≡ sum_by g rows)
      (last : (moved : ℕ → ℕ) (row : Instr) → ends_stretch row ≡ true →
      f (retarget moved row) ≡ g row) where
    last_same : (moved : ℕ → ℕ) (o : Option Instr) →
        ((row : Instr) → o ≡ Some row → ends_stretch row ≡ true) →
        sum_by f (as_list (option_map (retarget moved) o)) ≡ sum_by g (as_list o)
    last_same moved None is = refl
    last_same moved (Some row) is =
        omega (
          arith,
          last moved row (is row refl),
          sum_by-cons f (retarget moved row) [],
          sum_by-cons g row [],
        )

    all_same : (code : List Instr) (moved : ℕ → ℕ) (stretches : List (Stretch Instr)) →
        AllByRecursion (IsCut ends_stretch (is_goal code)) stretches →
        AllByRecursion (AsMuch (sum_by g) (sum_by f) (sum_by-append g) (sum_by-append f) refl
        rewrite retarget moved) stretches
    all_same code moved [] are = tt
    all_same code moved (stretch ∷ stretches) are = (
      record {
        front = front stretch.front are.0.straight;
        last = last_same moved stretch.last are.0.last;
      },
      all_same code moved stretches are.1,
    )

    pub passed_same : (code : List Instr) →
        sum_by f (passed rewrite retarget (stretches_of code)) ≡ sum_by g code
    passed_same code =
        let moved = moved_by rewrite retarget (stretches_of code) in
        subst (λ rows. sum_by f (passed rewrite retarget (stretches_of code)) ≡ sum_by g rows)
        (cut_rows ends_stretch (is_goal code) 0 code)
        (as_much (sum_by g) (sum_by f) (sum_by-append g) (sum_by-append f) refl rewrite retarget
        moved refl (stretches_of code)
        (all_same code moved (stretches_of code) (all_cut ends_stretch (is_goal code) 0 code)))
