-- What holds of rewritten stretches holds of the code.
use Rattle.std.proofs.Common.{◌≡◌, refl, sym, ap, ◌∙◌, arith, ℕ, ◌+◌, ◌≤◌, Bool, true, false}
use Rattle.std.proofs.Common.{List, [], ◌∷◌, ◌++◌}
use Rattle.std.proofs.Common.{true≢false}
use Rattle.std.specs.Prelude.{cond, count_by, Option, Some, None}
use Rattle.std.specs.Option.{option_map}
use Rattle.std.specs.List.{AllByRecursion}
use Rattle.std.proofs.lemmas.List.Sums.{sum_by-append, sum_by-cons}
use Rattle.flat_form.specs.of_row_runs.Segments.{news}
use Rattle.flat_form.specs.of_row_runs.Cut.{Stretch, all_rows, as_list, cut, cut_row, joined_to, rows_of}
use Rattle.flat_form.specs.of_row_runs.Cut.{segments_by}
use Rattle.flat_form.specs.of_node_form.declared.instructions.Instr.{Instr}
use Rattle.flat_form.specs.of_node_form.declared.instructions.Instr.TheVariants as instr
use Rattle.flat_form.specs.of_code_parts.Stretch.{ends_stretch}
use Rattle.flat_passes.specs.Rewritten.{has_goal, with_moved_goal}

-- ---- rows of which something holds
pub every_append : {X : Type 0} (P : X → Type 0) (xs ys : List X) → AllByRecursion P xs
    → AllByRecursion P ys → AllByRecursion P (xs ++ ys)
every_append P [] ys left right = right
every_append P (x ∷ xs) ys left right = (left.0, every_append P xs ys left.1 right)

-- ---- stretches that code is cut into
module _ {Row : Type 0} (ends : Row → Bool) (is_goal : ℕ → Bool) where
  pub record IsCut (stretch : Stretch Row) : Type 0 where
    pub straight : AllByRecursion (λ row. ends row ≡ false) stretch.front
    pub last : (row : Row) → stretch.last ≡ Some row → ends row ≡ true

  some_is : (row other : Row) → (let s : Option Row = Some row in s) ≡ Some other → row ≡ other
  some_is row other e = cc

  pub all_cut : (at : ℕ) (rows : List Row) → AllByRecursion IsCut (cut ends is_goal at rows)
  all_cut at [] = tt
  all_cut at (row ∷ rows) =
      by (ends row) refl (is_goal (at + 1)) (cut ends is_goal (at + 1) rows) (all_cut (at + 1) rows)
    where
      straight_one : ends row ≡ false → AllByRecursion (λ row. ends row ≡ false) (row ∷ [])
      straight_one e = (e, tt)

      joined : ends row ≡ false → (stretches : List (Stretch Row)) → AllByRecursion IsCut stretches
          → AllByRecursion IsCut (joined_to row stretches)
      joined e [] all =
          (record { straight = straight_one e; last = λ other is. absurd (by_none other is) }, tt)
        where
          by_none : (other : Row) → (let n : Option Row = None in n) ≡ Some other → ⊥
          by_none other is = cc
      joined e (stretch ∷ stretches) all =
          (record { straight = (e, all.0.straight); last = all.0.last }, all.1)

      by : (e : Bool) → ends row ≡ e → (g : Bool) (rest : List (Stretch Row))
          → AllByRecursion IsCut rest → AllByRecursion IsCut (cut_row e g row rest)
      by true is g rest all = (
        record { straight = tt; last = λ other same. ap ends (sym (some_is row other same)) ∙ is },
        all,
      )
      by false is true rest all = (
        record { straight = straight_one is; last = λ other same. absurd (none other same) },
        all,
      )
        where
          none : (other : Row) → (let n : Option Row = None in n) ≡ Some other → ⊥
          none other same = cc
      by false is false rest all = joined is rest all

-- ---- what holds of all new rows
module _ {Old New : Type 0} (P : New → Type 0) (rewrite : List Old → List New)
    (retarget : (ℕ → ℕ) → Old → New) (moved : ℕ → ℕ) where
  pub record HoldsOf (stretch : Stretch Old) : Type 0 where
    pub front : AllByRecursion P (rewrite stretch.front)
    pub last : (row : Old) → stretch.last ≡ Some row → P (retarget moved row)

  last_of : (last : Option Old) → ((row : Old) → last ≡ Some row → P (retarget moved row))
      → AllByRecursion P (as_list (option_map (retarget moved) last))
  last_of None holds = tt
  last_of (Some row) holds = (holds row refl, tt)

  pub news_hold : (stretches : List (Stretch Old)) → AllByRecursion HoldsOf stretches
      → AllByRecursion P (news (segments_by rewrite retarget moved stretches))
  news_hold [] all = tt
  news_hold (stretch ∷ stretches) all =
      every_append P (rewrite stretch.front ++ as_list (option_map (retarget moved) stretch.last))
      (news (segments_by rewrite retarget moved stretches))
      (every_append P (rewrite stretch.front)
      (as_list (option_map (retarget moved) stretch.last)) all.0.front
      (last_of stretch.last all.0.last))
      (news_hold stretches all.1)

-- ---- how much of something the new rows have, where it adds up
module _ {Old New : Type 0} (old_sum : List Old → ℕ) (new_sum : List New → ℕ)
    (old_adds : (xs ys : List Old) → old_sum (xs ++ ys) ≡ old_sum xs + old_sum ys)
    (new_adds : (xs ys : List New) → new_sum (xs ++ ys) ≡ new_sum xs + new_sum ys)
    (none : new_sum [] ≡ 0) (rewrite : List Old → List New) (retarget : (ℕ → ℕ) → Old → New)
    (moved : ℕ → ℕ) where
  pub record AtMost (stretch : Stretch Old) : Type 0 where
    pub front : new_sum (rewrite stretch.front) ≤ old_sum stretch.front
    pub last : new_sum (as_list (option_map (retarget moved) stretch.last))
        ≤ old_sum (as_list stretch.last)

  pub at_most : (stretches : List (Stretch Old)) → AllByRecursion AtMost stretches
      → new_sum (news (segments_by rewrite retarget moved stretches)) ≤ old_sum (all_rows stretches)
  at_most [] all = omega (arith, none)
  at_most (stretch ∷ stretches) all =
      omega (
        arith,
        new_adds (rewrite stretch.front ++ as_list (option_map (retarget moved) stretch.last))
            (news (segments_by rewrite retarget moved stretches)),
        new_adds (rewrite stretch.front) (as_list (option_map (retarget moved) stretch.last)),
        old_adds (rows_of stretch) (all_rows stretches),
        old_adds stretch.front (as_list stretch.last),
        all.0.front,
        all.0.last,
        at_most stretches all.1,
      )

  pub record AsMuch (stretch : Stretch Old) : Type 0 where
    pub front : new_sum (rewrite stretch.front) ≡ old_sum stretch.front
    pub last : new_sum (as_list (option_map (retarget moved) stretch.last))
        ≡ old_sum (as_list stretch.last)

  pub as_much : old_sum [] ≡ 0 → (stretches : List (Stretch Old)) → AllByRecursion AsMuch stretches
      → new_sum (news (segments_by rewrite retarget moved stretches)) ≡ old_sum (all_rows stretches)
  as_much old_none [] all = omega (arith, none, old_none)
  as_much old_none (stretch ∷ stretches) all =
      omega (
        arith,
        new_adds (rewrite stretch.front ++ as_list (option_map (retarget moved) stretch.last))
            (news (segments_by rewrite retarget moved stretches)),
        new_adds (rewrite stretch.front) (as_list (option_map (retarget moved) stretch.last)),
        old_adds (rows_of stretch) (all_rows stretches),
        old_adds stretch.front (as_list stretch.last),
        all.0.front,
        all.0.last,
        as_much old_none stretches all.1,
      )

-- ---- jumps and tests
pub count_append : {X : Type 0} (test : X → Bool) (xs ys : List X)
    → count_by test (xs ++ ys) ≡ count_by test xs + count_by test ys
count_append test xs ys = sum_by-append (λ x. cond (test x) 1 0) xs ys

-- straight rows have none
straight_row : (row : Instr) → ends_stretch row ≡ false → has_goal row ≡ false
straight_row (instr.Jump goal) e = e
straight_row (instr.Unless expr goal line) e = e
straight_row row e = refl

pub straight_count : (rows : List Instr) → AllByRecursion (λ row. ends_stretch row ≡ false) rows
    → count_by has_goal rows ≡ 0
straight_count [] all = refl
straight_count (row ∷ rows) all =
    sum_by-cons (λ row. cond (has_goal row) 1 0) row rows
    ∙ by (has_goal row) (straight_row row all.0) (straight_count rows all.1)
  where
    by : (b : Bool) → b ≡ false → count_by has_goal rows ≡ 0
        → cond b 1 0 + count_by has_goal rows ≡ 0
    by true off e = absurd (true≢false off)
    by false off e = omega (arith, e)

-- and a row is one wherever its goal is
same_goal : (moved : ℕ → ℕ) (row : Instr) → has_goal (with_moved_goal moved row) ≡ has_goal row
same_goal moved (instr.Jump goal) = refl
same_goal moved (instr.Unless expr goal line) = refl
same_goal moved row = refl

pub same_goals : (moved : ℕ → ℕ) (last : Option Instr)
    → count_by has_goal (as_list (option_map (with_moved_goal moved) last))
    ≡ count_by has_goal (as_list last)
same_goals moved None = refl
same_goals moved (Some row) = ap count (same_goal moved row)
  where
    count : Bool → ℕ
    count b = 0 + cond b 1 0
