-- All scalars are uniform but those that are accumulated, up to their folds.
use Rattle.std.proofs.Common.{◌≡◌, ◌⊎◌, inl, inr, ℕ, zero, suc, ◌+◌, ◌<◌, ◌≤◌, ◌==◌, Bool, true, false, ◌||◌, ◌&&◌, refl, sym, ap, ◌∙◌, subst, arith, true≢false}
use Rattle.std.proofs.Common.{List, [], ◌∷◌, ◌++◌, length, Contains, rules}
use Rattle.std.specs.Prelude.{Option, Some, None, filter, flat_map, map, not, slice_get, All}
use Rattle.std.specs.List.{list_all, list_any, range_with_len}
use Rattle.std.proofs.lemmas.Bool.Decides.{Decides-eqb}
use Rattle.code_parts.specs.of_zpl_nums.declared.folds.Fold.{Fold}
use Rattle.zpl_lowering.specs.of_node_form.declared.words.ExprOp.{ExprOp}
use Rattle.zpl_lowering.specs.of_node_form.declared.words.ExprOp.TheVariants as word
use Rattle.zpl_lowering.specs.of_node_form.declared.instructions.Instr.{Instr}
use Rattle.zpl_lowering.specs.of_node_form.declared.instructions.Instr.TheVariants as instr
use Rattle.zpl_lowering.specs.of_node_form.declared.tables.Tables.{Tables}
use Rattle.code_parts.specs.Uses.{accumulated, scalars_in, words_of}
use Rattle.code_parts.proofs.ListLemmas.{In, contained, filtered, from_each, from_mapped, in_append, in_back, in_front, in_list, in_mapped, one_passes, some_passes, unfiltered}
use Rattle.node_check.specs.declared.facts.Fact.{Fact}
use Rattle.node_check.specs.declared.facts.Fact.TheVariants.{Uniform}
use Rattle.node_check.specs.Learn.{changed_scalars, is_among, is_uniform, learnt, loses, made, made_where, start_facts, start_slots, tells_uniform}
use Rattle.node_check.specs.Path.{nexts}
use Rattle.sound_lowering.specs.Uniform.{AreTaken, Folds, Takes, awaited, awaited_by, awaited_behind, uniform_at}

-- ---- numbers among others
pub among : (numbers : List ℕ) (number : ℕ) → is_among numbers number ≡ true → In numbers number
among numbers number is =
    let one = one_passes (λ other. other == number) numbers is in
    subst (λ n. In numbers n) ((Decides-eqb one.x number).0 one.passes) one.there

in_range : (from n k : ℕ) → k < n → In (range_with_len from n) (from + k)
in_range from zero k below = absurd (omega (arith, below))
in_range from (suc n) zero below = inl (omega arith)
in_range from (suc n) (suc k) below =
    let same : (from + 1) + k ≡ from + suc k = omega arith in
    inr (subst (λ m. In (range_with_len (from + 1) n) m) same
    (in_range (from + 1) n k (omega (arith, below))))

pub in_all : (n k : ℕ) → k < n → In (range_with_len 0 n) k
in_all n k below =
    let same : 0 + k ≡ k = omega arith in
    subst (λ m. In (range_with_len 0 n) m) same (in_range 0 n k below)

not_true : (b : Bool) → not b ≡ true → b ≡ false
not_true true is = absurd (true≢false (sym is))
not_true false is = refl

true_or_false : (b : Bool) → (b ≡ true) ⊎ (b ≡ false)
true_or_false true = inl refl
true_or_false false = inr refl

-- ---- what stands among the facts
pub record IsKept (code : Tables) (at : ℕ) (fact : Fact) : Type 0 where
  pub scalar : ℕ
  pub is : fact ≡ Uniform scalar
  pub there : In (range_with_len 0 code.scalars) scalar
  pub free : is_among (awaited code at) scalar ≡ false

pub kept_in : (code : Tables) (at : ℕ) (fact : Fact) → In (uniform_at code at) fact
    → IsKept code at fact
kept_in code at fact h =
    let test : ℕ → Bool = λ scalar. not (is_among (awaited code at) scalar) in
    let one = from_mapped Uniform (filter test (range_with_len 0 code.scalars)) fact h in
    let two = unfiltered test (range_with_len 0 code.scalars) one.0 one.1 in
    record {
      scalar = one.0;
      is = sym one.2;
      there = two.0;
      free = not_true (is_among (awaited code at) one.0) two.1;
    }

pub in_kept : (code : Tables) (at scalar : ℕ) → In (range_with_len 0 code.scalars) scalar
    → is_among (awaited code at) scalar ≡ false → In (uniform_at code at) (Uniform scalar)
in_kept code at scalar there free =
    in_mapped Uniform
    (filter (λ scalar. not (is_among (awaited code at) scalar)) (range_with_len 0 code.scalars))
    scalar
    (filtered (λ scalar. not (is_among (awaited code at) scalar)) (range_with_len 0 code.scalars)
    scalar there (ap not free))

-- ---- in front of any row but a fold nothing is awaited
abbrev pub is_fold : Instr → Bool
is_fold (instr.Fold scalar fold) = true
is_fold one = false

folds_is : (scalar : ℕ) (one : Instr) → Folds scalar one → is_fold one ≡ false → ⊥
folds_is scalar (instr.Fold other fold) folds is = true≢false is
folds_is scalar one folds is = folds

none_taken : (scalars : List ℕ) (one : Instr) → Takes scalars (Some one) → is_fold one ≡ false
    → scalars ≡ []
none_taken [] one takes is = refl
none_taken (scalar ∷ []) one takes is = absurd (folds_is scalar one takes is)
none_taken (scalar ∷ other ∷ scalars) one takes is = absurd takes

one_taken : (scalars : List ℕ) (other : ℕ) (one : Instr) → Takes scalars (Some one)
    → ((scalar : ℕ) → Folds scalar one → scalar ≡ other) → (scalar : ℕ)
    → is_among scalars scalar ≡ true → scalar ≡ other
one_taken [] other one takes same scalar is = absurd (true≢false (sym is))
one_taken (first ∷ []) other one takes same scalar is =
    by (among (first ∷ []) scalar is)
  where
    by : In (first ∷ []) scalar → scalar ≡ other
    by (inl is) = sym is ∙ same first takes
    by (inr h) = absurd h
one_taken (first ∷ second ∷ scalars) other one takes same scalar is = absurd takes

module _ (code : Tables) (taken : AreTaken code) where
  taken_at : (at : ℕ) (one : Instr) → slice_get code.code at ≡ Some one
      → Takes (awaited code at) (Some one)
  taken_at zero one there = tt
  taken_at (suc at) one there = by (slice_get code.code at) refl
    where
      by : (before : Option Instr) → slice_get code.code at ≡ before
          → Takes (awaited_behind code before) (Some one)
      by None is = tt
      by (Some first) is =
          subst (λ next. Takes (awaited_by code first) next) there (taken at first is)

  pub calm_at : (at : ℕ) (one : Instr) → slice_get code.code at ≡ Some one
      → is_fold one ≡ false → awaited code at ≡ []
  calm_at at one there is = none_taken (awaited code at) one (taken_at at one there) is

  calm_in : (at : ℕ) (one : Instr) → slice_get code.code at ≡ Some one → is_fold one ≡ false
      → (scalar : ℕ) → In (range_with_len 0 code.scalars) scalar
      → In (uniform_at code at) (Uniform scalar)
  calm_in at one there is scalar h =
      in_kept code at scalar h (ap (λ list. is_among list scalar) (calm_at at one there is))

-- ---- behind a row
pub learnt_kept : (code : Tables) (facts : List Fact) (row : Instr) (fact : Fact) → In facts fact
    → loses code row fact ≡ false → In (learnt code facts row) fact
learnt_kept code facts row fact h none =
    in_front (filter (λ fact. not (loses code row fact)) facts) (made code facts row) fact
    (filtered (λ fact. not (loses code row fact)) facts fact h (ap not none))

pub learnt_made : (code : Tables) (facts : List Fact) (row : Instr) (fact : Fact)
    → In (made code facts row) fact → In (learnt code facts row) fact
learnt_made code facts row fact h =
    in_back (filter (λ fact. not (loses code row fact)) facts) (made code facts row) fact h

one_among : (first scalar : ℕ) → (first == scalar) ≡ false → is_among (first ∷ []) scalar ≡ false
one_among first scalar none = ap (λ b. b || false) none

made_is : (b : Bool) (fact : Fact) → b ≡ true → In (made_where b fact) fact
made_is true fact is = inl refl
made_is false fact is = absurd (true≢false (sym is))

all_tell : (facts : List Fact) (scalars : List ℕ)
    → ((scalar : ℕ) → In scalars scalar → In facts (Uniform scalar))
    → list_all (λ scalar. list_any (tells_uniform scalar) facts) scalars ≡ true
all_tell facts [] told = refl
all_tell facts (scalar ∷ scalars) told =
    both (list_any (tells_uniform scalar) facts)
    (list_all (λ scalar. list_any (tells_uniform scalar) facts) scalars)
    (some_passes (tells_uniform scalar) facts (Uniform scalar) (told scalar (inl refl))
    ((Decides-eqb scalar scalar).1 refl))
    (all_tell facts scalars (λ other h. told other (inr h)))
  where
    both : (a b : Bool) → a ≡ true → b ≡ true → (a && b) ≡ true
    both true b first rest = rest
    both false b first rest = absurd (true≢false (sym first))

-- all scalars that an expression names are there
abbrev pub NamesScalars : Tables → Type 0
NamesScalars code =
    (expr scalar : ℕ) → In (flat_map scalars_in (words_of code expr)) scalar
    → In (range_with_len 0 code.scalars) scalar

module _ (code : Tables) (taken : AreTaken code) (named : NamesScalars code) where
  -- in front of any row but a fold each expression is uniform
  pub all_uniform : (at : ℕ) (one : Instr) → slice_get code.code at ≡ Some one
      → is_fold one ≡ false → (expr : ℕ) → is_uniform code (uniform_at code at) expr ≡ true
  all_uniform at one there is expr =
      all_tell (uniform_at code at) (flat_map scalars_in (words_of code expr))
      (λ scalar h. calm_in code taken at one there is scalar (named expr scalar h))

  -- a row that changes no scalar, and isn't a fold
  still_behind : (at next : ℕ) (one : Instr) → slice_get code.code at ≡ Some one
      → is_fold one ≡ false → ((scalar : ℕ) → is_among (changed_scalars code one) scalar ≡ false)
      → (fact : Fact) → In (uniform_at code next) fact
      → In (learnt code (uniform_at code at) one) fact
  still_behind at next one there is none fact h =
      let kept = kept_in code next fact h in
      subst (λ fact. In (learnt code (uniform_at code at) one) fact) (sym kept.is)
      (learnt_kept code (uniform_at code at) one (Uniform kept.scalar)
      (calm_in code taken at one there is kept.scalar kept.there) (none kept.scalar))

  set_behind : (at next scalar expr line : ℕ)
      → slice_get code.code at ≡ Some (instr.Set scalar expr line) → (fact : Fact)
      → In (uniform_at code next) fact
      → In (learnt code (uniform_at code at) (instr.Set scalar expr line)) fact
  set_behind at next scalar expr line there fact h = by (kept_in code next fact h)
    where
      by : IsKept code next fact → In (learnt code (uniform_at code at) (instr.Set scalar expr line)) fact
      by kept =
          subst (λ fact. In (learnt code (uniform_at code at) (instr.Set scalar expr line)) fact) (sym kept.is)
          (which (true_or_false (scalar == kept.scalar)))
        where
          which : ((scalar == kept.scalar) ≡ true) ⊎ ((scalar == kept.scalar) ≡ false)
              → In (learnt code (uniform_at code at) (instr.Set scalar expr line)) (Uniform kept.scalar)
          which (inl is) =
              let same : scalar ≡ kept.scalar = (Decides-eqb scalar kept.scalar).0 is in
              learnt_made code (uniform_at code at) (instr.Set scalar expr line) (Uniform kept.scalar)
              (subst (λ s. In (made code (uniform_at code at) (instr.Set scalar expr line)) (Uniform s)) same
              (made_is (is_uniform code (uniform_at code at) expr) (Uniform scalar)
              (all_uniform at (instr.Set scalar expr line) there refl expr)))
          which (inr is) =
              learnt_kept code (uniform_at code at) (instr.Set scalar expr line) (Uniform kept.scalar)
              (calm_in code taken at (instr.Set scalar expr line) there refl kept.scalar kept.there)
              (one_among scalar kept.scalar is)

  loop_behind : (at slot group : ℕ) → slice_get code.code at ≡ Some (instr.Loop slot group)
      → (fact : Fact) → In (uniform_at code (suc at)) fact
      → In (learnt code (uniform_at code at) (instr.Loop slot group)) fact
  loop_behind at slot group there fact h =
      let kept = kept_in code (suc at) fact h in
      let one : Instr = instr.Loop slot group in
      let free : is_among (accumulated code group) kept.scalar ≡ false =
      subst (λ row. is_among (awaited_behind code row) kept.scalar ≡ false) there kept.free in
      subst (λ fact. In (learnt code (uniform_at code at) one) fact) (sym kept.is)
      (learnt_kept code (uniform_at code at) one (Uniform kept.scalar)
      (calm_in code taken at one there refl kept.scalar kept.there) free)

  fold_behind : (at next scalar : ℕ) (fold : Fold)
      → slice_get code.code at ≡ Some (instr.Fold scalar fold) → (fact : Fact)
      → In (uniform_at code next) fact
      → In (learnt code (uniform_at code at) (instr.Fold scalar fold)) fact
  fold_behind at next scalar fold there fact h = by (kept_in code next fact h)
    where
      by : IsKept code next fact → In (learnt code (uniform_at code at) (instr.Fold scalar fold)) fact
      by kept =
          subst (λ fact. In (learnt code (uniform_at code at) (instr.Fold scalar fold)) fact) (sym kept.is)
          (which (true_or_false (scalar == kept.scalar)))
        where
          free : (scalar == kept.scalar) ≡ false → (b : Bool)
              → is_among (awaited code at) kept.scalar ≡ b → b ≡ false
          free other true is =
              let same : kept.scalar ≡ scalar =
              one_taken (awaited code at) scalar (instr.Fold scalar fold) (taken_at code taken at (instr.Fold scalar fold) there)
              (λ s folds. folds) kept.scalar is in
              absurd (true≢false (sym ((Decides-eqb scalar kept.scalar).1 (sym same)) ∙ other))
          free other false is = refl

          which : ((scalar == kept.scalar) ≡ true) ⊎ ((scalar == kept.scalar) ≡ false)
              → In (learnt code (uniform_at code at) (instr.Fold scalar fold)) (Uniform kept.scalar)
          which (inl is) =
              let same : scalar ≡ kept.scalar = (Decides-eqb scalar kept.scalar).0 is in
              learnt_made code (uniform_at code at) (instr.Fold scalar fold) (Uniform kept.scalar)
              (inl (ap Uniform same))
          which (inr is) =
              learnt_kept code (uniform_at code at) (instr.Fold scalar fold) (Uniform kept.scalar)
              (in_kept code at kept.scalar kept.there
              (free is (is_among (awaited code at) kept.scalar) refl)) refl

  pub uniform_behind : (at next : ℕ) (one : Instr) → slice_get code.code at ≡ Some one
      → In (nexts at one) next → (fact : Fact) → In (uniform_at code next) fact
      → In (learnt code (uniform_at code at) one) fact
  uniform_behind at next (instr.Set scalar expr line) there leads fact h =
      set_behind at next scalar expr line there fact h
  uniform_behind at next (instr.Fold scalar fold) there leads fact h =
      fold_behind at next scalar fold there fact h
  uniform_behind at next (instr.Loop slot group) there (inl leads) fact h =
      let same : next ≡ suc at = omega (arith, leads) in
      loop_behind at slot group there fact (subst (λ n. In (uniform_at code n) fact) same h)
  uniform_behind at next (instr.Loop slot group) there (inr leads) fact h = absurd leads
  uniform_behind at next one there leads fact h =
      still_behind at next one there refl (λ scalar. refl) fact h

  pub uniform_at_start : (fact : Fact) → In (uniform_at code 0) fact → In (start_facts code) fact
  uniform_at_start fact h =
      let kept = kept_in code 0 fact h in
      subst (λ fact. In (start_facts code) fact) (sym kept.is)
      (in_front (map Uniform (range_with_len 0 code.scalars)) (start_slots 0 code.slots)
      (Uniform kept.scalar)
      (in_mapped Uniform (range_with_len 0 code.scalars) kept.scalar kept.there))
