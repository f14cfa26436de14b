-- What is told of statements.
use Rattle.std.proofs.Common.{◌≡◌, ℕ, zero, suc, ◌+◌, ◌<◌, ◌≤◌, length, get_or, drop, map, Bool, true, false, not, ◌&&◌, ◌==◌, cond, Some, None, List, [], ◌∷◌, ◌++◌, refl, sym, ◌∙◌, ap, arith, eqb-true}
use Rattle.std.proofs.lemmas.List.{drop_all, drop_more}
use Rattle.zpl_tree.specs.Syntax as plain
use Rattle.zpl_tree.specs.View.{arms_of, expr_of, prefix_of}
use Rattle.zpl_tree.specs.declared.statements.Arm.{Arm, out-Arm}
use Rattle.zpl_tree.specs.declared.statements.Prefix.{Prefix}
use Rattle.zpl_tree.proofs.Views.{arm_of-parts}
use Rattle.name_kinds.specs.of_zpl_names.Accepted as kind
use Rattle.name_kinds.specs.of_zpl_names.Kinds.{Rank}
use Rattle.name_kinds.specs.of_zpl_names.Ranks.{first_rank}
use Rattle.name_kinds.specs.of_zpl_names.Faults.{at_if, broken_arms, broken_test, has_prefix}
use Rattle.name_kinds.specs.of_zpl_names.Sites.{Reach, arms_rank, test_rank}
use Rattle.site_faults.specs.Findings.{State, tells}
use Rattle.site_faults.proofs.FindingLemmas.{tells-append, tells-none}

first-assoc : (one two three : Rank) →
    first_rank (first_rank one two) three ≡ first_rank one (first_rank two three)
first-assoc None two three = refl
first-assoc (Some zero) two three = refl
first-assoc (Some (suc one)) two three = refl

first-last : (rank : Rank) → first_rank rank (Some 0) ≡ rank
first-last None = refl
first-last (Some zero) = refl
first-last (Some (suc rank)) = refl

arms-cons : (reach : Reach) (arm : Arm) (rest : List Arm) →
    arms_rank reach (arms_of (arm ∷ rest)) ≡
    first_rank (test_rank reach (expr_of (out-Arm arm).test.now)) (arms_rank reach (arms_of rest))
arms-cons reach arm rest =
    ap (λ arm. arms_rank reach (plain.ThenArm arm (arms_of rest))) (arm_of-parts arm)

pub arms-step : (reach : Reach) (rank now test : Rank) (xs : List Arm) (k : ℕ) (d : Arm)
    (whole : Rank) → k < length xs →
    test ≡ test_rank reach (expr_of (out-Arm (get_or xs k d)).test.now) →
    now ≡ first_rank rank test →
    first_rank rank (arms_rank reach (arms_of (drop k xs))) ≡ whole →
    first_rank now (arms_rank reach (arms_of (drop (k + 1) xs))) ≡ whole
arms-step reach rank now test xs k d whole less tested next invariant =
    let rest = drop (k + 1) xs in
    ap (λ now. first_rank now (arms_rank reach (arms_of rest)))
    (next ∙ ap (first_rank rank) tested) ∙
    first-assoc rank (test_rank reach (expr_of (out-Arm (get_or xs k d)).test.now))
    (arms_rank reach (arms_of rest)) ∙
    ap (first_rank rank)
    (sym (arms-cons reach (get_or xs k d) rest) ∙
    ap (λ xs. arms_rank reach (arms_of xs)) (sym (drop_more xs k d less))) ∙
    invariant

pub arms-end : (reach : Reach) (rank whole : Rank) (xs : List Arm) (k : ℕ) → length xs ≤ k →
    first_rank rank (arms_rank reach (arms_of (drop k xs))) ≡ whole → rank ≡ whole
arms-end reach rank whole xs k end invariant =
    sym (first-last rank) ∙
    ap (λ xs. first_rank rank (arms_rank reach (arms_of xs))) (sym (drop_all k xs end)) ∙ invariant

broken-cons : (reach : Reach) (rank : Rank) (arm : Arm) (rest : List Arm) →
    broken_arms reach rank (arms_of (arm ∷ rest)) ≡
    broken_test reach rank (expr_of (out-Arm arm).test.now) ++
    broken_arms reach rank (arms_of rest)
broken-cons reach rank arm rest =
    ap (λ arm. broken_arms reach rank (plain.ThenArm arm (arms_of rest))) (arm_of-parts arm)

pub broken-step : (reach : Reach) (rank : Rank) (xs : List Arm) (k : ℕ) (d : Arm)
    (old new whole : State) → k < length xs →
    new ≡ tells kind.ShatterBody
    (broken_test reach rank (expr_of (out-Arm (get_or xs k d)).test.now)) old →
    tells kind.ShatterBody (broken_arms reach rank (arms_of (drop k xs))) old ≡ whole →
    tells kind.ShatterBody (broken_arms reach rank (arms_of (drop (k + 1) xs))) new ≡ whole
broken-step reach rank xs k d old new whole less told invariant =
    let rest = drop (k + 1) xs in
    ap (tells kind.ShatterBody (broken_arms reach rank (arms_of rest))) told ∙
    sym
    (tells-append kind.ShatterBody
    (broken_test reach rank (expr_of (out-Arm (get_or xs k d)).test.now))
    (broken_arms reach rank (arms_of rest)) old) ∙
    ap (λ places. tells kind.ShatterBody places old)
    (sym (broken-cons reach rank (get_or xs k d) rest) ∙
    ap (λ xs. broken_arms reach rank (arms_of xs)) (sym (drop_more xs k d less))) ∙
    invariant

pub broken-end : (reach : Reach) (rank : Rank) (xs : List Arm) (k : ℕ) (old whole : State) →
    length xs ≤ k →
    tells kind.ShatterBody (broken_arms reach rank (arms_of (drop k xs))) old ≡ whole → old ≡ whole
broken-end reach rank xs k old whole end invariant =
    sym (tells-none kind.ShatterBody old) ∙
    ap (λ xs. tells kind.ShatterBody (broken_arms reach rank (arms_of xs)) old)
    (sym (drop_all k xs end)) ∙ invariant

-- a statement with these prefixes
pub prefix-there : (prefixes : List Prefix) →
    not (length prefixes == 0) ≡ has_prefix (map prefix_of prefixes)
prefix-there [] = refl
prefix-there (prefix ∷ rest) = by (length (prefix ∷ rest) == 0) refl
  where
    by : (b : Bool) → (length (prefix ∷ rest) == 0) ≡ b → not b ≡ true
    by true e = let none = eqb-true (length (prefix ∷ rest)) 0 e in absurd (omega arith)
    by false e = refl

pub broken-told : (inside there breaks : Bool) (at : ℕ) (old mid new : State) →
    mid ≡ tells kind.ShatterBody (at_if (inside && there) at) old →
    new ≡ tells kind.ShatterBody (at_if (inside && breaks) at) mid →
    new ≡ tells kind.ShatterBody (cond inside (at_if there at ++ at_if breaks at) []) old
broken-told true there breaks at old mid new one two =
    two ∙ ap (tells kind.ShatterBody (at_if breaks at)) one ∙
    sym (tells-append kind.ShatterBody (at_if there at) (at_if breaks at) old)
broken-told false there breaks at old mid new one two =
    two ∙ ap (tells kind.ShatterBody []) one ∙
    tells-none kind.ShatterBody (tells kind.ShatterBody [] old)
