-- The values of expressions in counted code.
use Rattle.std.proofs.Common.{◌≡◌, refl, ◌∙◌, ap, ℕ, Bool}
use Rattle.std.proofs.Common.{true, false, List, [], ◌∷◌}
use Rattle.std.proofs.Common.{pos, ℤ}
use Rattle.std.specs.Prelude.{Some, slice_get, ◌&&◌, ◌||◌}
use Rattle.std.specs.Prelude.{nat_lt, nat_le, int_lt, int_le}
use Rattle.std.specs.Ordering.{int_eq}
use Rattle.std.proofs.lemmas.Bool.Decides.{Decides-int_eq}
use Rattle.zpl_nums.specs.Integer.{is_true, truth}
use Rattle.zpl_nums.specs.declared.operators.Op.{Op}
use Rattle.zpl_nums.specs.declared.operators.Op.TheVariants as op
use Rattle.node_form.specs.declared.words.ExprOp.{ExprOp}
use Rattle.node_form.specs.declared.words.ExprOp.TheVariants as word
use Rattle.node_form.specs.Value.{Computed, Gives, Divides, Lacks, Operands, and_then}
use Rattle.node_form.specs.Value.{evaluated, mapped, only_value, read}
use Rattle.node_form.specs.Value.{pushed, value_of}
use Rattle.node_form.proofs.ValueLemmas.{evaluated-append}
use Rattle.counted_code.specs.Counted.{until_words, while_words, equal_words}

-- a value, and a test behind it
abbrev pub tested_by : (Bool → Bool) → Computed ℤ → Computed ℤ
tested_by test value = mapped (λ v. truth (test (is_true v))) value

module _ (operands : Operands) (cell count n : ℕ)
    (here : slice_get operands.cells cell ≡ Some (pos count)) where
  abbrev test_words : Op → Op → List ExprOp
  test_words one other = word.Cell cell ∷ word.Const (pos n) ∷ word.Pair one ∷ word.Pair other ∷ []

  -- with a value on the stack
  abbrev behind_value : Op → Op → Computed (List ℤ) → Computed ℤ
  behind_value one other value =
      and_then only_value (and_then (evaluated operands (test_words one other)) value)

  evaluated_cell : (one other : Op) (stack : List ℤ)
      → evaluated operands (test_words one other) stack
      ≡ evaluated operands (word.Pair one ∷ word.Pair other ∷ []) (pos n ∷ pos count ∷ stack)
  evaluated_cell one other stack =
      ap (λ o. and_then (evaluated operands
      (word.Const (pos n) ∷ word.Pair one ∷ word.Pair other ∷ []))
      (pushed stack (read o))) here

  while_by : (o : Computed (List ℤ))
      → behind_value op.Lt op.And o
      ≡ tested_by (λ b. b && is_true (truth (int_lt (pos count) (pos n)))) (and_then only_value o)
  while_by Divides = refl
  while_by Lacks = refl
  while_by (Gives []) = ap (and_then only_value) (evaluated_cell op.Lt op.And [])
  while_by (Gives (v ∷ [])) = ap (and_then only_value) (evaluated_cell op.Lt op.And (v ∷ []))
  while_by (Gives (v ∷ w ∷ stack)) =
      ap (and_then only_value) (evaluated_cell op.Lt op.And (v ∷ w ∷ stack))

  until_by : (o : Computed (List ℤ))
      → behind_value op.Ge op.Or o
      ≡ tested_by (λ b. b || is_true (truth (int_le (pos n) (pos count)))) (and_then only_value o)
  until_by Divides = refl
  until_by Lacks = refl
  until_by (Gives []) = ap (and_then only_value) (evaluated_cell op.Ge op.Or [])
  until_by (Gives (v ∷ [])) = ap (and_then only_value) (evaluated_cell op.Ge op.Or (v ∷ []))
  until_by (Gives (v ∷ w ∷ stack)) =
      ap (and_then only_value) (evaluated_cell op.Ge op.Or (v ∷ w ∷ stack))

  pub while_value : (words : List ExprOp)
      → value_of operands (while_words cell n words)
      ≡ tested_by (λ b. b && is_true (truth (int_lt (pos count) (pos n)))) (value_of operands words)
  while_value words =
      ap (and_then only_value) (evaluated-append operands words (test_words op.Lt op.And) [])
      ∙ while_by (evaluated operands words [])

  pub until_value : (words : List ExprOp)
      → value_of operands (until_words cell n words)
      ≡ tested_by (λ b. b || is_true (truth (int_le (pos n) (pos count)))) (value_of operands words)
  until_value words =
      ap (and_then only_value) (evaluated-append operands words (test_words op.Ge op.Or) [])
      ∙ until_by (evaluated operands words [])

  pub equal_value : (k : ℕ)
      → value_of operands (equal_words cell k) ≡ Gives (truth (int_eq (pos count) (pos k)))
  equal_value k =
      ap (λ o. and_then only_value
      (and_then (evaluated operands (word.Const (pos k) ∷ word.Pair op.Eq ∷ []))
      (pushed [] (read o)))) here

-- ---- tests of numbers
truth_true : (b : Bool) → is_true (truth b) ≡ b
truth_true true = refl
truth_true false = refl

pub below_is : (a b : ℕ) → is_true (truth (int_lt (pos a) (pos b))) ≡ nat_lt a b
below_is a b = truth_true (int_lt (pos a) (pos b))

pub most_is : (a b : ℕ) → is_true (truth (int_le (pos a) (pos b))) ≡ nat_le a b
most_is a b = truth_true (int_le (pos a) (pos b))

pub equal_is : (a b : ℕ) → a ≡ b → is_true (truth (int_eq (pos a) (pos b))) ≡ true
equal_is a b e =
    truth_true (int_eq (pos a) (pos b)) ∙ (Decides-int_eq (pos a) (pos b)).1 (ap pos e)

pub unequal_is : (a b : ℕ) → ¬ (a ≡ b) → is_true (truth (int_eq (pos a) (pos b))) ≡ false
unequal_is a b apart = truth_true (int_eq (pos a) (pos b)) ∙ by (int_eq (pos a) (pos b)) refl
  where
    by : (o : Bool) → int_eq (pos a) (pos b) ≡ o → o ≡ false
    by false e = refl
    by true e =
        let same : pos a ≡ pos b = (Decides-int_eq (pos a) (pos b)).0 e in
        let one : a ≡ b = cc in
        absurd (apart one)
