-- A stack that stands at the end of a list, the last value pushed in front.
use Rattle.std.proofs.Common.{◌≡◌, ℕ, ◌+◌, ◌-◌, ◌<◌, List, [], ◌∷◌, length, drop, get_or, ℤ}
use Rattle.std.proofs.Common.{pos, refl, sym, ap, ◌∙◌, arith, add-one}
use Rattle.std.proofs.Math.Seq.{drop-cons}
use Rattle.std.proofs.lemmas.List.{length-drop}
use Rattle.std.specs.Prelude.{Some}
use Rattle.grid_meaning.specs.of_zpl_nums.declared.operators.Op.{Op}
use Rattle.grid_meaning.specs.of_zpl_nums.Op.{applied}
use Rattle.grid_meaning.specs.of_node_form.declared.words.ExprOp.{ExprOp}
use Rattle.grid_meaning.specs.of_node_form.declared.words.ExprOp.TheVariants.{Pair}
use Rattle.grid_meaning.specs.of_node_form.Value.{Gives, Lacks, Operands, divided, pushed, stepped, only_value}

-- the two values on top
two_on_top : (stack : List ℤ) (top : ℕ) → top + 1 < length stack
    → drop top stack ≡ get_or stack top (pos 0) ∷ get_or stack (top + 1) (pos 0) ∷ drop
    (top + 1 + 1) stack
two_on_top stack top deep =
    let first : top < length stack = omega arith in
    rw (
      drop-cons stack top (pos 0),
      ← add-one top,
      drop-cons stack (top + 1) (pos 0),
      ← add-one
          (top + 1),
    ) refl

-- an operator takes two values and pushes its own
pub stepped-pair : (operands : Operands) (stack after : List ℤ) (top next : ℕ) (word : ExprOp) (op : Op) (v : ℤ)
    → word ≡ Pair op → top + 1 < length stack
    → applied op (get_or stack (top + 1) (pos 0)) (get_or stack top (pos 0)) ≡ Some v
    → drop next after ≡ v ∷ drop (top + 2) stack
    → stepped operands word (drop top stack) ≡ Gives (drop next after)
stepped-pair operands stack after top next word op v is deep value pushed_is =
    let two : top + 1 + 1 ≡ top + 2 = omega arith in
    ap (λ w. stepped operands w (drop top stack)) is
    ∙ (ap (stepped operands (Pair op)) (two_on_top stack top deep)
    ∙ (ap (λ o. pushed (drop (top + 1 + 1) stack) (divided o)) value
    ∙ (ap (λ k. Gives (v ∷ drop k stack)) two ∙ ap Gives (sym pushed_is))))

-- where an operand is missing nothing is computed
few : (operands : Operands) (op : Op) (stack : List ℤ) → length stack < 2 → stepped operands (Pair op) stack ≡ Lacks
few operands op [] short = refl
few operands op (value ∷ []) short = refl
few operands op (value ∷ other ∷ stack) short = absurd (omega arith)

pub stepped-short : (operands : Operands) (stack : List ℤ) (top : ℕ) (word : ExprOp) (op : Op) → word ≡ Pair op
    → length stack - top < 2 → stepped operands word (drop top stack) ≡ Lacks
stepped-short operands stack top word op is short =
    let many = length-drop top stack in
    ap (λ w. stepped operands w (drop top stack)) is ∙ few operands op (drop top stack) (omega (arith, many))

-- where there isn't just one value, there is no answer
pub not_one : (stack : List ℤ) (top : ℕ) → (length stack - top ≡ 1 → ⊥) → only_value (drop top stack) ≡ Lacks
not_one stack top many = by_list (drop top stack) (λ one. many (omega (arith, one, length-drop top stack)))
  where
    by_list : (values : List ℤ) → (length values ≡ 1 → ⊥) → only_value values ≡ Lacks
    by_list [] never = refl
    by_list (value ∷ []) never = absurd (never (omega arith))
    by_list (value ∷ other ∷ values) never = refl
