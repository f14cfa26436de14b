-- Values of expressions are integers of 64 bits.
use Rattle.std.proofs.Common.{◌≡◌, ℕ, zero, suc, ◌-◌, List, [], ◌∷◌, inl, inr, refl, sym, subst, ℤ, arith}
use Rattle.std.specs.Prelude.{Option, Some, None, IfSome, slice_get, All}
use Rattle.std.proofs.lemmas.List.Elements.{All-nil, All-head, All-tail, All-cons}
use Rattle.zpl_arrays.specs.of_zpl_nums.declared.operators.Op.{Op}
use Rattle.zpl_arrays.specs.of_zpl_nums.Integer.{negated, absolute, denied, IsInteger, IsTruth}
use Rattle.zpl_arrays.specs.of_zpl_nums.Op.{applied}
use Rattle.node_form.specs.declared.words.ExprOp.{ExprOp}
use Rattle.node_form.specs.declared.words.ExprOp.TheVariants.{Const, Scalar, Here, Shifted, Cell, Coord, Pair, Neg, Not, Abs}
use Rattle.node_form.specs.Value.{Computed, Gives, Divides, Lacks, and_then, read, divided, Operands, unmoved, pushed, stepped, evaluated, only_value, value_of, HasInteger, HasIntegers}

-- what the operators keep
pub record OperatorsStay : Type 0 where
  pub binary : (op : Op) (a b : ℤ) → IsInteger a → IsInteger b → IfSome (applied op a b) IsInteger
  pub negation : (a : ℤ) → IsInteger (negated a)
  pub absolute_value : (a : ℤ) → IsInteger a → IsInteger (absolute a)
  pub denial : (a : ℤ) → IsTruth (denied a)

IsInteger-truth : (z : ℤ) → IsTruth z → IsInteger z
IsInteger-truth z (inl e) = subst IsInteger (sym e) (record { sfits = omega arith })
IsInteger-truth z (inr e) = subst IsInteger (sym e) (record { sfits = omega arith })

slice_get-All : (P : ℤ → Type 0) (xs : List ℤ) (i : ℕ) → All P xs → IfSome (slice_get xs i) P
slice_get-All P [] i all = tt
slice_get-All P (x ∷ xs) zero all = All-head P x xs all
slice_get-All P (x ∷ xs) (suc i) all = slice_get-All P xs i (All-tail P x xs all)

-- what is given satisfies P
abbrev IfGives : (ℤ → Type 0) → Computed ℤ → Type 0
IfGives P (Gives value) = P value
IfGives P Divides = Unit {0}
IfGives P Lacks = Unit {0}

IfGives-read : (P : ℤ → Type 0) (place : Option ℤ) → ((v : ℤ) → place ≡ Some v → P v) → IfGives P (read place)
IfGives-read P (Some v) has = has v refl
IfGives-read P None has = tt

IfSome-read : (P : ℤ → Type 0) (place : Option ℤ) → IfSome place P → IfGives P (read place)
IfSome-read P (Some v) has = has
IfSome-read P None has = tt

IfSome-divided : (P : ℤ → Type 0) (value : Option ℤ) → IfSome value P → IfGives P (divided value)
IfSome-divided P (Some v) has = has
IfSome-divided P None has = tt

pushed-All : (stack : List ℤ) (value : Computed ℤ) (after : List ℤ) → IfGives IsInteger value → All IsInteger stack → pushed stack value ≡ Gives after → All IsInteger after
pushed-All stack (Gives v) after fits all e = let is : v ∷ stack ≡ after = cc in subst (All IsInteger) is (All-cons IsInteger v stack fits all)
pushed-All stack Divides after fits all e = cc
pushed-All stack Lacks after fits all e = cc

module _ (stay : OperatorsStay) (operands : Operands) (integers : HasIntegers operands) where
  stepped-All : (word : ExprOp) (stack after : List ℤ) → HasInteger word → All IsInteger stack → stepped operands word stack ≡ Gives after → All IsInteger after
  stepped-All (Const value) stack after has all e = pushed-All stack (Gives value) after has all e
  stepped-All (Scalar scalar) stack after has all e = pushed-All stack (read (slice_get operands.scalars scalar)) after (IfSome-read IsInteger (slice_get operands.scalars scalar) (slice_get-All IsInteger operands.scalars scalar integers.scalars)) all e
  stepped-All (Here array) stack after has all e = pushed-All stack (read (operands.element array unmoved)) after (IfGives-read IsInteger (operands.element array unmoved) (λ v e. integers.elements array unmoved v e)) all e
  stepped-All (Shifted array shift) stack after has all e = pushed-All stack (read (operands.element array shift)) after (IfGives-read IsInteger (operands.element array shift) (λ v e. integers.elements array shift v e)) all e
  stepped-All (Cell cell) stack after has all e = pushed-All stack (read (slice_get operands.cells cell)) after (IfSome-read IsInteger (slice_get operands.cells cell) (slice_get-All IsInteger operands.cells cell integers.cells)) all e
  stepped-All (Coord dimension) stack after has all e = pushed-All stack (read (slice_get operands.index (dimension - 1))) after (IfSome-read IsInteger (slice_get operands.index (dimension - 1)) (slice_get-All IsInteger operands.index (dimension - 1) integers.index)) all e
  stepped-All (Pair op) [] after has all e = cc
  stepped-All (Pair op) (right ∷ []) after has all e = cc
  stepped-All (Pair op) (right ∷ left ∷ stack) after has all e =
      let rest = All-tail IsInteger right (left ∷ stack) all in
      pushed-All stack (divided (applied op left right)) after (IfSome-divided IsInteger (applied op left right) (stay.binary op left right (All-head IsInteger left stack rest) (All-head IsInteger right (left ∷ stack) all))) (All-tail IsInteger left stack rest) e
  stepped-All Neg [] after has all e = cc
  stepped-All Neg (value ∷ stack) after has all e = pushed-All stack (Gives (negated value)) after (stay.negation value) (All-tail IsInteger value stack all) e
  stepped-All Not [] after has all e = cc
  stepped-All Not (value ∷ stack) after has all e = pushed-All stack (Gives (denied value)) after (IsInteger-truth (denied value) (stay.denial value)) (All-tail IsInteger value stack all) e
  stepped-All Abs [] after has all e = cc
  stepped-All Abs (value ∷ stack) after has all e = pushed-All stack (Gives (absolute value)) after (stay.absolute_value value (All-head IsInteger value stack all)) (All-tail IsInteger value stack all) e

  behind-All : (words : List ExprOp) (after : List ℤ) (next : Computed (List ℤ)) → ((n : List ℤ) → All IsInteger n → evaluated operands words n ≡ Gives after → All IsInteger after) → ((n : List ℤ) → next ≡ Gives n → All IsInteger n) → and_then (evaluated operands words) next ≡ Gives after → All IsInteger after
  behind-All words after (Gives n) rest first e = rest n (first n refl) e
  behind-All words after Divides rest first e = cc
  behind-All words after Lacks rest first e = cc

  -- integers stay integers
  pub evaluated-All : (words : List ExprOp) (stack after : List ℤ) → All HasInteger words → All IsInteger stack → evaluated operands words stack ≡ Gives after → All IsInteger after
  evaluated-All [] stack after has all e = let is : stack ≡ after = cc in subst (All IsInteger) is all
  evaluated-All (word ∷ words) stack after has all e =
      behind-All words after (stepped operands word stack) (λ n ints e. evaluated-All words n after (All-tail HasInteger word words has) ints e) (λ n e. stepped-All word stack n (All-head HasInteger word words has) all e) e

  only_value-All : (value : ℤ) (after : Computed (List ℤ)) → ((n : List ℤ) → after ≡ Gives n → All IsInteger n) → and_then only_value after ≡ Gives value → IsInteger value
  only_value-All value (Gives []) all e = cc
  only_value-All value (Gives (v ∷ [])) all e = let is : v ≡ value = cc in subst IsInteger is (All-head IsInteger v [] (all (v ∷ []) refl))
  only_value-All value (Gives (v ∷ w ∷ stack)) all e = cc
  only_value-All value Divides all e = cc
  only_value-All value Lacks all e = cc

  pub value_of-IsInteger : (words : List ExprOp) (value : ℤ) → All HasInteger words → value_of operands words ≡ Gives value → IsInteger value
  value_of-IsInteger words value has e = only_value-All value (evaluated operands words []) (λ n e. evaluated-All words [] n has (All-nil IsInteger) e) e
