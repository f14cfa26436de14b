-- How words evaluate.
use Rattle.std.proofs.Common.{◌≡◌, ℕ, suc, ◌+◌, ◌-◌, ◌<◌, ◌≤◌, ◌↔◌, ◌⊎◌, inl, inr, Bool, true, false, cond, List, [], ◌∷◌, ◌++◌, length, get_or, refl, sym, ap, ◌∙◌, subst, arith, ℤ, pos}
use Rattle.std.specs.Prelude.{Option, Some, None, slice_get, All}
use Rattle.std.specs.Ordering.{int_eq}
use Rattle.std.proofs.lemmas.Bool.Decides.{Decides-int_eq}
use Rattle.std.proofs.lemmas.List.Elements.{All-head, All-tail}
use Rattle.std.proofs.lemmas.Option.{slice_get-get_or}
use Rattle.zpl_arrays.specs.of_zpl_nums.declared.operators.Op.{Op}
use Rattle.zpl_arrays.specs.of_zpl_nums.declared.operators.Op.TheVariants.{Add, Sub, Mul, Div, Rem, Eq, Ne, Lt, Le, Gt, Ge, And, Or, Max, Min}
use Rattle.zpl_arrays.specs.of_zpl_nums.Integer.{negated, absolute, denied}
use Rattle.zpl_arrays.specs.of_zpl_nums.Op.{applied, Divides as IsDivision}
use Rattle.node_form.specs.declared.words.ExprOp.{ExprOp}
use Rattle.node_form.specs.declared.words.ExprOp.TheVariants.{Const, Scalar, Here, Shifted, Cell, Coord, Pair, Neg, Not, Abs}
use Rattle.node_form.specs.declared.tables.Tables.{Tables}
use Rattle.node_form.specs.Expression.{Expression, Constant, Variable, Element, Neighbour, CellValue, Coordinate, Operation, Negation, Denial, Absolute, words_of, depth_from, IsExpression}
use Rattle.node_form.specs.Fits.{FitsWord, IsScalarWord}
use Rattle.node_form.specs.Value.{Computed, Gives, Divides, Lacks, and_then, mapped, read, divided, Operands, scalar_operands, unmoved, pushed, stepped, evaluated, only_value, value_of, tree_value, DividesByZero, IsUnheld, ReadsUnheld, HasOperands}
use Rattle.node_form.proofs.Depth.{depth_from-cons, IsExpression-depth}

-- words evaluate one after another
pub evaluated-append : (operands : Operands) (front rest : List ExprOp) (stack : List ℤ) → evaluated operands (front ++ rest) stack ≡ and_then (evaluated operands rest) (evaluated operands front stack)
evaluated-append operands [] rest stack = refl
evaluated-append operands (word ∷ front) rest stack =
    elim (stepped operands word stack) as (λ after. and_then (evaluated operands (front ++ rest)) after ≡ and_then (evaluated operands rest) (and_then (evaluated operands front) after)) [
      | Gives after ↦ evaluated-append operands front rest after
      | Divides ↦ refl
      | Lacks ↦ refl
    ]

and_then-Gives : (o : Computed (List ℤ)) → and_then (λ x. Gives x) o ≡ o
and_then-Gives (Gives x) = refl
and_then-Gives Divides = refl
and_then-Gives Lacks = refl

-- a last word
evaluated-last : (operands : Operands) (front : List ExprOp) (word : ExprOp) (stack : List ℤ) → evaluated operands (front ++ word ∷ []) stack ≡ and_then (stepped operands word) (evaluated operands front stack)
evaluated-last operands front word stack =
    evaluated-append operands front (word ∷ []) stack ∙ elim (evaluated operands front stack) as (λ o. and_then (evaluated operands (word ∷ [])) o ≡ and_then (stepped operands word) o) [
      | Gives after ↦ and_then-Gives (stepped operands word after)
      | Divides ↦ refl
      | Lacks ↦ refl
    ]

-- an operator on one value
evaluated-one : (operands : Operands) (front : List ExprOp) (word : ExprOp) (f : ℤ → ℤ) (stack : List ℤ) (value : Computed ℤ) → ((v : ℤ) → stepped operands word (v ∷ stack) ≡ pushed stack (Gives (f v))) → evaluated operands front stack ≡ pushed stack value → evaluated operands (front ++ word ∷ []) stack ≡ pushed stack (mapped f value)
evaluated-one operands front word f stack value one e =
    evaluated-last operands front word stack ∙ (ap (and_then (stepped operands word)) e ∙ elim value as (λ o. and_then (stepped operands word) (pushed stack o) ≡ pushed stack (mapped f o)) [
      | Gives v ↦ one v
      | Divides ↦ refl
      | Lacks ↦ refl
    ])

-- the words of an expression push its value
pub evaluated-words_of : (operands : Operands) (tree : Expression) (stack : List ℤ) → evaluated operands (words_of tree) stack ≡ pushed stack (tree_value operands tree)
evaluated-words_of operands (Constant value) stack = refl
evaluated-words_of operands (Variable scalar) stack = and_then-Gives (pushed stack (read (slice_get operands.scalars scalar)))
evaluated-words_of operands (Element array) stack = and_then-Gives (pushed stack (read (operands.element array unmoved)))
evaluated-words_of operands (Neighbour array shift) stack = and_then-Gives (pushed stack (read (operands.element array shift)))
evaluated-words_of operands (CellValue cell) stack = and_then-Gives (pushed stack (read (slice_get operands.cells cell)))
evaluated-words_of operands (Coordinate dimension) stack = and_then-Gives (pushed stack (read (slice_get operands.index (dimension - 1))))
evaluated-words_of operands (Operation op left right) stack =
    evaluated-append operands (words_of left) (words_of right ++ Pair op ∷ []) stack ∙ (ap (and_then (evaluated operands (words_of right ++ Pair op ∷ []))) (evaluated-words_of operands left stack) ∙ elim (tree_value operands left) as (λ l. and_then (evaluated operands (words_of right ++ Pair op ∷ [])) (pushed stack l) ≡ pushed stack (and_then (λ a. and_then (λ b. divided (applied op a b)) (tree_value operands right)) l)) [
      | Divides ↦ refl
      | Lacks ↦ refl
      | Gives a ↦
          evaluated-last operands (words_of right) (Pair op) (a ∷ stack) ∙ (ap (and_then (stepped operands (Pair op))) (evaluated-words_of operands right (a ∷ stack)) ∙ elim (tree_value operands right) as (λ r. and_then (stepped operands (Pair op)) (pushed (a ∷ stack) r) ≡ pushed stack (and_then (λ b. divided (applied op a b)) r)) [
            | Gives b ↦ refl
            | Divides ↦ refl
            | Lacks ↦ refl
          ])
    ])
evaluated-words_of operands (Negation operand) stack = evaluated-one operands (words_of operand) Neg negated stack (tree_value operands operand) (λ v. refl) (evaluated-words_of operands operand stack)
evaluated-words_of operands (Denial operand) stack = evaluated-one operands (words_of operand) Not denied stack (tree_value operands operand) (λ v. refl) (evaluated-words_of operands operand stack)
evaluated-words_of operands (Absolute operand) stack = evaluated-one operands (words_of operand) Abs absolute stack (tree_value operands operand) (λ v. refl) (evaluated-words_of operands operand stack)

-- so their value is the tree's
pub value_of-words_of : (operands : Operands) (tree : Expression) → value_of operands (words_of tree) ≡ tree_value operands tree
value_of-words_of operands tree =
    ap (and_then only_value) (evaluated-words_of operands tree []) ∙ elim (tree_value operands tree) as (λ o. and_then only_value (pushed [] o) ≡ o) [
      | Gives v ↦ refl
      | Divides ↦ refl
      | Lacks ↦ refl
    ]

-- a push adds one value
pushed-length : (stack : List ℤ) (value : Computed ℤ) (after : List ℤ) → pushed stack value ≡ Gives after → length after ≡ suc (length stack)
pushed-length stack (Gives v) after e = let is : v ∷ stack ≡ after = cc in sym (ap length is)
pushed-length stack Divides after e = cc
pushed-length stack Lacks after e = cc

-- a word makes the stack longer by at most one value
stepped-length : (operands : Operands) (word : ExprOp) (stack after : List ℤ) → stepped operands word stack ≡ Gives after → length after ≤ suc (length stack)
stepped-length operands (Const value) stack after e = omega (arith, pushed-length stack (Gives value) after e)
stepped-length operands (Scalar scalar) stack after e = omega (arith, pushed-length stack (read (slice_get operands.scalars scalar)) after e)
stepped-length operands (Here array) stack after e = omega (arith, pushed-length stack (read (operands.element array unmoved)) after e)
stepped-length operands (Shifted array shift) stack after e = omega (arith, pushed-length stack (read (operands.element array shift)) after e)
stepped-length operands (Cell cell) stack after e = omega (arith, pushed-length stack (read (slice_get operands.cells cell)) after e)
stepped-length operands (Coord dimension) stack after e = omega (arith, pushed-length stack (read (slice_get operands.index (dimension - 1))) after e)
stepped-length operands (Pair op) [] after e = cc
stepped-length operands (Pair op) (right ∷ []) after e = cc
stepped-length operands (Pair op) (right ∷ left ∷ stack) after e = omega (arith, pushed-length stack (divided (applied op left right)) after e)
stepped-length operands Neg [] after e = cc
stepped-length operands Neg (value ∷ stack) after e = omega (arith, pushed-length stack (Gives (negated value)) after e)
stepped-length operands Not [] after e = cc
stepped-length operands Not (value ∷ stack) after e = omega (arith, pushed-length stack (Gives (denied value)) after e)
stepped-length operands Abs [] after e = cc
stepped-length operands Abs (value ∷ stack) after e = omega (arith, pushed-length stack (Gives (absolute value)) after e)

longer : (operands : Operands) (words : List ExprOp) (stack after : List ℤ) (next : Computed (List ℤ)) → ((n : List ℤ) → evaluated operands words n ≡ Gives after → length after ≤ length n + length words) → ((n : List ℤ) → next ≡ Gives n → length n ≤ suc (length stack)) → and_then (evaluated operands words) next ≡ Gives after → length after ≤ length stack + suc (length words)
longer operands words stack after (Gives n) rest first e = omega (arith, rest n e, first n refl)
longer operands words stack after Divides rest first e = cc
longer operands words stack after Lacks rest first e = cc

-- words make the stack longer by at most one value each
pub evaluated-length : (operands : Operands) (words : List ExprOp) (stack after : List ℤ) → evaluated operands words stack ≡ Gives after → length after ≤ length stack + length words
evaluated-length operands [] stack after e = let is : stack ≡ after = cc in omega (arith, ap length is)
evaluated-length operands (word ∷ words) stack after e =
    longer operands words stack after (stepped operands word stack) (λ n. evaluated-length operands words n after) (stepped-length operands word stack) e

-- an operator lacks a value only where it divides by 0
at_zero : (op : Op) (b v : ℤ) → IsDivision op → cond (int_eq b (pos 0)) None (Some v) ≡ None → IsDivision op × (b ≡ pos 0)
at_zero op b v divides none = go (int_eq b (pos 0)) (Decides-int_eq b (pos 0)).0 none where
  go : (zero : Bool) → (zero ≡ true → b ≡ pos 0) → cond zero None (Some v) ≡ None → IsDivision op × (b ≡ pos 0)
  go true is none = (divides, is refl)
  go false is none = cc

pub applied-None : (op : Op) (a b : ℤ) → applied op a b ≡ None → IsDivision op × (b ≡ pos 0)
applied-None Add a b none = cc
applied-None Sub a b none = cc
applied-None Mul a b none = cc
applied-None Div a b none = at_zero Div b _ (inl refl) none
applied-None Rem a b none = at_zero Rem b _ (inr refl) none
applied-None Eq a b none = cc
applied-None Ne a b none = cc
applied-None Lt a b none = cc
applied-None Le a b none = cc
applied-None Gt a b none = cc
applied-None Ge a b none = cc
applied-None And a b none = cc
applied-None Or a b none = cc
applied-None Max a b none = cc
applied-None Min a b none = cc

-- and lacks one there
pub applied-zero : (op : Op) (a : ℤ) → IsDivision op → applied op a (pos 0) ≡ None
applied-zero op a (inl e) = ap (λ o. applied o a (pos 0)) e
applied-zero op a (inr e) = ap (λ o. applied o a (pos 0)) e

-- ---- outcomes
-- the scalar, the cell or the coordinate that a word reads is there
abbrev pub Finds : Operands → ExprOp → Type 0
Finds operands (Const value) = Unit {0}
Finds operands (Scalar scalar) = scalar < length operands.scalars
Finds operands (Here array) = Unit {0}
Finds operands (Shifted array shift) = Unit {0}
Finds operands (Cell cell) = cell < length operands.cells
Finds operands (Coord dimension) = (1 ≤ dimension) × (dimension ≤ length operands.index)
Finds operands (Pair op) = Unit {0}
Finds operands Neg = Unit {0}
Finds operands Not = Unit {0}
Finds operands Abs = Unit {0}

Finds-FitsWord : (tables : Tables) (rank : ℕ) (operands : Operands) → HasOperands tables rank operands → (word : ExprOp) → FitsWord tables rank word → Finds operands word
Finds-FitsWord tables rank operands has (Const value) fits = tt
Finds-FitsWord tables rank operands has (Scalar scalar) fits = let enough = has.scalars in omega arith
Finds-FitsWord tables rank operands has (Here array) fits = tt
Finds-FitsWord tables rank operands has (Shifted array shift) fits = tt
Finds-FitsWord tables rank operands has (Cell cell) fits = let enough = has.cells in omega arith
Finds-FitsWord tables rank operands has (Coord dimension) fits = let enough = has.index in let within = fits.1 in (fits.0, omega arith)
Finds-FitsWord tables rank operands has (Pair op) fits = tt
Finds-FitsWord tables rank operands has Neg fits = tt
Finds-FitsWord tables rank operands has Not fits = tt
Finds-FitsWord tables rank operands has Abs fits = tt

Finds-scalar : (tables : Tables) (rank : ℕ) (scalars : List ℤ) → tables.scalars ≤ length scalars → (word : ExprOp) → IsScalarWord word → FitsWord tables rank word → Finds (scalar_operands scalars) word
Finds-scalar tables rank scalars enough (Const value) is fits = tt
Finds-scalar tables rank scalars enough (Scalar scalar) is fits = omega arith
Finds-scalar tables rank scalars enough (Here array) is fits = tt
Finds-scalar tables rank scalars enough (Shifted array shift) is fits = tt
Finds-scalar tables rank scalars enough (Cell cell) is fits = absurd is
Finds-scalar tables rank scalars enough (Coord dimension) is fits = absurd is
Finds-scalar tables rank scalars enough (Pair op) is fits = tt
Finds-scalar tables rank scalars enough Neg is fits = tt
Finds-scalar tables rank scalars enough Not is fits = tt
Finds-scalar tables rank scalars enough Abs is fits = tt

-- the words leave a stack of this depth
record Leaves (operands : Operands) (words : List ExprOp) (stack : List ℤ) (depth : ℕ) : Type 0 where
  after : List ℤ
  reached : evaluated operands words stack ≡ Gives after
  deep : length after ≡ depth

-- one of the three things that words with enough operands do
abbrev Does : Operands → List ExprOp → List ℤ → ℕ → Type 0
Does operands words stack depth = Leaves operands words stack depth ⊎ (DividesByZero operands words stack ⊎ ReadsUnheld operands words stack)

-- what words do, behind a word that has a value
behind : (operands : Operands) (word : ExprOp) (words : List ExprOp) (stack next : List ℤ) (depth : ℕ) → stepped operands word stack ≡ Gives next → Does operands words next depth → Does operands (word ∷ words) stack depth
behind operands word words stack next depth e (inl leaves) =
    inl (record { after = leaves.after; reached = ap (and_then (evaluated operands words)) e ∙ leaves.reached; deep = leaves.deep })
behind operands word words stack next depth e (inr (inl divides)) =
    inr (inl (record {
      front = word ∷ divides.front;
      op = divides.op;
      rest = divides.rest;
      dividend = divides.dividend;
      below = divides.below;
      place = ap (λ ws. word ∷ ws) divides.place;
      divides = divides.divides;
      zero_on_top = ap (and_then (evaluated operands divides.front)) e ∙ divides.zero_on_top;
    }))
behind operands word words stack next depth e (inr (inr reads)) =
    inr (inr (record {
      front = word ∷ reads.front;
      word = reads.word;
      rest = reads.rest;
      after = reads.after;
      place = ap (λ ws. word ∷ ws) reads.place;
      unheld = reads.unheld;
      reached = ap (and_then (evaluated operands reads.front)) e ∙ reads.reached;
    }))

-- what they do behind an operator on two values
behind_pair : (operands : Operands) (op : Op) (words : List ExprOp) (left right : ℤ) (stack : List ℤ) (depth : ℕ) (value : Option ℤ) → applied op left right ≡ value → ((v : ℤ) → Does operands words (v ∷ stack) depth) → Does operands (Pair op ∷ words) (right ∷ left ∷ stack) depth
behind_pair operands op words left right stack depth None e rest =
    let zero = applied-None op left right e in
    inr (inl (record {
      front = [];
      op = op;
      rest = words;
      dividend = left;
      below = stack;
      place = refl;
      divides = zero.0;
      zero_on_top = ap (λ top. Gives (top ∷ left ∷ stack)) zero.1;
    }))
behind_pair operands op words left right stack depth (Some v) e rest =
    behind operands (Pair op) words (right ∷ left ∷ stack) (v ∷ stack) depth (ap (λ o. pushed stack (divided o)) e) (rest v)

-- what they do behind a word that reads a place
behind_place : (operands : Operands) (word : ExprOp) (words : List ExprOp) (stack : List ℤ) (depth : ℕ) (place : Option ℤ) → stepped operands word stack ≡ pushed stack (read place) → (place ≡ None → IsUnheld operands word) → ((v : ℤ) → Does operands words (v ∷ stack) depth) → Does operands (word ∷ words) stack depth
behind_place operands word words stack depth None e unheld rest =
    inr (inr (record { front = []; word = word; rest = words; after = stack; place = refl; unheld = unheld refl; reached = refl }))
behind_place operands word words stack depth (Some v) e unheld rest =
    behind operands word words stack (v ∷ stack) depth e (rest v)

module _ (operands : Operands) where
  -- words that find their operands leave a stack, unless they divide by 0 or read a place that isn't held
  does : (words : List ExprOp) (stack : List ℤ) (depth : ℕ) → depth_from (length stack) words ≡ Some depth → All (Finds operands) words → Does operands words stack depth
  does [] stack depth leaves finds = inl (record { after = stack; reached = refl; deep = cc })
  does (Const value ∷ words) stack depth leaves finds =
      let shorter = depth_from-cons (Const value) words (length stack) (suc (length stack)) (omega arith) (omega arith) in
      behind operands (Const value) words stack (value ∷ stack) depth refl (does words (value ∷ stack) depth (sym shorter ∙ leaves) (All-tail (Finds operands) (Const value) words finds))
  does (Scalar scalar ∷ words) stack depth leaves finds =
      let shorter = depth_from-cons (Scalar scalar) words (length stack) (suc (length stack)) (omega arith) (omega arith) in
      let inside : scalar < length operands.scalars = All-head (Finds operands) (Scalar scalar) words finds in
      let value = get_or operands.scalars scalar (pos 0) in
      let found : slice_get operands.scalars scalar ≡ Some value = slice_get-get_or operands.scalars scalar (pos 0) inside in
      behind operands (Scalar scalar) words stack (value ∷ stack) depth (ap (λ o. pushed stack (read o)) found) (does words (value ∷ stack) depth (sym shorter ∙ leaves) (All-tail (Finds operands) (Scalar scalar) words finds))
  does (Here array ∷ words) stack depth leaves finds =
      let shorter = depth_from-cons (Here array) words (length stack) (suc (length stack)) (omega arith) (omega arith) in
      behind_place operands (Here array) words stack depth (operands.element array unmoved) refl (λ e. e) (λ v. does words (v ∷ stack) depth (sym shorter ∙ leaves) (All-tail (Finds operands) (Here array) words finds))
  does (Shifted array shift ∷ words) stack depth leaves finds =
      let shorter = depth_from-cons (Shifted array shift) words (length stack) (suc (length stack)) (omega arith) (omega arith) in
      behind_place operands (Shifted array shift) words stack depth (operands.element array shift) refl (λ e. e) (λ v. does words (v ∷ stack) depth (sym shorter ∙ leaves) (All-tail (Finds operands) (Shifted array shift) words finds))
  does (Cell cell ∷ words) stack depth leaves finds =
      let shorter = depth_from-cons (Cell cell) words (length stack) (suc (length stack)) (omega arith) (omega arith) in
      let inside : cell < length operands.cells = All-head (Finds operands) (Cell cell) words finds in
      let value = get_or operands.cells cell (pos 0) in
      let found : slice_get operands.cells cell ≡ Some value = slice_get-get_or operands.cells cell (pos 0) inside in
      behind operands (Cell cell) words stack (value ∷ stack) depth (ap (λ o. pushed stack (read o)) found) (does words (value ∷ stack) depth (sym shorter ∙ leaves) (All-tail (Finds operands) (Cell cell) words finds))
  does (Coord dimension ∷ words) stack depth leaves finds =
      let shorter = depth_from-cons (Coord dimension) words (length stack) (suc (length stack)) (omega arith) (omega arith) in
      let there = All-head (Finds operands) (Coord dimension) words finds in
      let low : 1 ≤ dimension = there.0 in
      let high : dimension ≤ length operands.index = there.1 in
      let inside : dimension - 1 < length operands.index = omega arith in
      let value = get_or operands.index (dimension - 1) (pos 0) in
      let found : slice_get operands.index (dimension - 1) ≡ Some value = slice_get-get_or operands.index (dimension - 1) (pos 0) inside in
      behind operands (Coord dimension) words stack (value ∷ stack) depth (ap (λ o. pushed stack (read o)) found) (does words (value ∷ stack) depth (sym shorter ∙ leaves) (All-tail (Finds operands) (Coord dimension) words finds))
  does (Pair op ∷ words) [] depth leaves finds = cc
  does (Pair op ∷ words) (right ∷ []) depth leaves finds = cc
  does (Pair op ∷ words) (right ∷ left ∷ stack) depth leaves finds =
      let shorter = depth_from-cons (Pair op) words (suc (suc (length stack))) (suc (length stack)) (omega arith) (omega arith) in
      behind_pair operands op words left right stack depth (applied op left right) refl (λ v. does words (v ∷ stack) depth (sym shorter ∙ leaves) (All-tail (Finds operands) (Pair op) words finds))
  does (Neg ∷ words) [] depth leaves finds = cc
  does (Neg ∷ words) (value ∷ stack) depth leaves finds =
      let shorter = depth_from-cons Neg words (suc (length stack)) (suc (length stack)) (omega arith) (omega arith) in
      behind operands Neg words (value ∷ stack) (negated value ∷ stack) depth refl (does words (negated value ∷ stack) depth (sym shorter ∙ leaves) (All-tail (Finds operands) Neg words finds))
  does (Not ∷ words) [] depth leaves finds = cc
  does (Not ∷ words) (value ∷ stack) depth leaves finds =
      let shorter = depth_from-cons Not words (suc (length stack)) (suc (length stack)) (omega arith) (omega arith) in
      behind operands Not words (value ∷ stack) (denied value ∷ stack) depth refl (does words (denied value ∷ stack) depth (sym shorter ∙ leaves) (All-tail (Finds operands) Not words finds))
  does (Abs ∷ words) [] depth leaves finds = cc
  does (Abs ∷ words) (value ∷ stack) depth leaves finds =
      let shorter = depth_from-cons Abs words (suc (length stack)) (suc (length stack)) (omega arith) (omega arith) in
      behind operands Abs words (value ∷ stack) (absolute value ∷ stack) depth refl (does words (absolute value ∷ stack) depth (sym shorter ∙ leaves) (All-tail (Finds operands) Abs words finds))

only_value-one : (stack : List ℤ) → length stack ≡ 1 → (v : ℤ) × (only_value stack ≡ Gives v)
only_value-one [] one = absurd (omega arith)
only_value-one (v ∷ []) one = (v, refl)
only_value-one (v ∷ w ∷ stack) one = absurd (omega arith)

-- words that divide by 0 give nothing else
dividing : (operands : Operands) (words : List ExprOp) → DividesByZero operands words [] → value_of operands words ≡ Divides
dividing operands words d =
    let stopped : evaluated operands words [] ≡ Divides =
    ap (λ ws. evaluated operands ws []) d.place ∙ (evaluated-append operands d.front (Pair d.op ∷ d.rest) [] ∙ (ap (and_then (evaluated operands (Pair d.op ∷ d.rest))) d.zero_on_top ∙ ap (λ o. and_then (evaluated operands d.rest) (pushed d.below (divided o))) (applied-zero d.op d.dividend d.divides))) in
    ap (and_then only_value) stopped

stepped-unheld : (operands : Operands) (word : ExprOp) (stack : List ℤ) → IsUnheld operands word → stepped operands word stack ≡ Lacks
stepped-unheld operands (Const value) stack unheld = absurd unheld
stepped-unheld operands (Scalar scalar) stack unheld = absurd unheld
stepped-unheld operands (Here array) stack unheld = ap (λ o. pushed stack (read o)) unheld
stepped-unheld operands (Shifted array shift) stack unheld = ap (λ o. pushed stack (read o)) unheld
stepped-unheld operands (Cell cell) stack unheld = absurd unheld
stepped-unheld operands (Coord dimension) stack unheld = absurd unheld
stepped-unheld operands (Pair op) stack unheld = absurd unheld
stepped-unheld operands Neg stack unheld = absurd unheld
stepped-unheld operands Not stack unheld = absurd unheld
stepped-unheld operands Abs stack unheld = absurd unheld

lacking : (operands : Operands) (words : List ExprOp) → ReadsUnheld operands words [] → value_of operands words ≡ Lacks
lacking operands words r =
    let stopped : evaluated operands words [] ≡ Lacks =
    ap (λ ws. evaluated operands ws []) r.place ∙ (evaluated-append operands r.front (r.word ∷ r.rest) [] ∙ (ap (and_then (evaluated operands (r.word ∷ r.rest))) r.reached ∙ ap (and_then (evaluated operands r.rest)) (stepped-unheld operands r.word r.after r.unheld))) in
    ap (and_then only_value) stopped

-- what the value tells of why there is none
record Tells (operands : Operands) (words : List ExprOp) : Type 0 where
  divides : value_of operands words ≡ Divides → DividesByZero operands words []
  lacks : value_of operands words ≡ Lacks → ReadsUnheld operands words []

tells : (operands : Operands) (words : List ExprOp) → Does operands words [] 1 → Tells operands words
tells operands words (inl leaves) =
    let one = only_value-one leaves.after leaves.deep in
    let some : value_of operands words ≡ Gives one.0 = ap (and_then only_value) leaves.reached ∙ one.1 in
    record { divides = λ e. cc; lacks = λ e. cc }
tells operands words (inr (inl divides)) =
    let known = dividing operands words divides in record { divides = λ e. divides; lacks = λ e. cc }
tells operands words (inr (inr reads)) =
    let known = lacking operands words reads in record { divides = λ e. cc; lacks = λ e. reads }

tells_of : (operands : Operands) (words : List ExprOp) → IsExpression words → All (Finds operands) words → Tells operands words
tells_of operands words stack finds = tells operands words (does operands words [] 1 ((IsExpression-depth words).0 stack) finds)

module _ (tables : Tables) (rank : ℕ) (operands : Operands) (words : List ExprOp) (stack : IsExpression words) (fit : All (FitsWord tables rank) words) (has : HasOperands tables rank operands) where
  finds : All (Finds operands) words
  finds k d inside = Finds-FitsWord tables rank operands has _ (fit k d inside)

  -- an expression that fits divides, and lacks a value, just for these reasons
  pub value_of-Divides : (value_of operands words ≡ Divides) ↔ DividesByZero operands words []
  value_of-Divides = (λ e. (tells_of operands words stack finds).divides e, dividing operands words)

  pub value_of-Lacks : (value_of operands words ≡ Lacks) ↔ ReadsUnheld operands words []
  value_of-Lacks = (λ e. (tells_of operands words stack finds).lacks e, lacking operands words)

unheld-scalar : (operands : Operands) (word : ExprOp) → IsScalarWord word → IsUnheld operands word → ⊥
unheld-scalar operands (Const value) is unheld = unheld
unheld-scalar operands (Scalar scalar) is unheld = unheld
unheld-scalar operands (Here array) is unheld = is
unheld-scalar operands (Shifted array shift) is unheld = is
unheld-scalar operands (Cell cell) is unheld = is
unheld-scalar operands (Coord dimension) is unheld = is
unheld-scalar operands (Pair op) is unheld = unheld
unheld-scalar operands Neg is unheld = unheld
unheld-scalar operands Not is unheld = unheld
unheld-scalar operands Abs is unheld = unheld

-- a fact of all words holds of one behind a front
All-behind : (P : ExprOp → Type 0) (front : List ExprOp) (word : ExprOp) (rest : List ExprOp) → All P (front ++ word ∷ rest) → P word
All-behind P [] word rest all = All-head P word rest all
All-behind P (first ∷ front) word rest all = All-behind P front word rest (All-tail P first (front ++ word ∷ rest) all)

-- an expression that needs no index lacks nothing
pub value_of-scalar : (tables : Tables) (rank : ℕ) (scalars : List ℤ) (words : List ExprOp) → IsExpression words → All (FitsWord tables rank) words → All IsScalarWord words → tables.scalars ≤ length scalars → value_of (scalar_operands scalars) words ≡ Lacks → ⊥
value_of-scalar tables rank scalars words stack fit scalar enough e =
    let finds : All (Finds (scalar_operands scalars)) words = λ k d inside. Finds-scalar tables rank scalars enough _ (scalar k d inside) (fit k d inside) in
    let reads = (tells_of (scalar_operands scalars) words stack finds).lacks e in
    unheld-scalar (scalar_operands scalars) reads.word (All-behind IsScalarWord reads.front reads.word reads.rest (subst (All IsScalarWord) reads.place scalar)) reads.unheld
