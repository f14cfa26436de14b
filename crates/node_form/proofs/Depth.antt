-- The depth of the stack that words leave, and that words which leave one value are those of an expression.
use Rattle.std.proofs.Common.{◌≡◌, ℕ, suc, ◌+◌, ◌-◌, ◌<◌, ◌≤◌, ◌↔◌, List, [], ◌∷◌, ◌++◌, length, drop, get_or, refl, sym, ap, ◌∙◌, subst, arith, append_assoc, append-nil}
use Rattle.std.proofs.Math.Seq.{drop-cons}
use Rattle.std.proofs.lemmas.Bool.{le-ltb, lt-ltb}
use Rattle.std.proofs.lemmas.List.{drop_all}
use Rattle.std.specs.Prelude.{Some, None}
use Rattle.node_form.specs.declared.words.ExprOp.{ExprOp}
use Rattle.node_form.specs.declared.words.ExprOp.TheVariants.{Const, Scalar, Here, Shifted, Cell, Coord, Pair, Neg, Not, Abs}
use Rattle.node_form.specs.Expression.{Expression, Constant, Variable, Element, Neighbour, CellValue, Coordinate, Operation, Negation, Denial, Absolute, words_of, IsExpression, operands_of, depth_from}

-- a word that finds its operands
pub depth_from-cons : (word : ExprOp) (words : List ExprOp) (depth after : ℕ) → operands_of word ≤ depth → depth - operands_of word + 1 ≡ after → depth_from depth (word ∷ words) ≡ depth_from after words
depth_from-cons word words depth after found e = rw (le-ltb depth (operands_of word) found, e) refl

-- the words of an expression leave one value more
pub depth_from-words_of : (tree : Expression) (depth : ℕ) (rest : List ExprOp) → depth_from depth (words_of tree ++ rest) ≡ depth_from (suc depth) rest
depth_from-words_of (Constant value) depth rest = depth_from-cons (Const value) rest depth (suc depth) (omega arith) (omega arith)
depth_from-words_of (Variable scalar) depth rest = depth_from-cons (Scalar scalar) rest depth (suc depth) (omega arith) (omega arith)
depth_from-words_of (Element array) depth rest = depth_from-cons (Here array) rest depth (suc depth) (omega arith) (omega arith)
depth_from-words_of (Neighbour array shift) depth rest = depth_from-cons (Shifted array shift) rest depth (suc depth) (omega arith) (omega arith)
depth_from-words_of (CellValue cell) depth rest = depth_from-cons (Cell cell) rest depth (suc depth) (omega arith) (omega arith)
depth_from-words_of (Coordinate dimension) depth rest = depth_from-cons (Coord dimension) rest depth (suc depth) (omega arith) (omega arith)
depth_from-words_of (Operation op left right) depth rest =
    rw
    (append_assoc, append_assoc)
    (depth_from-words_of left depth (words_of right ++ Pair op ∷ rest) ∙ depth_from-words_of right (suc depth) (Pair op ∷ rest) ∙ depth_from-cons (Pair op) rest (suc (suc depth)) (suc depth) (omega arith) (omega arith))
depth_from-words_of (Negation operand) depth rest =
    rw
    append_assoc
    (depth_from-words_of operand depth (Neg ∷ rest) ∙ depth_from-cons Neg rest (suc depth) (suc depth) (omega arith) (omega arith))
depth_from-words_of (Denial operand) depth rest =
    rw
    append_assoc
    (depth_from-words_of operand depth (Not ∷ rest) ∙ depth_from-cons Not rest (suc depth) (suc depth) (omega arith) (omega arith))
depth_from-words_of (Absolute operand) depth rest =
    rw
    append_assoc
    (depth_from-words_of operand depth (Abs ∷ rest) ∙ depth_from-cons Abs rest (suc depth) (suc depth) (omega arith) (omega arith))

-- the words of trees, one after another, those of the last tree first
abbrev pub spelled : List Expression → List ExprOp
spelled [] = []
spelled (tree ∷ trees) = spelled trees ++ words_of tree

-- a word that finds its operands among the trees makes one tree of them
with_word : (word : ExprOp) (words : List ExprOp) (used more : List ExprOp) → IsExpression ((used ++ (more ++ word ∷ [])) ++ words) → IsExpression ((used ++ more) ++ word ∷ words)
with_word word words used more h =
    let e : (used ++ (more ++ word ∷ [])) ++ words ≡ (used ++ more) ++ word ∷ words = simp append_assoc in
    subst IsExpression e h

-- words that leave one value, where the words of trees stand in front of them
pub IsExpression-from-depth : (words : List ExprOp) (trees : List Expression) → depth_from (length trees) words ≡ Some 1 → IsExpression (spelled trees ++ words)
IsExpression-from-depth [] [] h = cc
IsExpression-from-depth [] (tree ∷ []) h = record { tree = tree; spelled = sym (append-nil (words_of tree)) }
IsExpression-from-depth [] (right ∷ left ∷ trees) h = cc
IsExpression-from-depth (Const value ∷ words) trees h =
    let go = IsExpression-from-depth words (Constant value ∷ trees) (sym (depth_from-cons (Const value) words (length trees) (suc (length trees)) (omega arith) (omega arith)) ∙ h) in
    rw append_assoc at go
IsExpression-from-depth (Scalar scalar ∷ words) trees h =
    let go = IsExpression-from-depth words (Variable scalar ∷ trees) (sym (depth_from-cons (Scalar scalar) words (length trees) (suc (length trees)) (omega arith) (omega arith)) ∙ h) in
    rw append_assoc at go
IsExpression-from-depth (Here array ∷ words) trees h =
    let go = IsExpression-from-depth words (Element array ∷ trees) (sym (depth_from-cons (Here array) words (length trees) (suc (length trees)) (omega arith) (omega arith)) ∙ h) in
    rw append_assoc at go
IsExpression-from-depth (Shifted array shift ∷ words) trees h =
    let go = IsExpression-from-depth words (Neighbour array shift ∷ trees) (sym (depth_from-cons (Shifted array shift) words (length trees) (suc (length trees)) (omega arith) (omega arith)) ∙ h) in
    rw append_assoc at go
IsExpression-from-depth (Cell cell ∷ words) trees h =
    let go = IsExpression-from-depth words (CellValue cell ∷ trees) (sym (depth_from-cons (Cell cell) words (length trees) (suc (length trees)) (omega arith) (omega arith)) ∙ h) in
    rw append_assoc at go
IsExpression-from-depth (Coord dimension ∷ words) trees h =
    let go = IsExpression-from-depth words (Coordinate dimension ∷ trees) (sym (depth_from-cons (Coord dimension) words (length trees) (suc (length trees)) (omega arith) (omega arith)) ∙ h) in
    rw append_assoc at go
IsExpression-from-depth (Pair op ∷ words) [] h = cc
IsExpression-from-depth (Pair op ∷ words) (right ∷ []) h = cc
IsExpression-from-depth (Pair op ∷ words) (right ∷ left ∷ trees) h =
    let shorter : depth_from (suc (suc (length trees))) (Pair op ∷ words) ≡ depth_from (suc (length trees)) words = depth_from-cons (Pair op) words (suc (suc (length trees))) (suc (length trees)) (omega arith) (omega arith) in
    let go = IsExpression-from-depth words (Operation op left right ∷ trees) (sym shorter ∙ h) in
    let e : (spelled trees ++ (words_of left ++ (words_of right ++ Pair op ∷ []))) ++ words ≡ ((spelled trees ++ words_of left) ++ words_of right) ++ Pair op ∷ words = simp append_assoc in
    subst IsExpression e go
IsExpression-from-depth (Neg ∷ words) [] h = cc
IsExpression-from-depth (Neg ∷ words) (tree ∷ trees) h =
    with_word Neg words (spelled trees) (words_of tree) (IsExpression-from-depth words (Negation tree ∷ trees) (sym (depth_from-cons Neg words (suc (length trees)) (suc (length trees)) (omega arith) (omega arith)) ∙ h))
IsExpression-from-depth (Not ∷ words) [] h = cc
IsExpression-from-depth (Not ∷ words) (tree ∷ trees) h =
    with_word Not words (spelled trees) (words_of tree) (IsExpression-from-depth words (Denial tree ∷ trees) (sym (depth_from-cons Not words (suc (length trees)) (suc (length trees)) (omega arith) (omega arith)) ∙ h))
IsExpression-from-depth (Abs ∷ words) [] h = cc
IsExpression-from-depth (Abs ∷ words) (tree ∷ trees) h =
    with_word Abs words (spelled trees) (words_of tree) (IsExpression-from-depth words (Absolute tree ∷ trees) (sym (depth_from-cons Abs words (suc (length trees)) (suc (length trees)) (omega arith) (omega arith)) ∙ h))

-- words are those of an expression exactly where they leave one value on an empty stack
pub IsExpression-depth : (words : List ExprOp) → IsExpression words ↔ (depth_from 0 words ≡ Some 1)
IsExpression-depth words =
    (λ h. subst (λ ws. depth_from 0 ws ≡ Some 1) (append-nil (words_of h.tree) ∙ h.spelled) (depth_from-words_of h.tree 0 []), IsExpression-from-depth words [])

-- a word that lacks an operand, so that the words are of no expression
pub missing_operand : (words : List ExprOp) (i depth operands : ℕ) (d : ExprOp) → i < length words → depth_from 0 words ≡ depth_from depth (drop i words) → operands ≡ operands_of (get_or words i d) → depth < operands → ¬ IsExpression words
missing_operand words i depth operands d inside left is short h =
    let stuck : depth_from depth (drop i words) ≡ None = rw (drop-cons words i d inside, ← is, lt-ltb depth operands short) refl in
    let one : depth_from 0 words ≡ Some 1 = (IsExpression-depth words).0 h in
    cc

-- at the last word the depth tells
pub depth_tells : (words : List ExprOp) (i depth : ℕ) → length words ≤ i → depth_from 0 words ≡ depth_from depth (drop i words) → IsExpression words ↔ (depth ≡ 1)
depth_tells words i depth all left =
    let whole : depth_from 0 words ≡ Some depth = rw (drop_all i words all) at left in
    (λ h. let one : depth_from 0 words ≡ Some 1 = (IsExpression-depth words).0 h in cc, λ e. (IsExpression-depth words).1 (whole ∙ ap Some e))
