-- Expressions in postfix.
use Rattle.std.specs.Prelude.{◌≡◌, ℕ, ◌+◌, ◌-◌, nat_lt, if◌then◌else◌, ℤ, Option, Some, None, List, [], ◌∷◌, ◌++◌}
use Rattle.zpl_arrays.specs.of_zpl_nums.declared.operators.Op.{Op}
use Rattle.node_form.specs.declared.words.ExprOp.{ExprOp}
use Rattle.node_form.specs.declared.words.ExprOp.TheVariants.{Const, Scalar, Here, Shifted, Cell, Coord, Pair, Neg, Not, Abs}

-- an expression, as a tree
pub data Expression : Type 0 where
  Constant : (value : ℤ) → Expression
  Variable : (scalar : ℕ) → Expression
  Element : (array : ℕ) → Expression
  Neighbour : (array : ℕ) (shift : List ℤ) → Expression
  CellValue : (cell : ℕ) → Expression
  Coordinate : (dimension : ℕ) → Expression
  Operation : (op : Op) (left right : Expression) → Expression
  Negation : (operand : Expression) → Expression
  Denial : (operand : Expression) → Expression
  Absolute : (operand : Expression) → Expression

-- the words of an expression in postfix: each operator behind its operands
abbrev pub words_of : Expression → List ExprOp
words_of (Constant value) = Const value ∷ []
words_of (Variable scalar) = Scalar scalar ∷ []
words_of (Element array) = Here array ∷ []
words_of (Neighbour array shift) = Shifted array shift ∷ []
words_of (CellValue cell) = Cell cell ∷ []
words_of (Coordinate dimension) = Coord dimension ∷ []
words_of (Operation op left right) = words_of left ++ (words_of right ++ Pair op ∷ [])
words_of (Negation operand) = words_of operand ++ Neg ∷ []
words_of (Denial operand) = words_of operand ++ Not ∷ []
words_of (Absolute operand) = words_of operand ++ Abs ∷ []

-- the words are those of an expression
pub record IsExpression (words : List ExprOp) : Type 0 where
  pub tree : Expression
  pub spelled : words_of tree ≡ words

-- how many values a word takes from the stack; each word leaves one
abbrev pub operands_of : ExprOp → ℕ
operands_of (Const value) = 0
operands_of (Scalar scalar) = 0
operands_of (Here array) = 0
operands_of (Shifted array shift) = 0
operands_of (Cell cell) = 0
operands_of (Coord dimension) = 0
operands_of (Pair op) = 2
operands_of Neg = 1
operands_of Not = 1
operands_of Abs = 1

-- how many values are on the stack after the words, where this many were on it; nothing where an
-- operand is missing
abbrev pub depth_from : ℕ → List ExprOp → Option ℕ
depth_from depth [] = Some depth
depth_from depth (word ∷ words) =
    if nat_lt depth (operands_of word) then None else depth_from (depth - operands_of word + 1) words
