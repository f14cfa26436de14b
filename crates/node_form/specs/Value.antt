-- The value of an expression.
use Rattle.std.specs.Prelude.{◌≡◌, ℕ, ◌-◌, ◌<◌, ◌≤◌, ℤ, pos, Option, Some, None, List, [], ◌∷◌, ◌++◌, length, slice_get, All}
use Rattle.zpl_arrays.specs.of_zpl_nums.declared.operators.Op.{Op}
use Rattle.zpl_arrays.specs.of_zpl_nums.Integer.{negated, absolute, denied, IsInteger}
use Rattle.zpl_arrays.specs.of_zpl_nums.Op.{applied, Divides as IsDivision}
use Rattle.node_form.specs.declared.tables.Tables.{Tables}
use Rattle.node_form.specs.declared.words.ExprOp.{ExprOp}
use Rattle.node_form.specs.declared.words.ExprOp.TheVariants.{Const, Scalar, Here, Shifted, Cell, Coord, Pair, Neg, Not, Abs}
use Rattle.node_form.specs.Expression.{Expression, Constant, Variable, Element, Neighbour, CellValue, Coordinate, Operation, Negation, Denial, Absolute}

-- ---- outcomes
-- What is computed: a value; or none, for a divisor is 0; or none, for something that is read isn't
-- there, as a place that isn't held. Of several causes in one expression the first in postfix order
-- counts.
pub data Computed (X : Type 0) : Type 0 where
  Gives : (value : X) → Computed X
  Divides : Computed X
  Lacks : Computed X

abbrev pub and_then : {X Y : Type 0} → (X → Computed Y) → Computed X → Computed Y
and_then next (Gives value) = next value
and_then next Divides = Divides
and_then next Lacks = Lacks

abbrev pub mapped : {X Y : Type 0} → (X → Y) → Computed X → Computed Y
mapped f (Gives value) = Gives (f value)
mapped f Divides = Divides
mapped f Lacks = Lacks

-- what is read, if it is there
abbrev pub read : {X : Type 0} → Option X → Computed X
read (Some value) = Gives value
read None = Lacks

-- what an operator gives, if its divisor isn't 0
abbrev pub divided : {X : Type 0} → Option X → Computed X
divided (Some value) = Gives value
divided None = Divides

-- ---- operands
-- What words read: scalars; and at an index the cells, the index, and the value of an array at the
-- index moved by a vector, where that place is held.
pub record Operands : Type 0 where
  pub scalars : List ℤ
  pub cells : List ℤ
  pub index : List ℤ
  pub element : ℕ → List ℤ → Option ℤ

-- where there is no index, nothing but scalars
abbrev pub scalar_operands : List ℤ → Operands
scalar_operands scalars = record { scalars = scalars; cells = []; index = []; element = λ array shift. None }

-- the vector that moves nothing
abbrev pub unmoved : List ℤ
unmoved = pos 0 ∷ pos 0 ∷ pos 0 ∷ []

-- ---- words
-- the stack with a value on top. The top of a stack comes first
abbrev pub pushed : List ℤ → Computed ℤ → Computed (List ℤ)
pushed stack value = mapped (λ top. top ∷ stack) value

-- what a word makes of the stack. A missing operand is something that isn't there
abbrev pub stepped : Operands → ExprOp → List ℤ → Computed (List ℤ)
stepped operands (Const value) stack = pushed stack (Gives value)
stepped operands (Scalar scalar) stack = pushed stack (read (slice_get operands.scalars scalar))
stepped operands (Here array) stack = pushed stack (read (operands.element array unmoved))
stepped operands (Shifted array shift) stack = pushed stack (read (operands.element array shift))
stepped operands (Cell cell) stack = pushed stack (read (slice_get operands.cells cell))
stepped operands (Coord dimension) stack = pushed stack (read (slice_get operands.index (dimension - 1)))
stepped operands (Pair op) (right ∷ left ∷ stack) = pushed stack (divided (applied op left right))
stepped operands Neg (value ∷ stack) = pushed stack (Gives (negated value))
stepped operands Not (value ∷ stack) = pushed stack (Gives (denied value))
stepped operands Abs (value ∷ stack) = pushed stack (Gives (absolute value))
stepped operands word stack = Lacks

-- what words make of the stack, one after another
abbrev pub evaluated : Operands → List ExprOp → List ℤ → Computed (List ℤ)
evaluated operands [] stack = Gives stack
evaluated operands (word ∷ words) stack = and_then (evaluated operands words) (stepped operands word stack)

-- the value on a stack that has no other
abbrev pub only_value : List ℤ → Computed ℤ
only_value (value ∷ []) = Gives value
only_value stack = Lacks

-- the value of an expression's words: the single one that they leave on an empty stack
abbrev pub value_of : Operands → List ExprOp → Computed ℤ
value_of operands words = and_then only_value (evaluated operands words [])

-- ---- trees
-- the value of an expression, from those of its operands
abbrev pub tree_value : Operands → Expression → Computed ℤ
tree_value operands (Constant value) = Gives value
tree_value operands (Variable scalar) = read (slice_get operands.scalars scalar)
tree_value operands (Element array) = read (operands.element array unmoved)
tree_value operands (Neighbour array shift) = read (operands.element array shift)
tree_value operands (CellValue cell) = read (slice_get operands.cells cell)
tree_value operands (Coordinate dimension) = read (slice_get operands.index (dimension - 1))
tree_value operands (Operation op left right) =
    and_then (λ a. and_then (λ b. divided (applied op a b)) (tree_value operands right)) (tree_value operands left)
tree_value operands (Negation operand) = mapped negated (tree_value operands operand)
tree_value operands (Denial operand) = mapped denied (tree_value operands operand)
tree_value operands (Absolute operand) = mapped absolute (tree_value operands operand)

-- ---- why there is no value
-- from this stack, the words come to a quotient or a remainder whose divisor is 0
pub record DividesByZero (operands : Operands) (words : List ExprOp) (stack : List ℤ) : Type 0 where
  pub front : List ExprOp
  pub op : Op
  pub rest : List ExprOp
  pub dividend : ℤ
  pub below : List ℤ
  pub place : words ≡ front ++ Pair op ∷ rest
  pub divides : IsDivision op
  pub zero_on_top : evaluated operands front stack ≡ Gives (pos 0 ∷ dividend ∷ below)

-- the word reads a place of an array that isn't held
abbrev pub IsUnheld : Operands → ExprOp → Type 0
IsUnheld operands (Here array) = operands.element array unmoved ≡ None
IsUnheld operands (Shifted array shift) = operands.element array shift ≡ None
IsUnheld operands word = ⊥

-- from this stack, the words come to such a word
pub record ReadsUnheld (operands : Operands) (words : List ExprOp) (stack : List ℤ) : Type 0 where
  pub front : List ExprOp
  pub word : ExprOp
  pub rest : List ExprOp
  pub after : List ℤ
  pub place : words ≡ front ++ word ∷ rest
  pub unheld : IsUnheld operands word
  pub reached : evaluated operands front stack ≡ Gives after

-- ---- what operands an expression may ask for
-- for each scalar and cell of the tables a value, and an index of this rank at least
pub record HasOperands (tables : Tables) (rank : ℕ) (operands : Operands) : Type 0 where
  pub scalars : tables.scalars ≤ length operands.scalars
  pub cells : tables.cells ≤ length operands.cells
  pub index : rank ≤ length operands.index

-- all values are integers of 64 bits
pub record HasIntegers (operands : Operands) : Type 0 where
  pub scalars : All IsInteger operands.scalars
  pub cells : All IsInteger operands.cells
  pub index : All IsInteger operands.index
  pub elements : (array : ℕ) (shift : List ℤ) (value : ℤ) → operands.element array shift ≡ Some value → IsInteger value

-- a constant of the word is an integer of 64 bits, as each is that a program has
abbrev pub HasInteger : ExprOp → Type 0
HasInteger (Const value) = IsInteger value
HasInteger word = Unit {0}
