-- What the code for expressions reads, and what it answers.
use Rattle.std.specs.Prelude.{ℕ, ℤ, List, [], ◌∷◌, drop, Result, Ok, Err}
use Rattle.grid_meaning.specs.of_zpl_nums.declared.operators.UnaryOp.{UnaryOp}
use Rattle.grid_meaning.specs.of_zpl_nums.UnaryOp.{applied_unary}
use Rattle.grid_meaning.specs.of_node_form.declared.words.ExprOp.{ExprOp}
use Rattle.grid_meaning.specs.of_zpl_arrays.Array.{Array}
use Rattle.grid_meaning.specs.of_node_form.Group.{Point, operands_at}
use Rattle.grid_meaning.specs.of_node_form.Value.{Computed, Gives, Divides, Lacks, Operands, value_of}
use Rattle.grid_meaning.specs.Local.{Local}
use Rattle.grid_meaning.specs.Loop.{access_at, point_of}
use Rattle.node_local.specs.declared.memories.Memory.{Memory}
use Rattle.node_local.specs.declared.values.NoValue.{NoValue}
use Rattle.node_local.specs.declared.values.NoValue.TheVariants as no

-- ---- what is read
abbrev pub point_in : Memory → Point (List Array)
point_in memory = record {
  scalars = memory.scalars.items;
  cells = memory.cells.items;
  store = memory.stores.items;
}

abbrev pub operands_in : Memory → List ℤ → Operands
operands_in memory t = operands_at (access_at t) (point_in memory)

-- ---- answers
abbrev pub not_given : {X : Type 0} → NoValue → Computed X
not_given no.Divides = Divides
not_given no.Lacks = Lacks

abbrev pub computed_by : Result ℤ NoValue → Computed ℤ
computed_by (Ok value) = Gives value
computed_by (Err none) = not_given none

-- the stack from a place on, the top first
abbrev pub stack_from : List ℤ → Result ℕ NoValue → Computed (List ℤ)
stack_from stack (Ok top) = Gives (drop top stack)
stack_from stack (Err none) = not_given none

-- an operator's value in the place of its operand
abbrev pub with_unary : UnaryOp → List ℤ → Computed (List ℤ)
with_unary op [] = Lacks
with_unary op (value ∷ stack) = Gives (applied_unary op value ∷ stack)

-- ---- the value of an expression's words, of what a processor has at an index
abbrev pub value_here : Local → List ℤ → List ExprOp → Computed ℤ
value_here local t words = value_of (operands_at (access_at t) (point_of local)) words
