-- The definitions, computed on small tables, expressions and groups.
use Rattle.std.proofs.Common.{◌≡◌, List, [], ◌∷◌, true, cond, get_or, ℤ, pos, negsuc, refl, arith}
use Rattle.std.specs.Prelude.{Some, None}
use Rattle.std.specs.Int.{int_wrap}
use Rattle.std.specs.Ordering.{int_eq}
use Rattle.zpl_arrays.specs.of_zpl_nums.declared.ends.End.TheVariants as ending
use Rattle.zpl_arrays.specs.of_zpl_nums.declared.ends.TrapKind.TheVariants.{OutsideStorage, RegionLimit, RegionMismatch}
use Rattle.zpl_arrays.specs.of_zpl_nums.declared.operators.Op.TheVariants as op
use Rattle.zpl_arrays.specs.of_zpl_nums.Integer.{least}
use Rattle.zpl_arrays.specs.of_zpl_region.declared.dims.Dim.TheVariants as dim
use Rattle.zpl_arrays.specs.of_zpl_region.declared.regions.Region.{Region}
use Rattle.zpl_arrays.specs.of_zpl_region.Region.{padding}
use Rattle.node_form.specs.declared.arrays.ArrayDim.TheVariants as axis
use Rattle.node_form.specs.declared.arrays.ArrayRow.{ArrayRow}
use Rattle.node_form.specs.declared.instructions.DimRow.TheVariants.{Span, Star, Copied}
use Rattle.node_form.specs.declared.instructions.RegionForm.TheVariants.{At}
use Rattle.node_form.specs.declared.instructions.Instr.TheVariants as instr
use Rattle.node_form.specs.declared.members.Member.{Member}
use Rattle.node_form.specs.declared.members.Member.TheVariants as member
use Rattle.node_form.specs.declared.nests.Opening.TheVariants as opening
use Rattle.node_form.specs.declared.tables.Tables.{Tables}
use Rattle.node_form.specs.declared.words.ExprOp.TheVariants.{Const, Scalar, Here, Shifted, Cell, Coord, Pair, Neg, Not, Abs}
use Rattle.node_form.specs.Control.{Registers, Steps, Ends, control}
use Rattle.node_form.specs.Expression.{Constant, Variable, Operation, IsExpression}
use Rattle.node_form.specs.Fits.{FitsAt}
use Rattle.node_form.specs.Grid.{factors_of, processors_of}
use Rattle.node_form.specs.Group.{Access, Point, Through, Again, Divided, Unheld, ran_from, units}
use Rattle.node_form.specs.Nest.{opened}
use Rattle.node_form.specs.Value.{Gives, Divides, Lacks, Operands, scalar_operands, value_of, tree_value}
use Rattle.node_form.proofs.Depth.{IsExpression-depth}

-- ---- expressions
-- two values that nothing joins, and an operator with one operand
two_values : ¬ IsExpression (Const (pos 1) ∷ Const (pos 2) ∷ [])
two_values h = let one = (IsExpression-depth (Const (pos 1) ∷ Const (pos 2) ∷ [])).0 h in cc

one_operand : ¬ IsExpression (Const (pos 1) ∷ Pair op.Add ∷ [])
one_operand h = let one = (IsExpression-depth (Const (pos 1) ∷ Pair op.Add ∷ [])).0 h in cc

sum : value_of (scalar_operands (pos 20 ∷ [])) (Scalar 0 ∷ Const (pos 1) ∷ Pair op.Add ∷ []) ≡ Gives (pos 21)
unfolding int_wrap
sum = refl

sum_of_the_tree : tree_value (scalar_operands (pos 20 ∷ [])) (Operation op.Add (Variable 0) (Constant (pos 1))) ≡ Gives (pos 21)
unfolding int_wrap
sum_of_the_tree = refl

quotient : value_of (scalar_operands []) (Const (pos 7) ∷ Const (pos 2) ∷ Neg ∷ Pair op.Div ∷ []) ≡ Gives (negsuc 2)
unfolding int_wrap
quotient = refl

quotient_by_zero : value_of (scalar_operands (pos 0 ∷ [])) (Const (pos 7) ∷ Scalar 0 ∷ Pair op.Div ∷ []) ≡ Divides
quotient_by_zero = refl

negation_of_the_least : value_of (scalar_operands []) (Const least ∷ Neg ∷ []) ≡ Gives least
unfolding int_wrap
negation_of_the_least = refl

absolute_value_of_the_least : value_of (scalar_operands []) (Const least ∷ Abs ∷ []) ≡ Gives least
unfolding int_wrap
absolute_value_of_the_least = refl

denial_of_two : value_of (scalar_operands []) (Const (pos 2) ∷ Not ∷ []) ≡ Gives (pos 0)
denial_of_two = refl

denial_of_zero : value_of (scalar_operands []) (Const (pos 0) ∷ Not ∷ []) ≡ Gives (pos 1)
denial_of_zero = refl

no_scalar : value_of (scalar_operands []) (Scalar 0 ∷ []) ≡ Lacks
no_scalar = refl

two_left : value_of (scalar_operands []) (Const (pos 1) ∷ Const (pos 2) ∷ []) ≡ Lacks
two_left = refl

-- at index (3, 5), where array 1 holds 7 at the index and nothing beside it
abbrev at_three_five : Operands
at_three_five = record {
  scalars = [];
  cells = pos 9 ∷ [];
  index = pos 3 ∷ pos 5 ∷ pos 0 ∷ [];
  element = λ array shift. cond (int_eq (get_or shift 0 (pos 0)) (pos 0)) (Some (pos 7)) None;
}

second_coordinate : value_of at_three_five (Coord 2 ∷ []) ≡ Gives (pos 5)
second_coordinate = refl

cell_and_array : value_of at_three_five (Cell 0 ∷ Here 1 ∷ Pair op.Sub ∷ []) ≡ Gives (pos 2)
unfolding int_wrap
cell_and_array = refl

unheld : value_of at_three_five (Shifted 1 (pos 1 ∷ pos 0 ∷ pos 0 ∷ []) ∷ []) ≡ Lacks
unheld = refl

-- of two causes the first in postfix order counts
division_first : value_of at_three_five (Const (pos 1) ∷ Const (pos 0) ∷ Pair op.Div ∷ Shifted 1 (pos 1 ∷ pos 0 ∷ pos 0 ∷ []) ∷ Pair op.Add ∷ []) ≡ Divides
division_first = refl

place_first : value_of at_three_five (Shifted 1 (pos 1 ∷ pos 0 ∷ pos 0 ∷ []) ∷ Const (pos 1) ∷ Const (pos 0) ∷ Pair op.Div ∷ Pair op.Add ∷ []) ≡ Lacks
place_first = refl

-- ---- grids
three_factors : processors_of (2 ∷ 3 ∷ 4 ∷ []) ≡ 24
three_factors = refl

factors_in_front : factors_of (2 ∷ 0 ∷ 3 ∷ []) ≡ 2 ∷ []
factors_in_front = refl

-- ---- tables of an array [1..4] with a fringe of 1, a slot of its rank, and expressions 20, scalar 0 minus 1, array 0,
-- array 0 beside the index, scalar 0, and 1 divided by array 0
abbrev line_of_four : ArrayRow
line_of_four = record { rank = 1; stored = true; dims = axis.Range (pos 1) (pos 4) (pos 1) (pos 1) ∷ axis.Range (pos 0) (pos 0) (pos 0) (pos 0) ∷ axis.Range (pos 0) (pos 0) (pos 0) (pos 0) ∷ [] }

abbrev tables : Tables
tables = record {
  grid = 2 ∷ 0 ∷ 0 ∷ [];
  scalars = 1;
  cells = 1;
  slots = 1 ∷ [];
  arrays = line_of_four ∷ [];
  texts = [];
  exprs = (Const (pos 20) ∷ []) ∷ (Scalar 0 ∷ Const (pos 1) ∷ Pair op.Sub ∷ []) ∷ (Here 0 ∷ []) ∷ (Shifted 0 (pos 1 ∷ pos 0 ∷ pos 0 ∷ []) ∷ []) ∷ (Scalar 0 ∷ []) ∷ (Const (pos 1) ∷ Here 0 ∷ Pair op.Div ∷ []) ∷ [];
  groups = [];
  exchanges = [];
  code = instr.Set 0 0 1 ∷ instr.End ∷ [];
}

-- a goal may be behind the last instruction, and no further
goal_behind : FitsAt tables 0 (instr.Jump 2)
goal_behind = omega arith

goal_too_far : ¬ FitsAt tables 0 (instr.Jump 3)
goal_too_far fits = omega arith

no_such_scalar : ¬ FitsAt tables 0 (instr.Set 1 0 1)
no_such_scalar fits = let inside = fits.0 in omega arith

-- ---- rows that need scalars and slots alone
abbrev region : ℤ → ℤ → Region
region lo hi = record { rank = 1; dims = dim.Range lo hi (pos 1) lo ∷ padding ∷ padding ∷ [] }

abbrev registers : Registers
registers = record { scalars = pos 3 ∷ []; slots = region (pos 1) (pos 4) ∷ [] }

sets : control tables registers (instr.Set 0 1 1) ≡ Steps (record registers { scalars = pos 2 ∷ [] })
unfolding int_wrap
sets = refl

spans : control tables registers (instr.Dims 0 (Span 0 4 ∷ Star ∷ Star ∷ []) 7) ≡ Steps (record registers { slots = region (pos 20) (pos 3) ∷ [] })
spans = refl

copies : control tables registers (instr.Dims 0 (Copied 0 ∷ Star ∷ Star ∷ []) 7) ≡ Steps registers
copies = refl

moves : control tables registers (instr.Formed At 0 0 (pos 1 ∷ pos 0 ∷ pos 0 ∷ []) 7) ≡ Steps (record registers { slots = region (pos 2) (pos 5) ∷ [] })
moves = refl

past_the_limit : control tables registers (instr.Formed At 0 0 (pos 2147483648 ∷ pos 0 ∷ pos 0 ∷ []) 7) ≡ Ends (ending.Trap RegionLimit 7)
past_the_limit = refl

inside_the_storage : control tables registers (instr.Need 0 0 (pos 0 ∷ pos 0 ∷ pos 0 ∷ []) 7) ≡ Steps registers
inside_the_storage = refl

outside_the_storage : control tables registers (instr.Need 0 0 (pos 1 ∷ pos 0 ∷ pos 0 ∷ []) 7) ≡ Ends (ending.Trap OutsideStorage 7)
outside_the_storage = refl

too_wide_a_border : control tables registers (instr.Fits 0 (pos 5 ∷ pos 0 ∷ pos 0 ∷ []) 7) ≡ Ends (ending.Trap RegionMismatch 7)
too_wide_a_border = refl

goes_by_the_test : control tables registers (instr.Unless 4 9 7) ≡ Steps registers
goes_by_the_test = refl

-- ---- groups, at index 2, where the store is the array's value there, and nothing is held beside it
abbrev at_two : Access ℤ
at_two = record {
  index = pos 2 ∷ pos 0 ∷ pos 0 ∷ [];
  element = λ store array shift. cond (int_eq (get_or shift 0 (pos 0)) (pos 0)) (Some store) None;
  with_element = λ store array value. Some value;
}

abbrev point : ℤ → ℤ → Point ℤ
point scalar value = record { scalars = scalar ∷ []; cells = pos 0 ∷ []; store = value }

-- a turn ends where `od` goes back
a_turn_ends_at_od : ran_from tables at_two (member.OpenWhile 4 None 1 ∷ member.Cell 0 1 None 1 ∷ member.CloseWhile ∷ []) 0 (point (pos 2) (pos 7)) ≡ Again 0 (record { scalars = pos 2 ∷ []; cells = pos 1 ∷ []; store = pos 7 })
unfolding int_wrap
a_turn_ends_at_od = refl

a_loop_is_left : ran_from tables at_two (member.OpenWhile 4 None 1 ∷ member.Cell 0 1 None 1 ∷ member.CloseWhile ∷ member.Put 0 0 None 2 ∷ []) 0 (point (pos 0) (pos 7)) ≡ Through (point (pos 0) (pos 20))
unfolding int_wrap
a_loop_is_left = refl

-- if array 0 then put 20 else put scalar 0
abbrev chooses : List Member
chooses = member.OpenIf 2 None 1 ∷ member.Put 0 0 None 1 ∷ member.Otherwise ∷ member.Put 0 4 None 1 ∷ member.CloseIf ∷ []

then_part : ran_from tables at_two chooses 0 (point (pos 5) (pos 7)) ≡ Through (point (pos 5) (pos 20))
then_part = refl

else_part : ran_from tables at_two chooses 0 (point (pos 5) (pos 0)) ≡ Through (point (pos 5) (pos 5))
else_part = refl

-- a mask that is 0 skips all that is enclosed
masked : ran_from tables at_two (member.OpenIf 0 (Some 2) 1 ∷ member.OpenIf 0 None 1 ∷ member.Put 0 0 None 1 ∷ member.CloseIf ∷ member.Otherwise ∷ member.Put 0 0 None 1 ∷ member.CloseIf ∷ []) 0 (point (pos 5) (pos 0)) ≡ Through (point (pos 5) (pos 0))
masked = refl

-- a zero divisor within an `if` is told by the number of the `if`, and the rest is left out
divided : ran_from tables at_two (member.Put 0 4 None 1 ∷ member.OpenIf 0 None 2 ∷ member.Put 0 5 None 3 ∷ member.CloseIf ∷ member.Put 0 0 None 4 ∷ []) 0 (point (pos 0) (pos 7)) ≡ Divided 1 (point (pos 0) (pos 0))
divided = refl

not_held : ran_from tables at_two (member.Put 0 3 None 1 ∷ []) 0 (point (pos 0) (pos 7)) ≡ Unheld
not_held = refl

-- `until` goes back as long as its expression is 0
goes_back : ran_from tables at_two (member.Put 0 0 None 1 ∷ member.OpenRepeat None 1 ∷ member.Until 4 ∷ []) 1 (point (pos 0) (pos 7)) ≡ Again 1 (point (pos 0) (pos 7))
goes_back = refl

goes_through : ran_from tables at_two (member.Put 0 0 None 1 ∷ member.OpenRepeat None 1 ∷ member.Until 4 ∷ []) 1 (point (pos 1) (pos 7)) ≡ Through (point (pos 1) (pos 7))
goes_through = refl

units_of_three : units (member.Put 0 0 None 1 ∷ member.OpenRepeat None 1 ∷ member.Put 0 0 None 1 ∷ member.Until 4 ∷ member.Cell 0 0 None 1 ∷ []) ≡ (member.Put 0 0 None 1 ∷ []) ∷ (member.OpenRepeat None 1 ∷ member.Put 0 0 None 1 ∷ member.Until 4 ∷ []) ∷ (member.Cell 0 0 None 1 ∷ []) ∷ []
units_of_three = refl

-- ---- nests
else_outside_an_if : opened [] (member.Otherwise ∷ []) ≡ None
else_outside_an_if = refl

od_in_an_if : opened [] (member.OpenWhile 0 None 1 ∷ member.OpenIf 0 None 1 ∷ member.CloseWhile ∷ []) ≡ None
od_in_an_if = refl

left_open : opened [] (member.OpenWhile 0 None 1 ∷ member.OpenIf 0 None 1 ∷ member.Otherwise ∷ []) ≡ Some (opening.Else ∷ opening.While ∷ [])
left_open = refl
