-- Small groups over one number.
use Rattle.std.proofs.Common.{◌≡◌, ℕ, List, [], ◌∷◌, Some, None, ℤ, pos, refl}
use Rattle.std.specs.Int.{int_wrap}
use Rattle.node_form.specs.of_zpl_nums.declared.operators.Op.TheVariants as op
use Rattle.node_form.specs.declared.members.Member.{Member}
use Rattle.node_form.specs.declared.members.Member.TheVariants.{Put, Cell, OpenIf, Otherwise}
use Rattle.node_form.specs.declared.members.Member.TheVariants.{CloseIf}
use Rattle.node_form.specs.declared.members.Member.TheVariants.{OpenWhile, CloseWhile, OpenRepeat}
use Rattle.node_form.specs.declared.members.Member.TheVariants.{Until}
use Rattle.node_form.specs.declared.tables.Tables.{Tables}
use Rattle.node_form.specs.declared.words.ExprOp.TheVariants as word
use Rattle.node_form.specs.Group.{Access, Point, Ran, Through, Again, Divided, ran_from}
use Rattle.node_form.specs.Nest.{Nest, Nothing, Putting, Keeping, Choosing, ChoosingElse, Looping}
use Rattle.node_form.specs.Nest.{Repeating}
use Rattle.node_form.specs.Nest.{members_of}
use Rattle.nest_meaning.specs.Nested.{Told, Fine, Zero, Wants, nested, ways_of}
use Rattle.nest_meaning.specs.Units.{units_of, UnitsDone, units_told}
use Rattle.nest_meaning.specs.Tree.{nest_of}
use Rattle.nest_meaning.specs.Turns.{firsts, loops_in}

-- expressions: the array's element; whether it is below 3; one more; a quotient by 0; the cell
abbrev code : Tables
code = record {
  grid = 1 ∷ 0 ∷ 0 ∷ [];
  scalars = 0;
  cells = 1;
  slots = [];
  arrays = [];
  texts = [];
  exprs =
      (word.Here 0 ∷ [])
      ∷ (word.Here 0 ∷ word.Const (pos 3) ∷ word.Pair op.Lt ∷ [])
      ∷ (word.Here 0 ∷ word.Const (pos 1) ∷ word.Pair op.Add ∷ [])
      ∷ (word.Here 0 ∷ word.Const (pos 0) ∷ word.Pair op.Div ∷ [])
      ∷ (word.Cell 0 ∷ [])
      ∷ [];
  groups = [];
  exchanges = [];
  code = [];
}

-- one array of one element
abbrev access : Access ℤ
access = record {
  index = pos 1 ∷ [];
  element = λ store array shift. Some store;
  with_element = λ store array value. Some value;
}

abbrev at : ℤ → ℤ → Point ℤ
at cell store = record { scalars = []; cells = cell ∷ []; store = store }

abbrev does : ℕ → Nest → ℤ → Told (Point ℤ)
does n nest store = nested (ways_of code access) n nest (at (pos 9) store)

abbrev add_one : Nest → Nest
add_one after = Putting 0 2 None 7 after

-- ---- a loop that adds one as long as the element is below three
abbrev up_to_three : Nest
up_to_three = Looping 1 None 6 (add_one Nothing) Nothing

three_turns : does 3 up_to_three (pos 0) ≡ Fine (at (pos 9) (pos 3))
unfolding int_wrap
three_turns = refl

two_are_not : does 2 up_to_three (pos 0) ≡ Wants
unfolding int_wrap
two_are_not = refl

no_turn_is_enough : does 0 up_to_three (pos 3) ≡ Fine (at (pos 9) (pos 3))
unfolding int_wrap
no_turn_is_enough = refl

-- turn by turn: the loop's closing member goes back three times
members : members_of up_to_three ≡ OpenWhile 1 None 6 ∷ Put 0 2 None 7 ∷ CloseWhile ∷ []
members = refl

abbrev turn : ℤ → Ran ℤ
turn store = ran_from code access (members_of up_to_three) 0 (at (pos 9) store)

first_turn : turn (pos 0) ≡ Again 0 (at (pos 9) (pos 1))
unfolding int_wrap
first_turn = refl

third_turn : turn (pos 2) ≡ Again 0 (at (pos 9) (pos 3))
unfolding int_wrap
third_turn = refl

last_turn : turn (pos 3) ≡ Through (at (pos 9) (pos 3))
unfolding int_wrap
last_turn = refl

-- ---- a loop that tests behind its turns, and a mask
abbrev once_more : Nest
once_more = Repeating (Some 1) 5 (add_one Nothing) 0 Nothing

one_turn : does 1 once_more (pos 0) ≡ Fine (at (pos 9) (pos 1))
unfolding int_wrap
one_turn = refl

masked_out : does 0 once_more (pos 3) ≡ Fine (at (pos 9) (pos 3))
unfolding int_wrap
masked_out = refl

wants_one : does 0 once_more (pos 2) ≡ Wants
unfolding int_wrap
wants_one = refl

-- ---- units: a cell, a zero divisor within a choice, and what is left out behind it
abbrev divides : Nest
divides =
    Keeping 0 0 None 1 (Choosing 1 None 2 (add_one (Putting 0 3 None 3 Nothing)) (add_one Nothing))

stops_there : does 0 divides (pos 2) ≡ Zero (at (pos 2) (pos 3))
unfolding int_wrap
stops_there = refl

goes_on_past : does 0 divides (pos 5) ≡ Fine (at (pos 5) (pos 6))
unfolding int_wrap
goes_on_past = refl

second_unit : units_told (ways_of code access) 0 0 (units_of divides) (at (pos 9) (pos 2))
    ≡ UnitsDone (at (pos 2) (pos 3)) (Some 1)
unfolding int_wrap
second_unit = refl

-- whose first member has number 1
second_member : ran_from code access (members_of divides) 0 (at (pos 9) (pos 2))
    ≡ Divided 1 (at (pos 2) (pos 3))
unfolding int_wrap
second_member = refl

numbers : firsts divides 0 ≡ 0 ∷ 1 ∷ 5 ∷ []
numbers = refl

-- ---- members seen as trees
abbrev both : List Member
both =
    OpenIf 1 None 2 ∷ OpenWhile 1 None 3 ∷ Put 0 2 None 4 ∷ CloseWhile ∷ Otherwise ∷ OpenRepeat None
    5
    ∷ Put 0 2 None 6 ∷ Until 0 ∷ CloseIf ∷ Cell 0 0 None 7 ∷ []

both_are : nest_of both
    ≡ Some (ChoosingElse 1 None 2 (Looping 1 None 3 (Putting 0 2 None 4 Nothing) Nothing)
    (Repeating None 5 (Putting 0 2 None 6 Nothing) 0 Nothing) (Keeping 0 0 None 7 Nothing))
both_are = refl

crossed : nest_of (OpenIf 1 None 2 ∷ OpenWhile 1 None 3 ∷ CloseIf ∷ CloseWhile ∷ []) ≡ None
crossed = refl

left_open : nest_of (OpenIf 1 None 2 ∷ Put 0 2 None 4 ∷ []) ≡ None
left_open = refl

second_else : nest_of (OpenIf 1 None 2 ∷ Otherwise ∷ Otherwise ∷ CloseIf ∷ []) ≡ None
second_else = refl

two_loops : loops_in (Looping 1 None 3 (Repeating None 5 Nothing 0 Nothing) Nothing) ≡ 2
two_loops = refl
