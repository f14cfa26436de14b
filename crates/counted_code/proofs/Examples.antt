-- A group with a loop, and its counted one, computed.
use Rattle.std.proofs.Common.{◌≡◌, ℕ, ℤ, List, [], ◌∷◌, ◌++◌, None, Some, map, negsuc}
use Rattle.std.proofs.Common.{refl, pos}
use Rattle.zpl_region.specs.declared.dims.Dim.TheVariants as dim
use Rattle.zpl_region.specs.Region.{padding}
use Rattle.zpl_nums.specs.declared.operators.Op.TheVariants as op
use Rattle.node_form.specs.declared.instructions.Instr.TheVariants as instr
use Rattle.node_form.specs.declared.members.Member.{Member}
use Rattle.node_form.specs.declared.members.Member.TheVariants as member
use Rattle.node_form.specs.declared.tables.Tables.{Tables}
use Rattle.node_form.specs.declared.words.ExprOp.TheVariants as word
use Rattle.node_form.specs.Group.{Access, Point, Again, Through, ran_from}
use Rattle.grid_meaning.specs.Grid.{after}
use Rattle.grid_meaning.specs.Local.{Local}
use Rattle.counted_code.specs.Alike.{most_counted, stretched, stretched_word}
use Rattle.counted_code.specs.Counted.{counted, counted_group}

-- a loop that would never end: `while 1` with nothing in it
abbrev endless : List Member
endless = member.OpenWhile 0 None 7 ∷ member.CloseWhile ∷ []

abbrev code : Tables
code = record {
  grid = 1 ∷ 0 ∷ 0 ∷ [];
  scalars = 0;
  cells = 0;
  slots = [];
  arrays = [];
  texts = [];
  exprs = (word.Const (pos 1) ∷ []) ∷ [];
  groups = endless ∷ [];
  exchanges = [];
  code = [];
}

-- with two turns at most: the tests of the `while` and the `until`, three numbers, two tests
exprs_of_two : (counted 2 code).exprs
    ≡ (word.Const (pos 1) ∷ [])
    ∷ (word.Const (pos 1) ∷ word.Cell 0 ∷ word.Const (pos 2) ∷ word.Pair op.Lt ∷ word.Pair op.And ∷
    [])
    ∷ (word.Const (pos 1) ∷ word.Cell 0 ∷ word.Const (pos 2) ∷ word.Pair op.Ge ∷ word.Pair op.Or ∷
    [])
    ∷ (word.Const (pos 0) ∷ []) ∷ (word.Const (pos 1) ∷ []) ∷ (word.Const (pos 2) ∷ [])
    ∷ (word.Cell 0 ∷ word.Const (pos 0) ∷ word.Pair op.Eq ∷ [])
    ∷ (word.Cell 0 ∷ word.Const (pos 1) ∷ word.Pair op.Eq ∷ []) ∷ []
exprs_of_two = refl

group_of_two : counted_group 2 code endless
    ≡ member.OpenWhile 1 None 7 ∷ member.Cell 0 5 (Some 7) 0 ∷ member.Cell 0 4 (Some 6) 0
    ∷ member.CloseWhile ∷ member.Cell 0 3 (Some 3) 0 ∷ member.Cell 0 3 (Some 3) 0 ∷ []
group_of_two = refl

-- nothing else is at the index
abbrev nowhere : Access ℕ
nowhere = record {
  index = [];
  element = λ store array shift. None;
  with_element = λ store array value. None;
}

abbrev counts : ℕ → Point ℕ
counts count = record { scalars = []; cells = pos count ∷ []; store = 0 }

-- it goes back twice, and then is through
first_turn : ran_from (counted 2 code) nowhere (counted_group 2 code endless) 0 (counts 0)
    ≡ Again 0 (counts 1)
first_turn = refl

second_turn : ran_from (counted 2 code) nowhere (counted_group 2 code endless) 0 (counts 1)
    ≡ Again 0 (counts 2)
second_turn = refl

third_turn : ran_from (counted 2 code) nowhere (counted_group 2 code endless) 0 (counts 2)
    ≡ Through (counts 2)
third_turn = refl

-- a `while` within a `while`: one move enters both, and counts two turns
abbrev within : List Member
within = member.OpenWhile 0 None 7 ∷ member.OpenWhile 0 None 8 ∷ member.CloseWhile ∷
    member.CloseWhile ∷ []

two_at_once : ran_from (counted 4 code) nowhere (counted_group 4 code within) 0 (counts 0)
    ≡ Again 5 (counts 2)
two_at_once = refl

-- a `repeat` whose test is always 0 ends too
abbrev again : List Member
again = member.OpenRepeat None 7 ∷ member.Until 1 ∷ []

abbrev code_again : Tables
code_again = record code {
  exprs = code.exprs ++ (word.Const (pos 0) ∷ []) ∷ [];
  groups =
      again ∷ [];
}

goes_back : ran_from (counted 2 code_again) nowhere (counted_group 2 code_again again) 0 (counts 0)
    ≡ Again 0 (counts 1)
goes_back = refl

ends_here : ran_from (counted 2 code_again) nowhere (counted_group 2 code_again again) 0 (counts 1)
    ≡ Through (counts 2)
ends_here = refl

-- ---- a grid of one processor: at its loop it stays, with the cell counting along
abbrev running : Tables
running = record code {
  slots = 1 ∷ [];
  code =
      instr.Fix 0 (record {
        rank = 1;
        dims = dim.Range (pos 1) (pos 1) (pos 1) (pos 1) ∷ padding ∷ padding ∷ [];
      })
      ∷ instr.Loop 0 0 ∷ [];
}

-- the next instruction, and the cells
abbrev shown : Local → ℕ × List ℤ
shown local = (local.at, local.cells)

three_turns : map shown (after running None (0 ∷ 0 ∷ 0 ∷ [])).world.locals ≡ (1, []) ∷ []
three_turns = refl

three_counted : map shown (after (counted 8 running) None (0 ∷ 0 ∷ 0 ∷ [])).world.locals
    ≡ (1, pos 2 ∷ []) ∷ []
three_counted = refl

-- with one turn at most the loop is left in the third turn
three_left : map shown (after (counted 1 running) None (0 ∷ 0 ∷ 0 ∷ 0 ∷ [])).world.locals
    ≡ (2, pos 1 ∷ []) ∷ []
three_left = refl

most_of_three : most_counted running 3 ≡ 6
most_of_three = refl

-- the third member has the number 2 * (n + 1)
stretched_two : stretched 4 2 ≡ 10
stretched_two = refl

no_flag : stretched_word 4 (negsuc 0) ≡ negsuc 0
no_flag = refl
