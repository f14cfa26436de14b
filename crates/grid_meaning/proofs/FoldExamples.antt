-- Programs whose processors come to one value, or wait for one that never comes.
use Rattle.std.proofs.Common.{◌≡◌, ℕ, ◌*◌, List, [], ◌∷◌, ◌++◌, map, take, drop, replicate, Option, Some, None, pos, ℤ, codes, refl}
use Rattle.std.specs.Fmt.{digits}
use Rattle.std.specs.Int.{int_wrap}
use Rattle.node_form.specs.of_zpl_nums.declared.operators.Op.TheVariants as op
use Rattle.node_form.specs.of_zpl_nums.declared.ends.End.{End}
use Rattle.node_form.specs.of_zpl_nums.declared.ends.End.TheVariants.{Done, Trap}
use Rattle.node_form.specs.of_zpl_nums.declared.ends.TrapKind.TheVariants.{DivideByZero}
use Rattle.node_form.specs.of_zpl_nums.declared.folds.Fold.TheVariants as f
use Rattle.grid_layout.specs.of_zpl_region.declared.dims.Dim.TheVariants as dim
use Rattle.grid_layout.specs.of_zpl_region.declared.regions.Region.{Region}
use Rattle.grid_layout.specs.of_zpl_region.Region.{padding}
use Rattle.grid_links.specs.Machine.{Waiting, Over}
use Rattle.node_form.specs.declared.tables.Tables.{Tables}
use Rattle.node_form.specs.declared.members.Member.TheVariants.{Acc, Cell}
use Rattle.node_form.specs.declared.words.ExprOp.TheVariants.{Const, Scalar, Coord, Pair}
use Rattle.node_form.specs.declared.instructions.Instr.{Instr}
use Rattle.node_form.specs.declared.instructions.Instr.TheVariants as instr
use Rattle.grid_meaning.specs.Collective.{kept_with}
use Rattle.grid_meaning.specs.Grid.{Grid, next_turn, after}
use Rattle.grid_meaning.specs.Order.{given}

abbrev scalars : Grid → List (List ℤ)
scalars grid = map (λ local. local.scalars) grid.world.locals

abbrev endings : Grid → List (Option End)
endings grid = map (λ local. local.ended) grid.world.locals

abbrev range : ℤ → ℤ → Region
range lo hi = record { rank = 1; dims = dim.Range lo hi (pos 1) lo ∷ padding ∷ padding ∷ [] }

-- ---- Of two processors the second one owns index 1. It adds 1 there, and goes to a `fold`, where it awaits an answer that
-- never comes: the first one has gone behind the last instruction.
abbrev one_waits : Tables
one_waits = record {
  grid = 2 ∷ 0 ∷ 0 ∷ [];
  scalars = 1;
  cells = 0;
  slots = 1 ∷ [];
  arrays = [];
  texts = [];
  exprs = (Const (pos 1) ∷ []) ∷ (Scalar 0 ∷ []) ∷ [];
  groups = (Acc 0 f.Sum 0 None 1 ∷ []) ∷ [];
  exchanges = [];
  code =
      instr.Fix 0 (range (pos 1) (pos 1)) ∷ instr.Loop 0 0 ∷ instr.Unless 1 4 1 ∷ instr.Fold 0 f.Sum ∷ instr.End ∷ [];
}

abbrev waits_after : Option ℕ → ℕ → Grid
waits_after links count = after one_waits links (given [] 2 count)

abbrev walk : Grid → List (ℕ × ℕ × List ℤ)
walk grid = map (λ local. (local.at, local.index, local.scalars)) grid.world.locals

after_one_lap : walk (waits_after None 2) ≡ (1, 0, pos 0 ∷ []) ∷ (1, 0, pos 0 ∷ []) ∷ []
unfolding int_wrap
after_one_lap = refl

-- the first has no index, and leaves the loop; the second is at its index
after_two_laps : walk (waits_after None 4) ≡ (2, 0, pos 0 ∷ []) ∷ (1, 1, pos 1 ∷ []) ∷ []
unfolding int_wrap
after_two_laps = refl

after_four_laps : endings (waits_after (Some 1) 8) ≡ Some Done ∷ None ∷ []
unfolding int_wrap
after_four_laps = refl

-- its value is on its way to the first one
abbrev sends_and_made : Grid → ℕ × List ℕ
sends_and_made grid = (grid.sends, map (λ local. local.made) grid.world.locals)

at_rest : sends_and_made (waits_after (Some 1) 10) ≡ (1, 0 ∷ 1 ∷ [])
unfolding int_wrap
at_rest = refl

first_is_over : next_turn one_waits (Some 1) (waits_after (Some 1) 10) 0 ≡ Over
unfolding int_wrap
first_is_over = refl

second_waits : next_turn one_waits (Some 1) (waits_after (Some 1) 10) 1 ≡ Waiting
unfolding int_wrap
second_waits = refl

-- ---- Three processors, whose scalars are 5, 7 and 11, come to their sum, over a star and over a tree.
abbrev three_join : Instr → Tables
three_join row = record {
  grid = 3 ∷ 0 ∷ 0 ∷ [];
  scalars = 1;
  cells = 0;
  slots = 1 ∷ [];
  arrays = [];
  texts = [];
  exprs = (Const (pos 2) ∷ Coord 1 ∷ Pair op.Mul ∷ []) ∷ (Scalar 0 ∷ []) ∷ [];
  groups = (Acc 0 f.Sum 0 None 1 ∷ []) ∷ [];
  exchanges = [];
  code = instr.Fix 0 (range (pos 1) (pos 3)) ∷ instr.Loop 0 0 ∷ row ∷ instr.Number 1 ∷ [];
}

abbrev join_after : Instr → Option ℕ → ℕ → Grid
join_after row links count = after (three_join row) links (given [] 3 count)

-- without arrays of rank 1 the last block has all indices from 0 on
own_sums : scalars (join_after (instr.Fold 0 f.Sum) None 15)
    ≡ (pos 0 ∷ []) ∷ (pos 0 ∷ []) ∷ (pos 12 ∷ []) ∷ []
unfolding int_wrap
own_sums = refl

all_sums : scalars (join_after (instr.Fold 0 f.Sum) (Some 1) 40)
    ≡ (pos 12 ∷ []) ∷ (pos 12 ∷ []) ∷ (pos 12 ∷ []) ∷ []
unfolding int_wrap digits
all_sums = refl

tree_sums : scalars (join_after (instr.TreeFold 0 f.Sum) (Some 1) 40)
    ≡ (pos 12 ∷ []) ∷ (pos 12 ∷ []) ∷ (pos 12 ∷ []) ∷ []
unfolding int_wrap digits
tree_sums = refl

prints_sum : (join_after (instr.TreeFold 0 f.Sum) None 40).printed ≡ codes "12"
unfolding int_wrap digits
prints_sum = refl

-- ---- A zero divisor on the third of three processors: all learn of it, and all trap at the member's line.
abbrev one_divides : Instr → Tables
one_divides row = record (three_join row) {
  cells = 1;
  exprs = (Const (pos 6) ∷ Coord 1 ∷ Const (pos 2) ∷ Pair op.Sub ∷ Pair op.Div ∷ []) ∷ [];
  groups = (Cell 0 0 None 8 ∷ Cell 0 0 None 9 ∷ []) ∷ [];
  code = instr.Fix 0 (range (pos 1) (pos 3)) ∷ instr.Loop 0 0 ∷ row ∷ [];
}

abbrev divides_after : Instr → Option ℕ → ℕ → Grid
divides_after row links count = after (one_divides row) links (given [] 3 count)

abbrev flags : Grid → List (Option ℕ)
flags grid = map (λ local. local.flag) grid.world.locals

one_flag : flags (divides_after (instr.Vote 0) None 15) ≡ None ∷ None ∷ Some 0 ∷ []
unfolding int_wrap
one_flag = refl

all_trap : endings (divides_after (instr.Vote 0) (Some 2) 40)
    ≡ replicate 3 (Some (Trap DivideByZero 8))
unfolding int_wrap
all_trap = refl

tree_traps : endings (divides_after (instr.TreeVote 0) (Some 1) 40)
    ≡ replicate 3 (Some (Trap DivideByZero 8))
unfolding int_wrap
tree_traps = refl

-- ---- What is kept ascends by sender: of a processor in a tree, its parent's word stands before its children's.
parent_first : kept_with 0 (pos 9 ∷ []) ((3, pos 5 ∷ []) ∷ (4, pos 7 ∷ []) ∷ [])
    ≡ (0, pos 9 ∷ []) ∷ (3, pos 5 ∷ []) ∷ (4, pos 7 ∷ []) ∷ []
parent_first = refl

between : kept_with 3 (pos 5 ∷ []) ((0, pos 9 ∷ []) ∷ (4, pos 7 ∷ []) ∷ [])
    ≡ (0, pos 9 ∷ []) ∷ (3, pos 5 ∷ []) ∷ (4, pos 7 ∷ []) ∷ []
between = refl

-- of four processors the second has taken a word of its child, sent to its parent and taken the answer
abbrev kept_of_second : Grid → List (List (ℕ × List ℤ))
kept_of_second grid = map (λ local. local.kept) (take 1 (drop 1 grid.world.locals))

abbrev four_join : Tables
four_join = record (three_join (instr.TreeFold 0 f.Sum)) { grid = 4 ∷ 0 ∷ 0 ∷ [] }

parent_and_child : kept_of_second (after four_join None (given [] 4 (4 * 2) ++ 3 ∷ (3 ∷ (3 ∷ (3 ∷ (3 ∷ [])))) ++ 2 ∷ (2 ∷ []) ++ 1 ∷ (1 ∷ []) ++ 0 ∷ (0 ∷ (0 ∷ [])) ++ 1 ∷ []))
    ≡ ((0, pos 12 ∷ []) ∷ (3, pos 12 ∷ []) ∷ []) ∷ []
unfolding int_wrap
parent_and_child = refl
