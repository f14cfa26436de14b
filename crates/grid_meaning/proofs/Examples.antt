-- Two processors, each of which sets a scalar to 20; processor 0 prints `hi` and the scalar plus 1.
use Rattle.std.proofs.Common.{◌≡◌, ℕ, List, [], ◌∷◌, map, Option, Some, None, pos, codes, refl}
use Rattle.std.specs.Fmt.{digits}
use Rattle.std.specs.Int.{int_wrap}
use Rattle.node_form.specs.of_zpl_nums.declared.operators.Op.TheVariants as op
use Rattle.node_form.specs.of_zpl_nums.declared.ends.End.{End}
use Rattle.node_form.specs.of_zpl_nums.declared.ends.End.TheVariants.{Done}
use Rattle.node_form.specs.declared.tables.Tables.{Tables}
use Rattle.node_form.specs.declared.words.ExprOp.TheVariants.{Const, Scalar, Pair}
use Rattle.node_form.specs.declared.instructions.Instr.TheVariants as instr
use Rattle.grid_meaning.specs.Grid.{Grid, after}
use Rattle.grid_meaning.specs.Order.{given}

abbrev two_greet : Tables
two_greet = record {
  grid = 2 ∷ 0 ∷ 0 ∷ [];
  scalars = 1;
  cells = 0;
  slots = [];
  arrays = [];
  texts = codes "hi" ∷ [];
  exprs = (Const (pos 20) ∷ []) ∷ (Scalar 0 ∷ Const (pos 1) ∷ Pair op.Add ∷ []) ∷ [];
  groups = [];
  exchanges = [];
  code = instr.Set 0 0 1 ∷ instr.Print 0 ∷ instr.Number 1 ∷ instr.End ∷ [];
}

-- turns of the two in alternation
abbrev after_turns : Option ℕ → ℕ → Grid
after_turns links count = after two_greet links (given [] 2 count)

-- how each processor has ended, once it has
abbrev endings : Grid → List (Option End)
endings grid = map (λ local. local.ended) grid.world.locals

eight_turns_print : (after_turns None 8).printed ≡ codes "hi21"
unfolding int_wrap digits
eight_turns_print = refl

over_after_eight : endings (after_turns (Some 1) 8) ≡ Some Done ∷ Some Done ∷ []
unfolding int_wrap digits
over_after_eight = refl

not_over_after_seven : endings (after_turns (Some 2) 7) ≡ Some Done ∷ None ∷ []
unfolding int_wrap digits
not_over_after_seven = refl

-- the rounds go on behind an order
rounds : given (1 ∷ 1 ∷ 0 ∷ []) 2 7 ≡ 1 ∷ 1 ∷ 0 ∷ 0 ∷ 1 ∷ 0 ∷ 1 ∷ []
rounds = refl
