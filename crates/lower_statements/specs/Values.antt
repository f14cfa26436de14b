-- Values that go into scalars of their own.
use Rattle.std.specs.Prelude.{ℕ, suc, List, [], ◌∷◌}
use Rattle.node_form.specs.declared.words.ExprOp.{ExprOp}
use Rattle.zpl_tree.specs.Syntax.{Expr}
use Rattle.zpl_names.specs.Sites.{Actual}
use Rattle.flat_form.specs.Row as row
use Rattle.flat_form.specs.Row.{Row}
use Rattle.zpl_lowering.specs.Slate.{Placed}
use Rattle.zpl_lowering.specs.Statement.{placed_in}
use Rattle.zpl_lowering.specs.Where.{Where}

-- rows that set scalars from a number on
abbrev pub set_rows : ℕ → ℕ → List (List ExprOp) → List Row
set_rows line scalar [] = []
set_rows line scalar (words ∷ rest) = row.Set scalar words line ∷ set_rows line (suc scalar) rest

-- An expression that isn't assigned: its rank is the same for an actual, a limit of a `for` and an
-- item of a print.
abbrev pub placed_alone : Where → Expr → Placed
placed_alone w expr = placed_in w Actual expr
