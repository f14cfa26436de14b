-- Values with operators over regions, by their text, with what was computed before the run and what
-- names stand for.
use Rattle.std.specs.Prelude.{◌≡◌, ℕ, true, List, Some}
use Rattle.zpl_nums.specs.Integer.{IsInteger}
use Rattle.zpl_region.specs.declared.regions.Region.{Region}
use Rattle.zpl_region.specs.Tests.{is_within_limit}
use Rattle.zpl_arrays.specs.Around.{copy_storage}
use Rattle.zpl_tree.specs.Syntax.{Dir, Expr, Number, Truth, Coord, Named, Shifted, Around, Remap, Call, Paren, Neg, Not, Abs, Pair, Reduce, Scan, Flood, Exprs, NoExpr, ThenExpr, NoBracket, Bracketed}
use Rattle.zpl_binding.specs.Regions.{Known}
use Rattle.zpl_meaning.specs.Regions.{vector_in}
use Rattle.zpl_meaning.specs.Store.{ArrayAt, Environment, thing_of}
use Rattle.served_places.specs.Given.{IsSound}

-- the copy of a read that wraps round is within the limit, whichever home box the name has
abbrev pub HasCopyWithin : Known → Environment → List ℕ → Dir → Type 0
HasCopyWithin known environment name shift =
    (place : ℕ) (home : Region) → thing_of environment name ≡ Some (ArrayAt place home)
    → is_within_limit (copy_storage home (vector_in known shift)) ≡ true

-- A value with full and partial folds, scans, floods, remap reads, also in one another's operands,
-- and reads that wrap round, whose copies are within the limit. Numbers are of 64 bits, also in
-- brackets, whose vectors have no fault.
abbrev mutual
  pub IsOperatedExpr : Known → Environment → Expr → Type 0
  IsOperatedExpr known environment (Number at value) = IsInteger value
  IsOperatedExpr known environment (Truth at value) = Unit {0}
  IsOperatedExpr known environment (Coord at k) = Unit {0}
  IsOperatedExpr known environment (Named at name) = Unit {0}
  IsOperatedExpr known environment (Shifted at name shift) = Unit {0}
  IsOperatedExpr known environment (Paren at inside) = IsOperatedExpr known environment inside
  IsOperatedExpr known environment (Neg at operand) = IsOperatedExpr known environment operand
  IsOperatedExpr known environment (Not at operand) = IsOperatedExpr known environment operand
  IsOperatedExpr known environment (Abs at operand) = IsOperatedExpr known environment operand
  IsOperatedExpr known environment (Pair at op left right) =
      IsOperatedExpr known environment left × IsOperatedExpr known environment right
  IsOperatedExpr known environment (Reduce at operator NoBracket operand) =
      IsOperatedExpr known environment operand
  IsOperatedExpr known environment (Reduce at operator (Bracketed source) operand) =
      IsSound known source × IsOperatedExpr known environment operand
  IsOperatedExpr known environment (Flood at source operand) =
      IsSound known source × IsOperatedExpr known environment operand
  IsOperatedExpr known environment (Scan at operator along operand) =
      IsOperatedExpr known environment operand
  IsOperatedExpr known environment (Remap at name indices) =
      AreOperatedExprs known environment indices
  IsOperatedExpr known environment (Around at name shift) =
      HasCopyWithin known environment name.text shift
  IsOperatedExpr known environment (Call at name actuals) = ⊥

  pub AreOperatedExprs : Known → Environment → Exprs → Type 0
  AreOperatedExprs known environment NoExpr = Unit {0}
  AreOperatedExprs known environment (ThenExpr first rest) =
      IsOperatedExpr known environment first × AreOperatedExprs known environment rest
