-- Expressions whose regions have been computed, and whose names are places of the store.
use Rattle.std.specs.Prelude.{ℕ, ℤ, List, Option}
use Rattle.zpl_binding.specs.of_zpl_nums.declared.operators.Op.{Op}
use Rattle.zpl_binding.specs.of_zpl_nums.declared.operators.UnaryOp.{UnaryOp}
use Rattle.zpl_binding.specs.of_zpl_nums.declared.folds.Fold.{Fold}
use Rattle.zpl_binding.specs.of_zpl_region.declared.regions.Region.{Region}
use Rattle.zpl_meaning.specs.Context.{Over}

mutual
  pub data Term : Type 0 where
    Constant : (value : ℤ) → Term
    -- a scalar variable
    Variable : (place : ℕ) → Term
    -- the k-th coordinate, counted from 1
    Coordinate : (k : ℕ) → Term
    -- an element of an array under a region, read with a shift, which is [] where there is none
    Element : (over : Region) (array : ℕ) (shift : List ℤ) → Term
    -- one that is read round the array's home box
    Wrapped : (over : Region) (array : ℕ) (home : Region) (shift : List ℤ) → Term
    Unary : (operator : UnaryOp) (operand : Term) → Term
    Binary : (operator : Op) (left right : Term) → Term
    -- `op<<e`, over the current region
    Folded : (operator : Fold) (over : Over) (operand : Term) → Term
    -- `op<<[source]e`
    PartFolded : (operator : Fold) (over : Over) (source : Region) (operand : Term) → Term
    -- `op||e`, or `op||[along]e`; in an accepted program a dimension is from 1 to the rank
    Scanned : (operator : Fold) (along : Option ℤ) (over : Over) (operand : Term) → Term
    -- `>>[source]e`
    Flooded : (over : Over) (source : Region) (operand : Term) → Term
    -- `A#[indices]`
    Remapped : (over : Over) (array : ℕ) (indices : Terms) → Term

  pub data Terms : Type 0 where
    NoTerm : Terms
    ThenTerm : (first : Term) (rest : Terms) → Terms
