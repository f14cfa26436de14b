-- What a name stands for.
use Rattle.std.specs.Prelude.{ℕ, Bool, List, Option}
use Rattle.zpl_tree.specs.Syntax.{Base}

-- The dimensions of a region or an array: one truth value for each, true where the dimension is
-- flood. Their number is the rank.
abbrev pub Shape : Type 0
Shape = List Bool

-- A rank: 0 for scalars, 1 to 3 for regions and arrays, or none where a fault leaves it open.
abbrev pub Rank : Type 0
Rank = Option ℕ

-- A parameter of a procedure: whether it refers to its actual, its base type, and the shape of an
-- array, none where a fault leaves it open.
pub data Formal : Type 0 where
  ScalarFormal : (by_ref : Bool) (base : Base) → Formal
  ArrayFormal : (by_ref : Bool) (base : Base) (shape : Option Shape) → Formal

pub record Signature : Type 0 where
  pub formals : List Formal
  pub result : Option Base

-- What a name stands for. A shape or a rank is none where a fault leaves it open.
pub data Kind : Type 0 where
  Config : (base : Base) → Kind
  Constant : (base : Base) → Kind
  Region : (shape : Option Shape) → Kind
  Direction : (rank : Rank) → Kind
  Scalar : (base : Base) → Kind
  Array : (base : Base) (shape : Option Shape) → Kind
  Procedure : (signature : Signature) → Kind
