-- Where ranks agree: what stands in an expression has the rank of the expression, or is a scalar;
-- and each expression of a statement has a rank that its place takes.
use Rattle.std.specs.Prelude.{◌≡◌, ◌⊎◌, ◌≤◌, ℕ, Bool, true, false, ℤ, pos, List, [], ◌∷◌, Option}
use Rattle.std.specs.Prelude.{Some, None, IsSome}
use Rattle.zpl_nums.specs.declared.operators.Op.{Op}
use Rattle.zpl_region.specs.declared.regions.Region.{Region}
use Rattle.meaning_runs.specs.of_zpl_tree.Syntax.{Name, Expr, Number, Truth, Coord, Named, Shifted, Around, Remap}
use Rattle.meaning_runs.specs.of_zpl_tree.Syntax.{Call, Paren, Neg, Not, Abs, Pair, Reduce, Scan, Flood, Exprs}
use Rattle.meaning_runs.specs.of_zpl_tree.Syntax.{NoExpr, ThenExpr, Inner, Rexpr, Dims, NoBracket, Bracketed, Pre}
use Rattle.meaning_runs.specs.of_zpl_tree.Syntax.{Posts, NoPost, ThenPost, Mask as MaskText, Prefix, Item, Str}
use Rattle.meaning_runs.specs.of_zpl_tree.Syntax.{Value, Stmt, Prefixed, Stmts, NoStmt, ThenStmt, Form, Assign}
use Rattle.meaning_runs.specs.of_zpl_tree.Syntax.{Invoke, Block, If, While, Repeat, For, Border, Write, Return, Arm}
use Rattle.meaning_runs.specs.of_zpl_tree.Syntax.{Tested, Arms, NoArm, ThenArm, Otherwise, NoElse, Else}
use Rattle.meaning_runs.specs.of_zpl_names.Kinds.{Rank, Formal, ScalarFormal, ArrayFormal}
use Rattle.meaning_runs.specs.of_zpl_names.Scope.{Scope, kind_of}
use Rattle.meaning_runs.specs.of_zpl_names.Ranks.{own_rank, operand_rank, inner_rank, exprs_count, dims_count}
use Rattle.meaning_runs.specs.of_zpl_names.Ranks.{direction_rank, dir_rank, array_rank, array_shape, mask_rank}
use Rattle.meaning_runs.specs.of_zpl_names.Types.{is_elementwise}
use Rattle.meaning_runs.specs.of_zpl_names.Shapes.{prefix_rank}
use Rattle.meaning_runs.specs.of_zpl_names.Sites.{Role, Limit, Result, Test, Printed, Actual, Assigned, tests_rank}
use Rattle.meaning_runs.specs.of_zpl_names.Sites.{is_shattered}
use Rattle.meaning_runs.specs.of_zpl_meaning.Store.{Thing, Scalar, ArrayAt, thing_of}
use Rattle.meaning_runs.specs.of_zpl_meaning.Context.{Over, Place, reach_of, rank_in}
use Rattle.meaning_runs.specs.of_zpl_meaning.Regions.{under_prefix, under_source}
use Rattle.meaning_runs.specs.of_zpl_meaning.Settled.{source_rank}
use Rattle.meaning_runs.specs.of_zpl_meaning.Points.{assigned_expr}
use Rattle.meaning_runs.specs.of_zpl_meaning.Calls.{formals_in}
use Rattle.meaning_runs.specs.of_zpl_meaning.Proper.{IsArrayRank}
use Rattle.meaning_runs.specs.of_zpl_meaning.Statement.{step_expr}

-- ---- names

-- the name is an array's, of this rank
abbrev pub IsArrayOf : Place → Rank → Name → Type 0
IsArrayOf place rank name = array_rank (kind_of place.scope name) ≡ rank

abbrev pub AreArraysOf : Place → Rank → List Name → Type 0
AreArraysOf place rank [] = Unit {0}
AreArraysOf place rank (name ∷ names) = IsArrayOf place rank name × AreArraysOf place rank names

-- a scalar stands in expressions of every rank, an array in those of its own
abbrev pub IsNameOf : Place → Rank → Name → Option Thing → Type 0
IsNameOf place rank name (Some (ArrayAt array home)) = IsArrayOf place rank name
IsNameOf place rank name thing = Unit {0}

-- ---- dimensions

-- the k-th dimension is one of the rank, counted from 1
abbrev pub HasDimension : Rank → ℕ → Type 0
HasDimension None k = ⊥
HasDimension (Some rank) k = (1 ≤ k) × (k ≤ rank)

-- a scan goes along one of them, where it says along which
abbrev pub GoesAlong : Rank → Option ℤ → Type 0
GoesAlong rank None = Unit {0}
GoesAlong rank (Some along) = (k : ℕ) × (along ≡ pos k) × HasDimension rank k

-- ---- regions

-- the directions before and behind a region have its rank
abbrev pub ArePresOf : Scope → Rank → List Pre → Type 0
ArePresOf scope rank [] = Unit {0}
ArePresOf scope rank (pre ∷ rest) =
    (direction_rank (kind_of scope pre.dir) ≡ rank) × ArePresOf scope rank rest

abbrev pub ArePostsOf : Scope → Rank → Posts → Type 0
ArePostsOf scope rank NoPost = Unit {0}
ArePostsOf scope rank (ThenPost stride dir rest) =
    (dir_rank scope dir ≡ rank) × ArePostsOf scope rank rest

abbrev pub IsInnerOf : Scope → Rank → Inner → Type 0
IsInnerOf scope rank (Rexpr pre base post) = ArePresOf scope rank pre × ArePostsOf scope rank post
IsInnerOf scope rank (Dims dims) = Some (dims_count dims) ≡ rank

-- a bracket has a rank from 1 to 3, for a hint of a mask or an operand, and so has all in it
abbrev pub IsRegionOf : Place → Rank → Inner → Type 0
IsRegionOf place hint inner =
    let rank = inner_rank place.scope hint place.prefix inner in
    IsArrayRank rank × IsInnerOf place.scope rank inner

-- ---- expressions
abbrev mutual
  -- All that stands in it has the rank of the expression, or is a scalar. The operand of a full
  -- reduction has a rank of its own; an operator over a region is of that region's rank, and so is
  -- its operand.
  pub IsOfRank : Place → Rank → Expr → Type 0
  IsOfRank place rank (Number at value) = Unit {0}
  IsOfRank place rank (Truth at value) = Unit {0}
  IsOfRank place rank (Coord at k) = HasDimension rank k
  IsOfRank place rank (Named at name) =
      IsNameOf place rank name (thing_of place.environment name.text)
  IsOfRank place rank (Shifted at name shift) =
      IsArrayOf place rank name × (dir_rank place.scope shift ≡ rank)
  IsOfRank place rank (Around at name shift) =
      IsArrayOf place rank name × (dir_rank place.scope shift ≡ rank)
  -- the array has as many dimensions as there are indices
  IsOfRank place rank (Remap at name indices) =
      IsArrayOf place (Some (exprs_count indices)) name × AreOfRank place rank indices
  IsOfRank place rank (Call at name actuals) = ⊥
  IsOfRank place rank (Paren at inside) = IsOfRank place rank inside
  IsOfRank place rank (Neg at operand) = IsOfRank place rank operand
  IsOfRank place rank (Not at operand) = IsOfRank place rank operand
  IsOfRank place rank (Abs at operand) = IsOfRank place rank operand
  IsOfRank place rank (Pair at op left right) =
      IsOfRank place rank left × IsOfRank place rank right
  IsOfRank place rank (Reduce at operator NoBracket operand) =
      IsOfRank place (operand_rank place.scope place.prefix operand) operand
  IsOfRank place rank (Reduce at operator (Bracketed source) operand) =
      let over = source_rank place source operand in
      (over ≡ rank)
      × IsRegionOf place (own_rank place.scope place.prefix operand) source
      × ((region : Region) → IsOfRank (under_source place over region) over operand)
  IsOfRank place rank (Scan at operator along operand) =
      GoesAlong rank along × IsOfRank place rank operand
  IsOfRank place rank (Flood at source operand) =
      let over = source_rank place source operand in
      (over ≡ rank)
      × IsRegionOf place (own_rank place.scope place.prefix operand) source
      × ((region : Region) → IsOfRank (under_source place over region) over operand)

  pub AreOfRank : Place → Rank → Exprs → Type 0
  AreOfRank place rank NoExpr = Unit {0}
  AreOfRank place rank (ThenExpr first rest) =
      IsOfRank place rank first × AreOfRank place rank rest

-- one that stands by itself
abbrev pub IsRanked : Place → Role → Expr → Type 0
IsRanked place role expr = IsOfRank place (rank_in place role expr) expr

-- ---- prefixes

abbrev pub IsMaskOf : Place → Rank → Option MaskText → Type 0
IsMaskOf place rank None = Unit {0}
IsMaskOf place rank (Some mask) = IsArrayOf place rank mask.name

abbrev pub IsRankedPrefix : Place → Prefix → Type 0
IsRankedPrefix place prefix =
    IsRegionOf place (mask_rank place.scope prefix.mask) prefix.region
    × IsMaskOf place (prefix_rank place.scope place.prefix prefix) prefix.mask

-- ---- assignments

-- what is assigned takes a value of this rank: a scalar one of rank 0, an array one of its own rank
-- or a scalar
abbrev pub TakesRank : Place → Name → Option Thing → Rank → Type 0
TakesRank place name (Some (Scalar target)) rank = rank ≡ Some 0
TakesRank place name (Some (ArrayAt target home)) rank =
    (rank ≡ Some 0) ⊎ IsArrayOf place rank name
TakesRank place name thing rank = Unit {0}

abbrev pub IsRankedValue : Place → Name → Option Op → Expr → Type 0
IsRankedValue place name op value =
    let role = Assigned name op in
    let whole = assigned_expr name op value in
    TakesRank place name (thing_of place.environment name.text) (rank_in place role whole)
    × IsRanked place role whole

-- ---- calls

-- an array has the rank and the flood dimensions of the parameter
abbrev pub IsShapedActual : Place → Formal → Expr → Type 0
IsShapedActual place (ArrayFormal by_ref base shape) (Named at name) =
    IsSome shape × (array_shape (kind_of place.scope name) ≡ shape)
IsShapedActual place (ArrayFormal by_ref base shape) actual = ⊥
IsShapedActual place (ScalarFormal true base) actual = Unit {0}
IsShapedActual place (ScalarFormal false base) actual = IsRanked place Actual actual

abbrev pub AreShapedActuals : Place → List Formal → Exprs → Type 0
AreShapedActuals place (formal ∷ formals) (ThenExpr actual rest) =
    IsShapedActual place formal actual × AreShapedActuals place formals rest
AreShapedActuals place formals actuals = Unit {0}

abbrev pub IsRankedCall : Place → Name → Exprs → Type 0
IsRankedCall place name actuals =
    AreShapedActuals place (formals_in (kind_of place.scope name)) actuals

abbrev pub IsRankedAssign : Place → Name → Option Op → Expr → Type 0
IsRankedAssign place name None (Call at callee actuals) = IsRankedCall place callee actuals
IsRankedAssign place name op value = IsRankedValue place name op value

-- ---- shattered statements, of a rank

-- elementwise, and of the statement's rank
abbrev pub IsPointExpr : Place → Rank → Expr → Type 0
IsPointExpr place rank expr = (is_elementwise expr ≡ true) × IsOfRank place rank expr

abbrev mutual
  pub IsPointOf : Place → Rank → Stmt → Type 0
  IsPointOf place rank (Prefixed at prefixes form) = IsPointFormOf place rank form

  pub ArePointsOf : Place → Rank → Stmts → Type 0
  ArePointsOf place rank NoStmt = Unit {0}
  ArePointsOf place rank (ThenStmt first rest) =
      IsPointOf place rank first × ArePointsOf place rank rest

  -- each array that is assigned has the rank, and each right side and test is of it
  pub IsPointFormOf : Place → Rank → Form → Type 0
  IsPointFormOf place rank (Assign name op value) =
      IsArrayOf place rank name × IsPointExpr place rank value
  IsPointFormOf place rank (Block body) = ArePointsOf place rank body
  IsPointFormOf place rank (If arms otherwise) =
      ArePointArmsOf place rank arms × IsPointElseOf place rank otherwise
  IsPointFormOf place rank (While test body) =
      IsPointExpr place rank test × ArePointsOf place rank body
  IsPointFormOf place rank (Repeat body until test) =
      IsPointExpr place rank test × ArePointsOf place rank body
  IsPointFormOf place rank (Invoke name actuals) = ⊥
  IsPointFormOf place rank (For head body) = ⊥
  IsPointFormOf place rank (Border kind names) = ⊥
  IsPointFormOf place rank (Write line items) = ⊥
  IsPointFormOf place rank (Return value) = ⊥

  pub ArePointArmsOf : Place → Rank → Arms → Type 0
  ArePointArmsOf place rank NoArm = Unit {0}
  ArePointArmsOf place rank (ThenArm first rest) =
      IsPointArmOf place rank first × ArePointArmsOf place rank rest

  pub IsPointArmOf : Place → Rank → Arm → Type 0
  IsPointArmOf place rank (Tested at test body) =
      IsPointExpr place rank test × ArePointsOf place rank body

  pub IsPointElseOf : Place → Rank → Otherwise → Type 0
  IsPointElseOf place rank NoElse = Unit {0}
  IsPointElseOf place rank (Else body) = ArePointsOf place rank body

-- ---- statements

abbrev pub AreRankedTests : Place → Arms → Type 0
AreRankedTests place NoArm = Unit {0}
AreRankedTests place (ThenArm (Tested at test body) rest) =
    IsRanked place Test test × AreRankedTests place rest

-- tests of rank 0; the other statements in it are asked by themselves
abbrev pub HasRankedTests : Place → Form → Type 0
HasRankedTests place (If arms otherwise) = AreRankedTests place arms
HasRankedTests place (While test body) = IsRanked place Test test
HasRankedTests place (Repeat body until test) = IsRanked place Test test
HasRankedTests place form = Unit {0}

-- a statement with tests, which is shattered or not
abbrev pub IsRankedTested : Bool → Place → Form → Type 0
IsRankedTested true place form = IsPointFormOf place (tests_rank (reach_of place) form) form
IsRankedTested false place form = HasRankedTests place form

abbrev pub AreRankedItems : Place → List Item → Type 0
AreRankedItems place [] = Unit {0}
AreRankedItems place (Str bytes ∷ items) = AreRankedItems place items
AreRankedItems place (Value expr ∷ items) =
    IsRanked place Printed expr × AreRankedItems place items

-- A statement without its prefixes. The arrays of a border statement have the rank of the nearest
-- prefix.
abbrev pub IsRankedForm : Place → Form → Type 0
IsRankedForm place (Assign name op value) = IsRankedAssign place name op value
IsRankedForm place (Invoke name actuals) = IsRankedCall place name actuals
IsRankedForm place (Block body) = Unit {0}
IsRankedForm place (If arms otherwise) =
    IsRankedTested (is_shattered (reach_of place) (If arms otherwise)) place (If arms otherwise)
IsRankedForm place (While test body) =
    IsRankedTested (is_shattered (reach_of place) (While test body)) place (While test body)
IsRankedForm place (Repeat body until test) =
    IsRankedTested (is_shattered (reach_of place) (Repeat body until test)) place
    (Repeat body until test)
IsRankedForm place (For head body) =
    IsRanked place Limit head.first × IsRanked place Limit head.last
    × IsRanked place Limit (step_expr head.step)
IsRankedForm place (Border kind names) = AreArraysOf place place.prefix names
IsRankedForm place (Write line items) = AreRankedItems place items
IsRankedForm place (Return value) = IsRanked place (Result None) value

-- its prefixes, each under those before it, and what stands behind them
abbrev pub IsRankedUnder : Place → List Prefix → Form → Type 0
IsRankedUnder place [] form = IsRankedForm place form
IsRankedUnder place (prefix ∷ rest) form =
    IsRankedPrefix place prefix
    × ((over : Over) → IsRankedUnder (under_prefix place prefix over) rest form)

abbrev pub IsRankedStmt : Place → Stmt → Type 0
IsRankedStmt place (Prefixed at prefixes form) = IsRankedUnder place prefixes form
