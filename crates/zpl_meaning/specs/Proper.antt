-- Where no answer is taken that stands in for a missing one, whatever values variables have: each
-- name stands for what its place asks for, each rank that is asked for has a current region, each
-- form stands where it has a meaning, and each procedure that is called is there.
use Rattle.std.specs.Prelude.{◌≡◌, zero, suc, Bool, true, false, List, [], ◌∷◌, Option, Some, None}
use Rattle.std.specs.Prelude.{IsSome}
use Rattle.zpl_binding.specs.of_zpl_nums.declared.operators.Op.{Op}
use Rattle.zpl_binding.specs.of_zpl_region.declared.regions.Region.{Region}
use Rattle.zpl_binding.specs.of_zpl_tree.Syntax.{Name, Expr, Number, Truth, Coord, Named, Shifted, Around, Remap}
use Rattle.zpl_binding.specs.of_zpl_tree.Syntax.{Call, Paren, Neg, Not, Abs, Pair, Reduce, Scan, Flood, Exprs}
use Rattle.zpl_binding.specs.of_zpl_tree.Syntax.{NoExpr, ThenExpr, Inner, Rexpr, Dims, NoBracket, Bracketed}
use Rattle.zpl_binding.specs.of_zpl_tree.Syntax.{NamedRegion, Ditto, DimText, Blank, Star, One, Span, DimTexts}
use Rattle.zpl_binding.specs.of_zpl_tree.Syntax.{NoDim, ThenDim, Mask as MaskText, Prefix, Item, Str, Value, Stmt}
use Rattle.zpl_binding.specs.of_zpl_tree.Syntax.{Prefixed, Stmts, NoStmt, ThenStmt, Form, Assign, Invoke, Block}
use Rattle.zpl_binding.specs.of_zpl_tree.Syntax.{If, While, Repeat, For, Border, Write, Return, Arm, Tested, Arms}
use Rattle.zpl_binding.specs.of_zpl_tree.Syntax.{NoArm, ThenArm, Otherwise, NoElse, Else}
use Rattle.zpl_binding.specs.of_zpl_names.Kinds.{Rank, Formal, ScalarFormal, ArrayFormal, Signature, Procedure}
use Rattle.zpl_binding.specs.of_zpl_names.Scope.{kind_of}
use Rattle.zpl_binding.specs.of_zpl_names.Ranks.{own_rank, operand_rank, inner_rank, is_index, mask_rank}
use Rattle.zpl_binding.specs.of_zpl_names.Shapes.{prefix_rank}
use Rattle.zpl_binding.specs.of_zpl_names.Declared.{routine_named}
use Rattle.zpl_binding.specs.of_zpl_names.Sites.{Role, Limit, Result, Test, Printed, Actual, Assigned, handed}
use Rattle.zpl_binding.specs.of_zpl_names.Sites.{tests_rank, is_shattered}
use Rattle.zpl_meaning.specs.Store.{Thing, Scalar, ArrayAt, Fixed, Environment, thing_of}
use Rattle.zpl_meaning.specs.Context.{Over, Currents, Place, reach_of, rank_in}
use Rattle.zpl_meaning.specs.Regions.{under_prefix, under_source}
use Rattle.zpl_meaning.specs.Settled.{source_rank}
use Rattle.zpl_meaning.specs.Points.{assigned_expr}
use Rattle.zpl_meaning.specs.Calls.{actual_thing}
use Rattle.zpl_meaning.specs.Statement.{step_expr}

-- ---- what a name stands for

abbrev pub IsValue : Option Thing → Type 0
IsValue (Some (Scalar place)) = Unit {0}
IsValue (Some (Fixed value)) = Unit {0}
IsValue (Some (ArrayAt place home)) = ⊥
IsValue None = ⊥

abbrev pub IsVariable : Option Thing → Type 0
IsVariable (Some (Scalar place)) = Unit {0}
IsVariable (Some (Fixed value)) = ⊥
IsVariable (Some (ArrayAt place home)) = ⊥
IsVariable None = ⊥

abbrev pub IsArray : Option Thing → Type 0
IsArray (Some (ArrayAt place home)) = Unit {0}
IsArray (Some (Scalar place)) = ⊥
IsArray (Some (Fixed value)) = ⊥
IsArray None = ⊥

-- ---- current regions

-- there is one of this rank
abbrev pub HasCurrent : Currents → Rank → Type 0
HasCurrent currents (Some (suc zero)) = IsSome currents.one
HasCurrent currents (Some (suc (suc zero))) = IsSome currents.two
HasCurrent currents (Some (suc (suc (suc zero)))) = IsSome currents.three
HasCurrent currents rank = ⊥

-- and none is asked for at rank 0
abbrev pub IsUnderCurrent : Currents → Rank → Type 0
IsUnderCurrent currents (Some zero) = Unit {0}
IsUnderCurrent currents rank = HasCurrent currents rank

-- what a name in an expression of a rank stands for: an array is read under the current region
abbrev pub IsRead : Currents → Rank → Option Thing → Type 0
IsRead currents rank (Some (Scalar place)) = Unit {0}
IsRead currents rank (Some (Fixed value)) = Unit {0}
IsRead currents rank (Some (ArrayAt place home)) = HasCurrent currents rank
IsRead currents rank None = ⊥

-- ---- brackets

-- the expression has a value by itself, as a bound has
abbrev pub HasValue : Environment → Expr → Type 0
HasValue environment (Number at value) = Unit {0}
HasValue environment (Truth at value) = Unit {0}
HasValue environment (Named at name) = IsValue (thing_of environment name.text)
HasValue environment (Paren at inside) = HasValue environment inside
HasValue environment (Neg at operand) = HasValue environment operand
HasValue environment (Not at operand) = HasValue environment operand
HasValue environment (Abs at operand) = HasValue environment operand
HasValue environment (Pair at op left right) =
    HasValue environment left × HasValue environment right
HasValue environment (Coord at k) = ⊥
HasValue environment (Shifted at name shift) = ⊥
HasValue environment (Around at name shift) = ⊥
HasValue environment (Remap at name indices) = ⊥
HasValue environment (Call at name actuals) = ⊥
HasValue environment (Reduce at operator over operand) = ⊥
HasValue environment (Scan at operator along operand) = ⊥
HasValue environment (Flood at source operand) = ⊥

-- a dimension of a bracket of a rank
abbrev pub IsProperDim : Place → Rank → DimText → Type 0
IsProperDim place rank (Blank at) = HasCurrent place.currents rank
IsProperDim place rank (Star at) = Unit {0}
IsProperDim place rank (One index) = HasValue place.environment index
IsProperDim place rank (Span low high) =
    HasValue place.environment low × HasValue place.environment high

abbrev pub AreProperDims : Place → Rank → DimTexts → Type 0
AreProperDims place rank NoDim = Unit {0}
AreProperDims place rank (ThenDim first rest) =
    IsProperDim place rank first × AreProperDims place rank rest

-- a name alone is an index, where it isn't a region's
abbrev pub IsProperName : Bool → Environment → Name → Type 0
IsProperName true environment name = IsValue (thing_of environment name.text)
IsProperName false environment name = Unit {0}

abbrev pub IsProperInner : Place → Rank → Inner → Type 0
IsProperInner place rank (Rexpr pre (NamedRegion name) post) =
    IsProperName (is_index place.scope pre name post) place.environment name
IsProperInner place rank (Rexpr pre (Ditto at) post) = HasCurrent place.currents rank
IsProperInner place rank (Dims dims) = AreProperDims place rank dims

-- for a hint of a mask or an operand
abbrev pub IsProperRegion : Place → Rank → Inner → Type 0
IsProperRegion place hint inner =
    IsProperInner place (inner_rank place.scope hint place.prefix inner) inner

-- ---- expressions

-- an array is read with a shift, or at computed tuples, under the current region
abbrev pub IsArrayRead : Currents → Rank → Option Thing → Type 0
IsArrayRead currents rank thing = IsArray thing × HasCurrent currents rank

abbrev mutual
  -- an expression of a rank
  pub IsProper : Place → Rank → Expr → Type 0
  IsProper place rank (Number at value) = Unit {0}
  IsProper place rank (Truth at value) = Unit {0}
  IsProper place rank (Coord at k) = Unit {0}
  IsProper place rank (Named at name) =
      IsRead place.currents rank (thing_of place.environment name.text)
  IsProper place rank (Shifted at name shift) =
      IsArrayRead place.currents rank (thing_of place.environment name.text)
  IsProper place rank (Around at name shift) =
      IsArrayRead place.currents rank (thing_of place.environment name.text)
  IsProper place rank (Remap at name indices) =
      IsArrayRead place.currents rank (thing_of place.environment name.text)
      × AreProper place rank indices
  IsProper place rank (Call at name actuals) = ⊥
  IsProper place rank (Paren at inside) = IsProper place rank inside
  IsProper place rank (Neg at operand) = IsProper place rank operand
  IsProper place rank (Not at operand) = IsProper place rank operand
  IsProper place rank (Abs at operand) = IsProper place rank operand
  IsProper place rank (Pair at op left right) =
      IsProper place rank left × IsProper place rank right
  IsProper place rank (Reduce at operator NoBracket operand) =
      let over = operand_rank place.scope place.prefix operand in
      HasCurrent place.currents over × IsProper place over operand
  IsProper place rank (Reduce at operator (Bracketed source) operand) =
      let over = source_rank place source operand in
      HasCurrent place.currents over
      × IsProperRegion place (own_rank place.scope place.prefix operand) source
      × ((region : Region) → IsProper (under_source place over region) over operand)
  IsProper place rank (Scan at operator along operand) =
      HasCurrent place.currents rank × IsProper place rank operand
  IsProper place rank (Flood at source operand) =
      let over = source_rank place source operand in
      HasCurrent place.currents over
      × IsProperRegion place (own_rank place.scope place.prefix operand) source
      × ((region : Region) → IsProper (under_source place over region) over operand)

  pub AreProper : Place → Rank → Exprs → Type 0
  AreProper place rank NoExpr = Unit {0}
  AreProper place rank (ThenExpr first rest) =
      IsProper place rank first × AreProper place rank rest

-- one that stands by itself
abbrev pub IsProperWhole : Place → Role → Expr → Type 0
IsProperWhole place role expr = IsProper place (rank_in place role expr) expr

-- where a scalar is taken: its rank is 0
abbrev pub IsProperScalar : Place → Role → Expr → Type 0
IsProperScalar place role expr =
    (rank_in place role expr ≡ Some 0) × IsProperWhole place role expr

-- ---- prefixes

abbrev pub IsProperMask : Environment → Option MaskText → Type 0
IsProperMask environment None = Unit {0}
IsProperMask environment (Some mask) = IsArray (thing_of environment mask.name.text)

-- its rank is from 1 to 3, so that its region is the current one of a rank
abbrev pub IsArrayRank : Rank → Type 0
IsArrayRank (Some (suc zero)) = Unit {0}
IsArrayRank (Some (suc (suc zero))) = Unit {0}
IsArrayRank (Some (suc (suc (suc zero)))) = Unit {0}
IsArrayRank rank = ⊥

abbrev pub IsProperPrefix : Place → Prefix → Type 0
IsProperPrefix place prefix =
    IsProperRegion place (mask_rank place.scope prefix.mask) prefix.region
    × IsProperMask place.environment prefix.mask
    × IsArrayRank (prefix_rank place.scope place.prefix prefix)

-- ---- assignments

abbrev pub IsTarget : Currents → Rank → Option Thing → Type 0
IsTarget currents rank (Some (Scalar place)) = Unit {0}
IsTarget currents rank (Some (ArrayAt place home)) = HasCurrent currents rank
IsTarget currents rank (Some (Fixed value)) = ⊥
IsTarget currents rank None = ⊥

abbrev pub IsPlainAssign : Place → Name → Option Op → Expr → Type 0
IsPlainAssign place name op value =
    IsTarget place.currents (handed (reach_of place) (Assigned name op))
    (thing_of place.environment name.text)
    × IsProperWhole place (Assigned name op) (assigned_expr name op value)

-- ---- calls

-- what a parameter takes: a value, a variable, or an array
abbrev pub IsProperActual : Place → Formal → Expr → Type 0
IsProperActual place (ScalarFormal false base) actual = IsProperScalar place Actual actual
IsProperActual place (ScalarFormal true base) actual =
    IsVariable (actual_thing place.environment actual)
IsProperActual place (ArrayFormal by_ref base shape) actual =
    IsArray (actual_thing place.environment actual)

-- one for each parameter
abbrev pub AreProperActuals : Place → List Formal → Exprs → Type 0
AreProperActuals place [] NoExpr = Unit {0}
AreProperActuals place [] (ThenExpr actual rest) = ⊥
AreProperActuals place (formal ∷ formals) NoExpr = ⊥
AreProperActuals place (formal ∷ formals) (ThenExpr actual rest) =
    IsProperActual place formal actual × AreProperActuals place formals rest

-- The name stands for a procedure of the text.
pub record IsProperCall (place : Place) (name : Name) (actuals : Exprs) : Type 0 where
  pub signature : Signature
  pub called : kind_of place.scope name ≡ Some (Procedure signature)
  pub there : IsSome (routine_named place.setup.program name.text)
  pub taken : AreProperActuals place signature.formals actuals

-- a call as the right side is that of an assignment to a scalar
abbrev pub IsProperAssign : Place → Name → Option Op → Expr → Type 0
IsProperAssign place name None (Call at callee actuals) =
    IsVariable (thing_of place.environment name.text) × IsProperCall place callee actuals
IsProperAssign place name op value = IsPlainAssign place name op value

-- ---- shattered statements, of a rank: they hold assignments of arrays, branches, loops and
-- blocks, without prefixes

abbrev pub HasNoPrefix : List Prefix → Type 0
HasNoPrefix [] = Unit {0}
HasNoPrefix (prefix ∷ rest) = ⊥

abbrev mutual
  pub IsPoint : Place → Rank → Stmt → Type 0
  IsPoint place rank (Prefixed at prefixes form) =
      HasNoPrefix prefixes × IsPointForm place rank form

  pub ArePoints : Place → Rank → Stmts → Type 0
  ArePoints place rank NoStmt = Unit {0}
  ArePoints place rank (ThenStmt first rest) =
      IsPoint place rank first × ArePoints place rank rest

  pub IsPointForm : Place → Rank → Form → Type 0
  IsPointForm place rank (Assign name op value) =
      IsArray (thing_of place.environment name.text) × IsProper place rank value
  IsPointForm place rank (Block body) = ArePoints place rank body
  IsPointForm place rank (If arms otherwise) =
      ArePointArms place rank arms × IsPointElse place rank otherwise
  IsPointForm place rank (While test body) =
      IsProper place rank test × ArePoints place rank body
  IsPointForm place rank (Repeat body until test) =
      IsProper place rank test × ArePoints place rank body
  IsPointForm place rank (Invoke name actuals) = ⊥
  IsPointForm place rank (For head body) = ⊥
  IsPointForm place rank (Border kind names) = ⊥
  IsPointForm place rank (Write line items) = ⊥
  IsPointForm place rank (Return value) = ⊥

  pub ArePointArms : Place → Rank → Arms → Type 0
  ArePointArms place rank NoArm = Unit {0}
  ArePointArms place rank (ThenArm first rest) =
      IsPointArm place rank first × ArePointArms place rank rest

  pub IsPointArm : Place → Rank → Arm → Type 0
  IsPointArm place rank (Tested at test body) =
      IsProper place rank test × ArePoints place rank body

  pub IsPointElse : Place → Rank → Otherwise → Type 0
  IsPointElse place rank NoElse = Unit {0}
  IsPointElse place rank (Else body) = ArePoints place rank body

-- ---- statements

abbrev pub AreProperTests : Place → Arms → Type 0
AreProperTests place NoArm = Unit {0}
AreProperTests place (ThenArm (Tested at test body) rest) =
    IsProperScalar place Test test × AreProperTests place rest

-- what tests of rank 0 ask for; the other statements in it are asked by themselves
abbrev pub HasProperTests : Place → Form → Type 0
HasProperTests place (If arms otherwise) = AreProperTests place arms
HasProperTests place (While test body) = IsProperScalar place Test test
HasProperTests place (Repeat body until test) = IsProperScalar place Test test
HasProperTests place form = Unit {0}

-- a statement with tests, which is shattered or not
abbrev pub IsProperTested : Bool → Place → Form → Type 0
IsProperTested true place form =
    let rank = tests_rank (reach_of place) form in
    HasCurrent place.currents rank × IsPointForm place rank form
IsProperTested false place form = HasProperTests place form

abbrev pub AreArrays : Environment → List Name → Type 0
AreArrays environment [] = Unit {0}
AreArrays environment (name ∷ names) =
    IsArray (thing_of environment name.text) × AreArrays environment names

abbrev pub AreProperItems : Place → List Item → Type 0
AreProperItems place [] = Unit {0}
AreProperItems place (Str bytes ∷ items) = AreProperItems place items
AreProperItems place (Value expr ∷ items) =
    (IsUnderCurrent place.currents (rank_in place Printed expr)
    × IsProperWhole place Printed expr)
    × AreProperItems place items

-- a statement without its prefixes
abbrev pub IsProperForm : Place → Form → Type 0
IsProperForm place (Assign name op value) = IsProperAssign place name op value
IsProperForm place (Invoke name actuals) = IsProperCall place name actuals
IsProperForm place (Block body) = Unit {0}
IsProperForm place (If arms otherwise) =
    IsProperTested (is_shattered (reach_of place) (If arms otherwise)) place (If arms otherwise)
IsProperForm place (While test body) =
    IsProperTested (is_shattered (reach_of place) (While test body)) place (While test body)
IsProperForm place (Repeat body until test) =
    IsProperTested (is_shattered (reach_of place) (Repeat body until test)) place
    (Repeat body until test)
IsProperForm place (For head body) =
    IsVariable (thing_of place.environment head.name.text)
    × IsProperScalar place Limit head.first × IsProperScalar place Limit head.last
    × IsProperScalar place Limit (step_expr head.step)
IsProperForm place (Border kind names) =
    IsSome place.edge × AreArrays place.environment names
IsProperForm place (Write line items) = AreProperItems place items
IsProperForm place (Return value) = IsProperScalar place (Result None) value

-- its prefixes, each under those before it, and what stands behind them
abbrev pub IsProperUnder : Place → List Prefix → Form → Type 0
IsProperUnder place [] form = IsProperForm place form
IsProperUnder place (prefix ∷ rest) form =
    IsProperPrefix place prefix
    × ((over : Over) → IsProperUnder (under_prefix place prefix over) rest form)

abbrev pub IsProperStmt : Place → Stmt → Type 0
IsProperStmt place (Prefixed at prefixes form) = IsProperUnder place prefixes form
