-- Where no dimension is flood: the regions of operators, prints and borders, and the dimensions of
-- coordinates. It holds whatever values variables have.
use Rattle.std.specs.Prelude.{◌≡◌, ℕ, zero, suc, Bool, true, false, List, [], ◌∷◌, Option, Some, None}
use Rattle.zpl_nums.specs.declared.operators.Op.{Op}
use Rattle.zpl_region.specs.declared.regions.Region.{Region}
use Rattle.zpl_region.specs.Region.{dim_at}
use Rattle.meaning_runs.specs.of_zpl_tree.Syntax.{Name, Expr, Number, Truth, Coord, Named, Shifted, Around, Remap}
use Rattle.meaning_runs.specs.of_zpl_tree.Syntax.{Call, Paren, Neg, Not, Abs, Pair, Reduce, Scan, Flood, Exprs}
use Rattle.meaning_runs.specs.of_zpl_tree.Syntax.{NoExpr, ThenExpr, NoBracket, Bracketed, Item, Str, Value, Form}
use Rattle.meaning_runs.specs.of_zpl_tree.Syntax.{Assign, Invoke, Block, If, While, Repeat, For, Border, Write, Return}
use Rattle.meaning_runs.specs.of_zpl_tree.Syntax.{Tested, Arms, NoArm, ThenArm}
use Rattle.meaning_runs.specs.of_zpl_names.Kinds.{Shape, Rank, Formal, ScalarFormal, ArrayFormal}
use Rattle.meaning_runs.specs.of_zpl_names.Scope.{kind_of}
use Rattle.meaning_runs.specs.of_zpl_names.Ranks.{operand_rank}
use Rattle.meaning_runs.specs.of_zpl_names.Sites.{Role, Limit, Result, Test, Printed, Actual, Assigned, tests_rank}
use Rattle.meaning_runs.specs.of_zpl_names.Sites.{is_shattered}
use Rattle.meaning_runs.specs.of_zpl_meaning.Computed.{Gives}
use Rattle.meaning_runs.specs.of_zpl_meaning.Store.{Store}
use Rattle.meaning_runs.specs.of_zpl_meaning.Context.{over_at, Place, reach_of, rank_in}
use Rattle.meaning_runs.specs.of_zpl_meaning.Regions.{under_source}
use Rattle.meaning_runs.specs.of_zpl_meaning.Settled.{Placed, source_rank, source_in}
use Rattle.meaning_runs.specs.of_zpl_meaning.Points.{assigned_expr, exprs_read, form_parts}
use Rattle.meaning_runs.specs.of_zpl_meaning.Calls.{formals_in}
use Rattle.meaning_runs.specs.of_zpl_meaning.Statement.{step_expr}
use Rattle.meaning_ranks.specs.Shaped.{is_flood, IsShaped}

-- so many dimensions, none of them flood
abbrev pub no_floods : ℕ → Shape
no_floods zero = []
no_floods (suc rank) = false ∷ no_floods rank

-- a region of the rank, without a flood dimension
abbrev pub IsFlatOf : Rank → Region → Type 0
IsFlatOf None region = ⊥
IsFlatOf (Some rank) region = IsShaped (no_floods rank) region

-- the current region of the rank
abbrev pub HasFlatCurrent : Place → Rank → Type 0
HasFlatCurrent place rank = IsFlatOf rank (over_at place.currents rank).region

-- none is asked for at rank 0
abbrev pub IsUnderFlat : Place → Rank → Type 0
IsUnderFlat place (Some zero) = Unit {0}
IsUnderFlat place rank = HasFlatCurrent place rank

-- ---- expressions, of a rank
abbrev mutual
  pub IsFlatIn : Place → Rank → Expr → Type 0
  IsFlatIn place rank (Number at value) = Unit {0}
  IsFlatIn place rank (Truth at value) = Unit {0}
  IsFlatIn place rank (Coord at k) =
      is_flood (dim_at (over_at place.currents rank).region k) ≡ false
  IsFlatIn place rank (Named at name) = Unit {0}
  IsFlatIn place rank (Shifted at name shift) = Unit {0}
  IsFlatIn place rank (Around at name shift) = Unit {0}
  IsFlatIn place rank (Remap at name indices) =
      HasFlatCurrent place rank × AreFlatIn place rank indices
  IsFlatIn place rank (Call at name actuals) = Unit {0}
  IsFlatIn place rank (Paren at inside) = IsFlatIn place rank inside
  IsFlatIn place rank (Neg at operand) = IsFlatIn place rank operand
  IsFlatIn place rank (Not at operand) = IsFlatIn place rank operand
  IsFlatIn place rank (Abs at operand) = IsFlatIn place rank operand
  IsFlatIn place rank (Pair at op left right) =
      IsFlatIn place rank left × IsFlatIn place rank right
  IsFlatIn place rank (Reduce at operator NoBracket operand) =
      let over = operand_rank place.scope place.prefix operand in
      HasFlatCurrent place over × IsFlatIn place over operand
  -- the source, wherever it is computed
  IsFlatIn place rank (Reduce at operator (Bracketed source) operand) =
      let over = source_rank place source operand in
      (store : Store) (region : Region) → source_in place store source operand ≡ Gives region →
      IsFlatOf over region × IsFlatIn (under_source place over region) over operand
  IsFlatIn place rank (Scan at operator along operand) =
      HasFlatCurrent place rank × IsFlatIn place rank operand
  IsFlatIn place rank (Flood at source operand) =
      let over = source_rank place source operand in
      (store : Store) (region : Region) → source_in place store source operand ≡ Gives region →
      IsFlatOf over region × IsFlatIn (under_source place over region) over operand

  pub AreFlatIn : Place → Rank → Exprs → Type 0
  AreFlatIn place rank NoExpr = Unit {0}
  AreFlatIn place rank (ThenExpr first rest) =
      IsFlatIn place rank first × AreFlatIn place rank rest

-- one that stands by itself
abbrev pub IsFlatWhole : Place → Role → Expr → Type 0
IsFlatWhole place role expr = IsFlatIn place (rank_in place role expr) expr

-- ---- statements

-- the actuals that are values
abbrev pub AreFlatActuals : Place → List Formal → Exprs → Type 0
AreFlatActuals place (ScalarFormal false base ∷ formals) (ThenExpr actual rest) =
    IsFlatWhole place Actual actual × AreFlatActuals place formals rest
AreFlatActuals place (ScalarFormal true base ∷ formals) (ThenExpr actual rest) =
    AreFlatActuals place formals rest
AreFlatActuals place (ArrayFormal by_ref base shape ∷ formals) (ThenExpr actual rest) =
    AreFlatActuals place formals rest
AreFlatActuals place formals actuals = Unit {0}

abbrev pub IsFlatCall : Place → Name → Exprs → Type 0
IsFlatCall place name actuals = AreFlatActuals place (formals_in (kind_of place.scope name)) actuals

abbrev pub IsFlatAssign : Place → Name → Option Op → Expr → Type 0
IsFlatAssign place name None (Call at callee actuals) = IsFlatCall place callee actuals
IsFlatAssign place name op value =
    IsFlatWhole place (Assigned name op) (assigned_expr name op value)

abbrev pub AreFlatTests : Place → Arms → Type 0
AreFlatTests place NoArm = Unit {0}
AreFlatTests place (ThenArm (Tested at test body) rest) =
    IsFlatWhole place Test test × AreFlatTests place rest

-- tests of rank 0
abbrev pub HasFlatTests : Place → Form → Type 0
HasFlatTests place (If arms otherwise) = AreFlatTests place arms
HasFlatTests place (While test body) = IsFlatWhole place Test test
HasFlatTests place (Repeat body until test) = IsFlatWhole place Test test
HasFlatTests place form = Unit {0}

-- the expressions that are read in a shattered statement
abbrev pub AreFlatRead : Place → List Placed → Type 0
AreFlatRead place [] = Unit {0}
AreFlatRead place (placed ∷ rest) =
    IsFlatIn place placed.rank placed.expr × AreFlatRead place rest

abbrev pub IsFlatTested : Bool → Place → Form → Type 0
IsFlatTested true place form =
    AreFlatRead place (exprs_read (tests_rank (reach_of place) form) (form_parts form))
IsFlatTested false place form = HasFlatTests place form

abbrev pub AreFlatItems : Place → List Item → Type 0
AreFlatItems place [] = Unit {0}
AreFlatItems place (Str bytes ∷ items) = AreFlatItems place items
AreFlatItems place (Value expr ∷ items) =
    (IsUnderFlat place (rank_in place Printed expr) × IsFlatWhole place Printed expr)
    × AreFlatItems place items

abbrev pub IsFlatForm : Place → Form → Type 0
IsFlatForm place (Assign name op value) = IsFlatAssign place name op value
IsFlatForm place (Invoke name actuals) = IsFlatCall place name actuals
IsFlatForm place (Block body) = Unit {0}
IsFlatForm place (If arms otherwise) =
    IsFlatTested (is_shattered (reach_of place) (If arms otherwise)) place (If arms otherwise)
IsFlatForm place (While test body) =
    IsFlatTested (is_shattered (reach_of place) (While test body)) place (While test body)
IsFlatForm place (Repeat body until test) =
    IsFlatTested (is_shattered (reach_of place) (Repeat body until test)) place
    (Repeat body until test)
IsFlatForm place (For head body) =
    IsFlatWhole place Limit head.first × IsFlatWhole place Limit head.last
    × IsFlatWhole place Limit (step_expr head.step)
IsFlatForm place (Border kind names) = HasFlatCurrent place place.prefix
IsFlatForm place (Write line items) = AreFlatItems place items
IsFlatForm place (Return value) = IsFlatWhole place (Result None) value
