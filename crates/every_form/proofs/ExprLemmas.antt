-- In expressions whose sites have no fault no call stands.
use Rattle.std.proofs.Common.{◌≡◌, true, false, List, [], ◌∷◌, Option, Some, None}
use Rattle.std.specs.List.{flat_map}
use Rattle.zpl_tree.specs.Syntax.{Name, Expr, Number, Truth, Coord, Named, Shifted, Around, Remap, Call, Paren, Neg, Not, Abs, Pair, Reduce, Scan, Flood, Exprs, NoExpr, ThenExpr, NoBracket, Bracketed, Item, Str, Value}
use Rattle.zpl_names.specs.Kinds.{Rank, Formal, ScalarFormal, ArrayFormal}
use Rattle.zpl_names.specs.Ranks.{inner_rank, own_rank}
use Rattle.zpl_names.specs.Sites.{Reach, over_source, Role, Printed, Actual, Limit, Operand, whole_rank, AtCall, Elsewhere, expr_sites, exprs_sites, actuals_sites, region_sites, whole_sites, item_sites, step_sites}
use Rattle.zpl_names.specs.Accepted.{HasNoFault}
use Rattle.zpl_meaning.specs.Statement.{step_expr}
use Rattle.zpl_meaning.proofs.DepthLemmas.{Each, each_left, each_right}
use Rattle.shown_texts.specs.Forms.{HasOperatedForm, HaveOperatedIndices, HaveCallForms, HavePrintForms}

-- a call within an expression is a fault
no_call : (reach : Reach) (name : Name) (actuals : Exprs)
    → HasNoFault (AtCall reach Elsewhere name actuals) → ⊥
no_call reach name actuals h = let places : name.at ∷ [] ≡ [] = h.calls in cc

mutual
  pub expr_operated : (expr : Expr) (reach : Reach) (rank : Rank)
      → Each HasNoFault (expr_sites reach rank expr) → HasOperatedForm expr
  expr_operated (Number at value) reach rank h = tt
  expr_operated (Truth at value) reach rank h = tt
  expr_operated (Coord at k) reach rank h = tt
  expr_operated (Named at name) reach rank h = tt
  expr_operated (Shifted at name shift) reach rank h = tt
  expr_operated (Around at name shift) reach rank h = tt
  expr_operated (Remap at name indices) reach rank h = exprs_operated indices reach rank h.1
  expr_operated (Call at name actuals) reach rank h = no_call reach name actuals h.0
  expr_operated (Paren at inside) reach rank h = expr_operated inside reach rank h.1
  expr_operated (Neg at operand) reach rank h = expr_operated operand reach rank h.1
  expr_operated (Not at operand) reach rank h = expr_operated operand reach rank h.1
  expr_operated (Abs at operand) reach rank h = expr_operated operand reach rank h.1
  expr_operated (Pair at op left right) reach rank h = (
    expr_operated left reach rank
        (each_left HasNoFault (expr_sites reach rank left) (expr_sites reach rank right) h.1),
    expr_operated right reach rank
        (each_right HasNoFault (expr_sites reach rank left) (expr_sites reach rank right) h.1),
  )
  expr_operated (Reduce at operator NoBracket operand) reach rank h =
      expr_operated operand reach (whole_rank reach Operand operand) h.1.1
  expr_operated (Reduce at operator (Bracketed source) operand) reach rank h =
      let hint = own_rank reach.scope reach.prefix operand in
      let over = inner_rank reach.scope hint reach.prefix source in
      expr_operated operand (over_source reach over source) over
      (each_right HasNoFault (region_sites reach hint source)
      (expr_sites (over_source reach over source) over operand) h.1)
  expr_operated (Scan at operator along operand) reach rank h =
      expr_operated operand reach rank h.1
  expr_operated (Flood at source operand) reach rank h =
      let hint = own_rank reach.scope reach.prefix operand in
      let over = inner_rank reach.scope hint reach.prefix source in
      expr_operated operand (over_source reach over source) over
      (each_right HasNoFault (region_sites reach hint source)
      (expr_sites (over_source reach over source) over operand) h.1)

  exprs_operated : (exprs : Exprs) (reach : Reach) (rank : Rank)
      → Each HasNoFault (exprs_sites reach rank exprs) → HaveOperatedIndices exprs
  exprs_operated NoExpr reach rank h = tt
  exprs_operated (ThenExpr first rest) reach rank h = (
    expr_operated first reach rank
        (each_left HasNoFault (expr_sites reach rank first) (exprs_sites reach rank rest) h),
    exprs_operated rest reach rank
        (each_right HasNoFault (expr_sites reach rank first) (exprs_sites reach rank rest) h),
  )

pub whole_operated : (expr : Expr) (reach : Reach) (role : Role)
    → Each HasNoFault (whole_sites reach role expr) → HasOperatedForm expr
whole_operated expr reach role h = expr_operated expr reach (whole_rank reach role expr) h.1

pub step_operated : (step : Option Expr) (reach : Reach)
    → Each HasNoFault (step_sites reach step) → HasOperatedForm (step_expr step)
step_operated None reach h = tt
step_operated (Some step) reach h = whole_operated step reach Limit h

-- ---- what a call takes

actual_operated : (first : Expr) (rest : Exprs) (reach : Reach)
    → Each HasNoFault (actuals_sites reach (ThenExpr first rest))
    → HasOperatedForm first × Each HasNoFault (actuals_sites reach rest)
actual_operated (Named at name) rest reach h = (tt, h.1)
actual_operated first rest reach h = (
  expr_operated first reach (whole_rank reach Actual first)
      (each_left HasNoFault (expr_sites reach (whole_rank reach Actual first) first)
      (actuals_sites reach rest) h.1),
  each_right HasNoFault (expr_sites reach (whole_rank reach Actual first) first)
      (actuals_sites reach rest) h.1,
)

pub actuals_operated : (formals : List Formal) (actuals : Exprs) (reach : Reach)
    → Each HasNoFault (actuals_sites reach actuals) → HaveCallForms formals actuals
actuals_operated [] actuals reach h = tt
actuals_operated (formal ∷ formals) NoExpr reach h = tt
actuals_operated (ScalarFormal false base ∷ formals) (ThenExpr actual rest) reach h =
    let parts = actual_operated actual rest reach h in
    (parts.0, actuals_operated formals rest reach parts.1)
actuals_operated (ScalarFormal true base ∷ formals) (ThenExpr actual rest) reach h =
    actuals_operated formals rest reach (actual_operated actual rest reach h).1
actuals_operated (ArrayFormal by_ref base shape ∷ formals) (ThenExpr actual rest) reach h =
    actuals_operated formals rest reach (actual_operated actual rest reach h).1

-- ---- what is printed

pub items_operated : (items : List Item) (reach : Reach)
    → Each HasNoFault (flat_map (item_sites reach) items) → HavePrintForms items
items_operated [] reach h = tt
items_operated (Str bytes ∷ items) reach h = items_operated items reach h
items_operated (Value expr ∷ items) reach h = (
  whole_operated expr reach Printed
      (each_left HasNoFault (whole_sites reach Printed expr) (flat_map (item_sites reach) items) h),
  items_operated items reach
      (each_right HasNoFault (whole_sites reach Printed expr) (flat_map (item_sites reach) items) h),
)
