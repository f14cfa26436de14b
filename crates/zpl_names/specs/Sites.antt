-- The places of a text at which something can be wrong, each with what is in reach there. One walk
-- lists them in text order; each fault is then a function of a site.
use Rattle.std.specs.Prelude.{ℕ, Bool, true, false, if◌then◌else◌, List, [], ◌∷◌, ◌++◌, map, flat_map, filter_map, Option, Some, None, option_to_list}
use Rattle.zpl_tree.specs.of_zpl_nums.declared.operators.Op.{Op}
use Rattle.zpl_tree.specs.Syntax.{Name, Pre, RegionBase, NamedRegion, Ditto, Expr, Number, Truth, Coord, Named, Shifted, Call, Paren, Neg, Not, Abs, Pair, Reduce, Scan, Flood, Exprs, NoExpr, ThenExpr, Dir, NamedDir, Vector, Inner, Rexpr, Dims, Bracket, NoBracket, Bracketed, Posts, NoPost, ThenPost, DimText, Blank, Star, One, Span, DimTexts, NoDim, ThenDim, Mask, Prefix, ForHead, Item, Str, Value, Stmt, Prefixed, Stmts, NoStmt, ThenStmt, Form, Assign, Invoke, Block, If, While, Repeat, For, Border, Write, Return, Arm, Tested, Arms, NoArm, ThenArm, Otherwise, NoElse, Else, Base, Define, RegionDef, DirDef, VarDef, Param, Decl, Config, Constant, Regions, Directions, Vars, Defined, Program}
use Rattle.zpl_tree.specs.Syntax.{Around, Remap}
use Rattle.zpl_tree.specs.Syntax as plain
use Rattle.zpl_names.specs.Kinds as kind
use Rattle.zpl_names.specs.Kinds.{Rank, Kind}
use Rattle.zpl_names.specs.Scope.{Entry, Scope, kind_of, constants_of, is_array, is_scalar, is_procedure}
use Rattle.zpl_names.specs.Ranks.{first_rank, is_above_zero, own_rank, rank_of, operand_rank, inner_rank, is_index, array_rank, mask_rank}
use Rattle.zpl_names.specs.Shapes.{Shapes, no_shapes, unknown_shapes, with_current, inner_shape, current_over, prefix_rank, shapes_under}
use Rattle.zpl_names.specs.Declared.{declaring, head_scope, with_define, with_region, with_direction, with_variables, with_decl, Routine, routine_of, scope_of}

-- ---- what is in reach of a place

pub record Reach : Type 0 where
  pub scope : Scope
  -- the rank of the innermost prefix that encloses the place in its procedure's text, or 0
  pub prefix : Rank
  pub shapes : Shapes
  -- the rank of the shattered statement that encloses it, or 0
  pub shattered : Rank
  -- what the procedure answers, at the last statement of its body alone
  pub result : Option Base
  -- it stands in a declaration
  pub declared : Bool

abbrev pub in_declaration : Scope → Reach
in_declaration scope = record {
  scope = scope;
  prefix = Some 0;
  shapes = no_shapes;
  shattered = Some 0;
  result = None;
  declared = true;
}

-- a procedure's text, under these current regions
abbrev pub in_body : Scope → Shapes → Reach
in_body scope shapes = record {
  scope = scope;
  prefix = Some 0;
  shapes = shapes;
  shattered = Some 0;
  result = None;
  declared = false;
}

-- a vector is computed once, before execution: it has no variables and no current region
abbrev pub in_vector : Reach → Reach
in_vector reach = record reach { scope = constants_of reach.scope; shapes = no_shapes }

-- in the operand of an operator over a region of a rank, that region is the current one, without a
-- mask
abbrev pub over_source : Reach → Rank → Inner → Reach
over_source reach rank source =
    record reach {
      shapes = with_current reach.shapes rank
          (current_over (inner_shape reach.scope reach.shapes rank source) false);
    }

abbrev pub under_prefix : Reach → Prefix → Reach
under_prefix reach prefix =
    let rank = prefix_rank reach.scope reach.prefix prefix in
    record reach { prefix = rank; shapes = shapes_under reach.scope reach.shapes rank prefix }

abbrev pub under_prefixes : Reach → List Prefix → Reach
under_prefixes reach [] = reach
under_prefixes reach (prefix ∷ rest) = under_prefixes (under_prefix reach prefix) rest

-- in the body of a statement whose tests have a rank: it is shattered where that is above 0, and
-- its statements aren't the last one of the procedure
abbrev pub inside : Reach → Rank → Reach
inside reach rank = record reach { shattered = first_rank reach.shattered rank; result = None }

-- ---- expressions that stand by themselves

-- where: a bound of a dimension, a component of a vector, a limit or the step of a `for`, the value
-- of a config or a constant, the result of a procedure, a condition, an item of a print, an actual,
-- the operand of a full reduction, or the right side of an assignment to a name
pub data Role : Type 0 where
  Bound : Role
  Component : Role
  Limit : Role
  Initial : (base : Base) → Role
  Result : (base : Option Base) → Role
  Test : Role
  Printed : Role
  Actual : Role
  Operand : Role
  Assigned : (name : Name) (op : Option Op) → Role

-- the rank that the place hands in: that of the assigned array, else that of the innermost prefix
abbrev pub target_rank : Rank → Option Kind → Rank
target_rank prefix (Some (kind.Array base shape)) = array_rank (Some (kind.Array base shape))
target_rank prefix other = if is_scalar other then prefix else None

abbrev pub handed : Reach → Role → Rank
handed reach (Assigned name op) = target_rank reach.prefix (kind_of reach.scope name)
handed reach role = reach.prefix

abbrev pub whole_rank : Reach → Role → Expr → Rank
whole_rank reach Operand expr = operand_rank reach.scope reach.prefix expr
whole_rank reach role expr = rank_of reach.scope reach.prefix (handed reach role) expr

-- ---- sites

-- where a call stands: it is a statement, it is the whole right side of a `:=` to a scalar, or it
-- is elsewhere
pub data CallRole : Type 0 where
  AsStatement : CallRole
  AsValue : CallRole
  Elsewhere : CallRole

pub data Site : Type 0 where
  -- an expression that stands by itself
  AtWhole : (reach : Reach) (role : Role) (expr : Expr) → Site
  -- a node of an expression that has a rank
  AtExpr : (reach : Reach) (rank : Rank) (expr : Expr) → Site
  AtCall : (reach : Reach) (place : CallRole) (name : Name) (actuals : Exprs) → Site
  -- an actual that is a name alone
  AtNamed : (reach : Reach) (name : Name) → Site
  AtDir : (reach : Reach) (dir : Dir) → Site
  -- a region, with the rank of its mask or its operator's operand
  AtRegion : (reach : Reach) (hint : Rank) (region : Inner) → Site
  AtMask : (reach : Reach) (prefix : Prefix) (mask : Mask) → Site
  -- a statement under its own prefixes
  AtStmt : (reach : Reach) (at : ℕ) (prefixes : List Prefix) (form : Form) → Site
  AtBase : (base : Base) → Site
  -- what stands behind the bracket of a declared region
  AtPosts : (reach : Reach) (region : Inner) (posts : Posts) → Site
  AtProcedure : (procedure : plain.Procedure) → Site

-- ---- expressions

-- an index that is a name alone
abbrev pub index_sites : Reach → List Pre → RegionBase → Posts → List Site
index_sites reach pre (Ditto at) post = []
index_sites reach pre (NamedRegion name) post =
    if is_index reach.scope pre name post then
    AtWhole reach Bound (Named name.at name) ∷
    AtExpr reach (whole_rank reach Bound (Named name.at name)) (Named name.at name) ∷ []
    else []

abbrev mutual
  -- the nodes of an expression that has a rank, and what stands in them
  pub expr_sites : Reach → Rank → Expr → List Site
  expr_sites reach rank (Number at value) = AtExpr reach rank (Number at value) ∷ []
  expr_sites reach rank (Truth at value) = AtExpr reach rank (Truth at value) ∷ []
  expr_sites reach rank (Coord at dimension) = AtExpr reach rank (Coord at dimension) ∷ []
  expr_sites reach rank (Named at name) = AtExpr reach rank (Named at name) ∷ []
  expr_sites reach rank (Shifted at name shift) =
      AtExpr reach rank (Shifted at name shift) ∷ dir_sites reach shift
  expr_sites reach rank (Around at name shift) =
      AtExpr reach rank (Around at name shift) ∷ dir_sites reach shift
  expr_sites reach rank (Remap at name indices) =
      AtExpr reach rank (Remap at name indices) ∷ exprs_sites reach rank indices
  expr_sites reach rank (Call at name actuals) =
      AtCall reach Elsewhere name actuals ∷ actuals_sites reach actuals
  expr_sites reach rank (Paren at inside) =
      AtExpr reach rank (Paren at inside) ∷ expr_sites reach rank inside
  expr_sites reach rank (Neg at operand) =
      AtExpr reach rank (Neg at operand) ∷ expr_sites reach rank operand
  expr_sites reach rank (Not at operand) =
      AtExpr reach rank (Not at operand) ∷ expr_sites reach rank operand
  expr_sites reach rank (Abs at operand) =
      AtExpr reach rank (Abs at operand) ∷ expr_sites reach rank operand
  expr_sites reach rank (Pair at op left right) =
      AtExpr reach rank (Pair at op left right) ∷ expr_sites reach rank left ++
      expr_sites reach rank right
  expr_sites reach rank (Reduce at operator NoBracket operand) =
      AtExpr reach rank (Reduce at operator NoBracket operand) ∷ AtWhole reach Operand operand ∷
      expr_sites reach (whole_rank reach Operand operand) operand
  expr_sites reach rank (Reduce at operator (Bracketed source) operand) =
      let hint = own_rank reach.scope reach.prefix operand in
      let over = inner_rank reach.scope hint reach.prefix source in
      AtExpr reach rank (Reduce at operator (Bracketed source) operand) ∷
      region_sites reach hint source ++ expr_sites (over_source reach over source) over operand
  expr_sites reach rank (Scan at operator along operand) =
      AtExpr reach rank (Scan at operator along operand) ∷ expr_sites reach rank operand
  expr_sites reach rank (Flood at source operand) =
      let hint = own_rank reach.scope reach.prefix operand in
      let over = inner_rank reach.scope hint reach.prefix source in
      AtExpr reach rank (Flood at source operand) ∷
      region_sites reach hint source ++ expr_sites (over_source reach over source) over operand

  pub exprs_sites : Reach → Rank → Exprs → List Site
  exprs_sites reach rank NoExpr = []
  exprs_sites reach rank (ThenExpr first rest) =
      expr_sites reach rank first ++ exprs_sites reach rank rest

  -- an actual that is a name alone may be handed on without being read
  pub actuals_sites : Reach → Exprs → List Site
  actuals_sites reach NoExpr = []
  actuals_sites reach (ThenExpr (Named at name) rest) =
      AtNamed reach name ∷ actuals_sites reach rest
  actuals_sites reach (ThenExpr first rest) =
      AtWhole reach Actual first ∷ expr_sites reach (whole_rank reach Actual first) first ++
      actuals_sites reach rest

  pub dir_sites : Reach → Dir → List Site
  dir_sites reach (NamedDir name) = AtDir reach (NamedDir name) ∷ []
  dir_sites reach (Vector parts) =
      AtDir reach (Vector parts) ∷ components_sites (in_vector reach) parts

  pub components_sites : Reach → Exprs → List Site
  components_sites reach NoExpr = []
  components_sites reach (ThenExpr first rest) =
      AtWhole reach Component first ∷ expr_sites reach (whole_rank reach Component first) first ++
      components_sites reach rest

  pub region_sites : Reach → Rank → Inner → List Site
  region_sites reach hint (Rexpr pre base post) =
      AtRegion reach hint (Rexpr pre base post) ∷ index_sites reach pre base post ++
      posts_sites reach post
  region_sites reach hint (Dims dims) = AtRegion reach hint (Dims dims) ∷ dims_sites reach dims

  pub posts_sites : Reach → Posts → List Site
  posts_sites reach NoPost = []
  posts_sites reach (ThenPost stride dir rest) = dir_sites reach dir ++ posts_sites reach rest

  pub dims_sites : Reach → DimTexts → List Site
  dims_sites reach NoDim = []
  dims_sites reach (ThenDim first rest) = dim_sites reach first ++ dims_sites reach rest

  pub dim_sites : Reach → DimText → List Site
  dim_sites reach (Blank at) = []
  dim_sites reach (Star at) = []
  dim_sites reach (One index) =
      AtWhole reach Bound index ∷ expr_sites reach (whole_rank reach Bound index) index
  dim_sites reach (Span low high) =
      AtWhole reach Bound low ∷ expr_sites reach (whole_rank reach Bound low) low ++
      AtWhole reach Bound high ∷ expr_sites reach (whole_rank reach Bound high) high

abbrev pub whole_sites : Reach → Role → Expr → List Site
whole_sites reach role expr =
    AtWhole reach role expr ∷ expr_sites reach (whole_rank reach role expr) expr

-- ---- statements

abbrev pub prefix_sites : Reach → Prefix → List Site
prefix_sites reach prefix =
    region_sites reach (mask_rank reach.scope prefix.mask) prefix.region ++
    map (AtMask reach prefix) (option_to_list prefix.mask)

abbrev pub prefixes_sites : Reach → List Prefix → List Site
prefixes_sites reach [] = []
prefixes_sites reach (prefix ∷ rest) =
    prefix_sites reach prefix ++ prefixes_sites (under_prefix reach prefix) rest

abbrev pub call_place : Option Kind → CallRole
call_place kind = if is_array kind then Elsewhere else AsValue

-- the right side of an assignment: a call may stand there by itself
abbrev pub value_sites : Reach → Name → Option Op → Expr → List Site
value_sites reach name None (Call at callee actuals) =
    AtWhole reach (Assigned name None) (Call at callee actuals) ∷
    AtCall reach (call_place (kind_of reach.scope name)) callee actuals ∷
    actuals_sites reach actuals
value_sites reach name op value = whole_sites reach (Assigned name op) value

abbrev pub item_sites : Reach → Item → List Site
item_sites reach (Str bytes) = []
item_sites reach (Value value) = whole_sites reach Printed value

abbrev pub step_sites : Reach → Option Expr → List Site
step_sites reach None = []
step_sites reach (Some step) = whole_sites reach Limit step

-- the rank of a statement by its tests: the first that isn't 0
abbrev pub test_rank : Reach → Expr → Rank
test_rank reach test = whole_rank reach Test test

abbrev pub arms_rank : Reach → Arms → Rank
arms_rank reach NoArm = Some 0
arms_rank reach (ThenArm (Tested at test body) rest) =
    first_rank (test_rank reach test) (arms_rank reach rest)

abbrev pub tests_rank : Reach → Form → Rank
tests_rank reach (If arms otherwise) = arms_rank reach arms
tests_rank reach (While test body) = test_rank reach test
tests_rank reach (Repeat body until test) = test_rank reach test
tests_rank reach form = Some 0

-- An `if`, `while` or `repeat` with a test of a rank above 0 is shattered.
abbrev pub is_shattered : Reach → Form → Bool
is_shattered reach form = is_above_zero (tests_rank reach form)

abbrev mutual
  pub stmt_sites : Reach → Stmt → List Site
  stmt_sites reach (Prefixed at prefixes form) =
      prefixes_sites reach prefixes ++ AtStmt (under_prefixes reach prefixes) at prefixes form ∷
      form_sites (under_prefixes reach prefixes) form

  pub stmts_sites : Reach → Stmts → List Site
  stmts_sites reach NoStmt = []
  stmts_sites reach (ThenStmt first rest) = stmt_sites reach first ++ stmts_sites reach rest

  pub form_sites : Reach → Form → List Site
  form_sites reach (Assign name op value) = value_sites reach name op value
  form_sites reach (Invoke name actuals) =
      AtCall reach AsStatement name actuals ∷ actuals_sites reach actuals
  form_sites reach (Block body) = stmts_sites (inside reach (Some 0)) body
  form_sites reach (If arms otherwise) =
      arms_sites reach (inside reach (arms_rank reach arms)) arms ++
      otherwise_sites (inside reach (arms_rank reach arms)) otherwise
  form_sites reach (While test body) =
      whole_sites reach Test test ++ stmts_sites (inside reach (test_rank reach test)) body
  form_sites reach (Repeat body until test) =
      stmts_sites (inside reach (test_rank reach test)) body ++ whole_sites reach Test test
  form_sites reach (For head body) =
      whole_sites reach Limit head.first ++ whole_sites reach Limit head.last ++
      step_sites reach head.step ++
      stmts_sites (inside reach (Some 0)) body
  form_sites reach (Border border names) = []
  form_sites reach (Write line items) = flat_map (item_sites reach) items
  form_sites reach (Return value) = whole_sites reach (Result reach.result) value

  -- the tests stand outside the bodies
  pub arms_sites : Reach → Reach → Arms → List Site
  arms_sites reach within NoArm = []
  arms_sites reach within (ThenArm first rest) =
      arm_sites reach within first ++ arms_sites reach within rest

  pub arm_sites : Reach → Reach → Arm → List Site
  arm_sites reach within (Tested at test body) =
      whole_sites reach Test test ++ stmts_sites within body

  pub otherwise_sites : Reach → Otherwise → List Site
  otherwise_sites reach NoElse = []
  otherwise_sites reach (Else body) = stmts_sites reach body

-- the statements of a body: the last one may be its `return`
abbrev pub body_sites : Reach → Option Base → Stmts → List Site
body_sites reach result NoStmt = []
body_sites reach result (ThenStmt last NoStmt) = stmt_sites (record reach { result = result }) last
body_sites reach result (ThenStmt first rest) =
    stmt_sites reach first ++ body_sites reach result rest

-- a procedure's body is its outermost block
abbrev pub outermost_sites : Reach → Option Base → Stmt → List Site
outermost_sites reach result (Prefixed at prefixes (Block body)) =
    prefixes_sites reach prefixes ++ body_sites (under_prefixes reach prefixes) result body
outermost_sites reach result stmt = stmt_sites reach stmt

-- the statements of a procedure, under these current regions
abbrev pub routine_sites : Program → Shapes → Routine → List Site
routine_sites program shapes routine =
    outermost_sites (in_body (scope_of program routine) shapes) routine.procedure.result
    routine.procedure.body

-- ---- declarations, each behind those that stand earlier

abbrev pub shape_sites : Scope → Bracket → List Site
shape_sites scope NoBracket = []
shape_sites scope (Bracketed inner) = region_sites (in_declaration scope) (Some 0) inner

abbrev pub define_sites : List Entry → Define → List Site
define_sites earlier define =
    AtBase define.base ∷ whole_sites (in_declaration (declaring [] earlier)) (Initial define.base)
    define.value

abbrev pub region_def_sites : List Entry → RegionDef → List Site
region_def_sites earlier region =
    let reach = in_declaration (declaring [] earlier) in
    region_sites reach (Some 0) region.body ++ AtPosts reach region.body region.posts ∷
    posts_sites reach region.posts

abbrev pub direction_sites : List Entry → DirDef → List Site
direction_sites earlier direction =
    dir_sites (in_declaration (declaring [] earlier)) (Vector direction.parts)

abbrev pub variable_sites : Scope → VarDef → List Site
variable_sites scope var = shape_sites scope var.shape ++ AtBase var.base ∷ []

abbrev pub param_sites : Scope → Param → List Site
param_sites scope param = shape_sites scope param.shape ++ AtBase param.base ∷ []

-- the head and the local variables of a procedure
abbrev pub head_sites : List Entry → plain.Procedure → List Site
head_sites earlier procedure =
    let scope = head_scope earlier procedure in
    AtProcedure procedure ∷ flat_map (param_sites scope) procedure.params ++
    map AtBase (option_to_list procedure.result) ++ flat_map (variable_sites scope) procedure.locals

-- the sites of a list of definitions, each of which adds to the names that stand earlier
abbrev pub each_sites : {A : Type 0} → (List Entry → A → List Entry) →
    (List Entry → A → List Site) → List Entry → List A → List Site
each_sites adds sites earlier [] = []
each_sites adds sites earlier (first ∷ rest) =
    sites earlier first ++ each_sites adds sites (adds earlier first) rest

abbrev pub decl_sites : Program → List Entry → Decl → List Site
decl_sites program earlier (Config defines) =
    each_sites (with_define kind.Config) define_sites earlier defines
decl_sites program earlier (Constant defines) =
    each_sites (with_define kind.Constant) define_sites earlier defines
decl_sites program earlier (Regions regions) =
    each_sites with_region region_def_sites earlier regions
decl_sites program earlier (Directions directions) =
    each_sites with_direction direction_sites earlier directions
decl_sites program earlier (Vars vars) =
    each_sites with_variables (λ earlier var. variable_sites (declaring [] earlier) var) earlier
    vars
decl_sites program earlier (Defined procedure) =
    head_sites earlier procedure ++ routine_sites program unknown_shapes
    (routine_of earlier procedure)

-- the sites of the whole text, where no procedure knows how it is called
abbrev pub text_sites : Program → List Site
text_sites program = each_sites with_decl (decl_sites program) [] program.decls

-- ---- calls

-- A call that stands in a procedure: the name called, the actuals, and the current regions there.
pub record CallSite : Type 0 where
  pub name : Name
  pub actuals : Exprs
  pub shapes : Shapes

abbrev pub call_of : Site → Option CallSite
call_of (AtCall reach place name actuals) =
    if is_procedure (kind_of reach.scope name) then
    Some (record { name = name; actuals = actuals; shapes = reach.shapes })
    else None
call_of site = None

-- the calls of a procedure that has these current regions, in text order
abbrev pub calls_under : Program → Shapes → Routine → List CallSite
calls_under program shapes routine = filter_map call_of (routine_sites program shapes routine)
