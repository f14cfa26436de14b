-- The parts of a text, in its order: a walk over the syntax alone, which knows nothing of names.
-- In a declaration vectors aren't listed.
use Rattle.std.specs.Prelude.{Bool, true, false, if◌then◌else◌, List, [], ◌∷◌, ◌++◌, map, flat_map, Option, Some, None}
use Rattle.zpl_binding.specs.of_zpl_tree.Syntax.{Pre, RegionBase, NamedRegion, Ditto, Expr, Number, Truth, Coord, Named, Shifted, Around, Remap, Call, Paren, Neg, Not, Abs, Pair, Reduce, Scan, Flood, Exprs, NoExpr, ThenExpr, Dir, NamedDir, Vector, Inner, Rexpr, Dims, Bracket, NoBracket, Bracketed, Posts, NoPost, ThenPost, DimText, Blank, Star, One, Span, DimTexts, NoDim, ThenDim, Prefix, ForHead, Item, Str, Value, Stmt, Prefixed, Stmts, NoStmt, ThenStmt, Form, Assign, Invoke, Block, If, While, Repeat, For, Border, Write, Return, Arm, Tested, Arms, NoArm, ThenArm, Otherwise, NoElse, Else, Define, RegionDef, DirDef, VarDef, Param, Procedure, Decl, Config, Constant, Regions, Directions, Vars, Defined, Program}
use Rattle.zpl_binding.specs.Storages.{innermost}
use Rattle.zpl_parts.specs.Part.{Part, VectorPart, BorderPart, AroundPart, CallPart}

abbrev pub vector_parts : Bool → Exprs → List Part
vector_parts declared parts = if declared then [] else VectorPart parts ∷ []

-- the border that a region expression is
abbrev pub border_parts : List Pre → RegionBase → Posts → List Part
border_parts pre (NamedRegion region) NoPost = map BorderPart (innermost pre region)
border_parts pre base post = []

-- ---- expressions, and what stands in them

abbrev mutual
  pub expr_parts : Bool → Expr → List Part
  expr_parts declared (Number at value) = []
  expr_parts declared (Truth at value) = []
  expr_parts declared (Coord at dimension) = []
  expr_parts declared (Named at name) = []
  expr_parts declared (Shifted at name shift) = dir_parts declared shift
  expr_parts declared (Around at name shift) = AroundPart name shift ∷ dir_parts declared shift
  expr_parts declared (Remap at name indices) = exprs_parts declared indices
  expr_parts declared (Call at name actuals) =
      CallPart name actuals ∷ exprs_parts declared actuals
  expr_parts declared (Paren at inside) = expr_parts declared inside
  expr_parts declared (Neg at operand) = expr_parts declared operand
  expr_parts declared (Not at operand) = expr_parts declared operand
  expr_parts declared (Abs at operand) = expr_parts declared operand
  expr_parts declared (Pair at op left right) =
      expr_parts declared left ++ expr_parts declared right
  expr_parts declared (Reduce at operator over operand) =
      bracket_parts declared over ++ expr_parts declared operand
  expr_parts declared (Scan at operator along operand) = expr_parts declared operand
  expr_parts declared (Flood at source operand) =
      inner_parts declared source ++ expr_parts declared operand

  pub exprs_parts : Bool → Exprs → List Part
  exprs_parts declared NoExpr = []
  exprs_parts declared (ThenExpr first rest) =
      expr_parts declared first ++ exprs_parts declared rest

  pub dir_parts : Bool → Dir → List Part
  dir_parts declared (NamedDir name) = []
  dir_parts declared (Vector parts) = vector_parts declared parts ++ exprs_parts declared parts

  pub bracket_parts : Bool → Bracket → List Part
  bracket_parts declared NoBracket = []
  bracket_parts declared (Bracketed inner) = inner_parts declared inner

  pub inner_parts : Bool → Inner → List Part
  inner_parts declared (Rexpr pre base post) =
      border_parts pre base post ++ posts_parts declared post
  inner_parts declared (Dims dims) = dims_parts declared dims

  pub posts_parts : Bool → Posts → List Part
  posts_parts declared NoPost = []
  posts_parts declared (ThenPost stride dir rest) =
      dir_parts declared dir ++ posts_parts declared rest

  pub dims_parts : Bool → DimTexts → List Part
  dims_parts declared NoDim = []
  dims_parts declared (ThenDim first rest) =
      dim_parts declared first ++ dims_parts declared rest

  pub dim_parts : Bool → DimText → List Part
  dim_parts declared (Blank at) = []
  dim_parts declared (Star at) = []
  dim_parts declared (One index) = expr_parts declared index
  dim_parts declared (Span low high) = expr_parts declared low ++ expr_parts declared high

-- ---- statements

abbrev pub prefix_parts : Prefix → List Part
prefix_parts prefix = inner_parts false prefix.region

abbrev pub step_parts : Option Expr → List Part
step_parts None = []
step_parts (Some step) = expr_parts false step

abbrev pub head_parts : ForHead → List Part
head_parts head = expr_parts false head.first ++ expr_parts false head.last ++ step_parts head.step

abbrev pub item_parts : Item → List Part
item_parts (Str bytes) = []
item_parts (Value value) = expr_parts false value

abbrev mutual
  pub stmt_parts : Stmt → List Part
  stmt_parts (Prefixed at prefixes form) = flat_map prefix_parts prefixes ++ form_parts form

  pub stmts_parts : Stmts → List Part
  stmts_parts NoStmt = []
  stmts_parts (ThenStmt first rest) = stmt_parts first ++ stmts_parts rest

  pub form_parts : Form → List Part
  form_parts (Assign name op value) = expr_parts false value
  form_parts (Invoke name actuals) = CallPart name actuals ∷ exprs_parts false actuals
  form_parts (Block body) = stmts_parts body
  form_parts (If arms otherwise) = arms_parts arms ++ otherwise_parts otherwise
  form_parts (While test body) = expr_parts false test ++ stmts_parts body
  form_parts (Repeat body until test) = stmts_parts body ++ expr_parts false test
  form_parts (For head body) = head_parts head ++ stmts_parts body
  form_parts (Border border names) = []
  form_parts (Write line items) = flat_map item_parts items
  form_parts (Return value) = expr_parts false value

  pub arms_parts : Arms → List Part
  arms_parts NoArm = []
  arms_parts (ThenArm first rest) = arm_parts first ++ arms_parts rest

  pub arm_parts : Arm → List Part
  arm_parts (Tested at test body) = expr_parts false test ++ stmts_parts body

  pub otherwise_parts : Otherwise → List Part
  otherwise_parts NoElse = []
  otherwise_parts (Else body) = stmts_parts body

-- ---- declarations

abbrev pub define_parts : Define → List Part
define_parts define = expr_parts true define.value

abbrev pub region_def_parts : RegionDef → List Part
region_def_parts region = inner_parts true region.body ++ posts_parts true region.posts

abbrev pub direction_parts : DirDef → List Part
direction_parts direction = exprs_parts true direction.parts

abbrev pub variable_parts : VarDef → List Part
variable_parts var = bracket_parts true var.shape

abbrev pub param_parts : Param → List Part
param_parts param = bracket_parts true param.shape

abbrev pub procedure_parts : Procedure → List Part
procedure_parts procedure =
    flat_map param_parts procedure.params ++ flat_map variable_parts procedure.locals ++
    stmt_parts procedure.body

abbrev pub decl_parts : Decl → List Part
decl_parts (Config defines) = flat_map define_parts defines
decl_parts (Constant defines) = flat_map define_parts defines
decl_parts (Regions regions) = flat_map region_def_parts regions
decl_parts (Directions directions) = flat_map direction_parts directions
decl_parts (Vars vars) = flat_map variable_parts vars
decl_parts (Defined procedure) = procedure_parts procedure

-- the whole text
abbrev pub text_parts : Program → List Part
text_parts program = flat_map decl_parts program.decls
