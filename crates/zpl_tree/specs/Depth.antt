-- The depth of a tree: 1 for what has no parts, else 1 more than the greatest depth of a part.
use Rattle.std.specs.Prelude.{ℕ, ◌+◌, List, [], ◌∷◌, Option, Some, None, max}
use Rattle.zpl_tree.specs.Syntax.{Expr, Number, Truth, Coord, Named, Shifted, Around, Remap, Call, Paren, Neg, Not, Abs, Pair, Reduce, Scan, Flood, Exprs, NoExpr, ThenExpr, Dir, NamedDir, Vector, Inner, Rexpr, Dims, Bracket, NoBracket, Bracketed, Posts, NoPost, ThenPost, DimText, Blank, Star, One, Span, DimTexts, NoDim, ThenDim, Prefix, ForHead, Item, Str, Value, Stmt, Prefixed, Stmts, NoStmt, ThenStmt, Form, Assign, Invoke, Block, If, While, Repeat, For, Border, Write, Return, Arm, Tested, Arms, NoArm, ThenArm, Otherwise, NoElse, Else, Define, RegionDef, DirDef, VarDef, Param, Procedure, Decl, Config, Constant, Regions, Directions, Vars, Defined, Program}

-- The actuals of a call, the indices of a remap, the components of a vector and the bounds in a
-- bracket are parts of the expression that has
-- them; the vector and the bracket themselves are no nodes.
abbrev mutual
  pub expr_depth : Expr → ℕ
  expr_depth (Number at value) = 1
  expr_depth (Truth at value) = 1
  expr_depth (Coord at dimension) = 1
  expr_depth (Named at name) = 1
  expr_depth (Shifted at name shift) = 1 + dir_depth shift
  expr_depth (Around at name shift) = 1 + dir_depth shift
  expr_depth (Remap at name indices) = 1 + exprs_depth indices
  expr_depth (Call at name actuals) = 1 + exprs_depth actuals
  expr_depth (Paren at inside) = 1 + expr_depth inside
  expr_depth (Neg at operand) = 1 + expr_depth operand
  expr_depth (Not at operand) = 1 + expr_depth operand
  expr_depth (Abs at operand) = 1 + expr_depth operand
  expr_depth (Pair at op left right) = 1 + max (expr_depth left) (expr_depth right)
  expr_depth (Reduce at operator over operand) = 1 + max (bracket_depth over) (expr_depth operand)
  expr_depth (Scan at operator along operand) = 1 + expr_depth operand
  expr_depth (Flood at source operand) = 1 + max (inner_depth source) (expr_depth operand)

  -- of those below, the greatest depth of an expression in it, and 0 where there is none
  pub exprs_depth : Exprs → ℕ
  exprs_depth NoExpr = 0
  exprs_depth (ThenExpr first rest) = max (expr_depth first) (exprs_depth rest)

  pub dir_depth : Dir → ℕ
  dir_depth (NamedDir name) = 0
  dir_depth (Vector parts) = exprs_depth parts

  pub inner_depth : Inner → ℕ
  inner_depth (Rexpr pre base post) = posts_depth post
  inner_depth (Dims dims) = dims_depth dims

  pub bracket_depth : Bracket → ℕ
  bracket_depth NoBracket = 0
  bracket_depth (Bracketed inner) = inner_depth inner

  pub posts_depth : Posts → ℕ
  posts_depth NoPost = 0
  posts_depth (ThenPost stride dir rest) = max (dir_depth dir) (posts_depth rest)

  pub dim_depth : DimText → ℕ
  dim_depth (Blank at) = 0
  dim_depth (Star at) = 0
  dim_depth (One index) = expr_depth index
  dim_depth (Span low high) = max (expr_depth low) (expr_depth high)

  pub dims_depth : DimTexts → ℕ
  dims_depth NoDim = 0
  dims_depth (ThenDim first rest) = max (dim_depth first) (dims_depth rest)

-- the greatest of a number of each element, and 0 where there is none
abbrev pub greatest_of : {A : Type 0} → (A → ℕ) → List A → ℕ
greatest_of f [] = 0
greatest_of f (x ∷ xs) = max (f x) (greatest_of f xs)

abbrev pub prefix_depth : Prefix → ℕ
prefix_depth prefix = inner_depth prefix.region

abbrev pub step_depth : Option Expr → ℕ
step_depth None = 0
step_depth (Some step) = expr_depth step

abbrev pub head_depth : ForHead → ℕ
head_depth head = max (max (expr_depth head.first) (expr_depth head.last)) (step_depth head.step)

abbrev pub item_depth : Item → ℕ
item_depth (Str bytes) = 0
item_depth (Value value) = expr_depth value

-- the greatest depth of an expression in a statement, and 0 where there is none
abbrev mutual
  pub stmt_depth : Stmt → ℕ
  stmt_depth (Prefixed at prefixes form) = max (greatest_of prefix_depth prefixes) (form_depth form)

  pub form_depth : Form → ℕ
  form_depth (Assign name op value) = expr_depth value
  form_depth (Invoke name actuals) = exprs_depth actuals
  form_depth (Block body) = stmts_depth body
  form_depth (If arms otherwise) = max (arms_depth arms) (otherwise_depth otherwise)
  form_depth (While test body) = max (expr_depth test) (stmts_depth body)
  form_depth (Repeat body until test) = max (stmts_depth body) (expr_depth test)
  form_depth (For head body) = max (head_depth head) (stmts_depth body)
  form_depth (Border kind names) = 0
  form_depth (Write line items) = greatest_of item_depth items
  form_depth (Return value) = expr_depth value

  pub stmts_depth : Stmts → ℕ
  stmts_depth NoStmt = 0
  stmts_depth (ThenStmt first rest) = max (stmt_depth first) (stmts_depth rest)

  pub arms_depth : Arms → ℕ
  arms_depth NoArm = 0
  arms_depth (ThenArm first rest) = max (arm_depth first) (arms_depth rest)

  pub arm_depth : Arm → ℕ
  arm_depth (Tested at test body) = max (expr_depth test) (stmts_depth body)

  pub otherwise_depth : Otherwise → ℕ
  otherwise_depth NoElse = 0
  otherwise_depth (Else body) = stmts_depth body

-- the depth of a nest of statements, whose expressions don't count
abbrev mutual
  pub nest_depth : Stmt → ℕ
  nest_depth (Prefixed at prefixes form) = form_nest form

  pub form_nest : Form → ℕ
  form_nest (Assign name op value) = 1
  form_nest (Invoke name actuals) = 1
  form_nest (Block body) = 1 + stmts_nest body
  form_nest (If arms otherwise) = 1 + max (arms_nest arms) (otherwise_nest otherwise)
  form_nest (While test body) = 1 + stmts_nest body
  form_nest (Repeat body until test) = 1 + stmts_nest body
  form_nest (For head body) = 1 + stmts_nest body
  form_nest (Border kind names) = 1
  form_nest (Write line items) = 1
  form_nest (Return value) = 1

  -- of those below, the depth of the deepest nest in it, and 0 where there is none
  pub stmts_nest : Stmts → ℕ
  stmts_nest NoStmt = 0
  stmts_nest (ThenStmt first rest) = max (nest_depth first) (stmts_nest rest)

  pub arms_nest : Arms → ℕ
  arms_nest NoArm = 0
  arms_nest (ThenArm first rest) = max (arm_nest first) (arms_nest rest)

  pub arm_nest : Arm → ℕ
  arm_nest (Tested at test body) = stmts_nest body

  pub otherwise_nest : Otherwise → ℕ
  otherwise_nest NoElse = 0
  otherwise_nest (Else body) = stmts_nest body

-- the greatest depth of an expression or a nest in a declaration
abbrev pub define_depth : Define → ℕ
define_depth define = expr_depth define.value

abbrev pub region_depth : RegionDef → ℕ
region_depth region = max (inner_depth region.body) (posts_depth region.posts)

abbrev pub direction_depth : DirDef → ℕ
direction_depth direction = exprs_depth direction.parts

abbrev pub var_depth : VarDef → ℕ
var_depth var = bracket_depth var.shape

abbrev pub param_depth : Param → ℕ
param_depth param = bracket_depth param.shape

abbrev pub procedure_depth : Procedure → ℕ
procedure_depth procedure =
    max (max (greatest_of param_depth procedure.params) (greatest_of var_depth procedure.locals))
    (max (stmt_depth procedure.body) (nest_depth procedure.body))

abbrev pub decl_depth : Decl → ℕ
decl_depth (Config defines) = greatest_of define_depth defines
decl_depth (Constant defines) = greatest_of define_depth defines
decl_depth (Regions regions) = greatest_of region_depth regions
decl_depth (Directions directions) = greatest_of direction_depth directions
decl_depth (Vars vars) = greatest_of var_depth vars
decl_depth (Defined procedure) = procedure_depth procedure

-- the greatest depth of an expression or a nest of statements in the program
abbrev pub depth : Program → ℕ
depth program = greatest_of decl_depth program.decls
