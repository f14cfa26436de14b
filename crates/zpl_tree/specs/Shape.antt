-- When two trees differ in offsets and source alone.
use Rattle.std.specs.Prelude.{◌≡◌, [], map}
use Rattle.std.specs.Option.{option_map}
use Rattle.zpl_tree.specs.Syntax.{Name, Pre, RegionBase, NamedRegion, Ditto, Expr, Number, Truth, Coord, Named, Shifted, Around, Remap, Call, Paren, Neg, Not, Abs, Pair, Reduce, Scan, Flood, Exprs, NoExpr, ThenExpr, Dir, NamedDir, Vector, Inner, Rexpr, Dims, Bracket, NoBracket, Bracketed, Posts, NoPost, ThenPost, DimText, Blank, Star, One, Span, DimTexts, NoDim, ThenDim, Mask, Prefix, ForHead, Item, Str, Value, Stmt, Prefixed, Stmts, NoStmt, ThenStmt, Form, Assign, Invoke, Block, If, While, Repeat, For, Border, Write, Return, Arm, Tested, Arms, NoArm, ThenArm, Otherwise, NoElse, Else, Base, Integer, Boolean, Other, Define, RegionDef, DirDef, VarDef, Param, Procedure, Decl, Config, Constant, Regions, Directions, Vars, Defined, Program}

-- The shape of a tree is the tree with each offset 0 and no source.
abbrev pub name_shape : Name → Name
name_shape name = record { text = name.text; at = 0 }

abbrev pub pre_shape : Pre → Pre
pre_shape pre = record { dir = name_shape pre.dir; outside = pre.outside }

abbrev pub base_shape : RegionBase → RegionBase
base_shape (NamedRegion name) = NamedRegion (name_shape name)
base_shape (Ditto at) = Ditto 0

abbrev mutual
  pub expr_shape : Expr → Expr
  expr_shape (Number at value) = Number 0 value
  expr_shape (Truth at value) = Truth 0 value
  expr_shape (Coord at dimension) = Coord 0 dimension
  expr_shape (Named at name) = Named 0 (name_shape name)
  expr_shape (Shifted at name shift) = Shifted 0 (name_shape name) (dir_shape shift)
  expr_shape (Around at name shift) = Around 0 (name_shape name) (dir_shape shift)
  expr_shape (Remap at name indices) = Remap 0 (name_shape name) (exprs_shape indices)
  expr_shape (Call at name actuals) = Call 0 (name_shape name) (exprs_shape actuals)
  expr_shape (Paren at inside) = Paren 0 (expr_shape inside)
  expr_shape (Neg at operand) = Neg 0 (expr_shape operand)
  expr_shape (Not at operand) = Not 0 (expr_shape operand)
  expr_shape (Abs at operand) = Abs 0 (expr_shape operand)
  expr_shape (Pair at op left right) = Pair 0 op (expr_shape left) (expr_shape right)
  expr_shape (Reduce at operator over operand) =
      Reduce 0 operator (bracket_shape over) (expr_shape operand)
  expr_shape (Scan at operator along operand) = Scan 0 operator along (expr_shape operand)
  expr_shape (Flood at source operand) = Flood 0 (inner_shape source) (expr_shape operand)

  pub exprs_shape : Exprs → Exprs
  exprs_shape NoExpr = NoExpr
  exprs_shape (ThenExpr first rest) = ThenExpr (expr_shape first) (exprs_shape rest)

  pub dir_shape : Dir → Dir
  dir_shape (NamedDir name) = NamedDir (name_shape name)
  dir_shape (Vector parts) = Vector (exprs_shape parts)

  pub inner_shape : Inner → Inner
  inner_shape (Rexpr pre base post) = Rexpr (map pre_shape pre) (base_shape base) (posts_shape post)
  inner_shape (Dims dims) = Dims (dims_shape dims)

  pub bracket_shape : Bracket → Bracket
  bracket_shape NoBracket = NoBracket
  bracket_shape (Bracketed inner) = Bracketed (inner_shape inner)

  pub posts_shape : Posts → Posts
  posts_shape NoPost = NoPost
  posts_shape (ThenPost stride dir rest) = ThenPost stride (dir_shape dir) (posts_shape rest)

  pub dim_shape : DimText → DimText
  dim_shape (Blank at) = Blank 0
  dim_shape (Star at) = Star 0
  dim_shape (One index) = One (expr_shape index)
  dim_shape (Span low high) = Span (expr_shape low) (expr_shape high)

  pub dims_shape : DimTexts → DimTexts
  dims_shape NoDim = NoDim
  dims_shape (ThenDim first rest) = ThenDim (dim_shape first) (dims_shape rest)

abbrev pub mask_shape : Mask → Mask
mask_shape mask = record { name = name_shape mask.name; without = mask.without }

abbrev pub prefix_shape : Prefix → Prefix
prefix_shape prefix =
    record { at = 0; region = inner_shape prefix.region; mask = option_map mask_shape prefix.mask }

abbrev pub head_shape : ForHead → ForHead
head_shape head = record {
  name = name_shape head.name;
  first = expr_shape head.first;
  down = head.down;
  last = expr_shape head.last;
  step = option_map expr_shape head.step;
}

abbrev pub item_shape : Item → Item
item_shape (Str bytes) = Str bytes
item_shape (Value value) = Value (expr_shape value)

abbrev mutual
  pub stmt_shape : Stmt → Stmt
  stmt_shape (Prefixed at prefixes form) = Prefixed 0 (map prefix_shape prefixes) (form_shape form)

  pub form_shape : Form → Form
  form_shape (Assign name op value) = Assign (name_shape name) op (expr_shape value)
  form_shape (Invoke name actuals) = Invoke (name_shape name) (exprs_shape actuals)
  form_shape (Block body) = Block (stmts_shape body)
  form_shape (If arms otherwise) = If (arms_shape arms) (otherwise_shape otherwise)
  form_shape (While test body) = While (expr_shape test) (stmts_shape body)
  form_shape (Repeat body until test) = Repeat (stmts_shape body) 0 (expr_shape test)
  form_shape (For head body) = For (head_shape head) (stmts_shape body)
  form_shape (Border kind names) = Border kind (map name_shape names)
  form_shape (Write line items) = Write line (map item_shape items)
  form_shape (Return value) = Return (expr_shape value)

  pub stmts_shape : Stmts → Stmts
  stmts_shape NoStmt = NoStmt
  stmts_shape (ThenStmt first rest) = ThenStmt (stmt_shape first) (stmts_shape rest)

  pub arms_shape : Arms → Arms
  arms_shape NoArm = NoArm
  arms_shape (ThenArm first rest) = ThenArm (arm_shape first) (arms_shape rest)

  pub arm_shape : Arm → Arm
  arm_shape (Tested at test body) = Tested 0 (expr_shape test) (stmts_shape body)

  pub otherwise_shape : Otherwise → Otherwise
  otherwise_shape NoElse = NoElse
  otherwise_shape (Else body) = Else (stmts_shape body)

abbrev pub base_type_shape : Base → Base
base_type_shape Integer = Integer
base_type_shape Boolean = Boolean
base_type_shape (Other name) = Other (name_shape name)

abbrev pub define_shape : Define → Define
define_shape define =
    record {
      name = name_shape define.name;
      base = base_type_shape define.base;
      value =
          expr_shape define.value;
    }

abbrev pub region_shape : RegionDef → RegionDef
region_shape region =
    record {
      name = name_shape region.name;
      body = inner_shape region.body;
      posts =
          posts_shape region.posts;
    }

abbrev pub direction_shape : DirDef → DirDef
direction_shape direction = record {
  name = name_shape direction.name;
  parts =
      exprs_shape direction.parts;
}

abbrev pub var_shape : VarDef → VarDef
var_shape var = record {
  names = map name_shape var.names;
  shape = bracket_shape var.shape;
  base = base_type_shape var.base;
}

abbrev pub param_shape : Param → Param
param_shape param = record {
  by_ref = param.by_ref;
  names = map name_shape param.names;
  shape = bracket_shape param.shape;
  base = base_type_shape param.base;
}

abbrev pub procedure_shape : Procedure → Procedure
procedure_shape procedure = record {
  name = name_shape procedure.name;
  params = map param_shape procedure.params;
  result = option_map base_type_shape procedure.result;
  locals = map var_shape procedure.locals;
  body = stmt_shape procedure.body;
}

abbrev pub decl_shape : Decl → Decl
decl_shape (Config defines) = Config (map define_shape defines)
decl_shape (Constant defines) = Constant (map define_shape defines)
decl_shape (Regions regions) = Regions (map region_shape regions)
decl_shape (Directions directions) = Directions (map direction_shape directions)
decl_shape (Vars vars) = Vars (map var_shape vars)
decl_shape (Defined procedure) = Defined (procedure_shape procedure)

abbrev pub shape_of : Program → Program
shape_of program = record {
  name = name_shape program.name;
  decls =
      map decl_shape program.decls;
  source = [];
}

-- the trees differ in offsets and source alone
abbrev pub SameShape : Program → Program → Type 0
SameShape one other = shape_of one ≡ shape_of other
