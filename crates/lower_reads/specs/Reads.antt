-- How many reads that wrap round stand in an expression or a statement.
use Rattle.std.specs.Prelude.{ℕ, ◌+◌, List, Option, Some, None, sum_by}
use Rattle.zpl_lowering.specs.of_zpl_tree.Syntax.{Expr, Number, Truth, Coord, Named, Shifted, Around, Remap, Call, Paren, Neg, Not, Abs, Pair, Reduce, Scan, Flood, Exprs, NoExpr, ThenExpr, Dir, NamedDir, Vector, Inner, Rexpr, Dims, Bracket, NoBracket, Bracketed, Posts, NoPost, ThenPost, DimText, Blank, Star, One, Span, DimTexts, NoDim, ThenDim, Prefix, ForHead, Item, Str, Value, Stmt, Prefixed, Stmts, NoStmt, ThenStmt, Form, Assign, Invoke, Block, If, While, Repeat, For, Border, Write, Return, Arm, Tested, Arms, NoArm, ThenArm, Otherwise, NoElse, Else}

abbrev mutual
  pub expr_reads : Expr → ℕ
  expr_reads (Number at value) = 0
  expr_reads (Truth at value) = 0
  expr_reads (Coord at dimension) = 0
  expr_reads (Named at name) = 0
  expr_reads (Shifted at name shift) = dir_reads shift
  expr_reads (Around at name shift) = 1 + dir_reads shift
  expr_reads (Remap at name indices) = exprs_reads indices
  expr_reads (Call at name actuals) = exprs_reads actuals
  expr_reads (Paren at inside) = expr_reads inside
  expr_reads (Neg at operand) = expr_reads operand
  expr_reads (Not at operand) = expr_reads operand
  expr_reads (Abs at operand) = expr_reads operand
  expr_reads (Pair at op left right) = expr_reads left + expr_reads right
  expr_reads (Reduce at operator over operand) = bracket_reads over + expr_reads operand
  expr_reads (Scan at operator along operand) = expr_reads operand
  expr_reads (Flood at source operand) = inner_reads source + expr_reads operand

  pub exprs_reads : Exprs → ℕ
  exprs_reads NoExpr = 0
  exprs_reads (ThenExpr first rest) = expr_reads first + exprs_reads rest

  pub dir_reads : Dir → ℕ
  dir_reads (NamedDir name) = 0
  dir_reads (Vector parts) = exprs_reads parts

  pub inner_reads : Inner → ℕ
  inner_reads (Rexpr pre base post) = posts_reads post
  inner_reads (Dims dims) = dims_reads dims

  pub bracket_reads : Bracket → ℕ
  bracket_reads NoBracket = 0
  bracket_reads (Bracketed inner) = inner_reads inner

  pub posts_reads : Posts → ℕ
  posts_reads NoPost = 0
  posts_reads (ThenPost stride dir rest) = dir_reads dir + posts_reads rest

  pub dim_reads : DimText → ℕ
  dim_reads (Blank at) = 0
  dim_reads (Star at) = 0
  dim_reads (One index) = expr_reads index
  dim_reads (Span low high) = expr_reads low + expr_reads high

  pub dims_reads : DimTexts → ℕ
  dims_reads NoDim = 0
  dims_reads (ThenDim first rest) = dim_reads first + dims_reads rest

abbrev pub prefixes_reads : List Prefix → ℕ
prefixes_reads prefixes = sum_by (λ prefix. inner_reads prefix.region) prefixes

abbrev pub item_reads : Item → ℕ
item_reads (Str bytes) = 0
item_reads (Value value) = expr_reads value

abbrev pub step_reads : Option Expr → ℕ
step_reads None = 0
step_reads (Some step) = expr_reads step

abbrev pub head_reads : ForHead → ℕ
head_reads head = expr_reads head.first + (expr_reads head.last + step_reads head.step)

abbrev mutual
  pub stmt_reads : Stmt → ℕ
  stmt_reads (Prefixed at prefixes form) = prefixes_reads prefixes + form_reads form

  pub stmts_reads : Stmts → ℕ
  stmts_reads NoStmt = 0
  stmts_reads (ThenStmt first rest) = stmt_reads first + stmts_reads rest

  pub form_reads : Form → ℕ
  form_reads (Assign name op value) = expr_reads value
  form_reads (Invoke name actuals) = exprs_reads actuals
  form_reads (Block body) = stmts_reads body
  form_reads (If arms otherwise) = arms_reads arms + otherwise_reads otherwise
  form_reads (While test body) = expr_reads test + stmts_reads body
  form_reads (Repeat body until test) = stmts_reads body + expr_reads test
  form_reads (For head body) = head_reads head + stmts_reads body
  form_reads (Border border names) = 0
  form_reads (Write line items) = sum_by item_reads items
  form_reads (Return value) = expr_reads value

  pub arms_reads : Arms → ℕ
  arms_reads NoArm = 0
  arms_reads (ThenArm first rest) = arm_reads first + arms_reads rest

  pub arm_reads : Arm → ℕ
  arm_reads (Tested at test body) = expr_reads test + stmts_reads body

  pub otherwise_reads : Otherwise → ℕ
  otherwise_reads NoElse = 0
  otherwise_reads (Else body) = stmts_reads body
