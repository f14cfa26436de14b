-- What is counted of a statement: the nodes of its expressions, the statements in it, its loops.
use Rattle.std.specs.Prelude.{ℕ, ◌+◌, List, Option, Some, None, sum_by}
use Rattle.zpl_tree.specs.Syntax.{Expr, Number, Truth, Coord, Named, Shifted, Around, Remap, Call, Paren, Neg, Not, Abs, Pair, Reduce, Scan, Flood, Exprs, NoExpr, ThenExpr, Dir, NamedDir, Vector, Inner, Rexpr, Dims, Bracket, NoBracket, Bracketed, Posts, NoPost, ThenPost, DimText, Blank, Star, One, Span, DimTexts, NoDim, ThenDim, Prefix, Item, Str, Value, Stmt, Prefixed, Stmts, NoStmt, ThenStmt, Form, Assign, Invoke, Block, If, While, Repeat, For, Border, Write, Return, Arm, Tested, Arms, NoArm, ThenArm, Otherwise, NoElse, Else}

-- ---- the nodes of an expression, with those in its brackets and vectors

abbrev mutual
  pub expr_nodes : Expr → ℕ
  expr_nodes (Number at value) = 1
  expr_nodes (Truth at value) = 1
  expr_nodes (Coord at dimension) = 1
  expr_nodes (Named at name) = 1
  expr_nodes (Shifted at name shift) = 1 + dir_nodes shift
  expr_nodes (Around at name shift) = 1 + dir_nodes shift
  expr_nodes (Remap at name indices) = 1 + exprs_nodes indices
  expr_nodes (Call at name actuals) = 1 + exprs_nodes actuals
  expr_nodes (Paren at inside) = 1 + expr_nodes inside
  expr_nodes (Neg at operand) = 1 + expr_nodes operand
  expr_nodes (Not at operand) = 1 + expr_nodes operand
  expr_nodes (Abs at operand) = 1 + expr_nodes operand
  expr_nodes (Pair at op left right) = 1 + expr_nodes left + expr_nodes right
  expr_nodes (Reduce at operator over operand) = 1 + bracket_nodes over + expr_nodes operand
  expr_nodes (Scan at operator along operand) = 1 + expr_nodes operand
  expr_nodes (Flood at source operand) = 1 + inner_nodes source + expr_nodes operand

  pub exprs_nodes : Exprs → ℕ
  exprs_nodes NoExpr = 0
  exprs_nodes (ThenExpr first rest) = expr_nodes first + exprs_nodes rest

  pub dir_nodes : Dir → ℕ
  dir_nodes (NamedDir name) = 0
  dir_nodes (Vector parts) = exprs_nodes parts

  pub inner_nodes : Inner → ℕ
  inner_nodes (Rexpr pre base post) = posts_nodes post
  inner_nodes (Dims dims) = dims_nodes dims

  pub bracket_nodes : Bracket → ℕ
  bracket_nodes NoBracket = 0
  bracket_nodes (Bracketed inner) = inner_nodes inner

  pub posts_nodes : Posts → ℕ
  posts_nodes NoPost = 0
  posts_nodes (ThenPost stride dir rest) = dir_nodes dir + posts_nodes rest

  pub dim_nodes : DimText → ℕ
  dim_nodes (Blank at) = 0
  dim_nodes (Star at) = 0
  dim_nodes (One index) = expr_nodes index
  dim_nodes (Span low high) = expr_nodes low + expr_nodes high

  pub dims_nodes : DimTexts → ℕ
  dims_nodes NoDim = 0
  dims_nodes (ThenDim first rest) = dim_nodes first + dims_nodes rest

-- ---- of a statement

abbrev pub prefixes_nodes : List Prefix → ℕ
prefixes_nodes prefixes = sum_by (λ prefix. inner_nodes prefix.region) prefixes

abbrev pub item_nodes : Item → ℕ
item_nodes (Str bytes) = 0
item_nodes (Value value) = expr_nodes value

abbrev pub step_nodes : Option Expr → ℕ
step_nodes None = 0
step_nodes (Some step) = expr_nodes step

-- the nodes of its expressions, those of the statements in it and of its tests aside
abbrev pub own_nodes : Form → ℕ
own_nodes (Assign name op value) = expr_nodes value
own_nodes (Invoke name actuals) = exprs_nodes actuals
own_nodes (Block body) = 0
own_nodes (If arms otherwise) = 0
own_nodes (While test body) = 0
own_nodes (Repeat body until test) = 0
own_nodes (For head body) = expr_nodes head.first + expr_nodes head.last + step_nodes head.step
own_nodes (Border border names) = 0
own_nodes (Write line items) = sum_by item_nodes items
own_nodes (Return value) = expr_nodes value

abbrev mutual
  -- all its nodes, with those of its prefixes and of the statements in it
  pub stmt_nodes : Stmt → ℕ
  stmt_nodes (Prefixed at prefixes form) = prefixes_nodes prefixes + form_nodes form

  pub stmts_nodes : Stmts → ℕ
  stmts_nodes NoStmt = 0
  stmts_nodes (ThenStmt first rest) = stmt_nodes first + stmts_nodes rest

  pub form_nodes : Form → ℕ
  form_nodes (Block body) = stmts_nodes body
  form_nodes (If arms otherwise) = arms_nodes arms + otherwise_nodes otherwise
  form_nodes (While test body) = expr_nodes test + stmts_nodes body
  form_nodes (Repeat body until test) = stmts_nodes body + expr_nodes test
  form_nodes (For head body) = own_nodes (For head body) + stmts_nodes body
  form_nodes (Assign name op value) = own_nodes (Assign name op value)
  form_nodes (Invoke name actuals) = own_nodes (Invoke name actuals)
  form_nodes (Border border names) = own_nodes (Border border names)
  form_nodes (Write line items) = own_nodes (Write line items)
  form_nodes (Return value) = own_nodes (Return value)

  pub arms_nodes : Arms → ℕ
  arms_nodes NoArm = 0
  arms_nodes (ThenArm first rest) = arm_nodes first + arms_nodes rest

  pub arm_nodes : Arm → ℕ
  arm_nodes (Tested at test body) = expr_nodes test + stmts_nodes body

  pub otherwise_nodes : Otherwise → ℕ
  otherwise_nodes NoElse = 0
  otherwise_nodes (Else body) = stmts_nodes body

abbrev mutual
  -- the statements that a statement is, with those in it
  pub stmt_count : Stmt → ℕ
  stmt_count (Prefixed at prefixes form) = 1 + form_count form

  pub stmts_count : Stmts → ℕ
  stmts_count NoStmt = 0
  stmts_count (ThenStmt first rest) = stmt_count first + stmts_count rest

  -- those in it
  pub form_count : Form → ℕ
  form_count (Block body) = stmts_count body
  form_count (If arms otherwise) = arms_count arms + otherwise_count otherwise
  form_count (While test body) = stmts_count body
  form_count (Repeat body until test) = stmts_count body
  form_count (For head body) = stmts_count body
  form_count (Assign name op value) = 0
  form_count (Invoke name actuals) = 0
  form_count (Border border names) = 0
  form_count (Write line items) = 0
  form_count (Return value) = 0

  pub arms_count : Arms → ℕ
  arms_count NoArm = 0
  arms_count (ThenArm first rest) = arm_count first + arms_count rest

  pub arm_count : Arm → ℕ
  arm_count (Tested at test body) = stmts_count body

  pub otherwise_count : Otherwise → ℕ
  otherwise_count NoElse = 0
  otherwise_count (Else body) = stmts_count body

-- the statements of a body: its outermost block doesn't count
abbrev pub body_count : Stmt → ℕ
body_count (Prefixed at prefixes (Block body)) = stmts_count body
body_count stmt = stmt_count stmt

abbrev mutual
  -- the `while` and `repeat` that a statement has
  pub stmt_loops : Stmt → ℕ
  stmt_loops (Prefixed at prefixes form) = form_loops form

  pub stmts_loops : Stmts → ℕ
  stmts_loops NoStmt = 0
  stmts_loops (ThenStmt first rest) = stmt_loops first + stmts_loops rest

  pub form_loops : Form → ℕ
  form_loops (Block body) = stmts_loops body
  form_loops (If arms otherwise) = arms_loops arms + otherwise_loops otherwise
  form_loops (While test body) = 1 + stmts_loops body
  form_loops (Repeat body until test) = 1 + stmts_loops body
  form_loops (For head body) = stmts_loops body
  form_loops (Assign name op value) = 0
  form_loops (Invoke name actuals) = 0
  form_loops (Border border names) = 0
  form_loops (Write line items) = 0
  form_loops (Return value) = 0

  pub arms_loops : Arms → ℕ
  arms_loops NoArm = 0
  arms_loops (ThenArm first rest) = arm_loops first + arms_loops rest

  pub arm_loops : Arm → ℕ
  arm_loops (Tested at test body) = stmts_loops body

  pub otherwise_loops : Otherwise → ℕ
  otherwise_loops NoElse = 0
  otherwise_loops (Else body) = stmts_loops body
