-- Programs whose numerals are of 64 bits.
use Rattle.std.specs.Prelude.{ℤ, Option, Some, None, ⊤}
use Rattle.std.specs.List.{AllByRecursion}
use Rattle.zpl_nums.specs.Integer.{IsInteger}
use Rattle.zpl_tree.specs.Syntax.{Expr, Number, Truth, Coord, Named, Shifted, Around, Remap, Call, Paren, Neg, Not, Abs, Pair, Reduce, Scan, Flood, Exprs, NoExpr, ThenExpr, Dir, NamedDir, Vector, Inner, Rexpr, Dims, Bracket, NoBracket, Bracketed, Posts, NoPost, ThenPost, DimText, Blank, Star, One, Span, DimTexts, NoDim, ThenDim, Prefix, ForHead, Item, Str, Value, Stmt, Prefixed, Stmts, NoStmt, ThenStmt, Form, Assign, Invoke, Block, If, While, Repeat, For, Border, Write, Return, Arm, Tested, Arms, NoArm, ThenArm, Otherwise, NoElse, Else, Define, RegionDef, DirDef, VarDef, Param, Procedure, Decl, Config, Constant, Regions, Directions, Vars, Defined, Program}

-- the dimension along which a scan goes
abbrev pub IsSmallAlong : Option ℤ → Type 0
IsSmallAlong None = ⊤
IsSmallAlong (Some dimension) = IsInteger dimension

abbrev mutual
  pub IsSmallExpr : Expr → Type 0
  IsSmallExpr (Number at value) = IsInteger value
  IsSmallExpr (Truth at value) = ⊤
  IsSmallExpr (Coord at dimension) = ⊤
  IsSmallExpr (Named at name) = ⊤
  IsSmallExpr (Shifted at name shift) = IsSmallDir shift
  IsSmallExpr (Around at name shift) = IsSmallDir shift
  IsSmallExpr (Remap at name indices) = AreSmallExprs indices
  IsSmallExpr (Call at name actuals) = AreSmallExprs actuals
  IsSmallExpr (Paren at inside) = IsSmallExpr inside
  IsSmallExpr (Neg at operand) = IsSmallExpr operand
  IsSmallExpr (Not at operand) = IsSmallExpr operand
  IsSmallExpr (Abs at operand) = IsSmallExpr operand
  IsSmallExpr (Pair at op left right) = IsSmallExpr left × IsSmallExpr right
  IsSmallExpr (Reduce at operator over operand) = IsSmallBracket over × IsSmallExpr operand
  IsSmallExpr (Scan at operator along operand) = IsSmallAlong along × IsSmallExpr operand
  IsSmallExpr (Flood at source operand) = IsSmallInner source × IsSmallExpr operand

  pub AreSmallExprs : Exprs → Type 0
  AreSmallExprs NoExpr = ⊤
  AreSmallExprs (ThenExpr first rest) = IsSmallExpr first × AreSmallExprs rest

  pub IsSmallDir : Dir → Type 0
  IsSmallDir (NamedDir name) = ⊤
  IsSmallDir (Vector parts) = AreSmallExprs parts

  pub IsSmallInner : Inner → Type 0
  IsSmallInner (Rexpr pre base post) = AreSmallPosts post
  IsSmallInner (Dims dims) = AreSmallDims dims

  pub IsSmallBracket : Bracket → Type 0
  IsSmallBracket NoBracket = ⊤
  IsSmallBracket (Bracketed inner) = IsSmallInner inner

  pub AreSmallPosts : Posts → Type 0
  AreSmallPosts NoPost = ⊤
  AreSmallPosts (ThenPost stride dir rest) = IsSmallDir dir × AreSmallPosts rest

  pub IsSmallDim : DimText → Type 0
  IsSmallDim (Blank at) = ⊤
  IsSmallDim (Star at) = ⊤
  IsSmallDim (One index) = IsSmallExpr index
  IsSmallDim (Span low high) = IsSmallExpr low × IsSmallExpr high

  pub AreSmallDims : DimTexts → Type 0
  AreSmallDims NoDim = ⊤
  AreSmallDims (ThenDim first rest) = IsSmallDim first × AreSmallDims rest

abbrev pub IsSmallPrefix : Prefix → Type 0
IsSmallPrefix prefix = IsSmallInner prefix.region

abbrev pub IsSmallStep : Option Expr → Type 0
IsSmallStep None = ⊤
IsSmallStep (Some step) = IsSmallExpr step

abbrev pub IsSmallHead : ForHead → Type 0
IsSmallHead head = IsSmallExpr head.first × IsSmallExpr head.last × IsSmallStep head.step

abbrev pub IsSmallItem : Item → Type 0
IsSmallItem (Str bytes) = ⊤
IsSmallItem (Value value) = IsSmallExpr value

abbrev mutual
  pub IsSmallStmt : Stmt → Type 0
  IsSmallStmt (Prefixed at prefixes form) =
      AllByRecursion IsSmallPrefix prefixes × IsSmallForm form

  pub AreSmallStmts : Stmts → Type 0
  AreSmallStmts NoStmt = ⊤
  AreSmallStmts (ThenStmt first rest) = IsSmallStmt first × AreSmallStmts rest

  pub IsSmallForm : Form → Type 0
  IsSmallForm (Assign name op value) = IsSmallExpr value
  IsSmallForm (Invoke name actuals) = AreSmallExprs actuals
  IsSmallForm (Block body) = AreSmallStmts body
  IsSmallForm (If arms otherwise) = AreSmallArms arms × IsSmallElse otherwise
  IsSmallForm (While test body) = IsSmallExpr test × AreSmallStmts body
  IsSmallForm (Repeat body until test) = AreSmallStmts body × IsSmallExpr test
  IsSmallForm (For head body) = IsSmallHead head × AreSmallStmts body
  IsSmallForm (Border kind names) = ⊤
  IsSmallForm (Write line items) = AllByRecursion IsSmallItem items
  IsSmallForm (Return value) = IsSmallExpr value

  pub AreSmallArms : Arms → Type 0
  AreSmallArms NoArm = ⊤
  AreSmallArms (ThenArm first rest) = IsSmallArm first × AreSmallArms rest

  pub IsSmallArm : Arm → Type 0
  IsSmallArm (Tested at test body) = IsSmallExpr test × AreSmallStmts body

  pub IsSmallElse : Otherwise → Type 0
  IsSmallElse NoElse = ⊤
  IsSmallElse (Else body) = AreSmallStmts body

abbrev pub IsSmallDefine : Define → Type 0
IsSmallDefine define = IsSmallExpr define.value

abbrev pub IsSmallRegion : RegionDef → Type 0
IsSmallRegion region = IsSmallInner region.body × AreSmallPosts region.posts

abbrev pub IsSmallDirection : DirDef → Type 0
IsSmallDirection direction = AreSmallExprs direction.parts

abbrev pub IsSmallVar : VarDef → Type 0
IsSmallVar var = IsSmallBracket var.shape

abbrev pub IsSmallParam : Param → Type 0
IsSmallParam param = IsSmallBracket param.shape

abbrev pub IsSmallProcedure : Procedure → Type 0
IsSmallProcedure procedure =
    AllByRecursion IsSmallParam procedure.params × AllByRecursion IsSmallVar procedure.locals ×
    IsSmallStmt procedure.body

abbrev pub IsSmallDecl : Decl → Type 0
IsSmallDecl (Config configs) = AllByRecursion IsSmallDefine configs
IsSmallDecl (Constant constants) = AllByRecursion IsSmallDefine constants
IsSmallDecl (Regions regions) = AllByRecursion IsSmallRegion regions
IsSmallDecl (Directions directions) = AllByRecursion IsSmallDirection directions
IsSmallDecl (Vars vars) = AllByRecursion IsSmallVar vars
IsSmallDecl (Defined procedure) = IsSmallProcedure procedure

-- all numerals in the tree are of 64 bits
abbrev pub HasSmallNumerals : Program → Type 0
HasSmallNumerals program = AllByRecursion IsSmallDecl program.decls
