-- Which trees the grammar has, and everything that each of them may be written as.
--
-- A tree says nearly all of how it is written. The grammar leaves two choices: a region that is
-- defined by a name and
-- what is made of it may stand without brackets, and the local variables of a procedure may come in
-- several `var` groups.
use Rattle.std.specs.Prelude.{◌≡◌, ◌⊎◌, ℕ, ℤ, pos, int_le, nat_le, IsTrue, List, [], ◌∷◌, ◌++◌, Option, Some, None, ⊤}
use Rattle.std.specs.List.{AllByRecursion}
use Rattle.zpl_nums.specs.declared.operators.Op.{Op}
use Rattle.zpl_nums.specs.declared.operators.Op.TheVariants as op
use Rattle.zpl_tokens.specs.declared.keywords.Key.TheVariants as key
use Rattle.zpl_tokens.specs.declared.symbols.Sym.TheVariants as sym
use Rattle.zpl_tree.specs.Spelling.{symbol, keyword, name_words, inner_words, stmt_words, var_words, region_words, heading_words, decl_words}
use Rattle.zpl_tree.specs.Syntax.{Expr, Number, Truth, Coord, Named, Shifted, Around, Remap, Call, Paren, Neg, Not, Abs, Pair, Reduce, Scan, Flood, Exprs, NoExpr, ThenExpr, Dir, NamedDir, Vector, Inner, Rexpr, Dims, Bracket, NoBracket, Bracketed, Posts, NoPost, ThenPost, DimText, Blank, Star, One, Span, DimTexts, NoDim, ThenDim, Prefix, ForHead, Item, Str, Value, Stmt, Prefixed, Stmts, NoStmt, ThenStmt, Form, Assign, Invoke, Block, If, While, Repeat, For, Border, Write, Return, Arm, Tested, Arms, NoArm, ThenArm, Otherwise, NoElse, Else, Define, RegionDef, DirDef, VarDef, Param, Procedure, Decl, Config, Constant, Regions, Directions, Vars, Defined, Program}
use Rattle.zpl_tree.specs.Word.{Word}
use Rattle.zpl_tree.specs.Word as word

-- How tightly an expression binds. The grammar has a rule for each level, and a rule takes what the
-- next one gives.
abbrev pub expr_level : ℕ
expr_level = 0

abbrev pub conj_level : ℕ
conj_level = 1

abbrev pub comp_level : ℕ
comp_level = 2

abbrev pub sum_level : ℕ
sum_level = 3

abbrev pub term_level : ℕ
term_level = 4

abbrev pub unary_level : ℕ
unary_level = 5

abbrev pub primary_level : ℕ
primary_level = 6

-- an expression of one level may stand where another is wanted
abbrev pub StandsAt : ℕ → ℕ → Type 0
StandsAt wanted own = IsTrue (nat_le wanted own)

-- An operator's own level, and those of its operands. Operators of one level group to the left, but
-- for comparisons, which
-- don't follow one another; `max` and `min` stand before their operands, in brackets.
--   expr = conj { "|" conj }
--   conj = comp { "&" comp }
--   comp = sum [ ( "=" | "!=" | "<" | "<=" | ">" | ">=" ) sum ]
--   sum = term { ( "+" | "-" ) term }
--   term = unary { ( "*" | "/" | "%" ) unary }
abbrev pub own_level : Op → ℕ
own_level op.Or = expr_level
own_level op.And = conj_level
own_level op.Eq = comp_level
own_level op.Ne = comp_level
own_level op.Lt = comp_level
own_level op.Le = comp_level
own_level op.Gt = comp_level
own_level op.Ge = comp_level
own_level op.Add = sum_level
own_level op.Sub = sum_level
own_level op.Mul = term_level
own_level op.Div = term_level
own_level op.Rem = term_level
own_level op.Max = primary_level
own_level op.Min = primary_level

abbrev pub left_level : Op → ℕ
left_level op.Or = expr_level
left_level op.And = conj_level
left_level op.Eq = sum_level
left_level op.Ne = sum_level
left_level op.Lt = sum_level
left_level op.Le = sum_level
left_level op.Gt = sum_level
left_level op.Ge = sum_level
left_level op.Add = sum_level
left_level op.Sub = sum_level
left_level op.Mul = term_level
left_level op.Div = term_level
left_level op.Rem = term_level
left_level op.Max = expr_level
left_level op.Min = expr_level

abbrev pub right_level : Op → ℕ
right_level op.Or = conj_level
right_level op.And = comp_level
right_level op.Eq = sum_level
right_level op.Ne = sum_level
right_level op.Lt = sum_level
right_level op.Le = sum_level
right_level op.Gt = sum_level
right_level op.Ge = sum_level
right_level op.Add = term_level
right_level op.Sub = term_level
right_level op.Mul = unary_level
right_level op.Div = unary_level
right_level op.Rem = unary_level
right_level op.Max = expr_level
right_level op.Min = expr_level

-- what digits alone can stand for
abbrev pub IsNatural : ℤ → Type 0
IsNatural n = IsTrue (int_le (pos 0) n)

-- [ "[" NUMBER "]" ]
abbrev pub IsAlong : Option ℤ → Type 0
IsAlong None = ⊤
IsAlong (Some dimension) = IsNatural dimension

-- expr { "," expr }, which has at least one
abbrev pub HasExpr : Exprs → Type 0
HasExpr NoExpr = ⊥
HasExpr (ThenExpr first rest) = ⊤

-- not a single name, which is a region expression
abbrev pub IsMoreThanName : Expr → Type 0
IsMoreThanName (Named at name) = ⊥
IsMoreThanName _ = ⊤

abbrev pub IsSingleDim : DimText → Type 0
IsSingleDim (One index) = IsMoreThanName index
IsSingleDim _ = ⊤

-- dim { "," dim }, which has at least one, and where it is one is no single name
abbrev pub HasDims : DimTexts → Type 0
HasDims NoDim = ⊥
HasDims (ThenDim first NoDim) = IsSingleDim first
HasDims (ThenDim first (ThenDim second rest)) = ⊤

abbrev mutual
  -- the expression is one of the grammar, and may stand where this level is wanted
  pub IsExpr : ℕ → Expr → Type 0
  -- NUMBER | "true" | "false" | "Index1" | "Index2" | "Index3"
  IsExpr level (Number at value) = IsNatural value
  IsExpr level (Truth at value) = ⊤
  IsExpr level (Coord at dimension) = IsTrue (nat_le 1 dimension) × IsTrue (nat_le dimension 3)
  -- NAME [ "@" [ "^" ] dir ] | NAME "#" "[" expr { "," expr } "]" | NAME "(" [ expr { "," expr } ]
  -- ")"
  IsExpr level (Named at name) = ⊤
  IsExpr level (Shifted at name shift) = IsDir shift
  IsExpr level (Around at name shift) = IsDir shift
  IsExpr level (Remap at name indices) = HasExpr indices × AreExprs indices
  IsExpr level (Call at name actuals) = AreExprs actuals
  -- "(" expr ")"
  IsExpr level (Paren at inside) = IsExpr expr_level inside
  -- ( "-" | "!" ) unary
  IsExpr level (Neg at operand) = StandsAt level unary_level × IsExpr unary_level operand
  IsExpr level (Not at operand) = StandsAt level unary_level × IsExpr unary_level operand
  -- "abs" "(" expr ")"
  IsExpr level (Abs at operand) = IsExpr expr_level operand
  -- an operator between its operands, or ( "max" | "min" ) "(" expr "," expr ")"
  IsExpr level (Pair at op left right) =
      StandsAt level (own_level op) × IsExpr (left_level op) left × IsExpr (right_level op) right
  -- foldop "<<" [ bracket ] unary | foldop "||" [ "[" NUMBER "]" ] unary | ">>" bracket unary
  IsExpr level (Reduce at operator over operand) =
      StandsAt level unary_level × IsBracket over × IsExpr unary_level operand
  IsExpr level (Scan at operator along operand) =
      StandsAt level unary_level × IsAlong along × IsExpr unary_level operand
  IsExpr level (Flood at source operand) = StandsAt level unary_level × IsInner source ×
      IsExpr unary_level operand

  -- [ expr { "," expr } ]
  pub AreExprs : Exprs → Type 0
  AreExprs NoExpr = ⊤
  AreExprs (ThenExpr first rest) = IsExpr expr_level first × AreExprs rest

  -- dir = NAME | vector; vector = "[" expr { "," expr } "]"
  pub IsDir : Dir → Type 0
  IsDir (NamedDir name) = ⊤
  IsDir (Vector parts) = HasExpr parts × AreExprs parts

  -- inner = rexpr | dim { "," dim }
  pub IsInner : Inner → Type 0
  IsInner (Rexpr pre base post) = ArePosts post
  IsInner (Dims dims) = HasDims dims × AreDims dims

  -- [ "[" inner "]" ]
  pub IsBracket : Bracket → Type 0
  IsBracket NoBracket = ⊤
  IsBracket (Bracketed inner) = IsInner inner

  -- { ( "at" | "by" ) dir }
  pub ArePosts : Posts → Type 0
  ArePosts NoPost = ⊤
  ArePosts (ThenPost stride dir rest) = IsDir dir × ArePosts rest

  -- dim = [ "*" | expr [ ".." expr ] ]
  pub IsDim : DimText → Type 0
  IsDim (Blank at) = ⊤
  IsDim (Star at) = ⊤
  IsDim (One index) = IsExpr expr_level index
  IsDim (Span low high) = IsExpr expr_level low × IsExpr expr_level high

  pub AreDims : DimTexts → Type 0
  AreDims NoDim = ⊤
  AreDims (ThenDim first rest) = IsDim first × AreDims rest

-- at least one of what stands one or more times
abbrev pub HasAny : {A : Type 0} → List A → Type 0
HasAny [] = ⊥
HasAny (x ∷ xs) = ⊤

-- ":=" | "+=" | "-=" | "*=" | "/=" | "%=" | "&=" | "|="
abbrev pub IsAssigning : Option Op → Type 0
IsAssigning None = ⊤
IsAssigning (Some op.Add) = ⊤
IsAssigning (Some op.Sub) = ⊤
IsAssigning (Some op.Mul) = ⊤
IsAssigning (Some op.Div) = ⊤
IsAssigning (Some op.Rem) = ⊤
IsAssigning (Some op.And) = ⊤
IsAssigning (Some op.Or) = ⊤
IsAssigning _ = ⊥

-- "[" inner [ ( "with" | "without" ) NAME ] "]"
abbrev pub IsPrefix : Prefix → Type 0
IsPrefix prefix = IsInner prefix.region

-- [ "by" expr ]
abbrev pub IsStep : Option Expr → Type 0
IsStep None = ⊤
IsStep (Some step) = IsExpr expr_level step

-- NAME ":=" expr ( "to" | "downto" ) expr [ "by" expr ]
abbrev pub IsHead : ForHead → Type 0
IsHead head = IsExpr expr_level head.first × IsExpr expr_level head.last × IsStep head.step

-- item = STRING | expr
abbrev pub IsItem : Item → Type 0
IsItem (Str bytes) = ⊤
IsItem (Value value) = IsExpr expr_level value

-- an `if` has at least its first arm
abbrev pub HasArm : Arms → Type 0
HasArm NoArm = ⊥
HasArm (ThenArm first rest) = ⊤

abbrev mutual
  -- stmt = { prefix } simple
  pub IsStmt : Stmt → Type 0
  IsStmt (Prefixed at prefixes form) = AllByRecursion IsPrefix prefixes × IsForm form

  -- { stmt }
  pub AreStmts : Stmts → Type 0
  AreStmts NoStmt = ⊤
  AreStmts (ThenStmt first rest) = IsStmt first × AreStmts rest

  -- simple
  pub IsForm : Form → Type 0
  IsForm (Assign name op value) = IsAssigning op × IsExpr expr_level value
  IsForm (Invoke name actuals) = AreExprs actuals
  IsForm (Block body) = AreStmts body
  IsForm (If arms otherwise) = HasArm arms × AreArms arms × IsOtherwise otherwise
  IsForm (While test body) = IsExpr expr_level test × AreStmts body
  IsForm (Repeat body until test) = AreStmts body × IsExpr expr_level test
  IsForm (For head body) = IsHead head × AreStmts body
  IsForm (Border kind names) = HasAny names
  IsForm (Write line items) = AllByRecursion IsItem items
  IsForm (Return value) = IsExpr expr_level value

  pub AreArms : Arms → Type 0
  AreArms NoArm = ⊤
  AreArms (ThenArm first rest) = IsArm first × AreArms rest

  -- expr "then" { stmt }
  pub IsArm : Arm → Type 0
  IsArm (Tested at test body) = IsExpr expr_level test × AreStmts body

  -- [ "else" { stmt } ]
  pub IsOtherwise : Otherwise → Type 0
  IsOtherwise NoElse = ⊤
  IsOtherwise (Else body) = AreStmts body

-- define = NAME ":" base "=" expr ";"
abbrev pub IsDefine : Define → Type 0
IsDefine define = IsExpr expr_level define.value

-- regiondef = NAME "=" ( bracket { post } | rexpr ) ";"
abbrev pub IsRegion : RegionDef → Type 0
IsRegion region = IsInner region.body × ArePosts region.posts

-- dirdef = NAME "=" vector ";"
abbrev pub IsDirection : DirDef → Type 0
IsDirection direction = HasExpr direction.parts × AreExprs direction.parts

-- vardef = NAME { "," NAME } ":" [ bracket ] base ";"
abbrev pub IsVar : VarDef → Type 0
IsVar var = HasAny var.names × IsBracket var.shape

-- param = [ "var" ] NAME { "," NAME } ":" [ bracket ] base
abbrev pub IsParam : Param → Type 0
IsParam param = HasAny param.names × IsBracket param.shape

-- { prefix } block
abbrev pub IsBody : Stmt → Type 0
IsBody (Prefixed at prefixes (Block body)) = IsStmt (Prefixed at prefixes (Block body))
IsBody _ = ⊥

-- procedure = heading { "var" vardef { vardef } } { prefix } block
abbrev pub IsProcedure : Procedure → Type 0
IsProcedure procedure =
    AllByRecursion IsParam procedure.params × AllByRecursion IsVar procedure.locals ×
    IsBody procedure.body

-- decl, each group with at least one definition
abbrev pub IsDecl : Decl → Type 0
IsDecl (Config defines) = HasAny defines × AllByRecursion IsDefine defines
IsDecl (Constant defines) = HasAny defines × AllByRecursion IsDefine defines
IsDecl (Regions regions) = HasAny regions × AllByRecursion IsRegion regions
IsDecl (Directions directions) = HasAny directions × AllByRecursion IsDirection directions
IsDecl (Vars vars) = HasAny vars × AllByRecursion IsVar vars
IsDecl (Defined procedure) = IsProcedure procedure

-- program = "program" NAME ";" { decl } END
abbrev pub IsProgram : Program → Type 0
IsProgram program = AllByRecursion IsDecl program.decls

-- the words are those of each element, one after the other
abbrev pub SpellsEach : {A : Type 0} → (A → List Word → Type 0) → List A → List Word → Type 0
SpellsEach Spells [] words = words ≡ []
SpellsEach Spells (x ∷ xs) words =
    (front : List Word) × (back : List Word) × Spells x front × SpellsEach Spells xs back ×
    (words ≡ front ++ back)

-- made of a name or the ditto, and nothing behind a bracket
abbrev pub IsRexpr : Inner → Type 0
IsRexpr (Rexpr pre base post) = ⊤
IsRexpr (Dims dims) = ⊥

abbrev pub HasNoPost : Posts → Type 0
HasNoPost NoPost = ⊤
HasNoPost (ThenPost stride dir rest) = ⊥

-- NAME "=" rexpr ";"
abbrev pub bare_words : RegionDef → List Word
bare_words region =
    name_words region.name ++ symbol sym.Equal ++ inner_words region.body ++ symbol sym.Semicolon

-- regiondef = NAME "=" ( bracket { post } | rexpr ) ";"
abbrev pub SpellsRegion : RegionDef → List Word → Type 0
SpellsRegion region words =
    (words ≡ region_words region) ⊎ (IsRexpr region.body × HasNoPost region.posts ×
    (words ≡ bare_words region))

-- { [ "var" ] vardef }, where each `var` begins a group
abbrev pub SpellsMoreLocals : List VarDef → List Word → Type 0
SpellsMoreLocals [] words = words ≡ []
SpellsMoreLocals (first ∷ rest) words =
    (others : List Word) × SpellsMoreLocals rest others ×
    ((words ≡ var_words first ++ others) ⊎ (words ≡ keyword key.Var ++ var_words first ++ others))

-- { "var" vardef { vardef } }
abbrev pub SpellsLocals : List VarDef → List Word → Type 0
SpellsLocals [] words = words ≡ []
SpellsLocals (first ∷ rest) words =
    (others : List Word) × SpellsMoreLocals rest others ×
    (words ≡ keyword key.Var ++ var_words first ++ others)

-- procedure = heading { "var" vardef { vardef } } { prefix } block
abbrev pub SpellsProcedure : Procedure → List Word → Type 0
SpellsProcedure procedure words =
    (locals : List Word) × SpellsLocals procedure.locals locals ×
    (words ≡ heading_words procedure ++ locals ++ stmt_words procedure.body)

-- decl
abbrev pub SpellsDecl : Decl → List Word → Type 0
SpellsDecl (Regions regions) words =
    (definitions : List Word) × SpellsEach SpellsRegion regions definitions ×
    (words ≡ keyword key.Region ++ definitions)
SpellsDecl (Defined procedure) words = SpellsProcedure procedure words
SpellsDecl decl words = words ≡ decl_words decl

-- A program of the grammar is written as these words, of which the last is the end.
--   program = "program" NAME ";" { decl } END
abbrev pub Spells : Program → List Word → Type 0
Spells program words =
    (decls : List Word) × IsProgram program × SpellsEach SpellsDecl program.decls decls ×
    (words ≡ keyword key.Program ++ name_words program.name ++ symbol sym.Semicolon ++ decls ++
    word.End ∷ [])
