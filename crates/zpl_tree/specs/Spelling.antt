-- The words that a tree is written as: a region definition in brackets, and one `var` group for a
-- procedure's locals.
--
-- Each definition stands below the line of the grammar that it is. There `{ x }` is any number of x
-- and `[ x ]` at most
-- one; what the language writes is in quotes. Where a line has choices, the tree's form says which
-- is taken.
use Rattle.std.specs.Prelude.{ℕ, ◌==◌, ℤ, List, [], ◌∷◌, ◌++◌, Option, Some, None, if◌then◌else◌}
use Rattle.std.specs.List.{flat_map}
use Rattle.zpl_nums.specs.declared.operators.Op.{Op}
use Rattle.zpl_nums.specs.declared.operators.Op.TheVariants as op
use Rattle.zpl_nums.specs.declared.folds.Fold.{Fold}
use Rattle.zpl_nums.specs.declared.folds.Fold.TheVariants as fold
use Rattle.zpl_nums.specs.declared.ends.Border.{Border as BorderKind}
use Rattle.zpl_nums.specs.declared.ends.Border.TheVariants.{Wrap, Reflect}
use Rattle.zpl_tokens.specs.declared.keywords.Key.{Key}
use Rattle.zpl_tokens.specs.declared.keywords.Key.TheVariants as key
use Rattle.zpl_tokens.specs.declared.symbols.Sym.{Sym}
use Rattle.zpl_tokens.specs.declared.symbols.Sym.TheVariants as sym
use Rattle.zpl_tree.specs.Syntax.{Name, Pre, RegionBase, NamedRegion, Ditto, Expr, Number, Truth, Coord, Named, Shifted, Around, Remap, Call, Paren, Neg, Not, Abs, Pair, Reduce, Scan, Flood, Exprs, NoExpr, ThenExpr, Dir, NamedDir, Vector, Inner, Rexpr, Dims, Bracket, NoBracket, Bracketed, Posts, NoPost, ThenPost, DimText, Blank, Star, One, Span, DimTexts, NoDim, ThenDim, Mask, Prefix, ForHead, Item, Str, Value, Stmt, Prefixed, Stmts, NoStmt, ThenStmt, Form, Assign, Invoke, Block, If, While, Repeat, For, Border, Write, Return, Arm, Tested, Arms, NoArm, ThenArm, Otherwise, NoElse, Else, Base, Integer, Boolean, Other, Define, RegionDef, DirDef, VarDef, Param, Procedure, Decl, Config, Constant, Regions, Directions, Vars, Defined, Program}
use Rattle.zpl_tree.specs.Word.{Word}
use Rattle.zpl_tree.specs.Word as word

abbrev pub symbol : Sym → List Word
symbol s = word.Symbol s ∷ []

abbrev pub keyword : Key → List Word
keyword k = word.Keyword k ∷ []

abbrev pub number : ℤ → List Word
number n = word.Number n ∷ []

abbrev pub name_words : Name → List Word
name_words name = word.Name name.text ∷ []

-- `(` words `)`
abbrev pub in_round : List Word → List Word
in_round words = symbol sym.OpenParen ++ words ++ symbol sym.CloseParen

-- `[` words `]`
abbrev pub in_square : List Word → List Word
in_square words = symbol sym.OpenBracket ++ words ++ symbol sym.CloseBracket

-- foldop = "+" | "*" | "max" | "min" | "&" | "|"
abbrev pub fold_words : Fold → List Word
fold_words fold.Sum = symbol sym.Plus
fold_words fold.Prod = symbol sym.Star
fold_words fold.Max = keyword key.Max
fold_words fold.Min = keyword key.Min
fold_words fold.All = symbol sym.And
fold_words fold.Any = symbol sym.Or

-- "Index1" | "Index2" | "Index3"
abbrev pub index_words : ℕ → List Word
index_words k =
    if k == 1 then keyword key.Index1 else (if k == 2 then keyword key.Index2 else keyword
    key.Index3)

-- what stands for the operator: "+" | "-" | "*" | "/" | "%" | "=" | "!=" | "<" | "<=" | ">" | ">="
-- | "&" | "|" | "max" | "min"
abbrev pub operator_words : Op → List Word
operator_words op.Add = symbol sym.Plus
operator_words op.Sub = symbol sym.Minus
operator_words op.Mul = symbol sym.Star
operator_words op.Div = symbol sym.Slash
operator_words op.Rem = symbol sym.Percent
operator_words op.Eq = symbol sym.Equal
operator_words op.Ne = symbol sym.NotEqual
operator_words op.Lt = symbol sym.Less
operator_words op.Le = symbol sym.LessEqual
operator_words op.Gt = symbol sym.Greater
operator_words op.Ge = symbol sym.GreaterEqual
operator_words op.And = symbol sym.And
operator_words op.Or = symbol sym.Or
operator_words op.Max = keyword key.Max
operator_words op.Min = keyword key.Min

-- conj { "|" conj }, comp { "&" comp }, sum [ ( "=" | .. | ">=" ) sum ], term { ( "+" | "-" ) term
-- },
-- unary { ( "*" | "/" | "%" ) unary } and ( "max" | "min" ) "(" expr "," expr ")"
abbrev pub pair_words : Op → List Word → List Word → List Word
pair_words op.Max left right = keyword key.Max ++ in_round (left ++ symbol sym.Comma ++ right)
pair_words op.Min left right = keyword key.Min ++ in_round (left ++ symbol sym.Comma ++ right)
pair_words o left right = left ++ operator_words o ++ right

-- NAME ( "of" | "in" )
abbrev pub pre_words : Pre → List Word
pre_words pre = name_words pre.dir ++ (if pre.outside then keyword key.Of else keyword key.In)

-- NAME | DITTO
abbrev pub base_words : RegionBase → List Word
base_words (NamedRegion name) = name_words name
base_words (Ditto at) = word.Ditto ∷ []

-- "[" NUMBER "]", or nothing
abbrev pub along_words : Option ℤ → List Word
along_words None = []
along_words (Some dimension) = in_square (number dimension)

abbrev mutual
  pub expr_words : Expr → List Word
  -- NUMBER | "true" | "false" | "Index1" | "Index2" | "Index3"
  expr_words (Number at value) = number value
  expr_words (Truth at value) = if value then keyword key.True else keyword key.False
  expr_words (Coord at dimension) = index_words dimension
  -- NAME [ "@" [ "^" ] dir ] | NAME "#" "[" expr { "," expr } "]" | NAME "(" [ expr { "," expr } ]
  -- ")"
  expr_words (Named at name) = name_words name
  expr_words (Shifted at name shift) = name_words name ++ symbol sym.At ++ dir_words shift
  expr_words (Around at name shift) =
      name_words name ++ symbol sym.At ++ symbol sym.Caret ++ dir_words shift
  expr_words (Remap at name indices) =
      name_words name ++ symbol sym.Hash ++ in_square (exprs_words indices)
  expr_words (Call at name actuals) = name_words name ++ in_round (exprs_words actuals)
  -- "(" expr ")"
  expr_words (Paren at inside) = in_round (expr_words inside)
  -- ( "-" | "!" ) unary
  expr_words (Neg at operand) = symbol sym.Minus ++ expr_words operand
  expr_words (Not at operand) = symbol sym.Not ++ expr_words operand
  -- "abs" "(" expr ")"
  expr_words (Abs at operand) = keyword key.Abs ++ in_round (expr_words operand)
  expr_words (Pair at op left right) = pair_words op (expr_words left) (expr_words right)
  -- foldop "<<" [ bracket ] unary
  expr_words (Reduce at operator over operand) =
      fold_words operator ++ symbol sym.Reduce ++ bracket_words over ++ expr_words operand
  -- foldop "||" [ "[" NUMBER "]" ] unary
  expr_words (Scan at operator along operand) =
      fold_words operator ++ symbol sym.Scan ++ along_words along ++ expr_words operand
  -- ">>" bracket unary
  expr_words (Flood at source operand) = symbol sym.Flood ++ in_square (inner_words source) ++
      expr_words operand

  -- [ expr { "," expr } ]
  pub exprs_words : Exprs → List Word
  exprs_words NoExpr = []
  exprs_words (ThenExpr first rest) = expr_words first ++ more_exprs rest

  -- { "," expr }
  pub more_exprs : Exprs → List Word
  more_exprs NoExpr = []
  more_exprs (ThenExpr first rest) = symbol sym.Comma ++ expr_words first ++ more_exprs rest

  -- dir = NAME | vector; vector = "[" expr { "," expr } "]"
  pub dir_words : Dir → List Word
  dir_words (NamedDir name) = name_words name
  dir_words (Vector parts) = in_square (exprs_words parts)

  -- inner = rexpr | dim { "," dim }; rexpr = { NAME ( "of" | "in" ) } ( NAME | DITTO ) { post }
  pub inner_words : Inner → List Word
  inner_words (Rexpr pre base post) = flat_map pre_words pre ++ base_words base ++ posts_words post
  inner_words (Dims dims) = dims_words dims

  -- [ bracket ]; bracket = "[" inner "]"
  pub bracket_words : Bracket → List Word
  bracket_words NoBracket = []
  bracket_words (Bracketed inner) = in_square (inner_words inner)

  -- { post }; post = ( "at" | "by" ) dir
  pub posts_words : Posts → List Word
  posts_words NoPost = []
  posts_words (ThenPost stride dir rest) =
      (if stride then keyword key.By else keyword key.At) ++ dir_words dir ++ posts_words rest

  -- dim = [ "*" | expr [ ".." expr ] ]
  pub dim_words : DimText → List Word
  dim_words (Blank at) = []
  dim_words (Star at) = symbol sym.Star
  dim_words (One index) = expr_words index
  dim_words (Span low high) = expr_words low ++ symbol sym.DotDot ++ expr_words high

  -- dim { "," dim }
  pub dims_words : DimTexts → List Word
  dims_words NoDim = []
  dims_words (ThenDim first rest) = dim_words first ++ more_dims rest

  -- { "," dim }
  pub more_dims : DimTexts → List Word
  more_dims NoDim = []
  more_dims (ThenDim first rest) = symbol sym.Comma ++ dim_words first ++ more_dims rest

-- { separator x }
abbrev pub each_after : {A : Type 0} → List Word → (A → List Word) → List A → List Word
each_after separator words [] = []
each_after separator words (x ∷ xs) = separator ++ words x ++ each_after separator words xs

-- x { separator x }, or nothing where there is no x
abbrev pub separated : {A : Type 0} → List Word → (A → List Word) → List A → List Word
separated separator words [] = []
separated separator words (x ∷ xs) = words x ++ each_after separator words xs

-- NAME { "," NAME }
abbrev pub names_words : List Name → List Word
names_words names = separated (symbol sym.Comma) name_words names

-- [ ( "with" | "without" ) NAME ]
abbrev pub mask_words : Option Mask → List Word
mask_words None = []
mask_words (Some mask) = (if mask.without then keyword key.Without else keyword key.With) ++
    name_words mask.name

-- prefix = "[" inner [ ( "with" | "without" ) NAME ] "]"
abbrev pub prefix_words : Prefix → List Word
prefix_words prefix = in_square (inner_words prefix.region ++ mask_words prefix.mask)

-- assign = ":=" | "+=" | "-=" | "*=" | "/=" | "%=" | "&=" | "|="; no other operator has such a form
abbrev pub assign_words : Option Op → List Word
assign_words (Some op.Add) = symbol sym.AddAssign
assign_words (Some op.Sub) = symbol sym.SubAssign
assign_words (Some op.Mul) = symbol sym.MulAssign
assign_words (Some op.Div) = symbol sym.DivAssign
assign_words (Some op.Rem) = symbol sym.RemAssign
assign_words (Some op.And) = symbol sym.AndAssign
assign_words (Some op.Or) = symbol sym.OrAssign
assign_words _ = symbol sym.Assign

-- [ "by" expr ]
abbrev pub step_words : Option Expr → List Word
step_words None = []
step_words (Some step) = keyword key.By ++ expr_words step

-- NAME ":=" expr ( "to" | "downto" ) expr [ "by" expr ]
abbrev pub head_words : ForHead → List Word
head_words head =
    name_words head.name ++ symbol sym.Assign ++ expr_words head.first ++
    (if head.down then keyword key.Downto else keyword key.To) ++ expr_words head.last ++
    step_words head.step

-- item = STRING | expr
abbrev pub item_words : Item → List Word
item_words (Str bytes) = word.Str bytes ∷ []
item_words (Value value) = expr_words value

-- [ item { "," item } ]
abbrev pub items_words : List Item → List Word
items_words items = separated (symbol sym.Comma) item_words items

-- "wrap" | "reflect"
abbrev pub border_words : BorderKind → List Word
border_words Wrap = keyword key.Wrap
border_words Reflect = keyword key.Reflect

-- "end" ";"
abbrev pub end_words : List Word
end_words = keyword key.End ++ symbol sym.Semicolon

abbrev mutual
  -- stmt = { prefix } simple
  pub stmt_words : Stmt → List Word
  stmt_words (Prefixed at prefixes form) = flat_map prefix_words prefixes ++ form_words form

  -- { stmt }
  pub stmts_words : Stmts → List Word
  stmts_words NoStmt = []
  stmts_words (ThenStmt first rest) = stmt_words first ++ stmts_words rest

  pub form_words : Form → List Word
  -- NAME assign expr ";" | NAME "(" [ expr { "," expr } ] ")" ";"
  form_words (Assign name op value) =
      name_words name ++ assign_words op ++ expr_words value ++ symbol sym.Semicolon
  form_words (Invoke name actuals) = name_words name ++ in_round (exprs_words actuals) ++
      symbol sym.Semicolon
  -- "begin" { stmt } "end" ";"
  form_words (Block body) = keyword key.Begin ++ stmts_words body ++ end_words
  -- "if" expr "then" { stmt } { "elsif" expr "then" { stmt } } [ "else" { stmt } ] "end" ";"
  form_words (If arms otherwise) = arms_words arms ++ otherwise_words otherwise ++ end_words
  -- "while" expr "do" { stmt } "end" ";"
  form_words (While test body) =
      keyword key.While ++ expr_words test ++ keyword key.Do ++ stmts_words body ++ end_words
  -- "repeat" { stmt } "until" expr ";"
  form_words (Repeat body until test) =
      keyword key.Repeat ++ stmts_words body ++ keyword key.Until ++ expr_words test ++
      symbol sym.Semicolon
  -- "for" NAME ":=" expr ( "to" | "downto" ) expr [ "by" expr ] "do" { stmt } "end" ";"
  form_words (For head body) =
      keyword key.For ++ head_words head ++ keyword key.Do ++ stmts_words body ++ end_words
  -- ( "wrap" | "reflect" ) NAME { "," NAME } ";"
  form_words (Border kind names) = border_words kind ++ names_words names ++ symbol sym.Semicolon
  -- ( "write" | "writeln" ) "(" [ item { "," item } ] ")" ";"
  form_words (Write line items) =
      (if line then keyword key.Writeln else keyword key.Write) ++
      in_round (items_words items) ++ symbol sym.Semicolon
  -- "return" expr ";"
  form_words (Return value) = keyword key.Return ++ expr_words value ++ symbol sym.Semicolon

  -- "if" expr "then" { stmt } { "elsif" expr "then" { stmt } }
  pub arms_words : Arms → List Word
  arms_words NoArm = []
  arms_words (ThenArm first rest) = keyword key.If ++ arm_words first ++ more_arms rest

  -- expr "then" { stmt }
  pub arm_words : Arm → List Word
  arm_words (Tested at test body) = expr_words test ++ keyword key.Then ++ stmts_words body

  -- { "elsif" expr "then" { stmt } }
  pub more_arms : Arms → List Word
  more_arms NoArm = []
  more_arms (ThenArm first rest) = keyword key.Elsif ++ arm_words first ++ more_arms rest

  -- [ "else" { stmt } ]
  pub otherwise_words : Otherwise → List Word
  otherwise_words NoElse = []
  otherwise_words (Else body) = keyword key.Else ++ stmts_words body

-- base = "integer" | "boolean" | NAME
abbrev pub type_words : Base → List Word
type_words Integer = keyword key.Integer
type_words Boolean = keyword key.Boolean
type_words (Other name) = name_words name

-- define = NAME ":" base "=" expr ";"
abbrev pub define_words : Define → List Word
define_words define =
    name_words define.name ++ symbol sym.Colon ++ type_words define.base ++ symbol sym.Equal ++
    expr_words define.value ++ symbol sym.Semicolon

-- regiondef = NAME "=" ( bracket { post } | rexpr ) ";", of which this is the first choice
abbrev pub region_words : RegionDef → List Word
region_words region =
    name_words region.name ++ symbol sym.Equal ++ in_square (inner_words region.body) ++
    posts_words region.posts ++
    symbol sym.Semicolon

-- dirdef = NAME "=" vector ";"
abbrev pub direction_words : DirDef → List Word
direction_words direction =
    name_words direction.name ++ symbol sym.Equal ++ in_square (exprs_words direction.parts) ++
    symbol sym.Semicolon

-- vardef = NAME { "," NAME } ":" [ bracket ] base ";"
abbrev pub var_words : VarDef → List Word
var_words var =
    names_words var.names ++ symbol sym.Colon ++ bracket_words var.shape ++ type_words var.base ++
    symbol sym.Semicolon

-- param = [ "var" ] NAME { "," NAME } ":" [ bracket ] base
abbrev pub param_words : Param → List Word
param_words param =
    (if param.by_ref then keyword key.Var else []) ++ names_words param.names ++ symbol sym.Colon ++
    bracket_words param.shape ++ type_words param.base

-- [ ":" base ]
abbrev pub result_words : Option Base → List Word
result_words None = []
result_words (Some base) = symbol sym.Colon ++ type_words base

-- { "var" vardef { vardef } }, of which this is no group or one
abbrev pub locals_words : List VarDef → List Word
locals_words [] = []
locals_words (first ∷ rest) = keyword key.Var ++ flat_map var_words (first ∷ rest)

-- [ param { ";" param } ]
abbrev pub params_words : List Param → List Word
params_words params = separated (symbol sym.Semicolon) param_words params

-- "procedure" NAME "(" [ param { ";" param } ] ")" [ ":" base ] ";"
abbrev pub heading_words : Procedure → List Word
heading_words procedure =
    keyword key.Procedure ++ name_words procedure.name ++
    in_round (params_words procedure.params) ++ result_words procedure.result ++
    symbol sym.Semicolon

-- procedure = heading { "var" vardef { vardef } } { prefix } block
abbrev pub procedure_words : Procedure → List Word
procedure_words procedure =
    heading_words procedure ++ locals_words procedure.locals ++ stmt_words procedure.body

-- decl = "config" "var" define { define } | "constant" define { define } | "region" regiondef {
-- regiondef }
--      | "direction" dirdef { dirdef } | "var" vardef { vardef } | procedure
abbrev pub decl_words : Decl → List Word
decl_words (Config defines) = keyword key.Config ++ keyword key.Var ++ flat_map define_words defines
decl_words (Constant defines) = keyword key.Constant ++ flat_map define_words defines
decl_words (Regions regions) = keyword key.Region ++ flat_map region_words regions
decl_words (Directions directions) = keyword key.Direction ++ flat_map direction_words directions
decl_words (Vars vars) = keyword key.Var ++ flat_map var_words vars
decl_words (Defined procedure) = procedure_words procedure

-- "program" NAME ";" { decl }
abbrev pub before_end : Program → List Word
before_end program =
    keyword key.Program ++ name_words program.name ++ symbol sym.Semicolon ++
    flat_map decl_words program.decls

-- program = "program" NAME ";" { decl } END
abbrev pub program_words : Program → List Word
program_words program = before_end program ++ word.End ∷ []
