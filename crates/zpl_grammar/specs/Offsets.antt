-- When the offsets in a tree are those of its tokens.
--
-- Each definition takes the lexemes from the first one of its tree on. The offset of a node is that
-- of its first token; of a statement that of the first token behind its prefixes, of a blank
-- dimension that of the token behind it, and of a `repeat`'s test that of the `until` before it.
use Rattle.std.specs.Prelude.{◌≡◌, Bool, true, false, List, [], ◌∷◌, ◌++◌, Option, Some, None, ⊤}
use Rattle.std.specs.List.{flat_map}
use Rattle.zpl_nums.specs.declared.operators.Op.{Op}
use Rattle.zpl_nums.specs.declared.operators.Op.TheVariants as op
use Rattle.zpl_tokens.specs.declared.Kind.TheVariants as kind
use Rattle.zpl_tokens.specs.declared.keywords.Key.TheVariants as key
use Rattle.zpl_tokens.specs.declared.symbols.Sym.TheVariants as sym
use Rattle.zpl_tree.specs.Syntax.{Name, Pre, RegionBase, NamedRegion, Ditto, Expr, Number, Truth, Coord, Named, Shifted, Around, Remap, Call, Paren, Neg, Not, Abs, Pair, Reduce, Scan, Flood, Exprs, NoExpr, ThenExpr, Dir, NamedDir, Vector, Inner, Rexpr, Dims, Bracket, NoBracket, Bracketed, Posts, NoPost, ThenPost, DimText, Blank, Star, One, Span, DimTexts, NoDim, ThenDim, Mask, Prefix, ForHead, Item, Str, Value, Stmt, Prefixed, Stmts, NoStmt, ThenStmt, Form, Assign, Invoke, Block, If, While, Repeat, For, Border, Write, Return, Arm, Tested, Arms, NoArm, ThenArm, Otherwise, NoElse, Else, Base, Integer, Boolean, Other, Define, RegionDef, DirDef, VarDef, Param, Procedure, Decl, Config, Constant, Regions, Directions, Vars, Defined, Program}
use Rattle.zpl_tree.specs.Spelling.{in_round, in_square, name_words, names_words, pre_words, base_words, along_words, expr_words, dir_words, inner_words, bracket_words, dim_words, prefix_words, head_words, item_words, stmt_words, stmts_words, arms_words, arm_words, type_words, define_words, region_words, direction_words, var_words, param_words, params_words, heading_words, decl_words}
use Rattle.zpl_tree.specs.Grammar.{bare_words}
use Rattle.zpl_tree.specs.Word.{Word}
use Rattle.zpl_grammar.specs.Lexeme.{Lexeme, head_at, behind, next_is}

-- what is left behind as many lexemes as there are words
abbrev pub past : List Word → List Lexeme → List Lexeme
past [] lexemes = lexemes
past (word ∷ words) lexemes = past words (behind lexemes)

-- each one behind the one before
abbrev pub EachAt : {A : Type 0} → (List Lexeme → A → Type 0) → (A → List Word) → List Lexeme
    → List A → Type 0
EachAt At spelling lexemes [] = ⊤
EachAt At spelling lexemes (x ∷ xs) =
    At lexemes x × EachAt At spelling (past (spelling x) lexemes) xs

-- each one behind the one before and a separator
abbrev pub SeparatedAt : {A : Type 0} → (List Lexeme → A → Type 0) → (A → List Word) → List Lexeme
    → List A → Type 0
SeparatedAt At spelling lexemes [] = ⊤
SeparatedAt At spelling lexemes (x ∷ xs) =
    At lexemes x × SeparatedAt At spelling (behind (past (spelling x) lexemes)) xs

abbrev pub NameAt : List Lexeme → Name → Type 0
NameAt lexemes name = name.at ≡ head_at lexemes

abbrev pub NamesAt : List Lexeme → List Name → Type 0
NamesAt lexemes names = SeparatedAt NameAt name_words lexemes names

abbrev pub PreAt : List Lexeme → Pre → Type 0
PreAt lexemes pre = NameAt lexemes pre.dir

abbrev pub BaseAt : List Lexeme → RegionBase → Type 0
BaseAt lexemes (NamedRegion name) = NameAt lexemes name
BaseAt lexemes (Ditto at) = at ≡ head_at lexemes

-- the left operand of an operator, behind `max (` or `min (`, or first
abbrev pub left_of : Op → List Lexeme → List Lexeme
left_of op.Max lexemes = behind (behind lexemes)
left_of op.Min lexemes = behind (behind lexemes)
left_of _ lexemes = lexemes

abbrev mutual
  pub ExprAt : List Lexeme → Expr → Type 0
  ExprAt lexemes (Number at value) = at ≡ head_at lexemes
  ExprAt lexemes (Truth at value) = at ≡ head_at lexemes
  ExprAt lexemes (Coord at dimension) = at ≡ head_at lexemes
  ExprAt lexemes (Named at name) = (at ≡ head_at lexemes) × NameAt lexemes name
  ExprAt lexemes (Shifted at name shift) = (at ≡ head_at lexemes) × NameAt lexemes name ×
      DirAt (behind (behind lexemes)) shift
  -- behind the `@` stands a `^`
  ExprAt lexemes (Around at name shift) =
      (at ≡ head_at lexemes) × NameAt lexemes name × DirAt (behind (behind (behind lexemes))) shift
  -- behind the `#` stands a bracket
  ExprAt lexemes (Remap at name indices) =
      (at ≡ head_at lexemes) × NameAt lexemes name ×
      ExprsAt (behind (behind (behind lexemes))) indices
  ExprAt lexemes (Call at name actuals) = (at ≡ head_at lexemes) × NameAt lexemes name ×
      ExprsAt (behind (behind lexemes)) actuals
  ExprAt lexemes (Paren at inside) = (at ≡ head_at lexemes) × ExprAt (behind lexemes) inside
  ExprAt lexemes (Neg at operand) = (at ≡ head_at lexemes) × ExprAt (behind lexemes) operand
  ExprAt lexemes (Not at operand) = (at ≡ head_at lexemes) × ExprAt (behind lexemes) operand
  ExprAt lexemes (Abs at operand) =
      (at ≡ head_at lexemes) × ExprAt (behind (behind lexemes)) operand
  -- between the operands stands the operator or a comma
  ExprAt lexemes (Pair at op left right) =
      (at ≡ head_at lexemes) × ExprAt (left_of op lexemes) left ×
      ExprAt (behind (past (expr_words left) (left_of op lexemes))) right
  ExprAt lexemes (Reduce at operator over operand) =
      (at ≡ head_at lexemes) × BracketAt (behind (behind lexemes)) over ×
      ExprAt (past (bracket_words over) (behind (behind lexemes))) operand
  ExprAt lexemes (Scan at operator along operand) =
      (at ≡ head_at lexemes) × ExprAt (past (along_words along) (behind (behind lexemes))) operand
  ExprAt lexemes (Flood at source operand) =
      (at ≡ head_at lexemes) × InnerAt (behind (behind lexemes)) source ×
      ExprAt (past (in_square (inner_words source)) (behind lexemes)) operand

  -- expr { "," expr }
  pub ExprsAt : List Lexeme → Exprs → Type 0
  ExprsAt lexemes NoExpr = ⊤
  ExprsAt lexemes (ThenExpr first rest) =
      ExprAt lexemes first × ExprsAt (behind (past (expr_words first) lexemes)) rest

  pub DirAt : List Lexeme → Dir → Type 0
  DirAt lexemes (NamedDir name) = NameAt lexemes name
  DirAt lexemes (Vector parts) = ExprsAt (behind lexemes) parts

  pub InnerAt : List Lexeme → Inner → Type 0
  InnerAt lexemes (Rexpr pre base post) =
      EachAt PreAt pre_words lexemes pre × BaseAt (past (flat_map pre_words pre) lexemes) base ×
      PostsAt (past (flat_map pre_words pre ++ base_words base) lexemes) post
  InnerAt lexemes (Dims dims) = DimsAt lexemes dims

  pub BracketAt : List Lexeme → Bracket → Type 0
  BracketAt lexemes NoBracket = ⊤
  BracketAt lexemes (Bracketed inner) = InnerAt (behind lexemes) inner

  pub PostsAt : List Lexeme → Posts → Type 0
  PostsAt lexemes NoPost = ⊤
  PostsAt lexemes (ThenPost stride dir rest) =
      DirAt (behind lexemes) dir × PostsAt (past (dir_words dir) (behind lexemes)) rest

  pub DimAt : List Lexeme → DimText → Type 0
  DimAt lexemes (Blank at) = at ≡ head_at lexemes
  DimAt lexemes (Star at) = at ≡ head_at lexemes
  DimAt lexemes (One index) = ExprAt lexemes index
  DimAt lexemes (Span low high) =
      ExprAt lexemes low × ExprAt (behind (past (expr_words low) lexemes)) high

  pub DimsAt : List Lexeme → DimTexts → Type 0
  DimsAt lexemes NoDim = ⊤
  DimsAt lexemes (ThenDim first rest) =
      DimAt lexemes first × DimsAt (behind (past (dim_words first) lexemes)) rest

abbrev pub MaskAt : List Lexeme → Option Mask → Type 0
MaskAt lexemes None = ⊤
MaskAt lexemes (Some mask) = NameAt (behind lexemes) mask.name

abbrev pub PrefixAt : List Lexeme → Prefix → Type 0
PrefixAt lexemes prefix =
    (prefix.at ≡ head_at lexemes) × InnerAt (behind lexemes) prefix.region ×
    MaskAt (past (inner_words prefix.region) (behind lexemes)) prefix.mask

abbrev pub StepAt : List Lexeme → Option Expr → Type 0
StepAt lexemes None = ⊤
StepAt lexemes (Some step) = ExprAt (behind lexemes) step

-- NAME ":=" expr ( "to" | "downto" ) expr [ "by" expr ], of which these are the lexemes behind the
-- ":="
abbrev pub BoundsAt : List Lexeme → ForHead → Type 0
BoundsAt lexemes head =
    ExprAt lexemes head.first × ExprAt (behind (past (expr_words head.first) lexemes)) head.last ×
    StepAt (past (expr_words head.last) (behind (past (expr_words head.first) lexemes))) head.step

abbrev pub HeadAt : List Lexeme → ForHead → Type 0
HeadAt lexemes head = NameAt lexemes head.name × BoundsAt (behind (behind lexemes)) head

abbrev pub ItemAt : List Lexeme → Item → Type 0
ItemAt lexemes (Str bytes) = ⊤
ItemAt lexemes (Value value) = ExprAt lexemes value

abbrev mutual
  pub StmtAt : List Lexeme → Stmt → Type 0
  StmtAt lexemes (Prefixed at prefixes form) =
      EachAt PrefixAt prefix_words lexemes prefixes ×
      (at ≡ head_at (past (flat_map prefix_words prefixes) lexemes)) ×
      FormAt (past (flat_map prefix_words prefixes) lexemes) form

  pub StmtsAt : List Lexeme → Stmts → Type 0
  StmtsAt lexemes NoStmt = ⊤
  StmtsAt lexemes (ThenStmt first rest) =
      StmtAt lexemes first × StmtsAt (past (stmt_words first) lexemes) rest

  pub FormAt : List Lexeme → Form → Type 0
  FormAt lexemes (Assign name op value) =
      NameAt lexemes name × ExprAt (behind (behind lexemes)) value
  FormAt lexemes (Invoke name actuals) =
      NameAt lexemes name × ExprsAt (behind (behind lexemes)) actuals
  FormAt lexemes (Block body) = StmtsAt (behind lexemes) body
  FormAt lexemes (If arms otherwise) =
      ArmsAt lexemes arms × OtherwiseAt (past (arms_words arms) lexemes) otherwise
  FormAt lexemes (While test body) =
      ExprAt (behind lexemes) test × StmtsAt (behind (past (expr_words test) (behind lexemes))) body
  FormAt lexemes (Repeat body until test) =
      StmtsAt (behind lexemes) body × (until ≡ head_at (past (stmts_words body) (behind lexemes))) ×
      ExprAt (behind (past (stmts_words body) (behind lexemes))) test
  FormAt lexemes (For head body) =
      HeadAt (behind lexemes) head × StmtsAt (behind (past (head_words head) (behind lexemes))) body
  FormAt lexemes (Border kind names) = NamesAt (behind lexemes) names
  FormAt lexemes (Write line items) = SeparatedAt ItemAt item_words (behind (behind lexemes)) items
  FormAt lexemes (Return value) = ExprAt (behind lexemes) value

  -- each arm behind its `if` or `elsif`, whose offset it has
  pub ArmsAt : List Lexeme → Arms → Type 0
  ArmsAt lexemes NoArm = ⊤
  ArmsAt lexemes (ThenArm first rest) =
      ArmAt lexemes first × ArmsAt (past (arm_words first) (behind lexemes)) rest

  pub ArmAt : List Lexeme → Arm → Type 0
  ArmAt lexemes (Tested at test body) =
      (at ≡ head_at lexemes) × ExprAt (behind lexemes) test ×
      StmtsAt (behind (past (expr_words test) (behind lexemes))) body

  pub OtherwiseAt : List Lexeme → Otherwise → Type 0
  OtherwiseAt lexemes NoElse = ⊤
  OtherwiseAt lexemes (Else body) = StmtsAt (behind lexemes) body

abbrev pub TypeAt : List Lexeme → Base → Type 0
TypeAt lexemes Integer = ⊤
TypeAt lexemes Boolean = ⊤
TypeAt lexemes (Other name) = NameAt lexemes name

abbrev pub DefineAt : List Lexeme → Define → Type 0
DefineAt lexemes define =
    NameAt lexemes define.name × TypeAt (behind (behind lexemes)) define.base ×
    ExprAt (behind (past (type_words define.base) (behind (behind lexemes)))) define.value

-- what a region is defined as: in a bracket, or bare, and what stands behind it
abbrev pub BodyAt : Bool → List Lexeme → RegionDef → Type 0
BodyAt true lexemes region = InnerAt (behind lexemes) region.body ×
    PostsAt (past (in_square (inner_words region.body)) lexemes) region.posts
BodyAt false lexemes region =
    InnerAt lexemes region.body × PostsAt (past (inner_words region.body) lexemes) region.posts

-- whether a bracket begins
abbrev pub opens : List Lexeme → Bool
opens lexemes = next_is (kind.Symbol sym.OpenBracket) lexemes

abbrev pub RegionAt : List Lexeme → RegionDef → Type 0
RegionAt lexemes region =
    NameAt lexemes region.name × BodyAt (opens (behind (behind lexemes))) (behind (behind lexemes))
    region

abbrev pub region_spelling : Bool → RegionDef → List Word
region_spelling true region = region_words region
region_spelling false region = bare_words region

-- what is left behind a region's definition
abbrev pub past_region : RegionDef → List Lexeme → List Lexeme
past_region region lexemes = past (region_spelling (opens (behind (behind lexemes))) region) lexemes

abbrev pub RegionsAt : List Lexeme → List RegionDef → Type 0
RegionsAt lexemes [] = ⊤
RegionsAt lexemes (region ∷ regions) =
    RegionAt lexemes region × RegionsAt (past_region region lexemes) regions

abbrev pub past_regions : List RegionDef → List Lexeme → List Lexeme
past_regions [] lexemes = lexemes
past_regions (region ∷ regions) lexemes = past_regions regions (past_region region lexemes)

abbrev pub DirectionAt : List Lexeme → DirDef → Type 0
DirectionAt lexemes direction =
    NameAt lexemes direction.name × ExprsAt (behind (behind (behind lexemes))) direction.parts

-- [ bracket ] base
abbrev pub ShapeAt : List Lexeme → Bracket → Base → Type 0
ShapeAt lexemes shape base =
    BracketAt lexemes shape × TypeAt (past (bracket_words shape) lexemes) base

abbrev pub VarAt : List Lexeme → VarDef → Type 0
VarAt lexemes var =
    NamesAt lexemes var.names × ShapeAt (behind (past (names_words var.names) lexemes)) var.shape
    var.base

-- behind the `var` of a formal that refers
abbrev pub formal_of : Bool → List Lexeme → List Lexeme
formal_of true lexemes = behind lexemes
formal_of false lexemes = lexemes

abbrev pub ParamAt : List Lexeme → Param → Type 0
ParamAt lexemes param =
    NamesAt (formal_of param.by_ref lexemes) param.names ×
    ShapeAt (behind (past (names_words param.names) (formal_of param.by_ref lexemes))) param.shape
    param.base

abbrev pub ResultAt : List Lexeme → Option Base → Type 0
ResultAt lexemes None = ⊤
ResultAt lexemes (Some base) = TypeAt (behind lexemes) base

-- behind the `var` of a group, where one stands
abbrev pub grouped : List Lexeme → List Lexeme
grouped lexemes = formal_of (next_is (kind.Word key.Var) lexemes) lexemes

abbrev pub LocalsAt : List Lexeme → List VarDef → Type 0
LocalsAt lexemes [] = ⊤
LocalsAt lexemes (var ∷ vars) =
    VarAt (grouped lexemes) var × LocalsAt (past (var_words var) (grouped lexemes)) vars

abbrev pub past_locals : List VarDef → List Lexeme → List Lexeme
past_locals [] lexemes = lexemes
past_locals (var ∷ vars) lexemes = past_locals vars (past (var_words var) (grouped lexemes))

abbrev pub ProcedureAt : List Lexeme → Procedure → Type 0
ProcedureAt lexemes procedure =
    NameAt (behind lexemes) procedure.name ×
    SeparatedAt ParamAt param_words (behind (behind (behind lexemes))) procedure.params ×
    ResultAt (past (in_round (params_words procedure.params)) (behind (behind lexemes)))
    procedure.result ×
    LocalsAt (past (heading_words procedure) lexemes) procedure.locals ×
    StmtAt (past_locals procedure.locals (past (heading_words procedure) lexemes)) procedure.body

abbrev pub DeclAt : List Lexeme → Decl → Type 0
DeclAt lexemes (Config defines) = EachAt DefineAt define_words (behind (behind lexemes)) defines
DeclAt lexemes (Constant defines) = EachAt DefineAt define_words (behind lexemes) defines
DeclAt lexemes (Regions regions) = RegionsAt (behind lexemes) regions
DeclAt lexemes (Directions directions) =
    EachAt DirectionAt direction_words (behind lexemes) directions
DeclAt lexemes (Vars vars) = EachAt VarAt var_words (behind lexemes) vars
DeclAt lexemes (Defined procedure) = ProcedureAt lexemes procedure

abbrev pub past_decl : Decl → List Lexeme → List Lexeme
past_decl (Regions regions) lexemes = past_regions regions (behind lexemes)
past_decl (Defined procedure) lexemes =
    past (stmt_words procedure.body)
    (past_locals procedure.locals (past (heading_words procedure) lexemes))
past_decl decl lexemes = past (decl_words decl) lexemes

abbrev pub DeclsAt : List Lexeme → List Decl → Type 0
DeclsAt lexemes [] = ⊤
DeclsAt lexemes (decl ∷ decls) = DeclAt lexemes decl × DeclsAt (past_decl decl lexemes) decls

-- The offsets in a program are those of its tokens, which the lexemes are.
abbrev pub ProgramAt : List Lexeme → Program → Type 0
ProgramAt lexemes program = NameAt (behind lexemes) program.name ×
    DeclsAt (behind (behind (behind lexemes))) program.decls
