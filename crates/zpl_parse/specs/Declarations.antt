-- Rules of declarations and of whole programs. `expr` is the rule of expressions, and `most` bounds
-- the length of each list.
use Rattle.std.specs.Prelude.{ℕ, suc, zero, Bool, true, false, List, [], ◌∷◌, ◌++◌, Option, Some, None}
use Rattle.zpl_tokens.specs.declared.Kind.TheVariants as kind
use Rattle.zpl_tokens.specs.declared.keywords.Key.TheVariants as key
use Rattle.zpl_tokens.specs.declared.symbols.Sym.TheVariants as sym
use Rattle.zpl_tree.specs.Syntax.{Name, Expr, NoPost, Stmt, Prefixed, Block, Base, Integer, Boolean, Other, Define, RegionDef, DirDef, VarDef, Param, Procedure, Decl, Config, Constant, Regions, Directions, Vars, Defined, Program}
use Rattle.zpl_grammar.specs.Texts.{most_deep}
use Rattle.zpl_parse.specs.declared.classes.Part.{Part}
use Rattle.zpl_parse.specs.declared.classes.Part.TheVariants as part
use Rattle.zpl_parse.specs.Classes.{part_of}
use Rattle.zpl_grammar.specs.Lexeme.{head_kind, behind}
use Rattle.zpl_parse.specs.Outcome.{Done, Wrong, Reader, and_then, made}
use Rattle.zpl_parse.specs.Tokens.{next_is, symbol, keyword, name, names}
use Rattle.zpl_parse.specs.Expressions.{bracket, components, in_bracket, posts, rexpr, levels}
use Rattle.zpl_parse.specs.Statements.{prefixes, body_end, stmts, stmt}

-- base = "integer" | "boolean" | NAME
abbrev pub base : Reader Base
base lexemes =
    elim (next_is (kind.Word key.Integer) lexemes) [
      | true ↦ Done Integer (behind lexemes)
      | false ↦ elim (next_is (kind.Word key.Boolean) lexemes) [
        | true ↦ Done Boolean (behind lexemes)
        | false ↦ made Other (name lexemes)
      ]
    ]

-- definition { definition }, each of which begins with a name
abbrev pub group : {A : Type 0} → ℕ → Reader A → Reader (List A)
group zero definition lexemes = Wrong lexemes
group (suc most) definition lexemes = and_then (definition lexemes) (λ first rest.
    elim (next_is kind.Name rest) [
      | true ↦ made (λ others. first ∷ others) (group most definition rest)
      | false ↦ Done (first ∷ []) rest
    ])

-- define = NAME ":" base "=" expr ";"
abbrev pub define : Reader Expr → Reader Define
define expr lexemes = and_then (name lexemes) (λ defined rest.
    and_then (symbol sym.Colon rest) (λ colon behind_colon.
    and_then (base behind_colon) (λ type behind_base.
    and_then (symbol sym.Equal behind_base) (λ equal behind_equal.
    and_then (expr behind_equal) (λ value last.
    made (λ end. record { name = defined; base = type; value = value })
    (symbol sym.Semicolon last))))))

-- bracket { post } | rexpr, for the region of this name
abbrev pub region_body : ℕ → Reader Expr → Name → Reader RegionDef
region_body most expr defined lexemes =
    elim (next_is (kind.Symbol sym.OpenBracket) lexemes) [
      | true ↦ and_then (in_bracket most expr lexemes) (λ body rest.
          made (λ those. record { name = defined; body = body; posts = those })
          (posts most expr rest))
      | false ↦
          made (λ body. record { name = defined; body = body; posts = NoPost })
          (rexpr most expr lexemes)
    ]

-- regiondef = NAME "=" ( bracket { post } | rexpr ) ";"
abbrev pub region : ℕ → Reader Expr → Reader RegionDef
region most expr lexemes = and_then (name lexemes) (λ defined rest.
    and_then (symbol sym.Equal rest) (λ equal after.
    and_then (region_body most expr defined after) (λ definition last.
    made (λ end. definition) (symbol sym.Semicolon last))))

-- dirdef = NAME "=" vector ";"
abbrev pub direction : ℕ → Reader Expr → Reader DirDef
direction most expr lexemes = and_then (name lexemes) (λ defined rest.
    and_then (symbol sym.Equal rest) (λ equal after.
    and_then (symbol sym.OpenBracket after) (λ at inside.
    and_then (components most expr inside) (λ parts last.
    made (λ end. record { name = defined; parts = parts }) (symbol sym.Semicolon last)))))

-- vardef = NAME { "," NAME } ":" [ bracket ] base ";"
abbrev pub variables : ℕ → Reader Expr → Reader VarDef
variables most expr lexemes = and_then (names most lexemes) (λ those rest.
    and_then (symbol sym.Colon rest) (λ colon after.
    and_then (bracket most expr after) (λ shape behind_shape.
    and_then (base behind_shape) (λ type last.
    made (λ end. record { names = those; shape = shape; base = type })
    (symbol sym.Semicolon last)))))

-- NAME { "," NAME } ":" [ bracket ] base, for formals that refer or that are copies
abbrev pub formals : ℕ → Reader Expr → Bool → Reader Param
formals most expr by_ref lexemes = and_then (names most lexemes) (λ those rest.
    and_then (symbol sym.Colon rest) (λ colon after.
    and_then (bracket most expr after) (λ shape last.
    made (λ type. record { by_ref = by_ref; names = those; shape = shape; base = type })
    (base last))))

-- param = [ "var" ] NAME { "," NAME } ":" [ bracket ] base
abbrev pub param : ℕ → Reader Expr → Reader Param
param most expr lexemes =
    elim (next_is (kind.Word key.Var) lexemes) [
      | true ↦ formals most expr true (behind lexemes)
      | false ↦ formals most expr false lexemes
    ]

-- param { ";" param }
abbrev pub some_params : ℕ → Reader Expr → Reader (List Param)
some_params zero expr lexemes = Wrong lexemes
some_params (suc most) expr lexemes = and_then (param most expr lexemes) (λ first rest.
    elim (next_is (kind.Symbol sym.Semicolon) rest) [
      | true ↦ made (λ others. first ∷ others) (some_params most expr (behind rest))
      | false ↦ Done (first ∷ []) rest
    ])

-- [ param { ";" param } ] ")", behind a "("
abbrev pub params : ℕ → Reader Expr → Reader (List Param)
params most expr lexemes =
    elim (next_is (kind.Symbol sym.CloseParen) lexemes) [
      | true ↦ Done [] (behind lexemes)
      | false ↦
          and_then (some_params most expr lexemes) (λ those rest.
          made (λ at. those) (symbol sym.CloseParen rest))
    ]

-- [ ":" base ]
abbrev pub result : Reader (Option Base)
result lexemes =
    elim (next_is (kind.Symbol sym.Colon) lexemes) [
      | true ↦ made Some (base (behind lexemes))
      | false ↦ Done None lexemes
    ]

-- { "var" vardef { vardef } }
abbrev pub locals : ℕ → Reader Expr → Reader (List VarDef)
locals zero expr lexemes = Wrong lexemes
locals (suc most) expr lexemes =
    elim (next_is (kind.Word key.Var) lexemes) [
      | false ↦ Done [] lexemes
      | true ↦ and_then (group most (variables most expr) (behind lexemes)) (λ first rest.
          made (λ others. first ++ others) (locals most expr rest))
    ]

-- { prefix } block
abbrev pub body : ℕ → Reader Expr → ℕ → Reader Stmt
body most expr deep lexemes = and_then (prefixes most expr lexemes) (λ before rest.
    and_then (keyword key.Begin rest) (λ at after.
    made (λ those. Prefixed at before (Block those)) (body_end (stmts most (stmt most expr deep))
    after)))

-- NAME "(" [ param { ";" param } ] ")" [ ":" base ] ";" { "var" vardef { vardef } } { prefix }
-- block, behind a "procedure"
abbrev pub procedure : ℕ → Reader Expr → ℕ → Reader Procedure
procedure most expr deep lexemes = and_then (name lexemes) (λ defined rest.
    and_then (symbol sym.OpenParen rest) (λ at inside.
    and_then (params most expr inside) (λ those behind_params.
    and_then (result behind_params) (λ type behind_result.
    and_then (symbol sym.Semicolon behind_result) (λ semicolon behind_heading.
    and_then (locals most expr behind_heading) (λ own last.
    made (λ what.
    record { name = defined; params = those; result = type; locals = own; body = what })
    (body most expr deep last)))))))

-- decl, by its first lexeme
abbrev pub decl_by : ℕ → Reader Expr → ℕ → Option Part → Reader Decl
decl_by most expr deep (Some part.Config) lexemes =
    and_then (keyword key.Var (behind lexemes)) (λ at rest.
    made Config (group most (define expr) rest))
decl_by most expr deep (Some part.Constant) lexemes =
    made Constant (group most (define expr) (behind lexemes))
decl_by most expr deep (Some part.Region) lexemes =
    made Regions (group most (region most expr) (behind lexemes))
decl_by most expr deep (Some part.Direction) lexemes =
    made Directions (group most (direction most expr) (behind lexemes))
decl_by most expr deep (Some part.Var) lexemes =
    made Vars (group most (variables most expr) (behind lexemes))
decl_by most expr deep (Some part.Procedure) lexemes =
    made Defined (procedure most expr deep (behind lexemes))
decl_by most expr deep None lexemes = Wrong lexemes

-- { decl } END
abbrev pub decls : ℕ → Reader Expr → ℕ → Reader (List Decl)
decls zero expr deep lexemes = Wrong lexemes
decls (suc most) expr deep lexemes =
    elim (next_is kind.End lexemes) [
      | true ↦ Done [] (behind lexemes)
      | false ↦
          and_then (decl_by most expr deep (part_of (head_kind lexemes)) lexemes) (λ first rest.
          made (λ others. first ∷ others) (decls most expr deep rest))
    ]

-- program = "program" NAME ";" { decl } END, of the source
abbrev pub program : List ℕ → ℕ → Reader Program
program source most lexemes = and_then (keyword key.Program lexemes) (λ at rest.
    and_then (name rest) (λ called after.
    and_then (symbol sym.Semicolon after) (λ semicolon last.
    made (λ those. record { name = called; decls = those; source = source })
    (decls most (levels most most_deep).expr 199 last))))
