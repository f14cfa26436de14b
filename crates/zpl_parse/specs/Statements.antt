-- Rules of statements. `expr` is the rule of expressions, and `most` bounds the length of each
-- list.
use Rattle.std.specs.Prelude.{ℕ, suc, zero, Bool, true, false, List, [], ◌∷◌, Option, Some, None}
use Rattle.zpl_tokens.specs.declared.Kind.TheVariants as kind
use Rattle.zpl_tokens.specs.declared.keywords.Key.TheVariants as key
use Rattle.zpl_tokens.specs.declared.symbols.Sym.TheVariants as sym
use Rattle.zpl_tree.specs.Syntax.{Name, Expr, Mask, Prefix, ForHead, Item, Str, Value, Stmt, Prefixed, Stmts, NoStmt, ThenStmt, Form, Assign, Invoke, Block, If, While, Repeat, For, Border, Write, Return, Arm, Tested, Arms, NoArm, ThenArm, Otherwise, NoElse, Else}
use Rattle.zpl_parse.specs.declared.classes.Start.{Start}
use Rattle.zpl_parse.specs.declared.classes.Start.TheVariants as start
use Rattle.zpl_parse.specs.Classes.{assigning, start_of, begins_stmt, without_of, down_of}
use Rattle.zpl_grammar.specs.Lexeme.{head_kind, head_at, behind}
use Rattle.zpl_parse.specs.Outcome.{Done, Wrong, Reader, and_then, made, too_deep}
use Rattle.zpl_parse.specs.Tokens.{next_is, symbol, keyword, name, names, string_of, closing}
use Rattle.zpl_parse.specs.Expressions.{actuals, inner}

-- [ ( "with" | "without" ) NAME ]
abbrev pub mask : Reader (Option Mask)
mask lexemes =
    elim (without_of (head_kind lexemes)) [
      | None ↦ Done None lexemes
      | Some without ↦
          made (λ name. Some (record { name = name; without = without })) (name (behind lexemes))
    ]

-- prefix = "[" inner [ ( "with" | "without" ) NAME ] "]"
abbrev pub prefix : ℕ → Reader Expr → Reader Prefix
prefix most expr lexemes = and_then (symbol sym.OpenBracket lexemes) (λ at rest.
    and_then (inner most expr rest) (λ region after.
    and_then (mask after) (λ masked last.
    made (λ end. record { at = at; region = region; mask = masked })
    (symbol sym.CloseBracket last))))

-- { prefix }
abbrev pub prefixes : ℕ → Reader Expr → Reader (List Prefix)
prefixes zero expr lexemes = Wrong lexemes
prefixes (suc most) expr lexemes =
    elim (next_is (kind.Symbol sym.OpenBracket) lexemes) [
      | false ↦ Done [] lexemes
      | true ↦ and_then (prefix most expr lexemes) (λ first rest.
          made (λ others. first ∷ others) (prefixes most expr rest))
    ]

-- { stmt }
abbrev pub stmts : ℕ → Reader Stmt → Reader Stmts
stmts zero stmt lexemes = Wrong lexemes
stmts (suc most) stmt lexemes =
    elim (begins_stmt (head_kind lexemes)) [
      | false ↦ Done NoStmt lexemes
      | true ↦ and_then (stmt lexemes) (λ first rest. made (ThenStmt first) (stmts most stmt rest))
    ]

-- item = STRING | expr
abbrev pub item : Reader Expr → Reader Item
item expr lexemes =
    elim (next_is kind.Str lexemes) [
      | true ↦ made Str (string_of lexemes)
      | false ↦ made Value (expr lexemes)
    ]

-- item { "," item }
abbrev pub some_items : ℕ → Reader Expr → Reader (List Item)
some_items zero expr lexemes = Wrong lexemes
some_items (suc most) expr lexemes = and_then (item expr lexemes) (λ first rest.
    elim (next_is (kind.Symbol sym.Comma) rest) [
      | true ↦ made (λ others. first ∷ others) (some_items most expr (behind rest))
      | false ↦ Done (first ∷ []) rest
    ])

-- [ item { "," item } ] ")", behind a "("
abbrev pub items : ℕ → Reader Expr → Reader (List Item)
items most expr lexemes =
    elim (next_is (kind.Symbol sym.CloseParen) lexemes) [
      | true ↦ Done [] (behind lexemes)
      | false ↦
          and_then (some_items most expr lexemes) (λ those rest.
          made (λ at. those) (symbol sym.CloseParen rest))
    ]

-- what is behind a name: assign expr ";" | "(" [ expr { "," expr } ] ")" ";"
abbrev pub assign_or_call : ℕ → Reader Expr → Name → Reader Form
assign_or_call most expr target lexemes =
    elim (assigning (head_kind lexemes)) [
      | Some op ↦
          and_then (expr (behind lexemes)) (λ value rest.
          made (λ at. Assign target op value) (symbol sym.Semicolon rest))
      | None ↦ and_then (symbol sym.OpenParen lexemes) (λ at rest.
          and_then (actuals most expr rest) (λ those after.
          made (λ end. Invoke target those) (symbol sym.Semicolon after)))
    ]

-- { stmt } "end" ";"
abbrev pub body_end : Reader Stmts → Reader Stmts
body_end body lexemes = and_then (body lexemes) (λ those rest. made (λ at. those) (closing rest))

-- expr "then" { stmt }
abbrev pub arm : Reader Expr → Reader Stmts → ℕ → Reader Arm
arm expr body at lexemes = and_then (expr lexemes) (λ test rest.
    and_then (keyword key.Then rest) (λ then after. made (Tested at test) (body after)))

-- expr "then" { stmt } { "elsif" expr "then" { stmt } }
abbrev pub arms : ℕ → Reader Expr → Reader Stmts → ℕ → Reader Arms
arms zero expr body at lexemes = Wrong lexemes
arms (suc most) expr body at lexemes = and_then (arm expr body at lexemes) (λ first rest.
    elim (next_is (kind.Word key.Elsif) rest) [
      | true ↦ made (ThenArm first) (arms most expr body (head_at rest) (behind rest))
      | false ↦ Done (ThenArm first NoArm) rest
    ])

-- [ "else" { stmt } ]
abbrev pub otherwise : Reader Stmts → Reader Otherwise
otherwise body lexemes =
    elim (next_is (kind.Word key.Else) lexemes) [
      | true ↦ made Else (body (behind lexemes))
      | false ↦ Done NoElse lexemes
    ]

-- what is behind an "if"
abbrev pub choice : ℕ → Reader Expr → Reader Stmts → ℕ → Reader Form
choice most expr body at lexemes = and_then (arms most expr body at lexemes) (λ tested rest.
    and_then (otherwise body rest) (λ other after. made (λ end. If tested other) (closing after)))

-- expr "do" { stmt } "end" ";", behind a "while"
abbrev pub while_loop : Reader Expr → Reader Stmts → Reader Form
while_loop expr body lexemes = and_then (expr lexemes) (λ test rest.
    and_then (keyword key.Do rest) (λ at after. made (While test) (body_end body after)))

-- { stmt } "until" expr ";", behind a "repeat"
abbrev pub repeat_loop : Reader Expr → Reader Stmts → Reader Form
repeat_loop expr body lexemes = and_then (body lexemes) (λ those rest.
    and_then (keyword key.Until rest) (λ until after.
    and_then (expr after) (λ test last. made (λ end. Repeat those until test)
    (symbol sym.Semicolon last))))

-- [ "by" expr ]
abbrev pub step : Reader Expr → Reader (Option Expr)
step expr lexemes =
    elim (next_is (kind.Word key.By) lexemes) [
      | true ↦ made Some (expr (behind lexemes))
      | false ↦ Done None lexemes
    ]

-- "to" | "downto"
abbrev pub way_down : Reader Bool
way_down lexemes =
    elim (down_of (head_kind lexemes)) [
      | Some down ↦ Done down (behind lexemes)
      | None ↦ Wrong lexemes
    ]

-- NAME ":=" expr ( "to" | "downto" ) expr [ "by" expr ]
abbrev pub for_head : Reader Expr → Reader ForHead
for_head expr lexemes = and_then (name lexemes) (λ counter rest.
    and_then (symbol sym.Assign rest) (λ at after.
    and_then (expr after) (λ first to.
    and_then (way_down to) (λ down behind_to.
    and_then (expr behind_to) (λ last by.
    made (λ stride.
    record { name = counter; first = first; down = down; last = last; step = stride })
    (step expr by))))))

-- NAME ":=" expr ( "to" | "downto" ) expr [ "by" expr ] "do" { stmt } "end" ";", behind a "for"
abbrev pub for_loop : Reader Expr → Reader Stmts → Reader Form
for_loop expr body lexemes = and_then (for_head expr lexemes) (λ head rest.
    and_then (keyword key.Do rest) (λ at after. made (For head) (body_end body after)))

-- a statement behind its prefixes, by its first lexeme
abbrev pub form_by : ℕ → Reader Expr → Reader Stmts → Option Start → Reader Form
form_by most expr body (Some start.Name) lexemes =
    and_then (name lexemes) (assign_or_call most expr)
form_by most expr body (Some start.Block) lexemes = made Block (body_end body (behind lexemes))
form_by most expr body (Some start.If) lexemes =
    choice most expr body (head_at lexemes) (behind lexemes)
form_by most expr body (Some start.While) lexemes = while_loop expr body (behind lexemes)
form_by most expr body (Some start.Repeat) lexemes = repeat_loop expr body (behind lexemes)
form_by most expr body (Some start.For) lexemes = for_loop expr body (behind lexemes)
form_by most expr body (Some (start.Border kind)) lexemes =
    and_then (names most (behind lexemes)) (λ those rest.
    made (λ at. Border kind those) (symbol sym.Semicolon rest))
form_by most expr body (Some (start.Write line)) lexemes =
    and_then (symbol sym.OpenParen (behind lexemes)) (λ at rest.
    and_then (items most expr rest) (λ those after.
    made (λ end. Write line those) (symbol sym.Semicolon after)))
form_by most expr body (Some start.Return) lexemes = and_then (expr (behind lexemes)) (λ value rest.
    made (λ at. Return value) (symbol sym.Semicolon rest))
form_by most expr body None lexemes = Wrong lexemes

-- stmt = { prefix } simple
abbrev pub stmt_over : ℕ → Reader Expr → Reader Stmts → Reader Stmt
stmt_over most expr body lexemes = and_then (prefixes most expr lexemes) (λ before rest.
    made (Prefixed (head_at rest) before) (form_by most expr body (start_of (head_kind rest)) rest))

-- the rule of statements that nest at most so deep
abbrev pub stmt : ℕ → Reader Expr → ℕ → Reader Stmt
stmt most expr zero lexemes = too_deep (begins_stmt (head_kind lexemes)) lexemes
stmt most expr (suc deep) lexemes = stmt_over most expr (stmts most (stmt most expr deep)) lexemes
