-- Rules of expressions, directions and regions. The rules of a depth take those of expressions one
-- less deep for what stands
-- inside, and `most` bounds the length of each list.
use Rattle.std.specs.Prelude.{ℕ, suc, zero, ℤ, nat_le, Bool, true, false, List, [], ◌∷◌, Option, Some, None}
use Rattle.zpl_nums.specs.declared.operators.Op.{Op}
use Rattle.zpl_nums.specs.declared.folds.Fold.{Fold}
use Rattle.zpl_tokens.specs.declared.Kind.{Kind}
use Rattle.zpl_tokens.specs.declared.Kind.TheVariants as kind
use Rattle.zpl_tokens.specs.declared.symbols.Sym.TheVariants as sym
use Rattle.zpl_tree.specs.Depth.{expr_depth}
pub use Rattle.zpl_tree.specs.Syntax.{at_of}
use Rattle.zpl_tree.specs.Syntax.{Name, Pre, RegionBase, NamedRegion, Ditto, Expr, Number, Truth, Coord, Named, Shifted, Around, Remap, Call, Paren, Neg, Not, Abs, Pair, Reduce, Scan, Flood, Exprs, NoExpr, ThenExpr, Dir, NamedDir, Vector, Inner, Rexpr, Dims, Bracket, NoBracket, Bracketed, Posts, NoPost, ThenPost, DimText, Blank, Star, One, Span, DimTexts, NoDim, ThenDim}
use Rattle.zpl_parse.specs.declared.classes.Opening.{Opening}
use Rattle.zpl_parse.specs.declared.classes.Opening.TheVariants as opening
use Rattle.zpl_parse.specs.declared.classes.Suffix.{Suffix}
use Rattle.zpl_parse.specs.declared.classes.Suffix.TheVariants as suffix
use Rattle.zpl_parse.specs.declared.classes.Folding.{Folding}
use Rattle.zpl_parse.specs.declared.classes.Folding.TheVariants as folding
use Rattle.zpl_parse.specs.Classes.{or_op, and_op, comp_op, sum_op, term_op, opening_of, begins_expr, suffix_of, folding_of, outside_of, stride_of, closes_region, closes_dim, follows_region}
use Rattle.zpl_grammar.specs.Lexeme.{Lexeme, head_kind, second_kind, head_at, behind}
use Rattle.zpl_parse.specs.Outcome.{Done, Wrong, Deep, Reader, and_then, made, too_deep}
use Rattle.zpl_parse.specs.Tokens.{next_is, symbol, name, natural}

-- expr { "," expr }
abbrev pub exprs : ℕ → Reader Expr → Reader Exprs
exprs zero expr lexemes = Wrong lexemes
exprs (suc most) expr lexemes = and_then (expr lexemes) (λ first rest.
    elim (next_is (kind.Symbol sym.Comma) rest) [
      | true ↦ made (ThenExpr first) (exprs most expr (behind rest))
      | false ↦ Done (ThenExpr first NoExpr) rest
    ])

-- [ expr { "," expr } ] ")", behind a "("
abbrev pub actuals : ℕ → Reader Expr → Reader Exprs
actuals most expr lexemes =
    elim (next_is (kind.Symbol sym.CloseParen) lexemes) [
      | true ↦ Done NoExpr (behind lexemes)
      | false ↦
          and_then (exprs most expr lexemes) (λ those rest.
          made (λ at. those) (symbol sym.CloseParen rest))
    ]

-- expr { "," expr } "]", behind a "["
abbrev pub components : ℕ → Reader Expr → Reader Exprs
components most expr lexemes =
    and_then (exprs most expr lexemes) (λ parts rest.
    made (λ at. parts) (symbol sym.CloseBracket rest))

-- dir = NAME | vector; vector = "[" expr { "," expr } "]"
abbrev pub dir : ℕ → Reader Expr → Reader Dir
dir most expr lexemes =
    elim (next_is (kind.Symbol sym.OpenBracket) lexemes) [
      | true ↦ made Vector (components most expr (behind lexemes))
      | false ↦ made NamedDir (name lexemes)
    ]

-- { ( "at" | "by" ) dir }
abbrev pub posts : ℕ → Reader Expr → Reader Posts
posts zero expr lexemes = Wrong lexemes
posts (suc most) expr lexemes =
    elim (stride_of (head_kind lexemes)) [
      | None ↦ Done NoPost lexemes
      | Some stride ↦
          and_then (dir most expr (behind lexemes)) (λ way rest.
          made (ThenPost stride way) (posts most expr rest))
    ]

-- { NAME ( "of" | "in" ) } ( NAME | DITTO )
abbrev pub region_base : ℕ → Reader (List Pre × RegionBase)
region_base zero lexemes = Wrong lexemes
region_base (suc most) lexemes =
    elim (next_is kind.Ditto lexemes) [
      | true ↦ Done ([], Ditto (head_at lexemes)) (behind lexemes)
      | false ↦ and_then (name lexemes) (λ first rest.
          elim (outside_of (head_kind rest)) [
            | None ↦ Done ([], NamedRegion first) rest
            | Some outside ↦
                made (λ others. (record { dir = first; outside = outside } ∷ others.0, others.1))
                (region_base most (behind rest))
          ])
    ]

-- rexpr = { NAME ( "of" | "in" ) } ( NAME | DITTO ) { post }
abbrev pub rexpr : ℕ → Reader Expr → Reader Inner
rexpr most expr lexemes =
    and_then (region_base most lexemes) (λ base rest.
    made (Rexpr base.0 base.1) (posts most expr rest))

-- dim = [ "*" | expr [ ".." expr ] ]
abbrev pub bounds : Reader Expr → Reader DimText
bounds expr lexemes = and_then (expr lexemes) (λ low rest.
    elim (next_is (kind.Symbol sym.DotDot) rest) [
      | true ↦ made (Span low) (expr (behind rest))
      | false ↦ Done (One low) rest
    ])

abbrev pub dim_text : Reader Expr → Reader DimText
dim_text expr lexemes =
    elim (closes_dim (head_kind lexemes)) [
      | true ↦ Done (Blank (head_at lexemes)) lexemes
      | false ↦ elim (next_is (kind.Symbol sym.Star) lexemes) [
        | true ↦ elim (closes_dim (second_kind lexemes)) [
          | true ↦ Done (Star (head_at lexemes)) (behind lexemes)
          | false ↦ bounds expr lexemes
        ]
        | false ↦ bounds expr lexemes
      ]
    ]

-- dim { "," dim }
abbrev pub dim_texts : ℕ → Reader Expr → Reader DimTexts
dim_texts zero expr lexemes = Wrong lexemes
dim_texts (suc most) expr lexemes = and_then (dim_text expr lexemes) (λ first rest.
    elim (next_is (kind.Symbol sym.Comma) rest) [
      | true ↦ made (ThenDim first) (dim_texts most expr (behind rest))
      | false ↦ Done (ThenDim first NoDim) rest
    ])

-- a name or a ditto, behind which no dimension goes on, begins a region expression
abbrev pub begins_region : Kind → Kind → Bool
begins_region kind.Ditto second = true
begins_region kind.Name second = follows_region second
begins_region _ second = false

-- inner = rexpr | dim { "," dim }
abbrev pub inner : ℕ → Reader Expr → Reader Inner
inner most expr lexemes =
    elim (begins_region (head_kind lexemes) (second_kind lexemes)) [
      | true ↦ rexpr most expr lexemes
      | false ↦ and_then (dim_texts most expr lexemes) (λ dims rest.
          elim (closes_region (head_kind rest)) [
            | true ↦ Done (Dims dims) rest
            | false ↦ Wrong rest
          ])
    ]

-- bracket = "[" inner "]"
abbrev pub in_bracket : ℕ → Reader Expr → Reader Inner
in_bracket most expr lexemes = and_then (symbol sym.OpenBracket lexemes) (λ at rest.
    and_then (inner most expr rest) (λ region after.
    made (λ end. region) (symbol sym.CloseBracket after)))

-- [ bracket ]
abbrev pub bracket : ℕ → Reader Expr → Reader Bracket
bracket most expr lexemes =
    elim (next_is (kind.Symbol sym.OpenBracket) lexemes) [
      | true ↦ made Bracketed (in_bracket most expr lexemes)
      | false ↦ Done NoBracket lexemes
    ]

-- [ "[" NUMBER "]" ]
abbrev pub along : Reader (Option ℤ)
along lexemes =
    elim (next_is (kind.Symbol sym.OpenBracket) lexemes) [
      | true ↦ and_then (natural (behind lexemes)) (λ dimension rest.
          made (λ at. Some dimension) (symbol sym.CloseBracket rest))
      | false ↦ Done None lexemes
    ]

-- the rules of expressions of one depth
pub record Levels : Type 0 where
  pub unary : Reader Expr
  pub term : Reader Expr
  pub sum : Reader Expr
  pub comp : Reader Expr
  pub conj : Reader Expr
  pub expr : Reader Expr

-- [ "^" ] dir, behind a name and an "@"
abbrev pub shifted : ℕ → Levels → Name → Reader Expr
shifted most deeper first lexemes =
    elim (next_is (kind.Symbol sym.Caret) lexemes) [
      | true ↦ made (Around first.at first) (dir most deeper.expr (behind lexemes))
      | false ↦ made (Shifted first.at first) (dir most deeper.expr lexemes)
    ]

-- "[" expr { "," expr } "]", behind a name and a "#"
abbrev pub remapped : ℕ → Levels → Name → Reader Expr
remapped most deeper first lexemes = and_then (symbol sym.OpenBracket lexemes) (λ at rest.
    made (Remap first.at first) (components most deeper.expr rest))

-- what stands behind a name, by its first lexeme
abbrev pub suffixed : ℕ → Levels → Name → Option Suffix → Reader Expr
suffixed most deeper first (Some suffix.Shift) lexemes = shifted most deeper first (behind lexemes)
suffixed most deeper first (Some suffix.Remap) lexemes = remapped most deeper first (behind lexemes)
suffixed most deeper first (Some suffix.Call) lexemes =
    made (Call first.at first) (actuals most deeper.expr (behind lexemes))
suffixed most deeper first None lexemes = Done (Named first.at first) lexemes

-- [ "@" [ "^" ] dir ] | "#" "[" expr { "," expr } "]" | "(" [ expr { "," expr } ] ")", behind a
-- name
abbrev pub behind_name : ℕ → Levels → Name → Reader Expr
behind_name most deeper first lexemes =
    suffixed most deeper first (suffix_of (head_kind lexemes)) lexemes

-- expr ")", behind a "("
abbrev pub inside : Levels → Reader Expr
inside deeper lexemes =
    and_then (deeper.expr lexemes) (λ value rest. made (λ at. value) (symbol sym.CloseParen rest))

-- expr "," expr ")", behind a "("
abbrev pub both : ℕ → Op → Levels → Reader Expr
both at op deeper lexemes = and_then (deeper.expr lexemes) (λ left rest.
    and_then (symbol sym.Comma rest) (λ comma after. made (Pair at op left) (inside deeper after)))

-- what stands behind an operator that folds: "<<" [ bracket ] unary | "||" [ "[" NUMBER "]" ]
-- unary, and for two of them "(" expr "," expr ")"
abbrev pub folded : ℕ → ℕ → Fold → Levels → Option Folding → Reader Expr
folded most at operator deeper (Some folding.Reduce) lexemes =
    and_then (bracket most deeper.expr (behind lexemes)) (λ over rest.
    made (Reduce at operator over) (deeper.unary rest))
folded most at operator deeper (Some folding.Scan) lexemes =
    and_then (along (behind lexemes)) (λ dimension rest.
    made (Scan at operator dimension) (deeper.unary rest))
folded most at operator deeper (Some (folding.Pair op)) lexemes = both at op deeper (behind lexemes)
folded most at operator deeper None lexemes = Wrong lexemes

-- unary, by its first lexeme
abbrev pub unary_by : ℕ → Levels → Option Opening → Lexeme → Reader Expr
unary_by most deeper (Some (opening.Number value)) first rest = Done (Number first.at value) rest
unary_by most deeper (Some (opening.Truth value)) first rest = Done (Truth first.at value) rest
unary_by most deeper (Some (opening.Coord dimension)) first rest =
    Done (Coord first.at dimension) rest
unary_by most deeper (Some opening.Name) first rest =
    behind_name most deeper (record { text = first.bytes; at = first.at }) rest
unary_by most deeper (Some opening.Paren) first rest = made (Paren first.at) (inside deeper rest)
unary_by most deeper (Some opening.Minus) first rest = made (Neg first.at) (deeper.unary rest)
unary_by most deeper (Some opening.Not) first rest = made (Not first.at) (deeper.unary rest)
unary_by most deeper (Some opening.Abs) first rest =
    and_then (symbol sym.OpenParen rest) (λ at after. made (Abs first.at) (inside deeper after))
unary_by most deeper (Some (opening.Fold operator)) first rest =
    folded most first.at operator deeper (folding_of operator (head_kind rest)) rest
unary_by most deeper (Some opening.Flood) first rest =
    and_then (in_bracket most deeper.expr rest) (λ source after.
    made (Flood first.at source) (deeper.unary after))
unary_by most deeper None first rest = Wrong (first ∷ rest)

-- unary = ( "-" | "!" ) unary | foldop "<<" [ bracket ] unary | foldop "||" [ "[" NUMBER "]" ]
-- unary | ">>" bracket unary | primary
abbrev pub unary_over : ℕ → Levels → Reader Expr
unary_over most deeper [] = Wrong []
unary_over most deeper (first ∷ rest) = unary_by most deeper (opening_of first.kind) first rest

-- { op operand }, where what stands to the left is already there; at most so deep an expression may
-- stand on either side
abbrev pub chain : ℕ → ℕ → (Kind → Option Op) → Reader Expr → Expr → Reader Expr
chain zero deep op_of operand left lexemes = Wrong lexemes
chain (suc most) deep op_of operand left lexemes =
    elim (op_of (head_kind lexemes)) [
      | None ↦ Done left lexemes
      | Some op ↦ elim (nat_le (expr_depth left) deep) [
        | false ↦ Deep (behind lexemes)
        | true ↦ and_then (operand (behind lexemes)) (λ right rest.
            chain most deep op_of operand (Pair (at_of left) op left right) rest)
      ]
    ]

-- [ op operand ]
abbrev pub once : ℕ → (Kind → Option Op) → Reader Expr → Expr → Reader Expr
once deep op_of operand left lexemes =
    elim (op_of (head_kind lexemes)) [
      | None ↦ Done left lexemes
      | Some op ↦ elim (nat_le (expr_depth left) deep) [
        | false ↦ Deep (behind lexemes)
        | true ↦ made (Pair (at_of left) op left) (operand (behind lexemes))
      ]
    ]

--   expr = conj { "|" conj }
--   conj = comp { "&" comp }
--   comp = sum [ ( "=" | "!=" | "<" | "<=" | ">" | ">=" ) sum ]
--   sum = term { ( "+" | "-" ) term }
--   term = unary { ( "*" | "/" | "%" ) unary }
abbrev pub levels_over : ℕ → ℕ → Reader Expr → Levels → Levels
levels_over most deep unary deeper =
    let term : Reader Expr =
    λ lexemes. and_then (unary lexemes) (chain most deep term_op deeper.unary) in
    let sum : Reader Expr =
    λ lexemes. and_then (term lexemes) (chain most deep sum_op deeper.term) in
    let comp : Reader Expr = λ lexemes. and_then (sum lexemes) (once deep comp_op deeper.sum) in
    let conj : Reader Expr =
    λ lexemes. and_then (comp lexemes) (chain most deep and_op deeper.comp) in
    let expr : Reader Expr =
    λ lexemes. and_then (conj lexemes) (chain most deep or_op deeper.conj) in
    record { unary = unary; term = term; sum = sum; comp = comp; conj = conj; expr = expr }

-- where an expression is already too deep
abbrev pub no_expr : Reader Expr
no_expr lexemes = too_deep (begins_expr (head_kind lexemes)) lexemes

abbrev pub no_levels : Levels
no_levels = record {
  unary = no_expr;
  term = no_expr;
  sum = no_expr;
  comp = no_expr;
  conj = no_expr;
  expr = no_expr;
}

-- the rules of expressions that are at most so deep
abbrev pub levels : ℕ → ℕ → Levels
levels most zero = levels_over most 0 no_expr no_levels
levels most (suc deep) =
    levels_over most deep (unary_over most (levels most deep)) (levels most deep)
