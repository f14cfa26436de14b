-- The rules of tokens, expressions, directions and regions are steady.
use Rattle.std.proofs.Common.{◌≡◌, ℕ, zero, suc, ◌<◌, ◌≤◌, nat_le, Bool, true, false, List, [], ◌∷◌, length, Option, Some, None, refl, sym, subst, arith}
use Rattle.zpl_nums.specs.declared.operators.Op.{Op}
use Rattle.zpl_nums.specs.declared.folds.Fold.{Fold}
use Rattle.zpl_tokens.specs.declared.Kind.{Kind}
use Rattle.zpl_tokens.specs.declared.Kind.TheVariants as kind
use Rattle.zpl_tokens.specs.declared.keywords.Key.{Key}
use Rattle.zpl_tokens.specs.declared.keywords.Key.TheVariants as key
use Rattle.zpl_tokens.specs.declared.symbols.Sym.{Sym}
use Rattle.zpl_tokens.specs.declared.symbols.Sym.TheVariants as sym
use Rattle.zpl_tree.specs.Depth.{expr_depth}
use Rattle.zpl_tree.specs.Syntax.{Name, Pre, RegionBase, NamedRegion, Ditto, Expr, Number, Truth, Coord, Named, Shifted, Around, Remap, Call, Paren, Neg, Not, Abs, Pair, Reduce, Scan, Flood, Exprs, NoExpr, ThenExpr, NamedDir, Vector, Inner, Rexpr, Dims, Bracketed, ThenPost, DimText, Blank, Star, One, Span, NoDim, ThenDim}
use Rattle.zpl_parse.specs.declared.classes.Opening.{Opening}
use Rattle.zpl_parse.specs.declared.classes.Opening.TheVariants as opening
use Rattle.zpl_parse.specs.declared.classes.Suffix.{Suffix}
use Rattle.zpl_parse.specs.declared.classes.Suffix.TheVariants as suffix
use Rattle.zpl_parse.specs.declared.classes.Folding.{Folding}
use Rattle.zpl_parse.specs.declared.classes.Folding.TheVariants as folding
use Rattle.zpl_grammar.specs.Lexeme.{Lexeme, head_kind, second_kind, head_at, behind, next_is}
use Rattle.zpl_grammar.specs.Same.{same}
use Rattle.zpl_parse.specs.Outcome.{Outcome, Done, Wrong, Deep, Reader, and_then, made, too_deep}
use Rattle.zpl_parse.specs.Classes.{or_op, and_op, comp_op, sum_op, term_op, opening_of, begins_expr, suffix_of, folding_of, outside_of, stride_of, closes_region, closes_dim}
use Rattle.zpl_parse.specs.Tokens.{taken, expect, symbol, keyword, name_of_kind, name, natural_of, natural, names, closing, string_of, in_quotes}
use Rattle.zpl_parse.specs.Expressions.{at_of, exprs, actuals, components, dir, posts, region_base, rexpr, bounds, dim_text, dim_texts, begins_region, inner, in_bracket, bracket, along, Levels, shifted, remapped, suffixed, behind_name, inside, both, folded, unary_by, unary_over, chain, once, levels_over, no_expr, no_levels, levels}
use Rattle.zpl_parse.proofs.Steady.Base.{Leaves, IsSteadyAt, IsSteady, steady_less, steady_loose, steady_after, steady_then, steady_made, steady_done, steady_wrong, steady_same, steady_behind, behind_one, steady_if, steady_next, steady_some, steady_by, steady_cons, steady_turns}

-- ---- tokens, which are taken where they stand
taken_fewer : (b : Bool) (x : Lexeme) (rest : List Lexeme) → Leaves 1 (x ∷ rest) (taken b x rest)
taken_fewer true x rest = omega arith
taken_fewer false x rest = tt

expect_fewer : (wanted : Kind) (l : List Lexeme) → Leaves 1 l (expect wanted l)
expect_fewer wanted [] = tt
expect_fewer wanted (x ∷ rest) = taken_fewer (same x.kind wanted) x rest

pub symbol_steady : {k : ℕ} (s : Sym) → IsSteady 1 k (symbol s) (symbol s)
symbol_steady s = steady_same (symbol s) (expect_fewer (kind.Symbol s))

pub keyword_steady : {k : ℕ} (w : Key) → IsSteady 1 k (keyword w) (keyword w)
keyword_steady w = steady_same (keyword w) (expect_fewer (kind.Word w))

named_fewer : (k : Kind) (x : Lexeme) (rest : List Lexeme)
    → Leaves 1 (x ∷ rest) (name_of_kind k x rest)
named_fewer kind.Name x rest = omega arith
named_fewer _ x rest = tt

name_fewer : (l : List Lexeme) → Leaves 1 l (name l)
name_fewer [] = tt
name_fewer (x ∷ rest) = named_fewer x.kind x rest

pub name_steady : {k : ℕ} → IsSteady 1 k name name
name_steady = steady_same name name_fewer

natural_fewer : (o : Option Opening) (x : Lexeme) (rest : List Lexeme)
    → Leaves 1 (x ∷ rest) (natural_of o (x ∷ rest))
natural_fewer (Some (opening.Number value)) x rest = omega arith
natural_fewer _ x rest = tt

natural_leaves : (l : List Lexeme) → Leaves 1 l (natural l)
natural_leaves [] = tt
natural_leaves (x ∷ rest) = natural_fewer (opening_of x.kind) x rest

natural_steady : {k : ℕ} → IsSteady 1 k natural natural
natural_steady = steady_same natural natural_leaves

string_fewer : (l : List Lexeme) → Leaves 1 l (string_of l)
string_fewer [] = tt
string_fewer (x ∷ rest) = omega arith

pub string_steady : {k : ℕ} → IsSteady 1 k string_of string_of
string_steady = steady_same string_of string_fewer

pub closing_steady : {k : ℕ} → IsSteady 1 k closing closing
closing_steady = steady_then (keyword_steady key.End) (λ at. symbol_steady sym.Semicolon)

-- a lexeme that stands there is taken
pub taken_steady : {k : ℕ} {A : Type 0} {tree : A}
    → IsSteady 0 k (λ l. Done tree (behind l)) (λ l. Done tree (behind l))
taken_steady {tree = tree} = steady_behind (steady_done {tree = λ l. tree})

-- NAME { "," NAME }, also where the bound is the number of lexemes itself
names_turns : (m m' k : ℕ) → k ≤ m → k ≤ m' → IsSteady 1 k (names m) (names m')
names_turns zero zero k a b = steady_wrong
names_turns zero (suc m') k a b =
    steady_cons (record { equal = refl; fewer = tt }) (λ x rest within. absurd (omega arith))
names_turns (suc m) zero k a b =
    steady_cons (record { equal = refl; fewer = tt }) (λ x rest within. absurd (omega arith))
names_turns (suc m) (suc m') k a b = steady_then name_steady (λ first.
    steady_next (kind.Symbol sym.Comma) (λ j below. steady_made (λ others. first ∷
    others) (steady_loose (names_turns m m' j (omega arith) (omega arith)))) steady_done)

pub names_steady : {m m' k : ℕ} → k ≤ m → k ≤ m' → IsSteady 1 k (names m) (names m')
names_steady {m} {m'} {k} a b = names_turns m m' k a b

-- ---- the rules over one of expressions
pub exprs_steady : {k m m' : ℕ} {expr expr' : Reader Expr} → IsSteady 0 k expr expr' → k < m
    → k < m' → IsSteady 0 k (exprs m expr) (exprs m' expr')
exprs_steady {k} {m} {m'} {expr} {expr'} h a b = go m m' k (omega arith) a b
  where
    go : (m m' j : ℕ) → j ≤ k → j < m → j < m' → IsSteady 0 j (exprs m expr) (exprs m' expr')
    go zero m' j within a b = absurd (omega arith)
    go (suc m) zero j within a b = absurd (omega arith)
    go (suc m) (suc m') j within a b = steady_then (steady_less within h) (λ first.
        steady_next (kind.Symbol sym.Comma) (λ i below.
        steady_made (ThenExpr first) (go m m' i (omega arith) (omega arith) (omega arith)))
        steady_done)

pub actuals_steady : {k m m' : ℕ} {expr expr' : Reader Expr} → IsSteady 0 k expr expr' → k < m
    → k < m' → IsSteady 0 k (actuals m expr) (actuals m' expr')
actuals_steady h a b = steady_if (next_is (kind.Symbol sym.CloseParen)) taken_steady
    (steady_then (exprs_steady h a b) (λ those.
    steady_made (λ at. those) (symbol_steady sym.CloseParen)))

pub components_steady : {k m m' : ℕ} {expr expr' : Reader Expr} → IsSteady 0 k expr expr' → k < m
    → k < m' → IsSteady 0 k (components m expr) (components m' expr')
components_steady h a b =
    steady_then (exprs_steady h a b) (λ parts.
    steady_made (λ at. parts) (symbol_steady sym.CloseBracket))

dir_steady : {k m m' : ℕ} {expr expr' : Reader Expr} → IsSteady 0 k expr expr' → k < m → k < m'
    → IsSteady 0 k (dir m expr) (dir m' expr')
dir_steady h a b =
    steady_if (next_is (kind.Symbol sym.OpenBracket))
    (steady_made Vector (steady_behind (components_steady h a b)))
    (steady_made NamedDir (steady_loose name_steady))

pub posts_steady : {k m m' : ℕ} {expr expr' : Reader Expr} → IsSteady 0 k expr expr' → k < m
    → k < m' → IsSteady 0 k (posts m expr) (posts m' expr')
posts_steady {k} {m} {m'} {expr} {expr'} h a b = go m m' k (omega arith) a b
  where
    go : (m m' j : ℕ) → j ≤ k → j < m → j < m' → IsSteady 0 j (posts m expr) (posts m' expr')
    go zero m' j within a b = absurd (omega arith)
    go (suc m) zero j within a b = absurd (omega arith)
    go (suc m) (suc m') j within a b = steady_some stride_of refl
        (λ stride i below. steady_then (dir_steady {k = i} {m = m} {m' =
        m'} (steady_less (omega arith) h) (omega arith) (omega arith))
        (λ way. steady_made (ThenPost stride way) (go m m' i (omega arith) (omega arith)
        (omega arith))))
        steady_done

region_base_steady : {m m' k : ℕ} → k < m → k < m' → IsSteady 0 k (region_base m) (region_base m')
region_base_steady = steady_turns region_base region_base (λ m m' k a b before.
    steady_if (next_is kind.Ditto) (steady_by head_at {p =
    λ at l. Done ([], Ditto at) (behind l)} {p' =
    λ at l. Done ([], Ditto at) (behind l)} (λ at. taken_steady {tree = ([], Ditto at)}))
    (steady_loose (steady_then name_steady (λ first. steady_some outside_of refl
    (λ outside j below. steady_made (λ others. (
      record { dir = first; outside = outside } ∷
          others.0,
      others.1,
    )) (before j below)) steady_done))))

pub rexpr_steady : {k m m' : ℕ} {expr expr' : Reader Expr} → IsSteady 0 k expr expr' → k < m
    → k < m' → IsSteady 0 k (rexpr m expr) (rexpr m' expr')
rexpr_steady h a b =
    steady_then (region_base_steady a b) (λ base.
    steady_made (Rexpr base.0 base.1) (posts_steady h a b))

bounds_steady : {k : ℕ} {expr expr' : Reader Expr} → IsSteady 0 k expr expr'
    → IsSteady 0 k (bounds expr) (bounds expr')
bounds_steady h =
    steady_then h (λ low. steady_if (next_is (kind.Symbol sym.DotDot))
    (steady_made (Span low) (steady_behind h)) steady_done)

dim_text_steady : {k : ℕ} {expr expr' : Reader Expr} → IsSteady 0 k expr expr'
    → IsSteady 0 k (dim_text expr) (dim_text expr')
dim_text_steady h =
    steady_if (λ l. closes_dim (head_kind l)) (steady_done {tree = λ l. Blank (head_at l)})
    (steady_if (next_is (kind.Symbol sym.Star))
    (steady_if (λ l. closes_dim (second_kind l)) (steady_by head_at {p =
    λ at l. Done (Star at) (behind l)} {p' =
    λ at l. Done (Star at) (behind l)} (λ at. taken_steady {tree = Star at})) (bounds_steady h))
    (bounds_steady h))

dim_texts_steady : {k m m' : ℕ} {expr expr' : Reader Expr} → IsSteady 0 k expr expr' → k < m
    → k < m' → IsSteady 0 k (dim_texts m expr) (dim_texts m' expr')
dim_texts_steady {k} {m} {m'} {expr} {expr'} h a b = go m m' k (omega arith) a b
  where
    go : (m m' j : ℕ) → j ≤ k → j < m → j < m'
        → IsSteady 0 j (dim_texts m expr) (dim_texts m' expr')
    go zero m' j within a b = absurd (omega arith)
    go (suc m) zero j within a b = absurd (omega arith)
    go (suc m) (suc m') j within a b =
        steady_then (dim_text_steady (steady_less within h)) (λ first.
        steady_next (kind.Symbol sym.Comma) (λ i below.
        steady_made (ThenDim first) (go m m' i (omega arith) (omega arith) (omega arith)))
        steady_done)

pub inner_steady : {k m m' : ℕ} {expr expr' : Reader Expr} → IsSteady 0 k expr expr' → k < m
    → k < m' → IsSteady 0 k (inner m expr) (inner m' expr')
inner_steady h a b =
    steady_if (λ l. begins_region (head_kind l) (second_kind l)) (rexpr_steady h a b)
    (steady_then (dim_texts_steady h a b) (λ dims. steady_if (λ l. closes_region (head_kind l))
    steady_done steady_wrong))

-- behind its bracket an inner rule may have a bound that is only the number of lexemes
pub in_bracket_steady : {k m m' : ℕ} {expr expr' : Reader Expr} → IsSteady 0 k expr expr' → k ≤ m
    → k ≤ m' → IsSteady 1 k (in_bracket m expr) (in_bracket m' expr')
in_bracket_steady h a b = steady_after (symbol_steady sym.OpenBracket) (λ at j below.
    steady_then (inner_steady (steady_less (omega arith) h) (omega arith) (omega arith)) (λ region.
    steady_made (λ end. region) (symbol_steady sym.CloseBracket)))

pub bracket_steady : {k m m' : ℕ} {expr expr' : Reader Expr} → IsSteady 0 k expr expr' → k ≤ m
    → k ≤ m' → IsSteady 0 k (bracket m expr) (bracket m' expr')
bracket_steady h a b =
    steady_if (next_is (kind.Symbol sym.OpenBracket))
    (steady_made Bracketed (steady_loose (in_bracket_steady h a b))) steady_done

along_steady : {k : ℕ} → IsSteady 0 k along along
along_steady = steady_if (next_is (kind.Symbol sym.OpenBracket))
    (steady_then (steady_behind (steady_loose natural_steady)) (λ dimension.
    steady_made (λ at. Some dimension) (symbol_steady sym.CloseBracket))) steady_done

-- ---- the rules of expressions of one depth
pub record AreSteady (k : ℕ) (these others : Levels) : Type 0 where
  pub unary : IsSteady 0 k these.unary others.unary
  pub term : IsSteady 0 k these.term others.term
  pub sum : IsSteady 0 k these.sum others.sum
  pub comp : IsSteady 0 k these.comp others.comp
  pub conj : IsSteady 0 k these.conj others.conj
  pub expr : IsSteady 0 k these.expr others.expr

module _ {k m m' : ℕ} (a : k < m) (b : k < m') {deeper deeper' : Levels}
    (are : AreSteady k deeper deeper') where
  suffixed_steady : (first : Name) (o : Option Suffix)
      → IsSteady 0 k (suffixed m deeper first o) (suffixed m' deeper' first o)
  suffixed_steady first (Some suffix.Shift) =
      steady_behind (steady_if (next_is (kind.Symbol sym.Caret))
      (steady_made (Around first.at first) (steady_behind (dir_steady are.expr a b)))
      (steady_made (Shifted first.at first) (dir_steady are.expr a b)))
  suffixed_steady first (Some suffix.Remap) =
      steady_behind (steady_loose (steady_then (symbol_steady sym.OpenBracket)
      (λ at. steady_made (Remap first.at first) (components_steady are.expr a b))))
  suffixed_steady first (Some suffix.Call) =
      steady_made (Call first.at first) (steady_behind (actuals_steady are.expr a b))
  suffixed_steady first None = steady_done

  inside_steady : IsSteady 0 k (inside deeper) (inside deeper')
  inside_steady =
      steady_then are.expr (λ value. steady_made (λ at. value) (symbol_steady sym.CloseParen))

  both_steady : (at : ℕ) (op : Op) → IsSteady 0 k (both at op deeper) (both at op deeper')
  both_steady at op =
      steady_then are.expr (λ left. steady_then (symbol_steady sym.Comma) (λ comma.
      steady_made (Pair at op left) inside_steady))

  folded_steady : (at : ℕ) (operator : Fold) (o : Option Folding)
      → IsSteady 0 k (folded m at operator deeper o) (folded m' at operator deeper' o)
  folded_steady at operator (Some folding.Reduce) =
      steady_then (steady_behind (bracket_steady are.expr (omega arith) (omega arith)))
      (λ over. steady_made (Reduce at operator over) are.unary)
  folded_steady at operator (Some folding.Scan) =
      steady_then (steady_behind along_steady) (λ dimension.
      steady_made (Scan at operator dimension) are.unary)
  folded_steady at operator (Some (folding.Pair op)) = steady_behind (both_steady at op)
  folded_steady at operator None = steady_wrong

  opened_steady : (o : Opening) (x : Lexeme)
      → IsSteady 0 k (unary_by m deeper (Some o) x) (unary_by m' deeper' (Some o) x)
  opened_steady (opening.Number value) x = steady_done
  opened_steady (opening.Truth value) x = steady_done
  opened_steady (opening.Coord dimension) x = steady_done
  opened_steady opening.Name x =
      steady_by (λ l. suffix_of (head_kind l)) (suffixed_steady (record {
        text = x.bytes;
        at =
            x.at;
      }))
  opened_steady opening.Paren x = steady_made (Paren x.at) inside_steady
  opened_steady opening.Minus x = steady_made (Neg x.at) are.unary
  opened_steady opening.Not x = steady_made (Not x.at) are.unary
  opened_steady opening.Abs x =
      steady_loose (steady_then (symbol_steady sym.OpenParen) (λ at.
      steady_made (Abs x.at) inside_steady))
  opened_steady (opening.Fold operator) x =
      steady_by (λ l. folding_of operator (head_kind l)) (folded_steady x.at operator)
  opened_steady opening.Flood x =
      steady_loose (steady_then (in_bracket_steady are.expr (omega arith) (omega arith)) (λ source.
      steady_made (Flood x.at source) are.unary))

  unary_at : (x : Lexeme) (rest : List Lexeme) → length (x ∷ rest) ≤ k → (o : Option Opening) →
      IsSteadyAt 1 (x ∷ rest) (unary_by m deeper o x rest) (unary_by m' deeper' o x rest)
  unary_at x rest within (Some o) =
      behind_one (λ j below. steady_less (omega arith) (opened_steady o x)) x rest within
  unary_at x rest within None = record { equal = refl; fewer = tt }

  unary_steady : IsSteady 0 k (unary_over m deeper) (unary_over m' deeper')
  unary_steady =
      steady_loose (steady_cons {d = 1} (record { equal = refl; fewer = tt }) (λ x rest within.
      unary_at x rest within (opening_of x.kind)))

deep_steady : (k : ℕ) → IsSteady 0 k {A = Expr} (λ l. Deep l) (λ l. Deep l)
deep_steady k = record { at = λ l within. record { equal = refl; fewer = tt } }

-- what stands behind an operator
module _ {k : ℕ} (deep : ℕ) (op_of : Kind → Option Op) (none : op_of kind.End
    ≡ None) {operand operand' : Reader Expr} (h : IsSteady 0 k operand operand') where
  chain_steady : (m m' j : ℕ) → j ≤ k → j < m → j < m' → (left : Expr)
      → IsSteady 0 j (chain m deep op_of operand left) (chain m' deep op_of operand' left)
  chain_steady zero m' j within a b left = absurd (omega arith)
  chain_steady (suc m) zero j within a b left = absurd (omega arith)
  chain_steady (suc m) (suc m') j within a b left = steady_some op_of none
      (λ op i below. steady_if (λ l. nat_le (expr_depth left) deep)
      (steady_then (steady_less (omega arith) h) (λ right.
      chain_steady m m' i (omega arith) (omega arith) (omega arith)
      (Pair (at_of left) op left right)))
      (deep_steady i))
      steady_done

  once_steady : (left : Expr)
      → IsSteady 0 k (once deep op_of operand left) (once deep op_of operand' left)
  once_steady left = steady_some op_of none
      (λ op i below. steady_if (λ l. nat_le (expr_depth left) deep)
      (steady_made (Pair (at_of left) op left) (steady_less (omega arith) h)) (deep_steady i))
      steady_done

-- the rules of a depth, over those one less deep
over_steady : {k m m' : ℕ} (deep : ℕ) → k < m → k < m'
    → {unary unary' : Reader Expr} {deeper deeper' : Levels} → IsSteady 0 k unary unary'
    → AreSteady k deeper deeper' →
    AreSteady k (levels_over m deep unary deeper) (levels_over m' deep unary' deeper')
over_steady {k} {m} {m'} deep a b {unary} {unary'} {deeper} {deeper'} h are =
    let these = levels_over m deep unary deeper in
    let others = levels_over m' deep unary' deeper' in
    let term : IsSteady 0 k these.term others.term =
    steady_then h (chain_steady deep term_op refl are.unary m m' k (omega arith) a b) in
    let sum : IsSteady 0 k these.sum others.sum =
    steady_then term (chain_steady deep sum_op refl are.term m m' k (omega arith) a b) in
    let comp : IsSteady 0 k these.comp others.comp =
    steady_then sum (once_steady deep comp_op refl are.sum) in
    let conj : IsSteady 0 k these.conj others.conj =
    steady_then comp (chain_steady deep and_op refl are.comp m m' k (omega arith) a b) in
    let expr : IsSteady 0 k these.expr others.expr =
    steady_then conj (chain_steady deep or_op refl are.conj m m' k (omega arith) a b) in
    record { unary = h; term = term; sum = sum; comp = comp; conj = conj; expr = expr }

-- where no tree may stand
none_fewer : (A : Type 0) (b : Bool) (l : List Lexeme) → Leaves 1 l (too_deep {A = A} b l)
none_fewer A true l = tt
none_fewer A false l = tt

pub none_steady : {k : ℕ} {A : Type 0} (begins : Kind → Bool)
    → IsSteady 1 k {A = A} (λ l. too_deep (begins (head_kind l)) l) (λ l.
    too_deep (begins (head_kind l)) l)
none_steady {A = A} begins =
    steady_same (λ l. too_deep (begins (head_kind l)) l) (λ l.
    none_fewer A (begins (head_kind l)) l)

no_levels_steady : {k : ℕ} → AreSteady k no_levels no_levels
no_levels_steady =
    let none = steady_loose (none_steady begins_expr) in
    record { unary = none; term = none; sum = none; comp = none; conj = none; expr = none }

pub levels_steady : {k m m' : ℕ} → k < m → k < m' → (deep : ℕ)
    → AreSteady k (levels m deep) (levels m' deep)
levels_steady a b zero = over_steady 0 a b (steady_loose (none_steady begins_expr)) no_levels_steady
levels_steady a b (suc deep) =
    let are = levels_steady a b deep in
    over_steady deep a b (unary_steady a b are) are
