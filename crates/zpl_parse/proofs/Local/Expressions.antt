-- The rules of expressions, directions and regions are local.
use Rattle.std.proofs.Common.{◌≡◌, ℕ, suc, zero, nat_le, Bool, true, false, List, [], ◌∷◌, ◌++◌, Option, Some, None, refl, sym, ◌∙◌, ap, subst}
use Rattle.std.proofs.lemmas.Bool.{false≢true}
use Rattle.zpl_nums.specs.declared.operators.Op.{Op}
use Rattle.zpl_nums.specs.declared.folds.Fold.{Fold}
use Rattle.zpl_tokens.specs.declared.Kind.{Kind}
use Rattle.zpl_tokens.specs.declared.Kind.TheVariants as kind
use Rattle.zpl_tokens.specs.declared.symbols.Sym.{Sym}
use Rattle.zpl_tokens.specs.declared.symbols.Sym.TheVariants as sym
use Rattle.zpl_tree.specs.Depth.{expr_depth}
use Rattle.zpl_tree.specs.Syntax.{Name, Pre, RegionBase, NamedRegion, Ditto, Expr, Shifted, Around, Remap, Call, Paren, Neg, Not, Abs, Pair, Reduce, Scan, Flood, ThenExpr, NamedDir, Vector, Inner, Rexpr, Dims, Bracket, Bracketed, ThenPost, DimText, Blank, Star, One, Span, NoDim, ThenDim}
use Rattle.zpl_parse.specs.declared.classes.Opening.{Opening}
use Rattle.zpl_parse.specs.declared.classes.Opening.TheVariants as opening
use Rattle.zpl_parse.specs.declared.classes.Suffix.{Suffix}
use Rattle.zpl_parse.specs.declared.classes.Suffix.TheVariants as suffix
use Rattle.zpl_parse.specs.declared.classes.Folding.{Folding}
use Rattle.zpl_parse.specs.declared.classes.Folding.TheVariants as folding
use Rattle.zpl_parse.specs.Classes.{or_op, and_op, comp_op, sum_op, term_op, opening_of, begins_expr, is_some, suffix_of, folding_of, outside_of, stride_of, closes_region, closes_dim, follows_region}
use Rattle.zpl_grammar.specs.Lexeme.{Lexeme, head_kind, second_kind, head_at, behind}
use Rattle.zpl_parse.specs.Outcome.{Outcome, Done, Wrong, Deep, Reader, and_then, made, too_deep}
use Rattle.zpl_grammar.specs.Same.{same}
use Rattle.zpl_parse.specs.Tokens.{next_is}
use Rattle.zpl_parse.specs.Expressions.{at_of, exprs, actuals, components, dir, posts, region_base, rexpr, bounds, dim_text, dim_texts, begins_region, inner, in_bracket, bracket, along, Levels, shifted, suffixed, behind_name, inside, both, folded, unary_by, unary_over, chain, once, levels_over, no_expr, no_levels, levels}
use Rattle.zpl_parse.proofs.Local.Base.{IsLocal, LocalAt, SameHead, IsWrong, IsNotDone, local_then, local_made, local_done, local_wrong, local_cons, local_behind, local_by_where, local_by, local_if, local_option, taken_at, by_head_at, not_done_passed}
use Rattle.zpl_parse.proofs.Local.Tokens.{next_told, kind_told, at_told, symbol_local, name_local, natural_local, Turns, turn, no_turn, out_local, local_turns, local_loop}

pub local_taken : {Exact Sure A : Type 0} {tree : A}
    → IsLocal Exact Sure (λ l. Done tree (behind l)) (λ l. Done tree (behind l))
local_taken {Exact} {Sure} {tree = tree} = local_behind (local_done {tree = tree})

pub exprs_local : {Exact Sure : Type 0} {expr expr' : Reader Expr} → IsLocal Exact Sure expr expr'
    → {m m' : ℕ} → Turns Exact m m' →
    IsLocal Exact Sure (exprs m expr) (exprs m' expr')
exprs_local {expr = expr} {expr' = expr'} h =
    local_turns (λ m. exprs m expr) (λ m. exprs m expr') (λ l. refl) (λ l. tt) (λ m m' turns before.
    local_then h (λ first. local_if (next_told (kind.Symbol sym.Comma))
    (local_made (ThenExpr first) (local_behind before)) local_done))

pub actuals_local : {Exact Sure : Type 0} {expr expr' : Reader Expr} → IsLocal Exact Sure expr expr'
    → {m m' : ℕ} → Turns Exact m m' →
    IsLocal Exact Sure (actuals m expr) (actuals m' expr')
actuals_local h turns = local_if (next_told (kind.Symbol sym.CloseParen)) local_taken
    (local_then (exprs_local h turns) (λ those.
    local_made (λ at. those) (symbol_local sym.CloseParen)))

pub components_local : {Exact Sure : Type 0} {expr expr' : Reader Expr}
    → IsLocal Exact Sure expr expr' → {m m' : ℕ} → Turns Exact m m' →
    IsLocal Exact Sure (components m expr) (components m' expr')
components_local h turns =
    local_then (exprs_local h turns) (λ parts.
    local_made (λ at. parts) (symbol_local sym.CloseBracket))

dir_local : {Exact Sure : Type 0} {expr expr' : Reader Expr} → IsLocal Exact Sure expr expr'
    → {m m' : ℕ} → Turns Exact m m' →
    IsLocal Exact Sure (dir m expr) (dir m' expr')
dir_local h turns =
    local_if (next_told (kind.Symbol sym.OpenBracket))
    (local_made Vector (local_behind (components_local h turns)))
    (local_made NamedDir name_local)

pub posts_local : {Exact Sure : Type 0} {expr expr' : Reader Expr} → IsLocal Exact Sure expr expr'
    → {m m' : ℕ} → Turns Exact m m' →
    IsLocal Exact Sure (posts m expr) (posts m' expr')
posts_local {expr = expr} {expr' = expr'} h =
    local_turns (λ m. posts m expr) (λ m. posts m expr') (λ l. refl) (λ l. tt) (λ m m' turns before.
    local_option (kind_told stride_of) local_done (λ stride.
    local_then (local_behind (dir_local h turns)) (λ way. local_made (ThenPost stride way) before)))

-- what stands behind a name that begins a region expression
abbrev behind_first : ℕ → Name → Reader (List Pre × RegionBase)
behind_first m first rest =
    elim (outside_of (head_kind rest)) [
      | None ↦ Done ([], NamedRegion first) rest
      | Some outside ↦
          made (λ others. (record { dir = first; outside = outside } ∷ others.0, others.1))
          (region_base m (behind rest))
    ]

behind_first_local : {Exact Sure : Type 0} (m m' : ℕ) (first : Name)
    → IsLocal Exact Sure (region_base m) (region_base m') →
    IsLocal Exact Sure (behind_first m first) (behind_first m' first)
behind_first_local m m' first before =
    local_option (kind_told outside_of) local_done
    (λ outside. local_made (λ others. (
      record { dir = first; outside = outside } ∷ others.0,
      others.1,
    )) (local_behind before))

region_base_local : {Exact Sure : Type 0} {m m' : ℕ} → Turns Exact m m'
    → IsLocal Exact Sure (region_base m) (region_base m')
region_base_local = local_turns region_base region_base (λ l. refl) (λ l. tt) (λ m m' turns before.
    local_if (next_told kind.Ditto) (local_by (λ at l. Done ([], Ditto at) (behind l)) (λ at l.
    Done ([], Ditto at) (behind l)) at_told (λ at. local_taken))
    (local_then name_local (λ first. behind_first_local m m' first before)))

pub rexpr_local : {Exact Sure : Type 0} {expr expr' : Reader Expr} → IsLocal Exact Sure expr expr'
    → {m m' : ℕ} → Turns Exact m m' →
    IsLocal Exact Sure (rexpr m expr) (rexpr m' expr')
rexpr_local h turns =
    local_then (region_base_local turns) (λ base.
    local_made (Rexpr base.0 base.1) (posts_local h turns))

-- the same behind a name that is there
rexpr_behind : {Exact Sure : Type 0} {expr expr' : Reader Expr} → IsLocal Exact Sure expr expr'
    → {m m' : ℕ} → Turns Exact (suc m) (suc m') → (x : Lexeme) → x.kind ≡ kind.Name →
    IsLocal Exact Sure (λ rest. rexpr (suc m) expr (x ∷ rest)) (λ rest. rexpr (suc m') expr' (x ∷
    rest))
rexpr_behind {Exact} {Sure} {expr} {expr'} h {m} {m'} turns x is =
    subst (λ k. IsLocal Exact Sure (λ rest. rexpr (suc m) expr (with_kind k ∷ rest)) (λ rest.
    rexpr (suc m') expr' (with_kind k ∷ rest))) (sym is) go
  where
    with_kind : Kind → Lexeme
    with_kind k = record { kind = k; bytes = x.bytes; at = x.at }

    go : IsLocal Exact Sure (λ rest. rexpr (suc m) expr (with_kind kind.Name ∷ rest)) (λ rest.
        rexpr (suc m') expr' (with_kind kind.Name ∷ rest))
    go = local_then (behind_first_local m m' (record {
      text = x.bytes;
      at =
          x.at;
    }) (region_base_local (turn turns)))
        (λ base. local_made (Rexpr base.0 base.1) (posts_local h turns))

bounds_goes : {Exact Sure : Type 0} {expr expr' : Reader Expr} → IsLocal Exact Sure expr expr'
    → (low : Expr) → IsLocal Exact Sure
    (λ rest. elim (next_is (kind.Symbol sym.DotDot) rest) [
      | true ↦
          made (Span low) (expr (behind rest))
      | false ↦ Done (One low) rest
    ])
    (λ rest. elim (next_is (kind.Symbol sym.DotDot) rest) [
      | true ↦
          made (Span low) (expr' (behind rest))
      | false ↦ Done (One low) rest
    ])
bounds_goes h low =
    local_if (next_told (kind.Symbol sym.DotDot)) (local_made (Span low) (local_behind h))
    local_done

bounds_local : {Exact Sure : Type 0} {expr expr' : Reader Expr} → IsLocal Exact Sure expr expr'
    → IsLocal Exact Sure (bounds expr) (bounds expr')
bounds_local h = local_then h (bounds_goes h)

-- a reader of expressions, and what it makes behind a lexeme that begins one
pub record IsReady (Exact Sure : Type 0) (expr expr' : Reader Expr) : Type 0 where
  pub whole : IsLocal Exact Sure expr expr'
  pub after : (x : Lexeme) → begins_expr x.kind ≡ true
      → IsLocal Exact Sure (λ rest. expr (x ∷ rest)) (λ rest. expr' (x ∷ rest))

bounds_behind : {Exact Sure : Type 0} {expr expr' : Reader Expr} → IsReady Exact Sure expr expr'
    → (x : Lexeme) → begins_expr x.kind ≡ true →
    IsLocal Exact Sure (λ rest. bounds expr (x ∷ rest)) (λ rest. bounds expr' (x ∷ rest))
bounds_behind h x is = local_then (h.after x is) (bounds_goes h.whole)

star_symbol : (s : Sym) → same (kind.Symbol s) (kind.Symbol sym.Star) ≡ true
    → begins_expr (kind.Symbol s) ≡ true
star_symbol sym.Star is = refl
star_symbol _ is = absurd (false≢true is)

star_begins : (k : Kind) → same k (kind.Symbol sym.Star) ≡ true → begins_expr k ≡ true
star_begins (kind.Symbol s) is = star_symbol s is
star_begins _ is = absurd (false≢true is)

-- a `*` by itself, or an expression that begins with one
abbrev starred : Reader Expr → Reader DimText
starred expr l = elim (closes_dim (second_kind l)) [
  | true ↦
      Done (Star (head_at l)) (behind l)
  | false ↦ bounds expr l
]

starred_at : {Exact Sure : Type 0} {expr expr' : Reader Expr} → IsReady Exact Sure expr expr'
    → (l : List Lexeme) → next_is (kind.Symbol sym.Star) l ≡ true →
    LocalAt Exact Sure (starred expr') l (starred expr l)
starred_at h [] is = absurd (false≢true is)
starred_at {Exact} {Sure} {expr} {expr'} h (x ∷ rest) is =
    taken_at Exact Sure (starred expr') x rest (starred expr (x ∷ rest)) (go.at rest)
  where
    go : IsLocal Exact Sure (λ rest. starred expr (x ∷ rest)) (λ rest. starred expr' (x ∷ rest))
    go = local_if (kind_told closes_dim) local_done (bounds_behind h x (star_begins x.kind is))

-- one dimension, where that of a `*` is told
abbrev dim_by : Reader Expr → Bool → Reader DimText
dim_by expr star l = elim star [ true ↦ starred expr l | false ↦ bounds expr l ]

dim_at : {Exact Sure : Type 0} {expr expr' : Reader Expr} → IsReady Exact Sure expr expr'
    → (star : Bool) (l : List Lexeme) → next_is (kind.Symbol sym.Star) l ≡ star →
    LocalAt Exact Sure (dim_by expr' star) l (dim_by expr star l)
dim_at h true l is = starred_at h l is
dim_at h false l is = (bounds_local h.whole).at l

blank_local : {Exact Sure : Type 0}
    → IsLocal Exact Sure (λ l. Done (Blank (head_at l)) l) (λ l. Done (Blank (head_at l)) l)
blank_local =
    local_by (λ at l. Done (Blank at) l) (λ at l. Done (Blank at) l) at_told (λ at. local_done)

dim_text_local : {Exact Sure : Type 0} {expr expr' : Reader Expr} → IsReady Exact Sure expr expr'
    → IsLocal Exact Sure (dim_text expr) (dim_text expr')
dim_text_local {expr = expr} {expr' = expr'} h =
    local_if (kind_told closes_dim) blank_local (local_by_where (dim_by expr) (dim_by expr')
    (next_told (kind.Symbol sym.Star)) (dim_at h))

-- the dimensions behind a first one
dims_go : {Exact Sure : Type 0} (m m' : ℕ) (expr expr' : Reader Expr) (first : DimText)
    → IsLocal Exact Sure (dim_texts m expr) (dim_texts m' expr') → IsLocal Exact Sure
    (λ rest. elim (next_is (kind.Symbol sym.Comma) rest) [
      | true ↦
          made (ThenDim first) (dim_texts m expr (behind rest))
      | false ↦
          Done (ThenDim first NoDim) rest
    ])
    (λ rest. elim (next_is (kind.Symbol sym.Comma) rest) [
      | true ↦
          made (ThenDim first) (dim_texts m' expr' (behind rest))
      | false ↦
          Done (ThenDim first NoDim) rest
    ])
dims_go m m' expr expr' first before =
    local_if (next_told (kind.Symbol sym.Comma)) (local_made (ThenDim first) (local_behind before))
    local_done

dim_texts_local : {Exact Sure : Type 0} (expr expr' : Reader Expr)
    → IsLocal Exact Sure (dim_text expr) (dim_text expr') → {m m' : ℕ} → Turns Exact m m' →
    IsLocal Exact Sure (dim_texts m expr) (dim_texts m' expr')
dim_texts_local expr expr' h =
    local_turns (λ m. dim_texts m expr) (λ m. dim_texts m expr') (λ l. refl) (λ l. tt)
    (λ m m' turns before. local_then h (λ first. dims_go m m' expr expr' first before))

-- dimensions, and behind them what may stand behind a region
abbrev whole_dims : ℕ → Reader Expr → Reader Inner
whole_dims m expr l =
    and_then (dim_texts m expr l) (λ dims rest. elim (closes_region (head_kind rest)) [
      | true ↦
          Done (Dims dims) rest
      | false ↦ Wrong rest
    ])

whole_local : {Exact Sure : Type 0} (expr expr' : Reader Expr)
    → IsLocal Exact Sure (dim_text expr) (dim_text expr') → {m m' : ℕ} → Turns Exact m m' →
    IsLocal Exact Sure (whole_dims m expr) (whole_dims m' expr')
whole_local expr expr' h turns =
    local_then (dim_texts_local expr expr' h turns) (λ dims.
    local_if (kind_told closes_region) local_done local_wrong)

whole_behind : {Exact Sure : Type 0} {expr expr' : Reader Expr} → IsReady Exact Sure expr expr'
    → {m m' : ℕ} → Turns Exact (suc m) (suc m') → (x : Lexeme) → x.kind ≡ kind.Name →
    IsLocal Exact Sure (λ rest. whole_dims (suc m) expr (x ∷ rest)) (λ rest.
    whole_dims (suc m') expr' (x ∷ rest))
whole_behind {Exact} {Sure} {expr} {expr'} h {m} {m'} turns x is =
    subst (λ k. IsLocal Exact Sure (λ rest. whole_dims (suc m) expr (with_kind k ∷ rest)) (λ rest.
    whole_dims (suc m') expr' (with_kind k ∷ rest))) (sym is) go
  where
    with_kind : Kind → Lexeme
    with_kind k = record { kind = k; bytes = x.bytes; at = x.at }

    go : IsLocal Exact Sure (λ rest. whole_dims (suc m) expr (with_kind kind.Name ∷ rest)) (λ rest.
        whole_dims (suc m') expr' (with_kind kind.Name ∷ rest))
    go = local_then (local_then (bounds_behind h (with_kind kind.Name) refl) (λ first.
        dims_go m m' expr expr' first (dim_texts_local expr expr' (dim_text_local h) (turn turns))))
        (λ dims. local_if (kind_told closes_region) local_done local_wrong)

-- a region by the kind of its first lexeme
abbrev inner_by : ℕ → Reader Expr → Kind → Reader Inner
inner_by m expr k l = elim (begins_region k (second_kind l)) [
  | true ↦ rexpr m expr l
  | false ↦
      whole_dims m expr l
]

inner_named : {Exact Sure : Type 0} {expr expr' : Reader Expr} → IsReady Exact Sure expr expr'
    → {m m' : ℕ} → Turns Exact (suc m) (suc m') →
    (l : List Lexeme) → head_kind l ≡ kind.Name
    → LocalAt Exact Sure (inner_by (suc m') expr' kind.Name) l
    (inner_by (suc m) expr kind.Name l)
inner_named h turns [] is = absurd cc
inner_named {Exact} {Sure} {expr} {expr'} h {m} {m'} turns (x ∷ rest) is =
    taken_at Exact Sure (inner_by (suc m') expr' kind.Name) x rest
    (inner_by (suc m) expr kind.Name (x ∷ rest)) (go.at rest)
  where
    go : IsLocal Exact Sure (λ rest. inner_by (suc m) expr kind.Name (x ∷ rest)) (λ rest.
        inner_by (suc m') expr' kind.Name (x ∷ rest))
    go = local_if (kind_told follows_region) (rexpr_behind h.whole turns x is)
        (whole_behind h turns x is)

inner_at : {Exact Sure : Type 0} {expr expr' : Reader Expr} → IsReady Exact Sure expr expr'
    → {m m' : ℕ} → Turns Exact (suc m) (suc m') →
    (k : Kind) (l : List Lexeme) → head_kind l ≡ k
    → LocalAt Exact Sure (inner_by (suc m') expr' k) l (inner_by (suc m) expr k l)
inner_at h turns kind.Ditto l is = (rexpr_local h.whole turns).at l
inner_at h turns kind.Name l is = inner_named h turns l is
inner_at {expr = expr} {expr' = expr'} h turns _ l is =
    (whole_local expr expr' (dim_text_local h) turns).at l

no_inner : (expr : Reader Expr) (l : List Lexeme) (b : Bool)
    → ◌≡◌ {A = Outcome Inner} (elim b [ true ↦ rexpr zero expr l | false ↦ whole_dims zero expr l ])
    (Wrong l)
no_inner expr l true = refl
no_inner expr l false = refl

-- with no turn left
inner_out : {Exact Sure : Type 0} (expr expr' : Reader Expr) {m' : ℕ} → Turns Exact zero m'
    → IsLocal Exact Sure (inner zero expr) (inner m' expr')
inner_out expr expr' turns = out_local (inner zero expr) (λ m. inner m expr') turns
    (λ l. no_inner expr l (begins_region (head_kind l) (second_kind l)))
    (λ l. subst IsWrong (sym (no_inner expr' l (begins_region (head_kind l) (second_kind l)))) tt)

inner_turns : {Exact Sure : Type 0} {expr expr' : Reader Expr} → IsReady Exact Sure expr expr'
    → (m m' : ℕ) → Turns Exact m m' →
    IsLocal Exact Sure (inner m expr) (inner m' expr')
inner_turns {expr = expr} {expr' = expr'} h zero m' turns = inner_out expr expr' turns
inner_turns h (suc m) zero turns = absurd (no_turn turns)
inner_turns {expr = expr} {expr' = expr'} h (suc m) (suc m') turns =
    local_by_where (inner_by (suc m) expr) (inner_by (suc m') expr') (kind_told (λ k. k))
    (inner_at h turns)

pub inner_local : {Exact Sure : Type 0} {expr expr' : Reader Expr} → IsReady Exact Sure expr expr'
    → {m m' : ℕ} → Turns Exact m m' →
    IsLocal Exact Sure (inner m expr) (inner m' expr')
inner_local h {m} {m'} turns = inner_turns h m m' turns

pub in_bracket_local : {Exact Sure : Type 0} (m m' : ℕ) (expr expr' : Reader Expr)
    → IsLocal Exact Sure (inner m expr) (inner m' expr') →
    IsLocal Exact Sure (in_bracket m expr) (in_bracket m' expr')
in_bracket_local m m' expr expr' h =
    local_then (symbol_local sym.OpenBracket) (λ at.
    local_then h (λ region. local_made (λ end. region) (symbol_local sym.CloseBracket)))

pub bracket_local : {Exact Sure : Type 0} (m m' : ℕ) (expr expr' : Reader Expr)
    → IsLocal Exact Sure (inner m expr) (inner m' expr') →
    IsLocal Exact Sure (bracket m expr) (bracket m' expr')
bracket_local m m' expr expr' h =
    local_if (next_told (kind.Symbol sym.OpenBracket))
    (local_made Bracketed (in_bracket_local m m' expr expr' h)) local_done

along_local : {Exact Sure : Type 0} → IsLocal Exact Sure along along
along_local = local_if (next_told (kind.Symbol sym.OpenBracket))
    (local_then (local_behind natural_local) (λ dimension.
    local_made (λ at. Some dimension) (symbol_local sym.CloseBracket))) local_done

-- a budget of 0: an expression that may begin is too deep at once
pub record IsNone (expr : Reader Expr) : Type 0 where
  pub begun : (x : Lexeme) (rest : List Lexeme) → begins_expr x.kind ≡ true → expr (x ∷ rest)
      ≡ Deep rest
  pub never : (l : List Lexeme) → IsNotDone (expr l)

starred_none : (Exact : Type 0) (expr expr' : Reader Expr) → IsNone expr → (l : List Lexeme)
    → next_is (kind.Symbol sym.Star) l ≡ true →
    LocalAt Exact ⊥ (starred expr') l (starred expr l)
starred_none Exact expr expr' h [] is = absurd (false≢true is)
starred_none Exact expr expr' h (x ∷ rest) is = go (closes_dim (head_kind rest)) refl
  where
    choose : Bool → Reader DimText
    choose b l = elim b [ true ↦ Done (Star x.at) l | false ↦ bounds expr' (x ∷ l) ]

    go : (b : Bool) → closes_dim (head_kind rest) ≡ b
        → LocalAt Exact ⊥ (starred expr') (x ∷ rest) (elim b [
          | true ↦
              Done (Star x.at) rest
          | false ↦ bounds expr (x ∷ rest)
        ])
    go true closes = (
      x ∷ [],
      refl,
      λ others head.
          ap (λ b. choose b others) ((kind_told closes_dim).same rest others head ∙ closes),
    )
    go false closes = subst (LocalAt Exact ⊥ (starred expr') (x ∷ rest))
        (sym (ap (λ o. and_then o (λ low rest. elim (next_is (kind.Symbol sym.DotDot) rest) [
          | true ↦
              made (Span low) (expr (behind rest))
          | false ↦ Done (One low) rest
        ]))
        (h.begun x rest (star_begins x.kind is))))
        (x, [], refl, λ sure. absurd sure)

dim_none : {Exact : Type 0} (expr expr' : Reader Expr) → IsNone expr → IsLocal Exact ⊥ expr expr'
    → (star : Bool) (l : List Lexeme) → next_is (kind.Symbol sym.Star) l ≡ star →
    LocalAt Exact ⊥ (dim_by expr' star) l (dim_by expr star l)
dim_none {Exact} expr expr' none h true l is = starred_none Exact expr expr' none l is
dim_none expr expr' none h false l is = (bounds_local h).at l

dim_text_none : {Exact : Type 0} (expr expr' : Reader Expr) → IsNone expr
    → IsLocal Exact ⊥ expr expr' → IsLocal Exact ⊥ (dim_text expr) (dim_text expr')
dim_text_none expr expr' none h =
    local_if (kind_told closes_dim) blank_local (local_by_where (dim_by expr) (dim_by expr')
    (next_told (kind.Symbol sym.Star)) (dim_none expr expr' none h))

-- a first name is too deep as a dimension
name_too_deep : (m : ℕ) (expr : Reader Expr) → IsNone expr → (x : Lexeme) (rest : List Lexeme)
    → x.kind ≡ kind.Name → whole_dims (suc m) expr (x ∷ rest) ≡ Deep rest
name_too_deep m expr none x rest is =
    subst (λ k. whole_dims (suc m) expr (with_kind k ∷ rest) ≡ Deep rest) (sym is) go
  where
    with_kind : Kind → Lexeme
    with_kind k = record { kind = k; bytes = x.bytes; at = x.at }

    go : whole_dims (suc m) expr (with_kind kind.Name ∷ rest) ≡ Deep rest
    go = ap (λ o.
        and_then (and_then
        (and_then o (λ low rest. elim (next_is (kind.Symbol sym.DotDot) rest) [
          | true ↦
              made (Span low) (expr (behind rest))
          | false ↦ Done (One low) rest
        ]))
        (λ first rest. elim (next_is (kind.Symbol sym.Comma) rest) [
          | true ↦
              made (ThenDim first) (dim_texts m expr (behind rest))
          | false ↦
              Done (ThenDim first NoDim) rest
        ]))
        (λ dims rest. elim (closes_region (head_kind rest)) [
          | true ↦ Done (Dims dims) rest
          | false ↦
              Wrong rest
        ])) (none.begun (with_kind kind.Name) rest refl)

inner_named_none : {Exact : Type 0} (expr expr' : Reader Expr) → IsNone expr
    → IsLocal Exact ⊥ expr expr' → {m m' : ℕ} → Turns Exact (suc m) (suc m') →
    (l : List Lexeme) → head_kind l ≡ kind.Name
    → LocalAt Exact ⊥ (inner_by (suc m') expr' kind.Name) l (inner_by (suc m) expr kind.Name l)
inner_named_none expr expr' none h turns [] is = absurd cc
inner_named_none {Exact} expr expr' none h {m} {m'} turns (x ∷ rest) is =
    go (follows_region (head_kind rest)) refl
  where
    choose : Bool → Reader Inner
    choose b l = elim b [
      | true ↦ rexpr (suc m') expr' (x ∷ l)
      | false ↦
          whole_dims (suc m') expr' (x ∷ l)
    ]

    go : (b : Bool) → follows_region (head_kind rest) ≡ b →
        LocalAt Exact ⊥ (inner_by (suc m') expr' kind.Name) (x ∷ rest) (elim b [
          | true ↦
              rexpr (suc m) expr (x ∷ rest)
          | false ↦ whole_dims (suc m) expr (x ∷ rest)
        ])
    go true follows =
        taken_at Exact ⊥ (inner_by (suc m') expr' kind.Name) x rest (rexpr (suc m) expr (x ∷ rest))
        (by_head_at Exact ⊥ (λ l. follows_region (head_kind l)) choose true rest
        (rexpr (suc m) expr (x ∷ rest)) (kind_told follows_region) follows
        ((rexpr_behind h turns x is).at rest))
    go false follows =
        subst (LocalAt Exact ⊥ (inner_by (suc m') expr' kind.Name) (x ∷ rest))
        (sym (name_too_deep m expr none x rest is)) (x, [], refl, λ sure. absurd sure)

inner_at_none : {Exact : Type 0} (expr expr' : Reader Expr) → IsNone expr
    → IsLocal Exact ⊥ expr expr' → {m m' : ℕ} → Turns Exact (suc m) (suc m') →
    (k : Kind) (l : List Lexeme) → head_kind l ≡ k
    → LocalAt Exact ⊥ (inner_by (suc m') expr' k) l (inner_by (suc m) expr k l)
inner_at_none expr expr' none h turns kind.Ditto l is = (rexpr_local h turns).at l
inner_at_none expr expr' none h turns kind.Name l is = inner_named_none expr expr' none h turns l is
inner_at_none expr expr' none h turns _ l is =
    (whole_local expr expr' (dim_text_none expr expr' none h) turns).at l

inner_none : {Exact : Type 0} (expr expr' : Reader Expr) → IsNone expr → IsLocal Exact ⊥ expr expr'
    → (m m' : ℕ) → Turns Exact m m' →
    IsLocal Exact ⊥ (inner m expr) (inner m' expr')
inner_none expr expr' none h zero m' turns = inner_out expr expr' turns
inner_none expr expr' none h (suc m) zero turns = absurd (no_turn turns)
inner_none expr expr' none h (suc m) (suc m') turns =
    local_by_where (inner_by (suc m) expr) (inner_by (suc m') expr') (kind_told (λ k. k))
    (inner_at_none expr expr' none h turns)

-- what is never done is local as soon as it is so with nothing said of its depth
local_never : {Exact Sure A : Type 0} {p p' : Reader A} → IsLocal Exact ⊥ p p'
    → ((l : List Lexeme) → IsNotDone (p' l)) → IsLocal Exact Sure p p'
local_never {Exact} {Sure} {A} {p} {p'} h never = record { at = λ l. go l (p l) (h.at l) }
  where
    go : (l : List Lexeme) (o : Outcome A) → LocalAt Exact ⊥ p' l o → LocalAt Exact Sure p' l o
    go l (Done tree rest) h = h
    go l (Wrong rest) h = h
    go l (Deep rest) h = (h.0, h.1, h.2, λ sure others. never (h.0 ∷ (h.1 ++ others)))

-- the rules of one depth, one by one
pub record AreLocal (Exact Sure : Type 0) (these others : Levels) : Type 0 where
  pub unary : IsLocal Exact Sure these.unary others.unary
  pub term : IsLocal Exact Sure these.term others.term
  pub sum : IsLocal Exact Sure these.sum others.sum
  pub comp : IsLocal Exact Sure these.comp others.comp
  pub conj : IsLocal Exact Sure these.conj others.conj
  pub expr : IsLocal Exact Sure these.expr others.expr

-- the rest of a chain, where the lexeme at hand is told to be an operator or none
abbrev links : ℕ → ℕ → (Kind → Option Op) → Reader Expr → Expr → Option Op → Reader Expr
links m deep op_of operand left o l = elim o [
  | None ↦ Done left l
  | Some op ↦ elim (nat_le (expr_depth left) deep) [
    | false ↦ Deep (behind l)
    | true ↦ and_then (operand (behind l)) (λ right rest.
        chain m deep op_of operand (Pair (at_of left) op left right) rest)
  ]
]

abbrev link : ℕ → (Kind → Option Op) → Reader Expr → Expr → Option Op → Reader Expr
link deep op_of operand left o l = elim o [
  | None ↦ Done left l
  | Some op ↦ elim (nat_le (expr_depth left) deep) [
    | false ↦ Deep (behind l)
    | true ↦ made (Pair (at_of left) op left) (operand (behind l))
  ]
]

-- a lexeme that is there is taken, or more
pick_at : (Exact Sure : Type 0) {A : Type 0} {p p' : Reader A} → IsLocal Exact Sure p p'
    → (x : Lexeme) (rest : List Lexeme) (b : Bool) →
    LocalAt Exact Sure (λ l. elim b [ false ↦ Deep (behind l) | true ↦ p' l ]) (x ∷
    rest) (elim b [ false ↦ Deep rest | true ↦ p (x ∷ rest) ])
pick_at Exact Sure h x rest false = (x, [], refl, λ sure others. tt)
pick_at Exact Sure h x rest true = h.at (x ∷ rest)

links_at : {Exact Sure : Type 0} (m m' deep : ℕ) (op_of : Kind
    → Option Op) {operand operand' : Reader Expr} → op_of kind.End ≡ None
    → IsLocal Exact Sure operand operand' →
    ((left : Expr)
    → IsLocal Exact Sure (chain m deep op_of operand left) (chain m' deep op_of operand' left))
    → (left : Expr) (o : Option Op) (l : List Lexeme) → op_of (head_kind l) ≡ o →
    LocalAt Exact Sure (links m' deep op_of operand' left o) l (links m deep op_of operand left o l)
links_at m m' deep op_of none h before left None l is = ([], refl, λ others head. refl)
links_at m m' deep op_of none h before left (Some op) [] is = absurd cc
links_at {Exact} {Sure} m m' deep op_of none h before left (Some op) (x ∷ rest) is =
    pick_at Exact Sure (local_then (local_behind h) (λ right.
    before (Pair (at_of left) op left right))) x rest (nat_le (expr_depth left) deep)

link_at : {Exact Sure : Type 0} (deep : ℕ) (op_of : Kind
    → Option Op) {operand operand' : Reader Expr} → op_of kind.End ≡ None
    → IsLocal Exact Sure operand operand' →
    (left : Expr) (o : Option Op) (l : List Lexeme) → op_of (head_kind l) ≡ o
    → LocalAt Exact Sure (link deep op_of operand' left o) l (link deep op_of operand left o l)
link_at deep op_of none h left None l is = ([], refl, λ others head. refl)
link_at deep op_of none h left (Some op) [] is = absurd cc
link_at {Exact} {Sure} deep op_of none h left (Some op) (x ∷ rest) is =
    pick_at Exact Sure (local_made (Pair (at_of left) op left) (local_behind h)) x rest
    (nat_le (expr_depth left) deep)

chain_local : {Exact Sure : Type 0} (deep : ℕ) (op_of : Kind
    → Option Op) {operand operand' : Reader Expr} → op_of kind.End ≡ None
    → IsLocal Exact Sure operand operand' →
    {m m' : ℕ} → Turns Exact m m' → (left : Expr)
    → IsLocal Exact Sure (chain m deep op_of operand left) (chain m' deep op_of operand' left)
chain_local deep op_of {operand} {operand'} none h =
    local_loop (λ m left. chain m deep op_of operand left) (λ m left.
    chain m deep op_of operand' left) (λ left l. refl) (λ left l. tt)
    (λ m m' turns before left. local_by_where (links m deep op_of operand left)
    (links m' deep op_of operand' left) (kind_told op_of)
    (links_at m m' deep op_of none h before left))

once_local : {Exact Sure : Type 0} (deep : ℕ) (op_of : Kind
    → Option Op) {operand operand' : Reader Expr} → op_of kind.End ≡ None
    → IsLocal Exact Sure operand operand' →
    (left : Expr)
    → IsLocal Exact Sure (once deep op_of operand left) (once deep op_of operand' left)
once_local deep op_of {operand} {operand'} none h left =
    local_by_where (link deep op_of operand left) (link deep op_of operand' left) (kind_told op_of)
    (link_at deep op_of none h left)

over_local : {Exact Sure : Type 0} {m m' : ℕ} (deep : ℕ) {unary unary' : Reader Expr}
    {deeper deeper' : Levels} → Turns Exact m m' → IsLocal Exact Sure unary unary' →
    AreLocal Exact Sure deeper deeper'
    → AreLocal Exact Sure (levels_over m deep unary deeper) (levels_over m' deep unary' deeper')
over_local {Exact} {Sure} {m} {m'} deep {unary} {unary'} {deeper} {deeper'} turns h below =
    let these = levels_over m deep unary deeper in
    let others = levels_over m' deep unary' deeper' in
    let term : IsLocal Exact Sure these.term others.term =
    local_then h (chain_local deep term_op refl below.unary turns) in
    let sum : IsLocal Exact Sure these.sum others.sum =
    local_then term (chain_local deep sum_op refl below.term turns) in
    let comp : IsLocal Exact Sure these.comp others.comp =
    local_then sum (once_local deep comp_op refl below.sum) in
    let conj : IsLocal Exact Sure these.conj others.conj =
    local_then comp (chain_local deep and_op refl below.comp turns) in
    let expr : IsLocal Exact Sure these.expr others.expr =
    local_then conj (chain_local deep or_op refl below.conj turns) in
    record { unary = h; term = term; sum = sum; comp = comp; conj = conj; expr = expr }

over_behind : {Exact Sure : Type 0} {m m' : ℕ} (deep : ℕ) (unary unary' : Reader Expr)
    {deeper deeper' : Levels} → Turns Exact m m' → (x : Lexeme) →
    IsLocal Exact Sure (λ l. unary (x ∷ l)) (λ l. unary' (x ∷ l))
    → AreLocal Exact Sure deeper deeper' →
    IsLocal Exact Sure (λ l. (levels_over m deep unary deeper).expr (x ∷ l)) (λ l.
    (levels_over m' deep unary' deeper').expr (x ∷ l))
over_behind {Exact} {Sure} {m} {m'} deep unary unary' {deeper} {deeper'} turns x h below =
    let these = levels_over m deep unary deeper in
    let others = levels_over m' deep unary' deeper' in
    let term : IsLocal Exact Sure (λ l. these.term (x ∷ l)) (λ l. others.term (x ∷ l)) =
    local_then h (chain_local deep term_op refl below.unary turns) in
    let sum : IsLocal Exact Sure (λ l. these.sum (x ∷ l)) (λ l. others.sum (x ∷ l)) =
    local_then term (chain_local deep sum_op refl below.term turns) in
    let comp : IsLocal Exact Sure (λ l. these.comp (x ∷ l)) (λ l. others.comp (x ∷ l)) =
    local_then sum (once_local deep comp_op refl below.sum) in
    let conj : IsLocal Exact Sure (λ l. these.conj (x ∷ l)) (λ l. others.conj (x ∷ l)) =
    local_then comp (chain_local deep and_op refl below.comp turns) in
    local_then conj (chain_local deep or_op refl below.conj turns)

-- what the rules of a depth take from those one less deep
pub record AreBelow (Exact Sure : Type 0) (m m' : ℕ) (these others : Levels) : Type 0 where
  pub all : AreLocal Exact Sure these others
  pub reduced : (f : Bracket → Expr → Expr)
      → IsLocal Exact Sure (λ l. and_then (bracket m these.expr l) (λ over rest.
      made (f over) (these.unary rest)))
      (λ l. and_then (bracket m' others.expr l) (λ over rest. made (f over) (others.unary rest)))
  pub flooded : (f : Inner → Expr → Expr)
      → IsLocal Exact Sure (λ l. and_then (in_bracket m these.expr l) (λ source rest.
      made (f source) (these.unary rest)))
      (λ l. and_then (in_bracket m' others.expr l) (λ source rest.
      made (f source) (others.unary rest)))

shifted_local : {Exact Sure : Type 0} {m m' : ℕ} {deeper deeper' : Levels} → Turns Exact m m'
    → AreLocal Exact Sure deeper deeper' → (first : Name) →
    IsLocal Exact Sure (shifted m deeper first) (shifted m' deeper' first)
shifted_local turns below first = local_if (next_told (kind.Symbol sym.Caret))
    (local_made (Around first.at first) (local_behind (dir_local below.expr turns)))
    (local_made (Shifted first.at first) (dir_local below.expr turns))

suffixed_local : {Exact Sure : Type 0} {m m' : ℕ} {deeper deeper' : Levels} → Turns Exact m m'
    → AreLocal Exact Sure deeper deeper' → (first : Name) (f : Option Suffix) →
    IsLocal Exact Sure (suffixed m deeper first f) (suffixed m' deeper' first f)
suffixed_local turns below first (Some suffix.Shift) =
    local_behind (shifted_local turns below first)
suffixed_local turns below first (Some suffix.Remap) =
    local_behind (local_then (symbol_local sym.OpenBracket)
    (λ at. local_made (Remap first.at first) (components_local below.expr turns)))
suffixed_local turns below first (Some suffix.Call) =
    local_made (Call first.at first) (local_behind (actuals_local below.expr turns))
suffixed_local turns below first None = local_done

behind_name_local : {Exact Sure : Type 0} {m m' : ℕ} {deeper deeper' : Levels} → Turns Exact m m'
    → AreLocal Exact Sure deeper deeper' → (first : Name) →
    IsLocal Exact Sure (behind_name m deeper first) (behind_name m' deeper' first)
behind_name_local {m = m} {m' = m'} {deeper = deeper} {deeper' = deeper'} turns below first =
    local_by (λ f. suffixed m deeper first f) (λ f. suffixed m' deeper' first f)
    (kind_told suffix_of) (suffixed_local turns below first)

inside_local : {Exact Sure : Type 0} {deeper deeper' : Levels} → AreLocal Exact Sure deeper deeper'
    → IsLocal Exact Sure (inside deeper) (inside deeper')
inside_local below =
    local_then below.expr (λ value. local_made (λ at. value) (symbol_local sym.CloseParen))

both_local : {Exact Sure : Type 0} (at : ℕ) (op : Op) {deeper deeper' : Levels}
    → AreLocal Exact Sure deeper deeper'
    → IsLocal Exact Sure (both at op deeper) (both at op deeper')
both_local at op below =
    local_then below.expr (λ left. local_then (symbol_local sym.Comma) (λ comma.
    local_made (Pair at op left) (inside_local below)))

folded_local : {Exact Sure : Type 0} {m m' : ℕ} {deeper deeper' : Levels}
    → AreBelow Exact Sure m m' deeper deeper' → (at : ℕ) (operator : Fold) (o : Option Folding) →
    IsLocal Exact Sure (folded m at operator deeper o) (folded m' at operator deeper' o)
folded_local below at operator (Some folding.Reduce) =
    local_behind (below.reduced (Reduce at operator))
folded_local below at operator (Some folding.Scan) =
    local_then (local_behind along_local) (λ dimension. local_made (Scan at operator dimension)
    below.all.unary)
folded_local below at operator (Some (folding.Pair op)) = local_behind (both_local at op below.all)
folded_local below at operator None = local_wrong

unary_by_local : {Exact Sure : Type 0} {m m' : ℕ} {deeper deeper' : Levels} → Turns Exact m m'
    → AreBelow Exact Sure m m' deeper deeper' → (o : Opening) (x : Lexeme) →
    IsLocal Exact Sure (unary_by m deeper (Some o) x) (unary_by m' deeper' (Some o) x)
unary_by_local turns below (opening.Number value) x = local_done
unary_by_local turns below (opening.Truth value) x = local_done
unary_by_local turns below (opening.Coord dimension) x = local_done
unary_by_local turns below opening.Name x =
    behind_name_local turns below.all (record { text = x.bytes; at = x.at })
unary_by_local turns below opening.Paren x = local_made (Paren x.at) (inside_local below.all)
unary_by_local turns below opening.Minus x = local_made (Neg x.at) below.all.unary
unary_by_local turns below opening.Not x = local_made (Not x.at) below.all.unary
unary_by_local turns below opening.Abs x =
    local_then (symbol_local sym.OpenParen) (λ at. local_made (Abs x.at) (inside_local below.all))
unary_by_local {m = m} {m' = m'} {deeper = deeper} {deeper' =
    deeper'} turns below (opening.Fold operator) x =
    local_by (λ o. folded m x.at operator deeper o) (λ o. folded m' x.at operator deeper' o)
    (kind_told (folding_of operator)) (λ o. folded_local below x.at operator o)
unary_by_local turns below opening.Flood x = below.flooded (Flood x.at)

unary_at : (Exact Sure : Type 0) (m m' : ℕ) (deeper deeper' : Levels) → Turns Exact m m'
    → AreBelow Exact Sure m m' deeper deeper' → (x : Lexeme) (rest : List Lexeme) →
    (o : Option Opening) → opening_of x.kind ≡ o
    → LocalAt Exact Sure (unary_over m' deeper') (x ∷ rest) (unary_by m deeper o x rest)
unary_at Exact Sure m m' deeper deeper' turns below x rest (Some o) is =
    taken_at Exact Sure (unary_over m' deeper') x rest (unary_by m deeper (Some o) x rest)
    (subst (λ c. LocalAt Exact Sure (λ l. unary_by m' deeper' c x l) rest
    (unary_by m deeper (Some o) x rest)) (sym is) ((unary_by_local turns below o x).at rest))
unary_at Exact Sure m m' deeper deeper' turns below x rest None is =
    ([], refl, λ exact others head. wrong others head)
  where
    wrong : (others : List Lexeme) → SameHead (x ∷ rest) others
        → IsWrong (unary_over m' deeper' others)
    wrong [] head = absurd head
    wrong (y ∷ others) head =
        subst (λ z. IsWrong (unary_over m' deeper' (z ∷ others))) head
        (subst (λ c. IsWrong (unary_by m' deeper' c x others)) (sym is) tt)

unary_local : {Exact Sure : Type 0} {m m' : ℕ} {deeper deeper' : Levels} → Turns Exact m m'
    → AreBelow Exact Sure m m' deeper deeper' →
    IsLocal Exact Sure (unary_over m deeper) (unary_over m' deeper')
unary_local {Exact} {Sure} {m} {m'} {deeper} {deeper'} turns below =
    local_cons (unary_over m deeper) (unary_over m' deeper') (
      [],
      refl,
      λ exact others head.
          absurd head,
    )
    (λ x rest. unary_at Exact Sure m m' deeper deeper' turns below x rest (opening_of x.kind) refl)

unary_behind : {Exact Sure : Type 0} {m m' : ℕ} {deeper deeper' : Levels} → Turns Exact m m'
    → AreBelow Exact Sure m m' deeper deeper' →
    (x : Lexeme) → begins_expr x.kind ≡ true
    → IsLocal Exact Sure (λ l. unary_over m deeper (x ∷ l)) (λ l. unary_over m' deeper' (x ∷ l))
unary_behind {Exact} {Sure} {m} {m'} {deeper} {deeper'} turns below x is = go (opening_of x.kind) is
  where
    go : (o : Option Opening) → is_some o ≡ true
        → IsLocal Exact Sure (unary_by m deeper o x) (unary_by m' deeper' o x)
    go (Some o) is = unary_by_local turns below o x
    go None is = absurd (false≢true is)

-- where an expression is too deep already
none_taken : (b : Bool) (l : List Lexeme) → IsNotDone {A = Expr} (too_deep b l)
none_taken true l = tt
none_taken false l = tt

no_expr_never : (l : List Lexeme) → IsNotDone (no_expr l)
no_expr_never l = none_taken (begins_expr (head_kind l)) l

no_expr_begun : (x : Lexeme) (rest : List Lexeme) → begins_expr x.kind ≡ true → no_expr (x ∷ rest)
    ≡ Deep rest
no_expr_begun x rest is = ap (λ b. too_deep b (x ∷ rest)) is

too_deep_at : (Exact Sure : Type 0) (x : Lexeme) (rest : List Lexeme) (b : Bool) →
    LocalAt Exact Sure {A = Expr} (too_deep b) (x ∷ rest) (too_deep b (x ∷ rest))
too_deep_at Exact Sure x rest true = (x, [], refl, λ sure others. tt)
too_deep_at Exact Sure x rest false = ([], refl, λ exact others head. tt)

no_expr_local : {Exact Sure : Type 0} → IsLocal Exact Sure no_expr no_expr
no_expr_local {Exact} {Sure} = local_by_where too_deep too_deep (kind_told begins_expr) go
  where
    go : (b : Bool) (l : List Lexeme) → begins_expr (head_kind l) ≡ b → LocalAt Exact Sure {A =
        Expr} (too_deep b) l (too_deep b l)
    go true [] is = absurd (false≢true is)
    go false [] is = ([], refl, λ exact others head. tt)
    go b (x ∷ rest) is = too_deep_at Exact Sure x rest b

no_levels_local : {Exact Sure : Type 0} → AreLocal Exact Sure no_levels no_levels
no_levels_local = record {
  unary = no_expr_local;
  term = no_expr_local;
  sum = no_expr_local;
  comp =
      no_expr_local;
  conj = no_expr_local;
  expr = no_expr_local;
}

levels_none_local : {Exact Sure : Type 0} {m m' : ℕ} → Turns Exact m m'
    → AreLocal Exact Sure (levels m zero) (levels m' zero)
levels_none_local turns = over_local 0 turns no_expr_local no_levels_local

levels_none : (m : ℕ) → IsNone (levels m zero).expr
levels_none m = record { begun = begun; never = never }
  where
    begun : (x : Lexeme) (rest : List Lexeme) → begins_expr x.kind ≡ true
        → (levels m zero).expr (x ∷ rest) ≡ Deep rest
    begun x rest is =
        ap (λ o. and_then
        (and_then
        (and_then (and_then (and_then o (chain m 0 term_op no_expr)) (chain m 0 sum_op no_expr))
        (once 0 comp_op no_expr)) (chain m 0 and_op no_expr)) (chain m 0 or_op no_expr))
        (no_expr_begun x rest is)

    never : (l : List Lexeme) → IsNotDone ((levels m zero).expr l)
    never l = not_done_passed (chain m 0 or_op no_expr) ((levels m zero).conj l)
        (not_done_passed (chain m 0 and_op no_expr) ((levels m zero).comp l)
        (not_done_passed (once 0 comp_op no_expr) ((levels m zero).sum l)
        (not_done_passed (chain m 0 sum_op no_expr) ((levels m zero).term l)
        (not_done_passed (chain m 0 term_op no_expr) (no_expr l) (no_expr_never l)))))

-- what is made of one that is never done
never_made : {A B : Type 0} (f : A → B) (o : Outcome A) → IsNotDone o → IsNotDone (made f o)
never_made f (Done tree rest) h = absurd h
never_made f (Wrong rest) h = tt
never_made f (Deep rest) h = tt

never_then : {A B : Type 0} (o : Outcome A) (q : A → Reader B)
    → ((tree : A) (l : List Lexeme) → IsNotDone (q tree l)) → IsNotDone (and_then o q)
never_then (Done tree rest) q h = h tree rest
never_then (Wrong rest) q h = tt
never_then (Deep rest) q h = tt

below_none : {Exact Sure : Type 0} {m m' : ℕ} → Turns Exact m m'
    → AreBelow Exact Sure m m' (levels m zero) (levels m' zero)
below_none {Exact} {Sure} {m} {m'} turns = record {
  all = levels_none_local turns;
  reduced =
      λ f. local_never (local_then (bracket_local m m' (levels m zero).expr (levels m' zero).expr
      region) (λ over. local_made (f over) no_expr_local))
      (λ l. never_then (bracket m' (levels m' zero).expr l) (λ over rest.
      made (f over) (no_expr rest)) (λ over rest.
      never_made (f over) (no_expr rest) (no_expr_never rest)));
  flooded =
      λ f. local_never (local_then (in_bracket_local m m' (levels m zero).expr (levels m' zero).expr
      region) (λ source. local_made (f source) no_expr_local))
      (λ l. never_then (in_bracket m' (levels m' zero).expr l) (λ source rest.
      made (f source) (no_expr rest)) (λ source rest. never_made (f source) (no_expr rest)
      (no_expr_never rest)));
}
  where
    region : IsLocal Exact ⊥ (inner m (levels m zero).expr) (inner m' (levels m' zero).expr)
    region = inner_none (levels m zero).expr (levels m' zero).expr (levels_none m)
        (levels_none_local turns).expr m m' turns

below_ready : {Exact Sure : Type 0} {m m' : ℕ} {these others : Levels} → Turns Exact m m'
    → AreLocal Exact Sure these others → IsReady Exact Sure these.expr others.expr →
    AreBelow Exact Sure m m' these others
below_ready {Exact} {Sure} {m} {m'} {these} {others} turns all ready = record {
  all = all;
  reduced = λ f. local_then (bracket_local m m' these.expr others.expr (inner_local ready turns))
      (λ over. local_made (f over) all.unary);
  flooded = λ f. local_then (in_bracket_local m m' these.expr others.expr (inner_local ready turns))
      (λ source. local_made (f source) all.unary);
}

levels_over_local : {Exact Sure : Type 0} {m m' : ℕ} → Turns Exact m m' → (deep : ℕ)
    → AreBelow Exact Sure m m' (levels m deep) (levels m' deep) →
    AreLocal Exact Sure (levels m (suc deep)) (levels m' (suc deep))
levels_over_local turns deep below = over_local deep turns (unary_local turns below) below.all

levels_over_ready : {Exact Sure : Type 0} {m m' : ℕ} → Turns Exact m m' → (deep : ℕ)
    → AreBelow Exact Sure m m' (levels m deep) (levels m' deep) →
    IsReady Exact Sure (levels m (suc deep)).expr (levels m' (suc deep)).expr
levels_over_ready {m = m} {m' = m'} turns deep below = record {
  whole = (levels_over_local turns deep below).expr;
  after = λ x is. over_behind deep (unary_over m (levels m deep)) (unary_over m' (levels m' deep))
      turns x (unary_behind turns below x is) below.all;
}

levels_below : {Exact Sure : Type 0} {m m' : ℕ} → Turns Exact m m' → (deep : ℕ)
    → AreBelow Exact Sure m m' (levels m deep) (levels m' deep)
levels_below turns zero = below_none turns
levels_below turns (suc deep) =
    below_ready turns (levels_over_local turns deep (levels_below turns deep))
    (levels_over_ready turns deep (levels_below turns deep))

-- the rule of expressions of each depth above 0
pub levels_ready : {Exact Sure : Type 0} {m m' : ℕ} → Turns Exact m m' → (deep : ℕ)
    → IsReady Exact Sure (levels m (suc deep)).expr (levels m' (suc deep)).expr
levels_ready turns deep = levels_over_ready turns deep (levels_below turns deep)
