-- How the rules of what stands in expressions are complete, given that the rule of expressions is
-- for those within.
use Rattle.std.proofs.Common.{◌≡◌, ℕ, suc, zero, ◌<◌, ◌≤◌, max, nat_le, Bool, true, false, IsTrue, List, [], ◌∷◌, ◌++◌, map, length, None, ◌⊎◌, inl, inr, refl, ap, arith}
use Rattle.std.specs.Bool.{⊤}
use Rattle.std.specs.List.{flat_map}
use Rattle.std.proofs.lemmas.Bool.Decides.{nat_tests}
use Rattle.zpl_nums.specs.declared.operators.Op.TheVariants as op
use Rattle.zpl_nums.specs.declared.folds.Fold.{Fold}
use Rattle.zpl_nums.specs.declared.folds.Fold.TheVariants as fold
use Rattle.zpl_tokens.specs.declared.Kind.TheVariants as kind
use Rattle.zpl_tokens.specs.declared.symbols.Sym.{Sym}
use Rattle.zpl_tokens.specs.declared.symbols.Sym.TheVariants as sym
use Rattle.zpl_tree.specs.Word.{Word}
use Rattle.zpl_tree.specs.Word as word
use Rattle.zpl_tree.specs.Syntax.{Name, Pre, RegionBase, NamedRegion, Ditto, Expr, Number, Truth, Coord, Named, Shifted, Around, Remap, Call, Paren, Neg, Not, Abs, Pair, Reduce, Scan, Flood, Exprs, NoExpr, ThenExpr, Dir, NamedDir, Vector, Inner, Rexpr, Dims, Bracket, NoBracket, Bracketed, Posts, NoPost, ThenPost, DimText, Blank, Star, One, Span, DimTexts, NoDim, ThenDim}
use Rattle.zpl_tree.specs.Depth.{expr_depth, exprs_depth, dir_depth, inner_depth, bracket_depth, posts_depth, dim_depth, dims_depth}
use Rattle.zpl_tree.specs.Shape.{pre_shape, base_shape, exprs_shape, dir_shape, inner_shape, bracket_shape, posts_shape, dim_shape, dims_shape}
use Rattle.zpl_tree.specs.Spelling.{expr_words, exprs_words, more_exprs, dir_words, inner_words, bracket_words, posts_words, dim_words, dims_words, more_dims, pre_words, base_words, fold_words, index_words, along_words}
use Rattle.zpl_tree.specs.Grammar.{IsExpr, HasExpr, IsMoreThanName, HasDims, AreDims, left_level}
use Rattle.zpl_grammar.specs.Lexeme.{Lexeme, head_kind, second_kind}
use Rattle.zpl_parse.specs.Outcome.{Outcome, and_then, made}
use Rattle.zpl_parse.specs.Classes.{closes_dim, closes_region, follows_region, outside_of, stride_of}
use Rattle.zpl_parse.specs.Tokens.{next_is, symbol}
use Rattle.zpl_parse.specs.Expressions.{levels, exprs, actuals, components, dir, posts, region_base, rexpr, bounds, dim_text, dim_texts, begins_region, inner, in_bracket, bracket}
use Rattle.zpl_parse.proofs.Complete.Base.{Begins, none, more, Split, split, split_at, shorter, Reads, read, weigh, made_reads, then_reads, symbol_reads, at_head}
use Rattle.zpl_parse.proofs.Complete.Levels.{StopsWhole, Opens, is_star, OpensAt, ReadsAt, Whole}

abbrev pub SameExprs : Exprs → Exprs → Type 0
SameExprs t made = exprs_shape made ≡ exprs_shape t

abbrev pub SameDir : Dir → Dir → Type 0
SameDir t made = dir_shape made ≡ dir_shape t

abbrev pub SameInner : Inner → Inner → Type 0
SameInner t made = inner_shape made ≡ inner_shape t

abbrev pub SameBracket : Bracket → Bracket → Type 0
SameBracket t made = bracket_shape made ≡ bracket_shape t

abbrev pub SamePosts : Posts → Posts → Type 0
SamePosts t made = posts_shape made ≡ posts_shape t

abbrev pub SameDim : DimText → DimText → Type 0
SameDim t made = dim_shape made ≡ dim_shape t

abbrev pub SameDims : DimTexts → DimTexts → Type 0
SameDims t made = dims_shape made ≡ dims_shape t

-- what a region expression is made of
abbrev pub SameBase : List Pre → RegionBase → List Pre × RegionBase → Type 0
SameBase pre base those = (map pre_shape those.0 ≡ map pre_shape pre) ×
    (base_shape those.1 ≡ base_shape base)

-- lexemes that begin no region expression
abbrev pub NoRegion : List Lexeme → Type 0
NoRegion lexemes = begins_region (head_kind lexemes) (second_kind lexemes) ≡ false

-- what may stand behind a dimension
pub record DimEnds (rest : List Lexeme) : Type 0 where
  pub closes : closes_dim (head_kind rest) ≡ true
  pub stops : StopsWhole rest
  pub dots : next_is (kind.Symbol sym.DotDot) rest ≡ false

-- what may stand behind a region expression
pub record RegionEnds (rest : List Lexeme) : Type 0 where
  pub outside : outside_of (head_kind rest) ≡ None
  pub stride : stride_of (head_kind rest) ≡ None

-- what may stand behind a region in a bracket
pub record InnerEnds (rest : List Lexeme) : Type 0 where
  pub dim : DimEnds rest
  pub region : RegionEnds rest
  pub closes : closes_region (head_kind rest) ≡ true
  pub follows : follows_region (head_kind rest) ≡ true
  pub comma : next_is (kind.Symbol sym.Comma) rest ≡ false
  pub plain : NoRegion rest

-- the expression is more than a name, or no region goes on behind it
abbrev pub IsFree : Expr → List Lexeme → Type 0
IsFree t rest = (follows_region (head_kind rest) ≡ false) ⊎ IsMoreThanName t

module _ (most : ℕ) where
  free_fold : (operator : Fold) (s : Sym) (inner outer : List Word) {xs rest : List Lexeme}
      → Begins most (((fold_words operator ++ word.Symbol s ∷ []) ++ inner) ++ outer) xs rest
      → NoRegion xs
  free_fold fold.Sum s inner outer (more w bytes at bound b) = refl
  free_fold fold.Prod s inner outer (more w bytes at bound b) = refl
  free_fold fold.Max s inner outer (more w bytes at bound b) = refl
  free_fold fold.Min s inner outer (more w bytes at bound b) = refl
  free_fold fold.All s inner outer (more w bytes at bound b) = refl
  free_fold fold.Any s inner outer (more w bytes at bound b) = refl

  free_coord : (dimension : ℕ) {xs rest : List Lexeme} → IsTrue (nat_le 1 dimension)
      → IsTrue (nat_le dimension 3) → Begins most (index_words dimension) xs rest → NoRegion xs
  free_coord zero low high b = absurd (cc)
  free_coord (suc zero) low high (more w bytes at bound b) = refl
  free_coord (suc (suc zero)) low high (more w bytes at bound b) = refl
  free_coord (suc (suc (suc zero))) low high (more w bytes at bound b) = refl
  free_coord (suc (suc (suc (suc above)))) low high b = absurd (grind (arith, nat_tests))

  abbrev pub FreeAt : Expr → Type 0
  FreeAt t = (xs rest : List Lexeme) → Begins most (expr_words t) xs rest → IsFree t rest
      → NoRegion xs

  -- what begins with an operand begins so
  free_left : (left : Expr) (s : Sym) (words : List Word) → FreeAt left
      → follows_region (kind.Symbol s) ≡ false → (xs rest : List Lexeme) →
      Begins most ((expr_words left ++ word.Symbol s ∷ []) ++ words) xs rest → NoRegion xs
  free_left left s words free is xs rest b =
      let parts : Split most (expr_words left) (word.Symbol s ∷ words) xs rest =
      split_at (expr_words left) (word.Symbol s) words b in
      free xs parts.middle parts.first (inl (at_head (λ those. follows_region (head_kind those)
      ≡ false) (λ bytes at others. is) parts.then))

  -- an expression that is more than a name, or behind which no region goes on, begins no region
  -- expression
  pub free_at : (level : ℕ) (t : Expr) → IsExpr level t → FreeAt t
  free_at level (Named at name) is xs rest (more w bytes place bound (none limit)) (inl e) = e
  free_at level (Named at name) is xs rest b (inr h) = absurd h
  free_at level (Number at value) is xs rest (more w bytes place bound b) free = refl
  free_at level (Truth at true) is xs rest (more w bytes place bound b) free = refl
  free_at level (Truth at false) is xs rest (more w bytes place bound b) free = refl
  free_at level (Coord at dimension) is xs rest b free = free_coord dimension is.0 is.1 b
  free_at level (Shifted at name shift) is xs rest
      (more w bytes place bound (more v other where_at limit b)) free = refl
  free_at level (Around at name shift) is xs rest
      (more w bytes place bound (more v other where_at limit b)) free = refl
  free_at level (Remap at name indices) is xs rest
      (more w bytes place bound (more v other where_at limit b)) free = refl
  free_at level (Call at name actuals) is xs rest
      (more w bytes place bound (more v other where_at limit b)) free = refl
  free_at level (Reduce at operator over operand) is xs rest b free =
      free_fold operator sym.Reduce (bracket_words over) (expr_words operand) b
  free_at level (Scan at operator along operand) is xs rest b free =
      free_fold operator sym.Scan (along_words along) (expr_words operand) b
  free_at level (Paren at inside) is xs rest (more w bytes place bound b) free = refl
  free_at level (Neg at operand) is xs rest (more w bytes place bound b) free = refl
  free_at level (Not at operand) is xs rest (more w bytes place bound b) free = refl
  free_at level (Abs at operand) is xs rest (more w bytes place bound b) free = refl
  free_at level (Flood at source operand) is xs rest (more w bytes place bound b) free = refl
  free_at level (Pair at op.Max left right) is xs rest (more w bytes place bound b) free = refl
  free_at level (Pair at op.Min left right) is xs rest (more w bytes place bound b) free = refl
  free_at level (Pair at op.Add left right) is xs rest b free =
      free_left left sym.Plus (expr_words right) (free_at (left_level op.Add) left is.1) refl xs
      rest b
  free_at level (Pair at op.Sub left right) is xs rest b free =
      free_left left sym.Minus (expr_words right) (free_at (left_level op.Sub) left is.1) refl xs
      rest b
  free_at level (Pair at op.Mul left right) is xs rest b free =
      free_left left sym.Star (expr_words right) (free_at (left_level op.Mul) left is.1) refl xs
      rest b
  free_at level (Pair at op.Div left right) is xs rest b free =
      free_left left sym.Slash (expr_words right) (free_at (left_level op.Div) left is.1) refl xs
      rest b
  free_at level (Pair at op.Rem left right) is xs rest b free =
      free_left left sym.Percent (expr_words right) (free_at (left_level op.Rem) left is.1) refl xs
      rest b
  free_at level (Pair at op.Eq left right) is xs rest b free =
      free_left left sym.Equal (expr_words right) (free_at (left_level op.Eq) left is.1) refl xs
      rest b
  free_at level (Pair at op.Ne left right) is xs rest b free =
      free_left left sym.NotEqual (expr_words right) (free_at (left_level op.Ne) left is.1) refl xs
      rest b
  free_at level (Pair at op.Lt left right) is xs rest b free =
      free_left left sym.Less (expr_words right) (free_at (left_level op.Lt) left is.1) refl xs rest
      b
  free_at level (Pair at op.Le left right) is xs rest b free =
      free_left left sym.LessEqual (expr_words right) (free_at (left_level op.Le) left is.1) refl xs
      rest b
  free_at level (Pair at op.Gt left right) is xs rest b free =
      free_left left sym.Greater (expr_words right) (free_at (left_level op.Gt) left is.1) refl xs
      rest b
  free_at level (Pair at op.Ge left right) is xs rest b free =
      free_left left sym.GreaterEqual (expr_words right) (free_at (left_level op.Ge) left is.1) refl
      xs rest b
  free_at level (Pair at op.And left right) is xs rest b free =
      free_left left sym.And (expr_words right) (free_at (left_level op.And) left is.1) refl xs rest
      b
  free_at level (Pair at op.Or left right) is xs rest b free =
      free_left left sym.Or (expr_words right) (free_at (left_level op.Or) left is.1) refl xs rest b

star_skips : {S : DimText → Type 0} {rest : List Lexeme} {n d : ℕ} (a b : Bool)
    (starred plain : Outcome DimText) → is_star a b ≡ false → Reads S rest n d plain →
    Reads S rest n d (elim a [ true ↦ elim b [ true ↦ starred | false ↦ plain ] | false ↦ plain ])
star_skips true true starred plain e h = absurd (cc)
star_skips true false starred plain e h = h
star_skips false b starred plain e h = h

open_dim : {S : DimText → Type 0} {rest : List Lexeme} {n d : ℕ} (most budget : ℕ)
    (xs : List Lexeme) → Opens xs → Reads S rest n d (bounds (levels most budget).expr xs)
    → Reads S rest n d (dim_text (levels most budget).expr xs)
open_dim most budget xs opens h =
    rw (opens.dim, dim_text) (star_skips (next_is (kind.Symbol sym.Star) xs)
    (closes_dim (second_kind xs)) _ (bounds (levels most budget).expr xs) opens.star h)

-- there is a dimension
abbrev pub HasSome : DimTexts → Type 0
HasSome NoDim = ⊥
HasSome (ThenDim first rest) = ⊤

zero_fits : (n : ℕ) → 0 ≤ n
zero_fits n = omega arith

-- what is complete for the parts of an expression
module _ (most : ℕ) where
  abbrev pub ExprsAt : Exprs → Type 0
  ExprsAt t = (budget turns : ℕ) (xs rest : List Lexeme) → Begins most (exprs_words t) xs rest
      → length xs < turns → StopsWhole rest → next_is (kind.Symbol sym.Comma) rest ≡ false →
      Reads (SameExprs t) rest (exprs_depth t) budget (exprs turns (levels most budget).expr xs)

  abbrev pub DirAt : Dir → Type 0
  DirAt t = (budget turns : ℕ) (xs rest : List Lexeme) → Begins most (dir_words t) xs rest
      → length xs < turns
      → Reads (SameDir t) rest (dir_depth t) budget (dir turns (levels most budget).expr xs)

  abbrev pub InnerAt : Inner → Type 0
  InnerAt t = (budget turns : ℕ) (xs rest : List Lexeme) → Begins most (inner_words t) xs rest
      → length xs < turns → InnerEnds rest
      → Reads (SameInner t) rest (inner_depth t) budget (inner turns (levels most budget).expr xs)

  abbrev pub BracketAt : Bracket → Type 0
  BracketAt t = (budget turns : ℕ) (xs rest : List Lexeme) → Begins most (bracket_words t) xs rest
      → length xs < turns → next_is (kind.Symbol sym.OpenBracket) rest ≡ false →
      Reads (SameBracket t) rest (bracket_depth t) budget (bracket turns (levels most budget).expr
      xs)

  abbrev pub PostsAt : Posts → Type 0
  PostsAt t = (budget turns : ℕ) (xs rest : List Lexeme) → Begins most (posts_words t) xs rest
      → length xs < turns → stride_of (head_kind rest) ≡ None →
      Reads (SamePosts t) rest (posts_depth t) budget (posts turns (levels most budget).expr xs)

  abbrev pub DimAt : DimText → Type 0
  DimAt t = (budget : ℕ) (xs rest : List Lexeme) → Begins most (dim_words t) xs rest → DimEnds rest
      → Reads (SameDim t) rest (dim_depth t) budget (dim_text (levels most budget).expr xs)

  abbrev pub DimsAt : DimTexts → Type 0
  DimsAt t = (budget turns : ℕ) (xs rest : List Lexeme) → Begins most (dims_words t) xs rest
      → length xs < turns → InnerEnds rest →
      Reads (SameDims t) rest (dims_depth t) budget (dim_texts turns (levels most budget).expr xs)

module _ {most : ℕ} where
  exprs_last : (first : Expr) → ReadsAt most Whole first
      → (budget turns : ℕ) (xs middle rest : List Lexeme) → Begins most (expr_words first) xs middle
      → Begins most [] middle rest → StopsWhole rest → next_is (kind.Symbol sym.Comma) rest
      ≡ false →
      Reads (SameExprs (ThenExpr first NoExpr)) rest (max (expr_depth first) 0) budget
      (exprs (suc turns) (levels most budget).expr xs)
  exprs_last first h budget turns xs middle rest b (none bound) stops comma =
      then_reads _ (h budget xs rest b stops) (λ value same.
      rw comma (read (ThenExpr value NoExpr) (omega arith) (ap (λ shape. ThenExpr shape NoExpr)
      same)))

  exprs_more : (first second : Expr) (others : Exprs) → ReadsAt most Whole first
      → ExprsAt most (ThenExpr second others) → (budget turns : ℕ) (xs middle rest : List Lexeme)
      → Begins most (expr_words first) xs middle →
      Begins most (more_exprs (ThenExpr second others)) middle rest → length xs < suc turns
      → StopsWhole rest → next_is (kind.Symbol sym.Comma) rest ≡ false →
      Reads (SameExprs (ThenExpr first (ThenExpr second others))) rest
      (max (expr_depth first) (exprs_depth (ThenExpr second others))) budget
      (exprs (suc turns) (levels most budget).expr xs)
  exprs_more first second others h k budget turns xs middle rest b (more w bytes place bound c)
      short stops comma =
      let fewer = shorter b in
      then_reads _ (h budget xs _ b refl)
      (λ value same. made_reads (ThenExpr value) (λ rest alike. cc)
      (k budget turns _ rest c (omega arith) stops comma))

  pub exprs_at : (first : Expr) (others : Exprs) → ReadsAt most Whole first
      → (HasExpr others → ExprsAt most others) → ExprsAt most (ThenExpr first others)
  exprs_at first others h k budget zero xs rest b short stops comma = absurd (omega arith)
  exprs_at first NoExpr h k budget (suc turns) xs rest b short stops comma =
      let parts : Split most (expr_words first) [] xs rest = split (expr_words first) [] b in
      exprs_last first h budget turns xs parts.middle rest parts.first parts.then stops comma
  exprs_at first (ThenExpr second others) h k budget (suc turns) xs rest b short stops comma =
      let parts : Split most (expr_words first) (more_exprs (ThenExpr second others)) xs rest =
      split (expr_words first) (more_exprs (ThenExpr second others)) b in
      exprs_more first second others h (k tt) budget turns xs parts.middle rest parts.first
      parts.then short stops comma

  -- in brackets of either kind
  pub actuals_at : (those : Exprs) → (HasExpr those → (xs rest : List Lexeme)
      → Begins most (exprs_words those) xs rest → Opens xs) → (HasExpr those → ExprsAt most those) →
      (budget turns : ℕ) (xs rest : List Lexeme)
      → Begins most (exprs_words those ++ word.Symbol sym.CloseParen ∷ []) xs rest
      → length xs < turns →
      Reads (SameExprs those) rest (exprs_depth those) budget
      (actuals turns (levels most budget).expr xs)
  actuals_at NoExpr opens h budget turns xs rest (more w bytes place bound (none limit)) short =
      read NoExpr (omega arith) refl
  actuals_at (ThenExpr first others) opens h budget turns xs rest b short =
      let parts : Split most (exprs_words (ThenExpr first others)) (word.Symbol sym.CloseParen ∷
      []) xs rest = split (exprs_words (ThenExpr first others)) (word.Symbol sym.CloseParen ∷
      []) b in
      let opened : Opens xs = opens tt xs parts.middle parts.first in
      rw (opened.paren, actuals) (weigh (λ k. omega arith) (λ k. omega arith)
      (then_reads _ (h tt budget turns xs parts.middle parts.first short
      (at_head StopsWhole (λ bytes at others. refl) parts.then)
      (at_head (λ rest. next_is (kind.Symbol sym.Comma) rest ≡ false) (λ bytes at others. refl)
      parts.then))
      (λ value same. made_reads (λ at. value) (λ at any. same) (symbol_reads sym.CloseParen {d =
      budget} parts.then))))

  pub components_at : (those : Exprs) → ExprsAt most those →
      (budget turns : ℕ) (xs rest : List Lexeme)
      → Begins most (exprs_words those ++ word.Symbol sym.CloseBracket ∷ []) xs rest
      → length xs < turns →
      Reads (SameExprs those) rest (exprs_depth those) budget
      (components turns (levels most budget).expr xs)
  components_at those h budget turns xs rest b short =
      let parts : Split most (exprs_words those) (word.Symbol sym.CloseBracket ∷ []) xs rest =
      split (exprs_words those) (word.Symbol sym.CloseBracket ∷ []) b in
      weigh (λ k. omega arith) (λ k. omega arith)
      (then_reads _ (h budget turns xs parts.middle parts.first short
      (at_head StopsWhole (λ bytes at others. refl) parts.then)
      (at_head (λ rest. next_is (kind.Symbol sym.Comma) rest ≡ false) (λ bytes at others. refl)
      parts.then))
      (λ value same. made_reads (λ at. value) (λ at any. same) (symbol_reads sym.CloseBracket {d =
      budget} parts.then)))

  -- a direction
  pub named_dir_at : (name : Name) → DirAt most (NamedDir name)
  named_dir_at name budget turns xs rest (more w bytes place bound (none limit)) short =
      read (NamedDir (record { text = name.text; at = place })) (omega arith) refl

  pub vector_at : (those : Exprs) → ExprsAt most those → DirAt most (Vector those)
  vector_at those h budget turns xs rest (more w bytes place bound b) short =
      made_reads Vector (λ value same. ap Vector same) (components_at those h budget turns _ rest b
      (omega arith))

  -- what stands behind a region
  posts_stop : (those : Posts) {xs rest : List Lexeme} → Begins most (posts_words those) xs rest
      → outside_of (head_kind rest) ≡ None → outside_of (head_kind xs) ≡ None
  posts_stop NoPost (none bound) e = e
  posts_stop (ThenPost true way others) (more w bytes place bound b) e = refl
  posts_stop (ThenPost false way others) (more w bytes place bound b) e = refl

  post_at : (stride : Bool) (way : Dir) (others : Posts) → DirAt most way → PostsAt most others
      → (budget turns : ℕ) (xs rest : List Lexeme)
      → Begins most (dir_words way ++ posts_words others) xs rest → length xs < turns
      → stride_of (head_kind rest) ≡ None →
      Reads (SamePosts (ThenPost stride way others)) rest (posts_depth (ThenPost stride way others))
      budget (and_then (dir turns (levels most budget).expr xs) (λ way rest.
      made (ThenPost stride way) (posts turns (levels most budget).expr rest)))
  post_at stride way others h k budget turns xs rest b short ends =
      let parts : Split most (dir_words way) (posts_words others) xs rest =
      split (dir_words way) (posts_words others) b in
      let fewer = shorter parts.first in
      then_reads _ (h budget turns xs parts.middle parts.first short) (λ value same.
      made_reads (ThenPost stride value) (λ those alike. cc)
      (k budget turns parts.middle rest parts.then (omega arith) ends))

  pub posts_at : (stride : Bool) (way : Dir) (others : Posts) → DirAt most way → PostsAt most others
      → PostsAt most (ThenPost stride way others)
  posts_at stride way others h k budget zero xs rest b short ends = absurd (omega arith)
  posts_at true way others h k budget (suc turns) xs rest (more w bytes place bound b) short ends =
      post_at true way others h k budget turns _ rest b (omega arith) ends
  posts_at false way others h k budget (suc turns) xs rest (more w bytes place bound b) short ends =
      post_at false way others h k budget turns _ rest b (omega arith) ends

  pub no_posts_at : PostsAt most NoPost
  no_posts_at budget zero xs rest b short ends = absurd (omega arith)
  no_posts_at budget (suc turns) xs rest (none bound) short ends =
      rw (ends, posts) (read NoPost (omega arith) refl)

  pre_at : (way : Name) (outside : Bool) (pre : List Pre) (base : RegionBase) (budget turns : ℕ)
      (xs rest : List Lexeme) →
      ((others : List Lexeme) → Begins most (flat_map pre_words pre ++ base_words base) others rest
      → length others < turns
      → Reads (SameBase pre base) rest 0 budget (region_base turns others)) →
      Begins most ((pre_words (record { dir = way; outside = outside }) ++ flat_map pre_words pre)
      ++ base_words base) xs rest → length xs < suc turns →
      Reads (SameBase (record { dir = way; outside = outside } ∷ pre) base) rest 0 budget
      (region_base (suc turns) xs)
  pre_at way true pre base budget turns xs rest h
      (more w bytes place bound (more v other where_at limit b)) short =
      made_reads (λ others. (
        record {
          dir = record { text = way.text; at = place };
          outside =
              true;
        } ∷ others.0,
        others.1,
      )) (λ others same.
      (ap (λ those. pre_shape (record { dir = way; outside = true }) ∷ those) same.0, same.1))
      (h _ b (omega arith))
  pre_at way false pre base budget turns xs rest h
      (more w bytes place bound (more v other where_at limit b)) short =
      made_reads (λ others. (
        record {
          dir = record { text = way.text; at = place };
          outside =
              false;
        } ∷ others.0,
        others.1,
      )) (λ others same.
      (ap (λ those. pre_shape (record { dir = way; outside = false }) ∷ those) same.0, same.1))
      (h _ b (omega arith))

  pub region_base_at : (pre : List Pre) (base : RegionBase) (budget turns : ℕ)
      (xs rest : List Lexeme) → Begins most (flat_map pre_words pre ++ base_words base) xs rest
      → length xs < turns → outside_of (head_kind rest) ≡ None →
      Reads (SameBase pre base) rest 0 budget (region_base turns xs)
  region_base_at pre base budget zero xs rest b short ends = absurd (omega arith)
  region_base_at [] (NamedRegion name) budget (suc turns) xs rest
      (more w bytes place bound (none limit)) short ends =
      rw (
        ends,
        region_base,
        and_then,
      ) (read ([], NamedRegion (record { text = name.text; at = place })) (omega arith)
      (refl, refl))
  region_base_at [] (Ditto at) budget (suc turns) xs rest (more w bytes place bound (none limit))
      short ends = read ([], Ditto place) (omega arith) (refl, refl)
  region_base_at (first ∷ pre) base budget (suc turns) xs rest b short ends =
      pre_at first.dir first.outside pre base budget turns xs rest (λ others c fewer.
      region_base_at pre base budget turns others rest c fewer ends) b short

  pub rexpr_at : (pre : List Pre) (base : RegionBase) (post : Posts) → PostsAt most post
      → (budget turns : ℕ) (xs rest : List Lexeme)
      → Begins most (inner_words (Rexpr pre base post)) xs rest → length xs < turns
      → RegionEnds rest →
      Reads (SameInner (Rexpr pre base post)) rest (posts_depth post) budget
      (rexpr turns (levels most budget).expr xs)
  rexpr_at pre base post h budget turns xs rest b short ends =
      let parts : Split most (flat_map pre_words pre ++ base_words base) (posts_words post) xs rest
      = split (flat_map pre_words pre ++ base_words base) (posts_words post) b in
      let fewer = shorter parts.first in
      weigh {n = max 0 (posts_depth post)} {d =
      budget} (λ k. omega arith) (λ k. omega arith)
      (then_reads _ (region_base_at pre base budget turns xs parts.middle parts.first short
      (posts_stop post parts.then ends.outside))
      (λ value same. made_reads (Rexpr value.0 value.1) (λ those alike. cc (same.0, same.1))
      (h budget turns parts.middle rest parts.then (omega arith) ends.stride)))

  -- a dimension
  one_dim : (index : Expr) → ReadsAt most Whole index → (budget : ℕ) (xs rest : List Lexeme)
      → Begins most (expr_words index) xs rest → DimEnds rest →
      Reads (SameDim (One index)) rest (expr_depth index) budget
      (bounds (levels most budget).expr xs)
  one_dim index h budget xs rest b ends =
      weigh {n = max (expr_depth index) 0} {d =
      budget} (λ k. omega arith) (λ k. omega arith)
      (then_reads _ (h budget xs rest b ends.stops) (λ value same.
      rw (ends.dots) (read (One value) (zero_fits budget) (ap One same))))

  span_dim : (low high : Expr) → ReadsAt most Whole low → ReadsAt most Whole high
      → (budget : ℕ) (xs middle rest : List Lexeme) → Begins most (expr_words low) xs middle
      → Begins most (word.Symbol sym.DotDot ∷ expr_words high) middle rest → DimEnds rest →
      Reads (SameDim (Span low high)) rest (max (expr_depth low) (expr_depth high)) budget
      (bounds (levels most budget).expr xs)
  span_dim low high h k budget xs middle rest b (more w bytes place bound c) ends =
      then_reads _ (h budget xs _ b refl) (λ value same. made_reads (Span value) (λ other alike. cc)
      (k budget _ rest c ends.stops))

  pub blank_at : (at : ℕ) → DimAt most (Blank at)
  blank_at at budget xs rest (none bound) ends =
      rw (ends.closes, dim_text) (read (Blank _) (zero_fits budget) refl)

  pub star_at : (at : ℕ) → DimAt most (Star at)
  star_at at budget xs rest (more w bytes place bound (none limit)) ends =
      rw (ends.closes, dim_text) (read (Star place) (zero_fits budget) refl)

  pub one_at : (index : Expr) → OpensAt most index → ReadsAt most Whole index
      → DimAt most (One index)
  one_at index opens h budget xs rest b ends =
      open_dim most budget xs (opens xs rest b) (one_dim index h budget xs rest b ends)

  pub span_at : (low high : Expr) → OpensAt most low → ReadsAt most Whole low
      → ReadsAt most Whole high → DimAt most (Span low high)
  span_at low high opens h k budget xs rest b ends =
      let parts : Split most (expr_words low) (word.Symbol sym.DotDot ∷ expr_words high) xs rest =
      split_at (expr_words low) (word.Symbol sym.DotDot) (expr_words high) b in
      open_dim most budget xs (opens xs parts.middle parts.first)
      (span_dim low high h k budget xs parts.middle rest parts.first parts.then ends)

  -- dimensions, with a bracket's end behind them
  dims_last : (first : DimText) → DimAt most first
      → (budget turns : ℕ) (xs middle rest : List Lexeme) → Begins most (dim_words first) xs middle
      → Begins most [] middle rest → InnerEnds rest →
      Reads (SameDims (ThenDim first NoDim)) rest (max (dim_depth first) 0) budget
      (dim_texts (suc turns) (levels most budget).expr xs)
  dims_last first h budget turns xs middle rest b (none bound) ends =
      then_reads _ (h budget xs rest b ends.dim) (λ value same.
      rw (ends.comma) (read (ThenDim value NoDim) (zero_fits budget)
      (ap (λ shape. ThenDim shape NoDim) same)))

  dims_more : (first second : DimText) (others : DimTexts) → DimAt most first
      → DimsAt most (ThenDim second others) → (budget turns : ℕ) (xs middle rest : List Lexeme)
      → Begins most (dim_words first) xs middle →
      Begins most (more_dims (ThenDim second others)) middle rest → length xs < suc turns
      → InnerEnds rest →
      Reads (SameDims (ThenDim first (ThenDim second others))) rest
      (max (dim_depth first) (dims_depth (ThenDim second others))) budget
      (dim_texts (suc turns) (levels most budget).expr xs)
  dims_more first second others h k budget turns xs middle rest b (more w bytes place bound c) short
      ends =
      let fewer = shorter b in
      then_reads _ (h budget xs _ b (record { closes = refl; stops = refl; dots = refl }))
      (λ value same. made_reads (ThenDim value) (λ rest alike. cc)
      (k budget turns _ rest c (omega arith) ends))

  pub dims_at : (first : DimText) (others : DimTexts) → DimAt most first
      → (HasSome others → DimsAt most others) → DimsAt most (ThenDim first others)
  dims_at first others h k budget zero xs rest b short ends = absurd (omega arith)
  dims_at first NoDim h k budget (suc turns) xs rest b short ends =
      let parts : Split most (dim_words first) [] xs rest = split (dim_words first) [] b in
      dims_last first h budget turns xs parts.middle rest parts.first parts.then ends
  dims_at first (ThenDim second others) h k budget (suc turns) xs rest b short ends =
      let parts : Split most (dim_words first) (more_dims (ThenDim second others)) xs rest =
      split (dim_words first) (more_dims (ThenDim second others)) b in
      dims_more first second others h (k tt) budget turns xs parts.middle rest parts.first
      parts.then short ends

  -- what stands in a bracket is told apart by its first two words
  region_begins_pre : (way : Name) (outside : Bool) (one two three : List Word)
      {xs rest : List Lexeme}
      → Begins most (((pre_words (record { dir = way; outside = outside }) ++ one) ++ two) ++
      three) xs rest →
      begins_region (head_kind xs) (second_kind xs) ≡ true
  region_begins_pre way true one two three
      (more w bytes place bound (more v other where_at limit b)) = refl
  region_begins_pre way false one two three
      (more w bytes place bound (more v other where_at limit b)) = refl

  region_begins : (pre : List Pre) (base : RegionBase) (post : Posts) {xs rest : List Lexeme}
      → Begins most (inner_words (Rexpr pre base post)) xs rest → InnerEnds rest
      → begins_region (head_kind xs) (second_kind xs) ≡ true
  region_begins [] (Ditto at) post (more w bytes place bound b) ends = refl
  region_begins [] (NamedRegion name) NoPost (more w bytes place bound (none limit)) ends =
      ends.follows
  region_begins [] (NamedRegion name) (ThenPost true way others)
      (more w bytes place bound (more v other where_at limit b)) ends = refl
  region_begins [] (NamedRegion name) (ThenPost false way others)
      (more w bytes place bound (more v other where_at limit b)) ends = refl
  region_begins (first ∷ pre) base post b ends =
      region_begins_pre first.dir first.outside (flat_map pre_words pre) (base_words base)
      (posts_words post) b

  pub inner_rexpr_at : (pre : List Pre) (base : RegionBase) (post : Posts) → PostsAt most post
      → InnerAt most (Rexpr pre base post)
  inner_rexpr_at pre base post h budget turns xs rest b short ends =
      rw (region_begins pre base post b ends, inner) (rexpr_at pre base post h budget turns xs rest
      b short ends.region)

  span_free : (low high : Expr) (words : List Word) → IsExpr 0 low → (xs rest : List Lexeme)
      → Begins most (dim_words (Span low high) ++ words) xs rest → NoRegion xs
  span_free low high words is xs rest b =
      let parts : Split most (dim_words (Span low high)) words xs rest =
      split (dim_words (Span low high)) words b in
      let inside : Split most (expr_words low) (word.Symbol sym.DotDot ∷ expr_words high) xs
      parts.middle =
      split_at (expr_words low) (word.Symbol sym.DotDot) (expr_words high) parts.first in
      free_at most 0 low is xs inside.middle inside.first
      (inl (at_head (λ those. follows_region (head_kind those) ≡ false) (λ bytes at others.
      refl) inside.then))

  dims_free : (first : DimText) (others : DimTexts) → HasDims (ThenDim first others)
      → AreDims (ThenDim first others) → (xs rest : List Lexeme)
      → Begins most (dims_words (ThenDim first others)) xs rest → InnerEnds rest → NoRegion xs
  dims_free (Blank at) NoDim has are xs rest (none bound) ends = ends.plain
  dims_free (Blank at) (ThenDim second others) has are xs rest (more w bytes place bound b) ends =
      refl
  dims_free (Star at) others has are xs rest (more w bytes place bound b) ends = refl
  dims_free (One index) NoDim has are xs rest b ends =
      let parts : Split most (expr_words index) [] xs rest = split (expr_words index) [] b in
      free_at most 0 index are.0 xs parts.middle parts.first (inr has)
  dims_free (One index) (ThenDim second others) has are xs rest b ends =
      let parts : Split most (expr_words index) (more_dims (ThenDim second others)) xs rest =
      split (expr_words index) (more_dims (ThenDim second others)) b in
      free_at most 0 index are.0 xs parts.middle parts.first
      (inl (at_head (λ those. follows_region (head_kind those) ≡ false) (λ bytes at others.
      refl) parts.then))
  dims_free (Span low high) others has are xs rest b ends =
      span_free low high (more_dims others) are.0.0 xs rest b

  pub inner_dims_at : (those : DimTexts) → HasDims those → AreDims those
      → (HasSome those → DimsAt most those) → InnerAt most (Dims those)
  inner_dims_at NoDim has are h budget turns xs rest b short ends = absurd has
  inner_dims_at (ThenDim first others) has are h budget turns xs rest b short ends =
      rw (dims_free first others has are xs rest b ends, inner)
      (weigh {n = max (dims_depth (ThenDim first others)) 0} {d =
      budget} (λ k. omega arith) (λ k. omega arith)
      (then_reads _ (h tt budget turns xs rest b short ends) (λ value same.
      rw (ends.closes) (read (Dims value) (zero_fits budget) (ap Dims same)))))

  -- a bracket
  inner_in : (region : Inner) → InnerAt most region → (budget turns : ℕ) (xs rest : List Lexeme)
      → Begins most (inner_words region ++ word.Symbol sym.CloseBracket ∷ []) xs rest
      → length xs < turns →
      Reads (SameInner region) rest (inner_depth region) budget
      (and_then (inner turns (levels most budget).expr xs) (λ value after.
      made (λ end. value) (symbol sym.CloseBracket after)))
  inner_in region h budget turns xs rest b short =
      let parts : Split most (inner_words region) (word.Symbol sym.CloseBracket ∷ []) xs rest =
      split (inner_words region) (word.Symbol sym.CloseBracket ∷ []) b in
      weigh {n = max (inner_depth region) 0} {d =
      budget} (λ k. omega arith) (λ k. omega arith)
      (then_reads _ (h budget turns xs parts.middle parts.first short
      (at_head InnerEnds (λ bytes at others. record {
        dim = record { closes = refl; stops = refl; dots = refl };
        region = record { outside = refl; stride = refl };
        closes = refl;
        follows = refl;
        comma = refl;
        plain = refl;
      }) parts.then))
      (λ value same. made_reads (λ at. value) (λ at any. same) (symbol_reads sym.CloseBracket {d =
      budget} parts.then)))

  pub in_bracket_at : (region : Inner) → InnerAt most region
      → (budget turns : ℕ) (xs rest : List Lexeme)
      → Begins most (word.Symbol sym.OpenBracket ∷
      (inner_words region ++ word.Symbol sym.CloseBracket ∷ [])) xs rest → length xs < turns →
      Reads (SameInner region) rest (inner_depth region) budget
      (in_bracket turns (levels most budget).expr xs)
  in_bracket_at region h budget turns xs rest (more w bytes place bound b) short =
      inner_in region h budget turns _ rest b (omega arith)

  pub no_bracket_at : BracketAt most NoBracket
  no_bracket_at budget turns xs rest (none bound) short plain =
      rw (plain, bracket) (read NoBracket (zero_fits budget) refl)

  pub bracketed_at : (region : Inner) → InnerAt most region → BracketAt most (Bracketed region)
  bracketed_at region h budget turns xs rest (more w bytes place bound b) short plain =
      made_reads Bracketed (λ value same. ap Bracketed same) (inner_in region h budget turns _ rest
      b (omega arith))
