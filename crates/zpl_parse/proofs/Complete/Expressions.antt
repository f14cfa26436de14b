-- The rules of expressions are complete: words of an expression of the grammar are read as one of
-- the same shape, or are too deep.
use Rattle.std.proofs.Common.{◌≡◌, ℕ, suc, zero, ◌+◌, max, nat_le, Bool, true, false, IsTrue, ℤ, List, [], ◌∷◌, ◌++◌, Option, Some, None, refl, ap, arith}
use Rattle.std.proofs.lemmas.Bool.Decides.{nat_tests}
use Rattle.zpl_nums.specs.declared.operators.Op.{Op}
use Rattle.zpl_nums.specs.declared.operators.Op.TheVariants as op
use Rattle.zpl_nums.specs.declared.folds.Fold.{Fold}
use Rattle.zpl_nums.specs.declared.folds.Fold.TheVariants as fold
use Rattle.zpl_tokens.specs.declared.Kind.TheVariants as kind
use Rattle.zpl_tokens.specs.declared.symbols.Sym.TheVariants as sym
use Rattle.zpl_tree.specs.Word as word
use Rattle.zpl_tree.specs.Syntax.{Name, Expr, Number, Truth, Coord, Named, Shifted, Around, Remap, Call, Paren, Neg, Not, Abs, Pair, Reduce, Scan, Flood, Exprs, NoExpr, ThenExpr, Dir, NamedDir, Vector, Inner, Rexpr, Dims, Bracket, NoBracket, Bracketed, Posts, NoPost, ThenPost, DimText, Blank, Star, One, Span, DimTexts, NoDim, ThenDim}
use Rattle.zpl_tree.specs.Depth.{expr_depth, exprs_depth, dir_depth, inner_depth, bracket_depth}
use Rattle.zpl_tree.specs.Shape.{name_shape}
use Rattle.zpl_tree.specs.Spelling.{expr_words, exprs_words, more_exprs, dir_words, inner_words, bracket_words, along_words}
use Rattle.zpl_tree.specs.Grammar.{IsExpr, AreExprs, HasExpr, IsDir, IsInner, IsBracket, ArePosts, IsDim, AreDims, IsNatural, IsAlong}
use Rattle.zpl_grammar.specs.Lexeme.{Lexeme, head_kind, next_is}
use Rattle.zpl_tree.proofs.Depths.{expr_depth-some}
use Rattle.zpl_parse.specs.Classes.{suffix_of}
use Rattle.zpl_parse.specs.Outcome.{and_then, made}
use Rattle.zpl_parse.specs.Tokens.{natural_of}
use Rattle.zpl_parse.specs.Expressions.{levels, unary_over, unary_by, inside, both, bracket, in_bracket, along, shifted, suffixed, behind_name}
use Rattle.zpl_parse.proofs.Complete.Base.{Begins, none, more, Split, split, split_at, joined, bound_of, Reads, read, weigh, made_reads, then_reads, symbol_reads, at_head}
use Rattle.zpl_parse.proofs.Complete.Levels.{SameExpr, Level, Unary, Term, Sum, Comp, Conj, Whole, number, none_is, StopsUnary, StopsWhole, Opens, OpensAt, ReadsAt, Ready, too_deep_at, ready_term, ready_sum, ready_conj, ready_whole, from_unary, from_term, from_sum, from_comp, from_conj, from_whole, term_pair, sum_pair, conj_pair, whole_pair, comp_pair}
use Rattle.zpl_parse.proofs.Complete.Opens.{opens_at}
use Rattle.zpl_parse.proofs.Complete.Parts.{ExprsAt, DirAt, InnerAt, BracketAt, PostsAt, DimAt, DimsAt, HasSome, exprs_at, actuals_at, components_at, named_dir_at, vector_at, posts_at, no_posts_at, inner_rexpr_at, inner_dims_at, in_bracket_at, no_bracket_at, bracketed_at, blank_at, star_at, one_at, span_at, dims_at}

module _ (most : ℕ) where
  -- the rule of an expression by its first word
  abbrev pub UnaryAt : Expr → Type 0
  UnaryAt t = (deeper : ℕ) (xs rest : List Lexeme) → Begins most (expr_words t) xs rest
      → StopsUnary rest
      → Reads (SameExpr t) rest (expr_depth t) (suc deeper) (unary_over most (levels most deeper)
      xs)

  ready_unary : (t : Expr) → OpensAt most t → UnaryAt t → Ready most Unary t
  ready_unary t opens h = record { opens = opens; reads = reads; going = tt }
    where
      reads : ReadsAt most Unary t
      reads zero xs rest b stops =
          too_deep_at most Unary xs (expr_depth t) (opens xs rest b).begins (expr_depth-some t)
      reads (suc deeper) xs rest b stops = h deeper xs rest b stops

  number_at : (at : ℕ) (value : ℤ) → IsNatural value → UnaryAt (Number at value)
  number_at at value is deeper xs rest (more w bytes place bound (none limit)) stops =
      rw (is, unary_by) (read (Number place value) (omega arith) refl)

  truth_at : (at : ℕ) (value : Bool) → UnaryAt (Truth at value)
  truth_at at true deeper xs rest (more w bytes place bound (none limit)) stops =
      read (Truth place true) (omega arith) refl
  truth_at at false deeper xs rest (more w bytes place bound (none limit)) stops =
      read (Truth place false) (omega arith) refl

  coord_at : (at dimension : ℕ) → IsTrue (nat_le 1 dimension) → IsTrue (nat_le dimension 3)
      → UnaryAt (Coord at dimension)
  coord_at at zero low high deeper xs rest b stops = absurd (cc)
  coord_at at (suc zero) low high deeper xs rest (more w bytes place bound (none limit)) stops =
      read (Coord place 1) (omega arith) refl
  coord_at at (suc (suc zero)) low high deeper xs rest (more w bytes place bound (none limit)) stops
      = read (Coord place 2) (omega arith) refl
  coord_at at (suc (suc (suc zero))) low high deeper xs rest (more w bytes place bound (none limit))
      stops = read (Coord place 3) (omega arith) refl
  coord_at at (suc (suc (suc (suc above)))) low high deeper xs rest b stops =
      absurd (grind (arith, nat_tests))

  named_at : (at : ℕ) (name : Name) → UnaryAt (Named at name)
  named_at at name deeper xs rest (more w bytes place bound (none limit)) stops =
      let ends = none_is (suffix_of (head_kind rest)) stops in
      rw (ends, behind_name, suffixed) (read (Named place (record { text = name.text; at = place }))
      (omega arith) refl)

  -- a direction begins with no `^`
  no_caret : (shift : Dir) {xs rest : List Lexeme} → Begins most (dir_words shift) xs rest
      → next_is (kind.Symbol sym.Caret) xs ≡ false
  no_caret (NamedDir name) (more w bytes place bound b) = refl
  no_caret (Vector parts) (more w bytes place bound b) = refl

  shifted_at : (at : ℕ) (name : Name) (shift : Dir) → DirAt most shift
      → UnaryAt (Shifted at name shift)
  shifted_at at name shift h deeper xs rest
      (more w bytes place bound (more v other where_at limit b)) stops =
      rw (no_caret shift b, shifted) (weigh {n = dir_depth shift} {d =
      deeper} (λ k. omega arith) (λ k. omega arith)
      (made_reads (Shifted place (record { text = name.text; at = place })) (λ value same.
      ap (Shifted 0 (name_shape name)) same) (h deeper most _ rest b (bound_of b))))

  around_at : (at : ℕ) (name : Name) (shift : Dir) → DirAt most shift
      → UnaryAt (Around at name shift)
  around_at at name shift h deeper xs rest
      (more w bytes place bound (more v other where_at limit (more u others there last b))) stops =
      weigh {n = dir_depth shift} {d = deeper} (λ k. omega arith) (λ k. omega arith)
      (made_reads (Around place (record { text = name.text; at = place })) (λ value same.
      ap (Around 0 (name_shape name)) same) (h deeper most _ rest b (bound_of b)))

  remap_at : (at : ℕ) (name : Name) (those : Exprs) → ExprsAt most those
      → UnaryAt (Remap at name those)
  remap_at at name those h deeper xs rest
      (more w bytes place bound (more v other where_at limit (more u others there last b))) stops =
      weigh {n = exprs_depth those} {d = deeper} (λ k. omega arith) (λ k. omega arith)
      (made_reads (Remap place (record { text = name.text; at = place })) (λ value same.
      ap (Remap 0 (name_shape name)) same) (components_at those h deeper most _ rest b
      (bound_of b)))

  call_at : (at : ℕ) (name : Name) (those : Exprs) → (HasExpr those → (xs rest : List Lexeme)
      → Begins most (exprs_words those) xs rest → Opens xs) → (HasExpr those → ExprsAt most those)
      → UnaryAt (Call at name those)
  call_at at name those opens h deeper xs rest
      (more w bytes place bound (more v other where_at limit b)) stops =
      weigh {n = exprs_depth those} {d = deeper} (λ k. omega arith) (λ k. omega arith)
      (made_reads (Call place (record { text = name.text; at = place })) (λ value same.
      ap (Call 0 (name_shape name)) same) (actuals_at those opens h deeper most _ rest b
      (bound_of b)))

  inside_at : (operand : Expr) → ReadsAt most Whole operand → (budget : ℕ) (xs rest : List Lexeme)
      → Begins most (expr_words operand ++ word.Symbol sym.CloseParen ∷ []) xs rest →
      Reads (SameExpr operand) rest (expr_depth operand) budget (inside (levels most budget) xs)
  inside_at operand h budget xs rest b =
      let parts : Split most (expr_words operand) (word.Symbol sym.CloseParen ∷ []) xs rest =
      split (expr_words operand) (word.Symbol sym.CloseParen ∷ []) b in
      weigh {n = max (expr_depth operand) 0} {d = budget} (λ k. omega arith) (λ k. omega arith)
      (then_reads _ (h budget xs parts.middle parts.first (at_head StopsWhole (λ bytes at others.
      refl) parts.then))
      (λ value same. made_reads (λ at. value) (λ at any. same) (symbol_reads sym.CloseParen {d =
      budget} parts.then)))

  paren_at : (at : ℕ) (operand : Expr) → ReadsAt most Whole operand → UnaryAt (Paren at operand)
  paren_at at operand h deeper xs rest (more w bytes place bound b) stops =
      weigh {n = expr_depth operand} {d =
      deeper} (λ k. omega arith) (λ k. omega arith) (made_reads (Paren place) (λ value same.
      ap (Paren 0) same) (inside_at operand h deeper _ rest b))

  abs_at : (at : ℕ) (operand : Expr) → ReadsAt most Whole operand → UnaryAt (Abs at operand)
  abs_at at operand h deeper xs rest (more w bytes place bound (more v other where_at limit b))
      stops =
      weigh {n = expr_depth operand} {d =
      deeper} (λ k. omega arith) (λ k. omega arith) (made_reads (Abs place) (λ value same.
      ap (Abs 0) same) (inside_at operand h deeper _ rest b))

  neg_at : (at : ℕ) (operand : Expr) → ReadsAt most Unary operand → UnaryAt (Neg at operand)
  neg_at at operand h deeper xs rest (more w bytes place bound b) stops =
      weigh {n = expr_depth operand} {d =
      deeper} (λ k. omega arith) (λ k. omega arith) (made_reads (Neg place) (λ value same.
      ap (Neg 0) same) (h deeper _ rest b stops))

  not_at : (at : ℕ) (operand : Expr) → ReadsAt most Unary operand → UnaryAt (Not at operand)
  not_at at operand h deeper xs rest (more w bytes place bound b) stops =
      weigh {n = expr_depth operand} {d =
      deeper} (λ k. omega arith) (λ k. omega arith) (made_reads (Not place) (λ value same.
      ap (Not 0) same) (h deeper _ rest b stops))

  -- two operands in brackets
  module _ (at place : ℕ) (op : Op) (left right : Expr) (h : ReadsAt most Whole left)
      (k : ReadsAt most Whole right) where
    both_split : (budget : ℕ) (xs middle rest : List Lexeme)
        → Begins most (expr_words left) xs middle
        → Begins most (word.Symbol sym.Comma ∷ (expr_words right ++ word.Symbol sym.CloseParen ∷
        [])) middle rest →
        Reads (SameExpr (Pair at op left right)) rest (max (expr_depth left) (expr_depth right))
        budget (both place op (levels most budget) xs)
    both_split budget xs middle rest b (more w bytes spot bound c) =
        then_reads _ (h budget xs _ b refl) (λ value same.
        made_reads (Pair place op value) (λ other alike. cc)
        (inside_at right k budget _ rest c))

    both_at : (budget : ℕ) (xs rest : List Lexeme)
        → Begins most (((expr_words left ++ word.Symbol sym.Comma ∷ []) ++ expr_words right) ++
        word.Symbol sym.CloseParen ∷ []) xs rest →
        Reads (SameExpr (Pair at op left right)) rest (max (expr_depth left) (expr_depth right))
        budget (both place op (levels most budget) xs)
    both_at budget xs rest b =
        let outer : Split most ((expr_words left ++ word.Symbol sym.Comma ∷ []) ++ expr_words right)
        (word.Symbol sym.CloseParen ∷ []) xs rest =
        split ((expr_words left ++ word.Symbol sym.Comma ∷ []) ++ expr_words right)
        (word.Symbol sym.CloseParen ∷ []) b in
        let parts : Split most (expr_words left) (word.Symbol sym.Comma ∷ expr_words right) xs
        outer.middle =
        split_at (expr_words left) (word.Symbol sym.Comma) (expr_words right) outer.first in
        both_split budget xs parts.middle rest parts.first (joined parts.then outer.then)

  max_at : (at : ℕ) (left right : Expr) → ReadsAt most Whole left → ReadsAt most Whole right
      → UnaryAt (Pair at op.Max left right)
  max_at at left right h k deeper xs rest (more w bytes place bound (more v other where_at limit b))
      stops =
      weigh {n = max (expr_depth left) (expr_depth right)} {d =
      deeper} (λ k. omega arith) (λ k. omega arith) (both_at at place op.Max left right h k
      deeper _ rest b)

  min_at : (at : ℕ) (left right : Expr) → ReadsAt most Whole left → ReadsAt most Whole right
      → UnaryAt (Pair at op.Min left right)
  min_at at left right h k deeper xs rest (more w bytes place bound (more v other where_at limit b))
      stops =
      weigh {n = max (expr_depth left) (expr_depth right)} {d =
      deeper} (λ k. omega arith) (λ k. omega arith) (both_at at place op.Min left right h k
      deeper _ rest b)

  -- reductions, scans and floods
  reduce_tail : (at place : ℕ) (operator : Fold) (over : Bracket) (operand : Expr)
      → BracketAt most over → OpensAt most operand → ReadsAt most Unary operand
      → (deeper : ℕ) (xs rest : List Lexeme) →
      Begins most (bracket_words over ++ expr_words operand) xs rest → StopsUnary rest →
      Reads (SameExpr (Reduce at operator over operand)) rest
      (1 + max (bracket_depth over) (expr_depth operand)) (suc deeper)
      (and_then (bracket most (levels most deeper).expr xs) (λ over rest.
      made (Reduce place operator over) ((levels most deeper).unary rest)))
  reduce_tail at place operator over operand k opens h deeper xs rest b stops =
      let parts : Split most (bracket_words over) (expr_words operand) xs rest =
      split (bracket_words over) (expr_words operand) b in
      let opened : Opens parts.middle = opens parts.middle rest parts.then in
      weigh {n = max (bracket_depth over) (expr_depth operand)} {d =
      deeper} (λ k. omega arith) (λ k. omega arith)
      (then_reads _ (k deeper most xs parts.middle parts.first (bound_of parts.first)
      opened.bracket) (λ value same. made_reads (Reduce place operator value) (λ other alike.
      cc) (h deeper parts.middle rest parts.then stops)))

  reduce_at : (at : ℕ) (operator : Fold) (over : Bracket) (operand : Expr) → BracketAt most over
      → OpensAt most operand → ReadsAt most Unary operand
      → UnaryAt (Reduce at operator over operand)
  reduce_at at fold.Sum over operand k opens h deeper xs rest
      (more w bytes place bound (more v other where_at limit b)) stops =
      reduce_tail at place fold.Sum over operand k opens h deeper _ rest b stops
  reduce_at at fold.Prod over operand k opens h deeper xs rest
      (more w bytes place bound (more v other where_at limit b)) stops =
      reduce_tail at place fold.Prod over operand k opens h deeper _ rest b stops
  reduce_at at fold.Max over operand k opens h deeper xs rest
      (more w bytes place bound (more v other where_at limit b)) stops =
      reduce_tail at place fold.Max over operand k opens h deeper _ rest b stops
  reduce_at at fold.Min over operand k opens h deeper xs rest
      (more w bytes place bound (more v other where_at limit b)) stops =
      reduce_tail at place fold.Min over operand k opens h deeper _ rest b stops
  reduce_at at fold.All over operand k opens h deeper xs rest
      (more w bytes place bound (more v other where_at limit b)) stops =
      reduce_tail at place fold.All over operand k opens h deeper _ rest b stops
  reduce_at at fold.Any over operand k opens h deeper xs rest
      (more w bytes place bound (more v other where_at limit b)) stops =
      reduce_tail at place fold.Any over operand k opens h deeper _ rest b stops

  scan_tail : (at place : ℕ) (operator : Fold) (dimension : Option ℤ) (operand : Expr)
      → IsAlong dimension → OpensAt most operand → ReadsAt most Unary operand
      → (deeper : ℕ) (xs rest : List Lexeme) →
      Begins most (along_words dimension ++ expr_words operand) xs rest → StopsUnary rest →
      Reads (SameExpr (Scan at operator dimension operand)) rest (1 + expr_depth operand)
      (suc deeper) (and_then (along xs) (λ dimension rest. made (Scan place operator dimension)
      ((levels most deeper).unary rest)))
  scan_tail at place operator None operand is opens h deeper xs rest b stops =
      let opened : Opens xs = opens xs rest b in
      rw (opened.bracket, and_then, along) (weigh {n = expr_depth operand} {d =
      deeper} (λ k. omega arith) (λ k. omega arith) (made_reads (Scan place operator None)
      (λ other alike. ap (Scan 0 operator None) alike) (h deeper xs rest b stops)))
  scan_tail at place operator (Some value) operand is opens h deeper xs rest
      (more w bytes spot bound (more v other where_at limit (more u others there last b))) stops =
      rw (is, and_then, along, natural_of) (weigh {n = expr_depth operand} {d =
      deeper} (λ k. omega arith) (λ k. omega arith)
      (made_reads (Scan place operator (Some value)) (λ other alike.
      ap (Scan 0 operator (Some value)) alike) (h deeper _ rest b stops)))

  scan_at : (at : ℕ) (operator : Fold) (dimension : Option ℤ) (operand : Expr) → IsAlong dimension
      → OpensAt most operand → ReadsAt most Unary operand
      → UnaryAt (Scan at operator dimension operand)
  scan_at at fold.Sum dimension operand is opens h deeper xs rest
      (more w bytes place bound (more v other where_at limit b)) stops =
      scan_tail at place fold.Sum dimension operand is opens h deeper _ rest b stops
  scan_at at fold.Prod dimension operand is opens h deeper xs rest
      (more w bytes place bound (more v other where_at limit b)) stops =
      scan_tail at place fold.Prod dimension operand is opens h deeper _ rest b stops
  scan_at at fold.Max dimension operand is opens h deeper xs rest
      (more w bytes place bound (more v other where_at limit b)) stops =
      scan_tail at place fold.Max dimension operand is opens h deeper _ rest b stops
  scan_at at fold.Min dimension operand is opens h deeper xs rest
      (more w bytes place bound (more v other where_at limit b)) stops =
      scan_tail at place fold.Min dimension operand is opens h deeper _ rest b stops
  scan_at at fold.All dimension operand is opens h deeper xs rest
      (more w bytes place bound (more v other where_at limit b)) stops =
      scan_tail at place fold.All dimension operand is opens h deeper _ rest b stops
  scan_at at fold.Any dimension operand is opens h deeper xs rest
      (more w bytes place bound (more v other where_at limit b)) stops =
      scan_tail at place fold.Any dimension operand is opens h deeper _ rest b stops

  flood_tail : (at place : ℕ) (source : Inner) (operand : Expr) → InnerAt most source
      → ReadsAt most Unary operand → (deeper : ℕ) (xs rest : List Lexeme) →
      Begins most ((word.Symbol sym.OpenBracket ∷
      (inner_words source ++ word.Symbol sym.CloseBracket ∷ [])) ++ expr_words operand) xs rest
      → StopsUnary rest →
      Reads (SameExpr (Flood at source operand)) rest
      (1 + max (inner_depth source) (expr_depth operand)) (suc deeper)
      (and_then (in_bracket most (levels most deeper).expr xs) (λ source after.
      made (Flood place source) ((levels most deeper).unary after)))
  flood_tail at place source operand k h deeper xs rest b stops =
      let parts : Split most (word.Symbol sym.OpenBracket ∷
      (inner_words source ++ word.Symbol sym.CloseBracket ∷ [])) (expr_words operand) xs rest =
      split (word.Symbol sym.OpenBracket ∷ (inner_words source ++ word.Symbol sym.CloseBracket ∷
      [])) (expr_words operand) b in
      weigh {n = max (inner_depth source) (expr_depth operand)} {d =
      deeper} (λ k. omega arith) (λ k. omega arith)
      (then_reads _ (in_bracket_at source k deeper most xs parts.middle parts.first
      (bound_of parts.first)) (λ value same. made_reads (Flood place value) (λ other alike. cc)
      (h deeper parts.middle rest parts.then stops)))

  flood_at : (at : ℕ) (source : Inner) (operand : Expr) → InnerAt most source
      → ReadsAt most Unary operand → UnaryAt (Flood at source operand)
  flood_at at source operand k h deeper xs rest (more w bytes place bound b) stops =
      flood_tail at place source operand k h deeper _ rest b stops

  pub exprs_open : (those : Exprs) → AreExprs those → HasExpr those → (xs rest : List Lexeme)
      → Begins most (exprs_words those) xs rest → Opens xs
  exprs_open NoExpr are has xs rest b = absurd has
  exprs_open (ThenExpr first others) are has xs rest b =
      let parts : Split most (expr_words first) (more_exprs others) xs rest =
      split (expr_words first) (more_exprs others) b in
      opens_at 0 first are.0 xs parts.middle parts.first

  mutual
    -- expressions of each level
    pub expr_at : (level : Level) (t : Expr) → IsExpr (number level) t → Ready most level t
    expr_at level (Number at value) is =
        from_unary most level
        (ready_unary (Number at value) (opens_at (number level) (Number at value) is)
        (number_at at value is))
    expr_at level (Truth at value) is =
        from_unary most level
        (ready_unary (Truth at value) (opens_at (number level) (Truth at value) is)
        (truth_at at value))
    expr_at level (Coord at dimension) is =
        from_unary most level
        (ready_unary (Coord at dimension) (opens_at (number level) (Coord at dimension) is)
        (coord_at at dimension is.0 is.1))
    expr_at level (Named at name) is =
        from_unary most level
        (ready_unary (Named at name) (opens_at (number level) (Named at name) is)
        (named_at at name))
    expr_at level (Shifted at name shift) is =
        from_unary most level (ready_unary (Shifted at name shift)
        (opens_at (number level) (Shifted at name shift) is)
        (shifted_at at name shift (dir_all shift is)))
    expr_at level (Around at name shift) is =
        from_unary most level (ready_unary (Around at name shift)
        (opens_at (number level) (Around at name shift) is)
        (around_at at name shift (dir_all shift is)))
    expr_at level (Remap at name indices) is =
        from_unary most level (ready_unary (Remap at name indices)
        (opens_at (number level) (Remap at name indices) is)
        (remap_at at name indices (exprs_all indices is.1 is.0)))
    expr_at level (Call at name actuals) is =
        from_unary most level (ready_unary (Call at name actuals)
        (opens_at (number level) (Call at name actuals) is)
        (call_at at name actuals (exprs_open actuals is) (exprs_all actuals is)))
    expr_at level (Paren at inside) is =
        from_unary most level
        (ready_unary (Paren at inside) (opens_at (number level) (Paren at inside) is)
        (paren_at at inside (expr_at Whole inside is).reads))
    expr_at level (Neg at operand) is =
        from_unary most level
        (ready_unary (Neg at operand) (opens_at (number level) (Neg at operand) is)
        (neg_at at operand (expr_at Unary operand is.1).reads))
    expr_at level (Not at operand) is =
        from_unary most level
        (ready_unary (Not at operand) (opens_at (number level) (Not at operand) is)
        (not_at at operand (expr_at Unary operand is.1).reads))
    expr_at level (Abs at operand) is =
        from_unary most level
        (ready_unary (Abs at operand) (opens_at (number level) (Abs at operand) is)
        (abs_at at operand (expr_at Whole operand is).reads))
    expr_at level (Reduce at operator over operand) is =
        from_unary most level (ready_unary (Reduce at operator over operand)
        (opens_at (number level) (Reduce at operator over operand) is)
        (reduce_at at operator over operand (bracket_all over is.1) (opens_at 5 operand is.2)
        (expr_at Unary operand is.2).reads))
    expr_at level (Scan at operator dimension operand) is =
        from_unary most level (ready_unary (Scan at operator dimension operand)
        (opens_at (number level) (Scan at operator dimension operand) is)
        (scan_at at operator dimension operand is.1 (opens_at 5 operand is.2)
        (expr_at Unary operand is.2).reads))
    expr_at level (Flood at source operand) is =
        from_unary most level (ready_unary (Flood at source operand)
        (opens_at (number level) (Flood at source operand) is)
        (flood_at at source operand (inner_all source is.1) (expr_at Unary operand is.2).reads))
    expr_at level (Pair at op.Max left right) is =
        from_unary most level (ready_unary (Pair at op.Max left right)
        (opens_at (number level) (Pair at op.Max left right) is)
        (max_at at left right (expr_at Whole left is.1).reads (expr_at Whole right is.2).reads))
    expr_at level (Pair at op.Min left right) is =
        from_unary most level (ready_unary (Pair at op.Min left right)
        (opens_at (number level) (Pair at op.Min left right) is)
        (min_at at left right (expr_at Whole left is.1).reads (expr_at Whole right is.2).reads))
    expr_at level (Pair at op.Mul left right) is =
        from_term most level is.0
        (ready_term most (opens_at (number level) (Pair at op.Mul left right) is)
        (λ deeper xs rest b stops. term_pair most sym.Star op.Mul at left right refl
        (λ bytes place others. refl) (expr_at Term left is.1) (expr_at Unary right is.2) deeper xs
        rest b stops))
    expr_at level (Pair at op.Div left right) is =
        from_term most level is.0
        (ready_term most (opens_at (number level) (Pair at op.Div left right) is)
        (λ deeper xs rest b stops. term_pair most sym.Slash op.Div at left right refl
        (λ bytes place others. refl) (expr_at Term left is.1) (expr_at Unary right is.2) deeper xs
        rest b stops))
    expr_at level (Pair at op.Rem left right) is =
        from_term most level is.0
        (ready_term most (opens_at (number level) (Pair at op.Rem left right) is)
        (λ deeper xs rest b stops. term_pair most sym.Percent op.Rem at left right refl
        (λ bytes place others. refl) (expr_at Term left is.1) (expr_at Unary right is.2) deeper xs
        rest b stops))
    expr_at level (Pair at op.Add left right) is =
        from_sum most level is.0
        (ready_sum most (opens_at (number level) (Pair at op.Add left right) is)
        (λ deeper xs rest b stops. sum_pair most sym.Plus op.Add at left right refl
        (λ bytes place others. refl) (expr_at Sum left is.1) (expr_at Term right is.2) deeper xs
        rest b stops))
    expr_at level (Pair at op.Sub left right) is =
        from_sum most level is.0
        (ready_sum most (opens_at (number level) (Pair at op.Sub left right) is)
        (λ deeper xs rest b stops. sum_pair most sym.Minus op.Sub at left right refl
        (λ bytes place others. refl) (expr_at Sum left is.1) (expr_at Term right is.2) deeper xs
        rest b stops))
    expr_at level (Pair at op.And left right) is =
        from_conj most level is.0
        (ready_conj most (opens_at (number level) (Pair at op.And left right) is)
        (λ deeper xs rest b stops. conj_pair most sym.And op.And at left right refl
        (λ bytes place others. refl) (expr_at Conj left is.1) (expr_at Comp right is.2) deeper xs
        rest b stops))
    expr_at level (Pair at op.Or left right) is =
        from_whole most level is.0
        (ready_whole most (opens_at (number level) (Pair at op.Or left right) is)
        (λ deeper xs rest b stops. whole_pair most sym.Or op.Or at left right refl
        (λ bytes place others. refl) (expr_at Whole left is.1) (expr_at Conj right is.2) deeper xs
        rest b stops))
    expr_at level (Pair at op.Eq left right) is =
        from_comp most level is.0 (comp_pair most sym.Equal op.Eq at left right refl
        (λ bytes place others. refl) (expr_at Sum left is.1) (expr_at Sum right is.2)
        (opens_at (number level) (Pair at op.Eq left right) is) refl)
    expr_at level (Pair at op.Ne left right) is =
        from_comp most level is.0 (comp_pair most sym.NotEqual op.Ne at left right refl
        (λ bytes place others. refl) (expr_at Sum left is.1) (expr_at Sum right is.2)
        (opens_at (number level) (Pair at op.Ne left right) is) refl)
    expr_at level (Pair at op.Lt left right) is =
        from_comp most level is.0 (comp_pair most sym.Less op.Lt at left right refl
        (λ bytes place others. refl) (expr_at Sum left is.1) (expr_at Sum right is.2)
        (opens_at (number level) (Pair at op.Lt left right) is) refl)
    expr_at level (Pair at op.Le left right) is =
        from_comp most level is.0 (comp_pair most sym.LessEqual op.Le at left right refl
        (λ bytes place others. refl) (expr_at Sum left is.1) (expr_at Sum right is.2)
        (opens_at (number level) (Pair at op.Le left right) is) refl)
    expr_at level (Pair at op.Gt left right) is =
        from_comp most level is.0 (comp_pair most sym.Greater op.Gt at left right refl
        (λ bytes place others. refl) (expr_at Sum left is.1) (expr_at Sum right is.2)
        (opens_at (number level) (Pair at op.Gt left right) is) refl)
    expr_at level (Pair at op.Ge left right) is =
        from_comp most level is.0 (comp_pair most sym.GreaterEqual op.Ge at left right refl
        (λ bytes place others. refl) (expr_at Sum left is.1) (expr_at Sum right is.2)
        (opens_at (number level) (Pair at op.Ge left right) is) refl)

    pub exprs_all : (t : Exprs) → AreExprs t → HasExpr t → ExprsAt most t
    exprs_all NoExpr are has = absurd has
    exprs_all (ThenExpr first rest) are has =
        exprs_at first rest (expr_at Whole first are.0).reads (exprs_all rest are.1)

    pub dir_all : (t : Dir) → IsDir t → DirAt most t
    dir_all (NamedDir name) is = named_dir_at name
    dir_all (Vector parts) is = vector_at parts (exprs_all parts is.1 is.0)

    pub inner_all : (t : Inner) → IsInner t → InnerAt most t
    inner_all (Rexpr pre base post) is = inner_rexpr_at pre base post (posts_all post is)
    inner_all (Dims dims) is = inner_dims_at dims is.0 is.1 (dims_all dims is.1)

    pub bracket_all : (t : Bracket) → IsBracket t → BracketAt most t
    bracket_all NoBracket is = no_bracket_at
    bracket_all (Bracketed inner) is = bracketed_at inner (inner_all inner is)

    pub posts_all : (t : Posts) → ArePosts t → PostsAt most t
    posts_all NoPost are = no_posts_at
    posts_all (ThenPost stride dir rest) are =
        posts_at stride dir rest (dir_all dir are.0) (posts_all rest are.1)

    pub dim_all : (t : DimText) → IsDim t → DimAt most t
    dim_all (Blank at) is = blank_at at
    dim_all (Star at) is = star_at at
    dim_all (One index) is = one_at index (opens_at 0 index is) (expr_at Whole index is).reads
    dim_all (Span low high) is =
        span_at low high (opens_at 0 low is.0) (expr_at Whole low is.0).reads
        (expr_at Whole high is.1).reads

    pub dims_all : (t : DimTexts) → AreDims t → HasSome t → DimsAt most t
    dims_all NoDim are has = absurd has
    dims_all (ThenDim first rest) are has =
        dims_at first rest (dim_all first are.0) (dims_all rest are.1)
