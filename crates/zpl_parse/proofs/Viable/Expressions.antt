-- What was taken before an expression got too deep, or before a lexeme that can't stand there,
-- begins some expression.
use Rattle.std.proofs.Common.{◌≡◌, ℕ, zero, suc, ◌≤◌, pos, nat_le, true, false, List, [], ◌∷◌, ◌++◌, Option, Some, None, refl, sym, ap, subst, ◌∙◌, arith, append_assoc, append-nil}
use Rattle.std.specs.Bool.{⊤}
use Rattle.std.proofs.lemmas.Bool.{le-leb}
use Rattle.std.specs.List.{flat_map}
use Rattle.zpl_nums.specs.declared.operators.Op.{Op}
use Rattle.zpl_nums.specs.declared.folds.Fold.{Fold}
use Rattle.zpl_tokens.specs.declared.Kind.{Kind}
use Rattle.zpl_tokens.specs.declared.Kind.TheVariants as kind
use Rattle.zpl_tokens.specs.declared.keywords.Key.TheVariants as key
use Rattle.zpl_tokens.specs.declared.symbols.Sym.TheVariants as sym
use Rattle.zpl_tree.specs.Syntax.{Name, Pre, RegionBase, NamedRegion, Expr, Number, Truth, Coord, Named, Shifted, Around, Remap, Call, Paren, Neg, Not, Abs, Pair, Reduce, Scan, Flood, NoExpr, ThenExpr, NamedDir, Vector, Rexpr, Dims, NoBracket, Bracketed, NoPost, ThenPost, DimText, Blank, Span, DimTexts, NoDim, ThenDim}
use Rattle.zpl_tree.specs.Spelling.{symbol, number, pre_words, base_words, along_words, operator_words, fold_words, expr_words, exprs_words, dir_words, inner_words, bracket_words, posts_words, dim_words, dims_words, more_dims, in_square}
use Rattle.zpl_tree.specs.Grammar.{StandsAt, IsNatural, IsAlong, IsExpr, AreExprs, IsDir, IsInner, IsBracket, ArePosts, IsRexpr, IsDim, AreDims, HasDims}
use Rattle.zpl_tree.specs.Depth.{expr_depth}
use Rattle.zpl_tree.specs.Word.{Word}
use Rattle.zpl_tree.specs.Word as word
use Rattle.zpl_parse.specs.declared.classes.Opening.{Opening}
use Rattle.zpl_parse.specs.declared.classes.Opening.TheVariants as opening
use Rattle.zpl_parse.specs.declared.classes.Suffix.{Suffix}
use Rattle.zpl_parse.specs.declared.classes.Suffix.TheVariants as suffix
use Rattle.zpl_parse.specs.declared.classes.Folding.{Folding}
use Rattle.zpl_parse.specs.declared.classes.Folding.TheVariants as folding
use Rattle.zpl_grammar.specs.Lexeme.{Lexeme, head_kind, second_kind, behind}
use Rattle.zpl_parse.specs.Outcome.{Outcome, Done, Wrong, Deep, Reader, and_then, too_deep}
use Rattle.zpl_parse.specs.Classes.{or_op, and_op, comp_op, sum_op, term_op, opening_of, is_some, suffix_of, folding_of, outside_of, stride_of, closes_region, closes_dim}
use Rattle.zpl_parse.specs.Tokens.{next_is, natural, natural_of}
use Rattle.zpl_parse.specs.Expressions.{at_of, exprs, actuals, components, dir, posts, region_base, rexpr, bounds, dim_text, dim_texts, begins_region, inner, in_bracket, bracket, along, Levels, shifted, remapped, suffixed, behind_name, inside, folded, unary_by, unary_over, chain, once, levels_over, no_expr, no_levels, levels}
use Rattle.zpl_parse.proofs.Sound.Base.{Spelled}
use Rattle.zpl_parse.proofs.Sound.Tokens.{takes_one, takes_head, takes_next}
use Rattle.zpl_parse.proofs.Sound.Classes.{IsOperator, or_op_is, and_op_is, comp_op_is, sum_op_is, term_op_is, IsOpening, opening_is, suffix_is, folding_is, outside_is, stride_is}
use Rattle.zpl_parse.proofs.Sound.Expressions.{AreSomeExprs, HasDim, takes_signed, more_exprs_are, more_dims_are, natural_by, has_dims, expr_lower, weaker, regroup, between_regroup}
use Rattle.zpl_parse.proofs.Viable.Base.{Goes, IsViable, exactly, goes_all, goes_fill, viable_done, viable_wrong, viable_deep, viable_behind, viable_step, viable_finish, viable_weaken, viable_choose, viable_some, viable_at_sign, viable_sign, viable_last, some_name, name_viable}

abbrev pub Tree : ℕ → Expr → List Word → Type 0
Tree level = Spelled expr_words (IsExpr level)

-- the smallest expression
abbrev pub nought : Expr
nought = Number 0 (pos 0)

abbrev pub blank : DimText
blank = Blank 0

natural_of_viable : (lexemes : List Lexeme) (o : Option Opening) → opening_of (head_kind lexemes)
    ≡ o → IsViable (Spelled number IsNatural) lexemes (natural_of o lexemes)
natural_of_viable lexemes (Some (opening.Number value)) e =
    record { shows = (natural_by lexemes (Some (opening.Number value)) e).tells }
natural_of_viable lexemes _ e = viable_wrong (goes_all (pos 0) refl refl)

natural_viable : (lexemes : List Lexeme)
    → IsViable (Spelled number IsNatural) lexemes (natural lexemes)
natural_viable lexemes = natural_of_viable lexemes (opening_of (head_kind lexemes)) refl

along_viable : (lexemes : List Lexeme)
    → IsViable (Spelled along_words IsAlong) lexemes (along lexemes)
along_viable lexemes = viable_at_sign (word.Symbol sym.OpenBracket) tt lexemes
    (viable_step (natural_viable (behind lexemes)) (λ dimension rest natural.
    viable_last (word.Symbol sym.CloseBracket) tt (Some dimension) (refl, natural)))
    (viable_done (refl, tt))

region_base_viable : (most : ℕ) (lexemes : List Lexeme) →
    IsViable (Spelled (λ those. flat_map pre_words those.0 ++ base_words those.1)
    (λ (those : List Pre × RegionBase). ⊤)) lexemes (region_base most lexemes)
region_base_viable zero lexemes = viable_wrong (goes_all ([], NamedRegion some_name) tt refl)
region_base_viable (suc most) lexemes = viable_at_sign word.Ditto tt lexemes
    (viable_done (refl, tt))
    (viable_step (name_viable lexemes) (λ first rest fact. viable_some (outside_of (head_kind rest))
    (λ e. viable_done (refl, tt))
    (λ outside e. viable_behind (takes_signed (outside_is (head_kind rest) outside e))
    (viable_finish _ (region_base_viable most (behind rest)) (λ others fact.
    (simp append_assoc, tt))))))

-- dimensions, of which the last one may be left open
abbrev AreSomeDims : DimTexts → Type 0
AreSomeDims dims = HasDim dims × AreDims dims

-- one more, that is blank
abbrev and_blank : DimTexts → DimTexts
and_blank NoDim = ThenDim blank NoDim
and_blank (ThenDim first rest) = ThenDim first (and_blank rest)

more_and_blank : (dims : DimTexts) → more_dims dims ++ symbol sym.Comma ≡ more_dims (and_blank dims)
more_and_blank NoDim = refl
more_and_blank (ThenDim first rest) =
    append_assoc (symbol sym.Comma ++ dim_words first) (more_dims rest) (symbol sym.Comma)
    ∙ ap (λ w. symbol sym.Comma ++ dim_words first ++ w) (more_and_blank rest)

and_blank_are : (dims : DimTexts) → AreDims dims → AreDims (and_blank dims)
and_blank_are NoDim are = (tt, tt)
and_blank_are (ThenDim first rest) are = (are.0, and_blank_are rest are.1)

two_dims : (first : DimText) (rest : DimTexts) → HasDims (ThenDim first (and_blank rest))
two_dims first NoDim = tt
two_dims first (ThenDim second rest) = tt

-- dimensions go on as those of a region
dims_go : (dims : DimTexts) → AreSomeDims dims
    → Goes (Spelled inner_words IsInner) (dims_words dims)
dims_go NoDim are = absurd are.0
dims_go (ThenDim first rest) are = record {
  tree = Dims (and_blank (ThenDim first rest));
  more = symbol sym.Comma;
  says = (
    append_assoc (dim_words first) (more_dims rest) (symbol sym.Comma)
        ∙ ap (λ w. dim_words first ++ w) (more_and_blank rest),
    (two_dims first rest, (are.1.0, and_blank_are rest are.1.1)),
  );
  plain = refl;
}

some_dims_go : (dims : DimTexts) (words : List Word) → Spelled dims_words AreSomeDims dims words
    → Goes (Spelled inner_words IsInner) words
some_dims_go dims words says =
    subst (Goes (Spelled inner_words IsInner)) (sym says.0) (dims_go dims says.1)

-- the rules over one of expressions
module _ (expr : Reader Expr) (viable : (lexemes : List Lexeme)
    → IsViable (Tree 0) lexemes (expr lexemes)) where
  pub exprs_viable : (most : ℕ) (lexemes : List Lexeme)
      → IsViable (Spelled exprs_words AreSomeExprs) lexemes (exprs most expr lexemes)
  exprs_viable zero lexemes = viable_wrong (goes_all (ThenExpr nought NoExpr) (tt, (refl, tt)) refl)
  exprs_viable (suc most) lexemes = viable_step (viable lexemes) (λ first rest is.
      viable_at_sign (word.Symbol sym.Comma) tt rest
      (viable_finish (ThenExpr first) (exprs_viable most (behind rest)) (λ others are.
      (ap (λ w. expr_words first ++ w) (more_exprs_are others are.0), (tt, (is, are.1)))))
      (viable_done (refl, (tt, (is, tt)))))

  pub actuals_viable : (most : ℕ) (lexemes : List Lexeme)
      → IsViable (Spelled (λ those. exprs_words those ++ symbol sym.CloseParen) AreExprs) lexemes
      (actuals most expr lexemes)
  actuals_viable most lexemes = viable_at_sign (word.Symbol sym.CloseParen) tt lexemes
      (viable_done (refl, tt))
      (viable_step (exprs_viable most lexemes) (λ those rest are.
      viable_last (word.Symbol sym.CloseParen) tt those (refl, are.1)))

  pub components_viable : (most : ℕ) (lexemes : List Lexeme)
      → IsViable (Spelled (λ those. exprs_words those ++ symbol sym.CloseBracket) AreSomeExprs)
      lexemes (components most expr lexemes)
  components_viable most lexemes =
      viable_step (exprs_viable most lexemes) (λ parts rest are.
      viable_last (word.Symbol sym.CloseBracket) tt parts (refl, are))

  pub dir_viable : (most : ℕ) (lexemes : List Lexeme)
      → IsViable (Spelled dir_words IsDir) lexemes (dir most expr lexemes)
  dir_viable most lexemes = viable_at_sign (word.Symbol sym.OpenBracket) tt lexemes
      (viable_finish Vector (components_viable most (behind lexemes)) (λ parts are. (refl, are)))
      (viable_finish NamedDir (name_viable lexemes) (λ called fact. (refl, tt)))

  pub posts_viable : (most : ℕ) (lexemes : List Lexeme)
      → IsViable (Spelled posts_words ArePosts) lexemes (posts most expr lexemes)
  posts_viable zero lexemes = viable_wrong (goes_all NoPost tt refl)
  posts_viable (suc most) lexemes = viable_some (stride_of (head_kind lexemes))
      (λ e. viable_done (refl, tt))
      (λ stride e. viable_behind (takes_signed (stride_is (head_kind lexemes) stride e))
      (viable_step (dir_viable most (behind lexemes)) (λ way rest is.
      viable_finish (ThenPost stride way) (posts_viable most rest) (λ others are.
      (simp append_assoc, (is, are))))))

  pub bounds_viable : (lexemes : List Lexeme)
      → IsViable (Spelled dim_words IsDim) lexemes (bounds expr lexemes)
  bounds_viable lexemes = viable_step (viable lexemes) (λ low rest is.
      viable_at_sign (word.Symbol sym.DotDot) tt rest
      (viable_finish (Span low) (viable (behind rest)) (λ high more.
      (simp append_assoc, (is, more))))
      (viable_done (append-nil _, is)))

  pub dim_text_viable : (lexemes : List Lexeme)
      → IsViable (Spelled dim_words IsDim) lexemes (dim_text expr lexemes)
  dim_text_viable lexemes = viable_choose (closes_dim (head_kind lexemes))
      (λ closes. viable_done (refl, tt))
      (λ goes. viable_choose (next_is (kind.Symbol sym.Star) lexemes)
      (λ star. viable_choose (closes_dim (second_kind lexemes))
      (λ closes. viable_behind (takes_next (word.Symbol sym.Star) tt lexemes star)
      (viable_done (refl, tt)))
      (λ other. bounds_viable lexemes))
      (λ other. bounds_viable lexemes))

  dim_texts_viable : (most : ℕ) (lexemes : List Lexeme)
      → IsViable (Spelled dims_words AreSomeDims) lexemes (dim_texts most expr lexemes)
  dim_texts_viable zero lexemes = viable_wrong (goes_all (ThenDim blank NoDim) (tt, (tt, tt)) refl)
  dim_texts_viable (suc most) lexemes = viable_step (dim_text_viable lexemes) (λ first rest is.
      viable_at_sign (word.Symbol sym.Comma) tt rest
      (viable_finish (ThenDim first) (dim_texts_viable most (behind rest)) (λ others are.
      (ap (λ w. dim_words first ++ w) (more_dims_are others are.0), (tt, (is, are.1)))))
      (viable_done (refl, (tt, (is, tt)))))

  pub rexpr_viable : (most : ℕ) (lexemes : List Lexeme)
      → IsViable (Spelled inner_words (λ inner. IsInner inner × IsRexpr inner)) lexemes
      (rexpr most expr lexemes)
  rexpr_viable most lexemes = viable_step (region_base_viable most lexemes) (λ base rest fact.
      viable_finish (Rexpr base.0 base.1) (posts_viable most rest) (λ those are. (refl, (are, tt))))

  closed_viable : (lexemes : List Lexeme) (outcome : Outcome DimTexts)
      → IsViable (Spelled dims_words AreSomeDims) lexemes outcome →
      begins_region (head_kind lexemes) (second_kind lexemes) ≡ false →
      IsViable (Spelled inner_words IsInner) lexemes
      (and_then outcome (λ dims rest. elim (closes_region (head_kind rest)) [
        | true ↦
            Done (Dims dims) rest
        | false ↦ Wrong rest
      ]))
  closed_viable lexemes (Done dims rest) h other = viable_choose (closes_region (head_kind rest))
      (λ closes. record {
        shows = (
          h.shows.0,
          h.shows.1,
          (
            h.shows.2.0,
            (
              has_dims dims h.shows.2.1.0 h.shows.1 h.shows.2.0 closes other,
              h.shows.2.1.1,
            ),
          ),
        );
      })
      (λ open_. record { shows = (h.shows.0, h.shows.1, some_dims_go dims h.shows.0 h.shows.2) })
  closed_viable lexemes (Wrong rest) h other =
      record {
        shows = (
          h.shows.0,
          h.shows.1,
          goes_fill (Spelled dims_words AreSomeDims) (Spelled inner_words IsInner) h.shows.0 h.shows.2
              some_dims_go,
        );
      }
  closed_viable lexemes (Deep rest) h other =
      record {
        shows = (
          h.shows.0,
          h.shows.1,
          goes_fill (Spelled dims_words AreSomeDims) (Spelled inner_words IsInner) h.shows.0 h.shows.2
              some_dims_go,
        );
      }

  pub inner_viable : (most : ℕ) (lexemes : List Lexeme)
      → IsViable (Spelled inner_words IsInner) lexemes (inner most expr lexemes)
  inner_viable most lexemes =
      viable_choose (begins_region (head_kind lexemes) (second_kind lexemes))
      (λ begins. viable_weaken (rexpr_viable most lexemes) (λ tree words says. (says.0, says.1.0)))
      (λ other. closed_viable lexemes (dim_texts most expr lexemes) (dim_texts_viable most lexemes)
      other)

  pub in_bracket_viable : (most : ℕ) (lexemes : List Lexeme)
      → IsViable (Spelled (λ inner. in_square (inner_words inner)) IsInner) lexemes
      (in_bracket most expr lexemes)
  in_bracket_viable most lexemes = viable_sign (word.Symbol sym.OpenBracket) tt (λ at rest.
      viable_step (inner_viable most rest) (λ region after is.
      viable_last (word.Symbol sym.CloseBracket) tt region (refl, is)))

  pub bracket_viable : (most : ℕ) (lexemes : List Lexeme)
      → IsViable (Spelled bracket_words IsBracket) lexemes (bracket most expr lexemes)
  bracket_viable most lexemes = viable_choose (next_is (kind.Symbol sym.OpenBracket) lexemes)
      (λ begins. viable_finish Bracketed (in_bracket_viable most lexemes) (λ inner is. (refl, is)))
      (λ other. viable_done (refl, tt))

-- the rules of expressions of one depth
pub record AreViable (rules : Levels) : Type 0 where
  pub unary : (lexemes : List Lexeme) → IsViable (Tree 5) lexemes (rules.unary lexemes)
  pub term : (lexemes : List Lexeme) → IsViable (Tree 4) lexemes (rules.term lexemes)
  pub sum : (lexemes : List Lexeme) → IsViable (Tree 3) lexemes (rules.sum lexemes)
  pub comp : (lexemes : List Lexeme) → IsViable (Tree 2) lexemes (rules.comp lexemes)
  pub conj : (lexemes : List Lexeme) → IsViable (Tree 1) lexemes (rules.conj lexemes)
  pub expr : (lexemes : List Lexeme) → IsViable (Tree 0) lexemes (rules.expr lexemes)

-- unary
module _ (most : ℕ) (deeper : Levels) (can : AreViable deeper) where
  shifted_viable : (first : Name) (lexemes : List Lexeme)
      → IsViable (λ tree more. Tree 5 tree (word.Name first.text ∷ (word.Symbol sym.At ∷ more)))
      lexemes
      (shifted most deeper first lexemes)
  shifted_viable first lexemes = viable_at_sign (word.Symbol sym.Caret) tt lexemes
      (viable_finish (Around first.at first) (dir_viable deeper.expr can.expr most (behind lexemes))
      (λ shift is. (refl, is)))
      (viable_finish (Shifted first.at first) (dir_viable deeper.expr can.expr most lexemes)
      (λ shift is. (refl, is)))

  remapped_viable : (first : Name) (lexemes : List Lexeme)
      → IsViable (λ tree more. Tree 5 tree (word.Name first.text ∷ (word.Symbol sym.Hash ∷ more)))
      lexemes
      (remapped most deeper first lexemes)
  remapped_viable first lexemes = viable_sign (word.Symbol sym.OpenBracket) tt (λ at rest.
      viable_finish (Remap first.at first) (components_viable deeper.expr can.expr most rest)
      (λ those are. (refl, are)))

  suffixed_viable : (first : Name) (lexemes : List Lexeme) (f : Option Suffix)
      → suffix_of (head_kind lexemes) ≡ f
      → IsViable (λ tree more. Tree 5 tree (word.Name first.text ∷ more)) lexemes
      (suffixed most deeper first f lexemes)
  suffixed_viable first lexemes (Some suffix.Shift) e =
      viable_behind (takes_head (word.Symbol sym.At) tt lexemes
      (suffix_is (head_kind lexemes) suffix.Shift e))
      (shifted_viable first (behind lexemes))
  suffixed_viable first lexemes (Some suffix.Remap) e =
      viable_behind (takes_head (word.Symbol sym.Hash) tt lexemes
      (suffix_is (head_kind lexemes) suffix.Remap e))
      (remapped_viable first (behind lexemes))
  suffixed_viable first lexemes (Some suffix.Call) e =
      viable_behind (takes_head (word.Symbol sym.OpenParen) tt lexemes
      (suffix_is (head_kind lexemes) suffix.Call e))
      (viable_finish (Call first.at first) (actuals_viable deeper.expr can.expr most
      (behind lexemes)) (λ those are. (refl, are)))
  suffixed_viable first lexemes None e = viable_done (refl, tt)

  behind_name_viable : (first : Name) (lexemes : List Lexeme)
      → IsViable (λ tree more. Tree 5 tree (word.Name first.text ∷ more)) lexemes
      (behind_name most deeper first lexemes)
  behind_name_viable first lexemes =
      suffixed_viable first lexemes (suffix_of (head_kind lexemes)) refl

  inside_viable : (lexemes : List Lexeme)
      → IsViable (Spelled (λ value. expr_words value ++ symbol sym.CloseParen) (IsExpr 0)) lexemes
      (inside deeper lexemes)
  inside_viable lexemes =
      viable_step (can.expr lexemes) (λ value rest is. viable_last (word.Symbol sym.CloseParen) tt
      value (refl, is))

  folded_viable : (at : ℕ) (operator : Fold) (lexemes : List Lexeme) (f : Option Folding)
      → folding_of operator (head_kind lexemes) ≡ f →
      IsViable (λ tree more. Tree 5 tree (fold_words operator ++ more)) lexemes
      (folded most at operator deeper f lexemes)
  folded_viable at operator lexemes (Some folding.Reduce) e =
      viable_behind (takes_head (word.Symbol sym.Reduce) tt lexemes
      (folding_is operator (head_kind lexemes) folding.Reduce e))
      (viable_step (bracket_viable deeper.expr can.expr most (behind lexemes)) (λ over rest is.
      viable_finish (Reduce at operator over) (can.unary rest) (λ operand more.
      (simp append_assoc, (refl, is, more)))))
  folded_viable at operator lexemes (Some folding.Scan) e =
      viable_behind (takes_head (word.Symbol sym.Scan) tt lexemes
      (folding_is operator (head_kind lexemes) folding.Scan e))
      (viable_step (along_viable (behind lexemes)) (λ dimension rest is.
      viable_finish (Scan at operator dimension) (can.unary rest) (λ operand more.
      (simp append_assoc, (refl, is, more)))))
  folded_viable at operator lexemes (Some (folding.Pair o)) e =
      let is = folding_is operator (head_kind lexemes) (folding.Pair o) e in
      viable_behind (takes_head (word.Symbol sym.OpenParen) tt lexemes is.0)
      (viable_step (can.expr (behind lexemes)) (λ left rest good.
      viable_sign (word.Symbol sym.Comma) tt (λ comma after.
      viable_finish (Pair at o left) (inside_viable after) (λ right more. (
        sym (is.4 (expr_words left) (expr_words right)),
        (
          subst (λ (n : ℕ). StandsAt 5 n) (sym is.1) refl,
          subst (λ (n : ℕ). IsExpr n left) (sym is.2) good,
          subst (λ (n : ℕ). IsExpr n right) (sym is.3) more,
        ),
      )))))
  folded_viable at operator lexemes None e =
      viable_wrong (record {
        tree = Reduce at operator NoBracket nought;
        more =
            symbol sym.Reduce ++ expr_words nought;
        says = (simp append_assoc, (refl, tt, refl));
        plain = refl;
      })

  opened_viable : (first : Lexeme) (rest : List Lexeme) (o : Opening) → IsOpening first.kind o
      → IsViable (Tree 5) (first ∷ rest) (unary_by most deeper (Some o) first rest)
  opened_viable first rest (opening.Number value) is =
      viable_behind (takes_one (word.Number value) (record { kind = is.0; bytes = tt }) tt)
      (viable_done (refl, is.1))
  opened_viable first rest (opening.Truth value) is =
      viable_behind (takes_signed is) (viable_done (append-nil _, tt))
  opened_viable first rest (opening.Coord dimension) is =
      viable_behind (takes_signed is.0) (viable_done (append-nil _, (is.1, is.2)))
  opened_viable first rest opening.Name is =
      viable_behind (takes_one (word.Name first.bytes) (record { kind = is; bytes = refl }) tt)
      (behind_name_viable (record { text = first.bytes; at = first.at }) rest)
  opened_viable first rest opening.Paren is =
      viable_behind (takes_head (word.Symbol sym.OpenParen) tt (first ∷ rest) is)
      (viable_finish (Paren first.at) (inside_viable rest) (λ value good. (refl, good)))
  opened_viable first rest opening.Minus is =
      viable_behind (takes_head (word.Symbol sym.Minus) tt (first ∷ rest) is)
      (viable_finish (Neg first.at) (can.unary rest) (λ value good. (refl, (refl, good))))
  opened_viable first rest opening.Not is =
      viable_behind (takes_head (word.Symbol sym.Not) tt (first ∷ rest) is)
      (viable_finish (Not first.at) (can.unary rest) (λ value good. (refl, (refl, good))))
  opened_viable first rest opening.Abs is =
      viable_behind (takes_head (word.Keyword key.Abs) tt (first ∷ rest) is)
      (viable_sign (word.Symbol sym.OpenParen) tt (λ at after.
      viable_finish (Abs first.at) (inside_viable after) (λ value good. (refl, good))))
  opened_viable first rest (opening.Fold operator) is =
      viable_behind (takes_signed is) (folded_viable first.at operator rest
      (folding_of operator (head_kind rest)) refl)
  opened_viable first rest opening.Flood is =
      viable_behind (takes_head (word.Symbol sym.Flood) tt (first ∷ rest) is)
      (viable_step (in_bracket_viable deeper.expr can.expr most rest) (λ source after good.
      viable_finish (Flood first.at source) (can.unary after) (λ operand more.
      (simp append_assoc, (refl, good, more)))))

  unary_by_viable : (first : Lexeme) (rest : List Lexeme) (o : Option Opening)
      → opening_of first.kind ≡ o
      → IsViable (Tree 5) (first ∷ rest) (unary_by most deeper o first rest)
  unary_by_viable first rest None e = viable_wrong (goes_all nought refl refl)
  unary_by_viable first rest (Some o) e = opened_viable first rest o (opening_is first.kind o e)

  unary_over_viable : (lexemes : List Lexeme)
      → IsViable (Tree 5) lexemes (unary_over most deeper lexemes)
  unary_over_viable [] = viable_wrong (goes_all nought refl refl)
  unary_over_viable (first ∷ rest) = unary_by_viable first rest (opening_of first.kind) refl

lowered : (wanted own : ℕ) → wanted ≤ own → (tree : Expr) → IsExpr own tree → IsExpr wanted tree
lowered wanted own below tree is = expr_lower wanted own (weaker wanted own below) tree is

-- what goes on behind an expression
abbrev On : ℕ → Expr → Expr → List Word → Type 0
On level before tree words = (expr_words before ++ words ≡ expr_words tree) × IsExpr level tree

between_is : (own left_own right_own at : ℕ) (k : Kind) (o : Op)
    → IsOperator own left_own right_own k o → (left right : Expr) → IsExpr left_own left
    → IsExpr right_own right →
    IsExpr own (Pair at o left right)
between_is own left_own right_own at k o is left right a b = (
  subst (λ (n : ℕ). StandsAt own n) (sym is.own_is) (le-leb own own (omega arith)),
  subst (λ (n : ℕ). IsExpr n left) (sym is.left_is) a,
  subst (λ (n : ℕ). IsExpr n right) (sym is.right_is) b,
)

pair_begins : (own left_own right_own at : ℕ) (k : Kind) (o : Op)
    → IsOperator own left_own right_own k o → IsExpr right_own nought → (left : Expr)
    → IsExpr left_own left → Goes (On own left) (operator_words o)
pair_begins own left_own right_own at k o is small left a = record {
  tree = Pair at o left nought;
  more = expr_words nought;
  says = (
    between_regroup left nought o is.between,
    between_is own left_own right_own at k o is left
        nought a small,
  );
  plain = refl;
}

module _ (own right_own deep : ℕ) (op_of : Kind → Option Op) (operand : Reader Expr)
    (can : (lexemes : List Lexeme) → IsViable (Tree right_own) lexemes (operand lexemes)) where
  chain_viable : ((k : Kind) (o : Op) → op_of k ≡ Some o → IsOperator own own right_own k o)
      → (most : ℕ) (left : Expr) → IsExpr own left → (lexemes : List Lexeme) →
      IsViable (On own left) lexemes (chain most deep op_of operand left lexemes)
  chain_viable is zero left good lexemes =
      viable_wrong (record { tree = left; more = []; says = (append-nil _, good); plain = refl })
  chain_viable is (suc most) left good lexemes = viable_some (op_of (head_kind lexemes))
      (λ e. viable_done (append-nil _, good))
      (λ o e. viable_choose (nat_le (expr_depth left) deep)
      (λ fits. viable_behind (takes_signed (is (head_kind lexemes) o e).sign)
      (viable_step (can (behind lexemes)) (λ right rest more.
      viable_weaken (chain_viable is most (Pair (at_of left) o left right)
      (between_is own own right_own (at_of left) (head_kind lexemes) o (is (head_kind lexemes) o e)
      left right good more) rest)
      (λ tree words says. (
        regroup (expr_words left) (operator_words o) (expr_words right) words
            ∙ (ap (λ w. w ++
            words) (sym ((is (head_kind lexemes) o e).between (expr_words left) (expr_words right)))
            ∙ says.0),
        says.1,
      )))))
      (λ deep_. viable_deep (takes_signed (is (head_kind lexemes) o e).sign)
      (pair_begins own own right_own (at_of left) (head_kind lexemes) o
      (is (head_kind lexemes) o e) refl left good)))

module _ (own operand_own deep : ℕ) (op_of : Kind → Option Op) (operand : Reader Expr)
    (can : (lexemes : List Lexeme) → IsViable (Tree operand_own) lexemes (operand lexemes)) where
  once_viable : ((k : Kind) (o : Op) → op_of k ≡ Some o
      → IsOperator own operand_own operand_own k o) → own ≤ operand_own → (left : Expr)
      → IsExpr operand_own left → (lexemes : List Lexeme) →
      IsViable (On own left) lexemes (once deep op_of operand left lexemes)
  once_viable is below left good lexemes = viable_some (op_of (head_kind lexemes))
      (λ e. viable_done (append-nil _, lowered own operand_own below left good))
      (λ o e. viable_choose (nat_le (expr_depth left) deep)
      (λ fits. viable_behind (takes_signed (is (head_kind lexemes) o e).sign)
      (viable_finish (Pair (at_of left) o left) (can (behind lexemes)) (λ right more. (
        between_regroup left right o (is (head_kind lexemes) o e).between,
        between_is own operand_own operand_own (at_of left) (head_kind lexemes) o
            (is (head_kind lexemes) o e) left right good more,
      ))))
      (λ deep_. viable_deep (takes_signed (is (head_kind lexemes) o e).sign)
      (pair_begins own operand_own operand_own (at_of left) (head_kind lexemes) o
      (is (head_kind lexemes) o e) refl left good)))

levels_over_viable : (most deep : ℕ) (unary : Reader Expr) (deeper : Levels) → AreViable deeper
    → ((lexemes : List Lexeme) → IsViable (Tree 5) lexemes (unary lexemes)) →
    AreViable (levels_over most deep unary deeper)
levels_over_viable most deep unary deeper can unary_can =
    let these : Levels = levels_over most deep unary deeper in
    let term : (lexemes : List Lexeme) → IsViable (Tree 4) lexemes (these.term lexemes) =
    λ lexemes. viable_step (unary_can lexemes)
    (λ left rest is. chain_viable 4 5 deep term_op deeper.unary can.unary term_op_is most left
    (lowered 4 5 (omega arith) left is) rest) in
    let sum : (lexemes : List Lexeme) → IsViable (Tree 3) lexemes (these.sum lexemes) =
    λ lexemes. viable_step (term lexemes)
    (λ left rest is. chain_viable 3 4 deep sum_op deeper.term can.term sum_op_is most left
    (lowered 3 4 (omega arith) left is) rest) in
    let comp : (lexemes : List Lexeme) → IsViable (Tree 2) lexemes (these.comp lexemes) =
    λ lexemes. viable_step (sum lexemes)
    (λ left rest is. once_viable 2 3 deep comp_op deeper.sum can.sum comp_op_is (omega arith) left
    is rest) in
    let conj : (lexemes : List Lexeme) → IsViable (Tree 1) lexemes (these.conj lexemes) =
    λ lexemes. viable_step (comp lexemes)
    (λ left rest is. chain_viable 1 2 deep and_op deeper.comp can.comp and_op_is most left
    (lowered 1 2 (omega arith) left is) rest) in
    let expr : (lexemes : List Lexeme) → IsViable (Tree 0) lexemes (these.expr lexemes) =
    λ lexemes. viable_step (conj lexemes)
    (λ left rest is. chain_viable 0 1 deep or_op deeper.conj can.conj or_op_is most left
    (lowered 0 1 (omega arith) left is) rest) in
    record { unary = unary_can; term = term; sum = sum; comp = comp; conj = conj; expr = expr }

-- what may begin an expression begins one
expr_begins : (first : Lexeme) (rest : List Lexeme) (o : Opening) → IsOpening first.kind o
    → IsViable {A = Expr} (Tree 5) (first ∷ rest) (Deep rest)
expr_begins first rest (opening.Number value) is =
    viable_deep (takes_one (word.Number value) (record { kind = is.0; bytes = tt }) tt)
    (exactly (Number 0 value) (refl, is.1))
expr_begins first rest (opening.Truth value) is =
    viable_deep (takes_signed is) (exactly (Truth 0 value) (refl, tt))
expr_begins first rest (opening.Coord dimension) is =
    viable_deep (takes_signed is.0) (exactly (Coord 0 dimension) (refl, (is.1, is.2)))
expr_begins first rest opening.Name is =
    viable_deep (takes_one (word.Name first.bytes) (record { kind = is; bytes = refl }) tt)
    (exactly (Named 0 (record { text = first.bytes; at = 0 })) (refl, tt))
expr_begins first rest opening.Paren is =
    viable_deep (takes_head (word.Symbol sym.OpenParen) tt (first ∷ rest) is) (record {
      tree =
          Paren 0 nought;
      more = expr_words nought ++ symbol sym.CloseParen;
      says =
          (refl, refl);
      plain = refl;
    })
expr_begins first rest opening.Minus is =
    viable_deep (takes_head (word.Symbol sym.Minus) tt (first ∷ rest) is) (record {
      tree =
          Neg 0 nought;
      more = expr_words nought;
      says = (refl, (refl, refl));
      plain = refl;
    })
expr_begins first rest opening.Not is =
    viable_deep (takes_head (word.Symbol sym.Not) tt (first ∷ rest) is) (record {
      tree =
          Not 0 nought;
      more = expr_words nought;
      says = (refl, (refl, refl));
      plain = refl;
    })
expr_begins first rest opening.Abs is =
    viable_deep (takes_head (word.Keyword key.Abs) tt (first ∷ rest) is) (record {
      tree =
          Abs 0 nought;
      more = symbol sym.OpenParen ++ expr_words nought ++ symbol sym.CloseParen;
      says = (refl, refl);
      plain = refl;
    })
expr_begins first rest (opening.Fold operator) is =
    viable_deep (takes_signed is) (record {
      tree = Reduce 0 operator NoBracket nought;
      more =
          symbol sym.Reduce ++ expr_words nought;
      says = (simp append_assoc, (refl, tt, refl));
      plain = refl;
    })
expr_begins first rest opening.Flood is =
    viable_deep (takes_head (word.Symbol sym.Flood) tt (first ∷ rest) is)
    (record {
      tree = Flood 0 (Dims (ThenDim blank NoDim)) nought;
      more =
          symbol sym.OpenBracket ++ symbol sym.CloseBracket ++ expr_words nought;
      says =
          (refl, (refl, (tt, (tt, tt)), refl));
      plain = refl;
    })

none_begins : (first : Lexeme) (rest : List Lexeme) (o : Option Opening) → opening_of first.kind ≡ o
    → IsViable {A = Expr} (Tree 5) (first ∷ rest) (too_deep (is_some o) (first ∷ rest))
none_begins first rest None e = viable_wrong (goes_all nought refl refl)
none_begins first rest (Some o) e = expr_begins first rest o (opening_is first.kind o e)

no_expr_viable : (lexemes : List Lexeme) → IsViable (Tree 5) lexemes (no_expr lexemes)
no_expr_viable [] = viable_wrong (goes_all nought refl refl)
no_expr_viable (first ∷ rest) = none_begins first rest (opening_of first.kind) refl

no_expr_lower : (wanted : ℕ) → wanted ≤ 5 → (lexemes : List Lexeme)
    → IsViable (Tree wanted) lexemes (no_expr lexemes)
no_expr_lower wanted below lexemes =
    viable_weaken (no_expr_viable lexemes) (λ tree words says.
    (says.0, lowered wanted 5 below tree says.1))

none_can : AreViable no_levels
none_can = record {
  unary = no_expr_viable;
  term = no_expr_lower 4 (omega arith);
  sum = no_expr_lower 3 (omega arith);
  comp = no_expr_lower 2 (omega arith);
  conj = no_expr_lower 1 (omega arith);
  expr = no_expr_lower 0 (omega arith);
}

pub levels_viable : (most d : ℕ) → AreViable (levels most d)
levels_viable most zero = levels_over_viable most 0 no_expr no_levels none_can no_expr_viable
levels_viable most (suc deep) =
    levels_over_viable most deep (unary_over most (levels most deep)) (levels most deep)
    (levels_viable most deep) (unary_over_viable most (levels most deep) (levels_viable most deep))
