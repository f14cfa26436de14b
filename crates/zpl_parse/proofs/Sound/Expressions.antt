-- Soundness of the rules of expressions, directions and regions.
use Rattle.std.proofs.Common.{◌≡◌, ℕ, zero, suc, ◌≤◌, nat_le, Bool, true, false, List, [], ◌∷◌, ◌++◌, Option, Some, None, refl, sym, ap, subst, ◌∙◌, arith, append_assoc, append-nil}
use Rattle.std.specs.Bool.{⊤}
use Rattle.std.proofs.lemmas.Bool.{false≢true, leb-true, le-leb}
use Rattle.std.specs.List.{flat_map}
use Rattle.zpl_nums.specs.declared.operators.Op.{Op}
use Rattle.zpl_nums.specs.declared.folds.Fold.{Fold}
use Rattle.zpl_tokens.specs.declared.Kind.{Kind}
use Rattle.zpl_tokens.specs.declared.Kind.TheVariants as kind
use Rattle.zpl_tokens.specs.declared.keywords.Key.TheVariants as key
use Rattle.zpl_tokens.specs.declared.symbols.Sym.TheVariants as sym
use Rattle.zpl_tree.specs.Syntax.{Name, Pre, RegionBase, Expr, Number, Truth, Coord, Named, Shifted, Around, Remap, Call, Paren, Neg, Not, Abs, Pair, Reduce, Scan, Flood, Exprs, NoExpr, ThenExpr, NamedDir, Vector, Dims, Bracketed, ThenPost, One, Span, DimTexts, NoDim, ThenDim}
use Rattle.zpl_tree.specs.Spelling.{symbol, number, pre_words, base_words, along_words, operator_words, pair_words, fold_words, expr_words, exprs_words, more_exprs, dir_words, inner_words, bracket_words, posts_words, dim_words, dims_words, more_dims, in_square}
use Rattle.zpl_tree.specs.Grammar.{StandsAt, IsNatural, IsAlong, IsExpr, HasExpr, AreExprs, IsDir, IsInner, IsBracket, ArePosts, IsRexpr, IsDim, AreDims, HasDims}
use Rattle.zpl_tree.specs.Depth.{expr_depth, exprs_depth, dir_depth, inner_depth, bracket_depth, posts_depth, dim_depth, dims_depth}
use Rattle.zpl_tree.specs.Word.{Word, kind_of}
use Rattle.zpl_tree.specs.Word as word
use Rattle.zpl_parse.specs.declared.classes.Opening.{Opening}
use Rattle.zpl_parse.specs.declared.classes.Opening.TheVariants as opening
use Rattle.zpl_parse.specs.declared.classes.Suffix.{Suffix}
use Rattle.zpl_parse.specs.declared.classes.Suffix.TheVariants as suffix
use Rattle.zpl_parse.specs.declared.classes.Folding.{Folding}
use Rattle.zpl_parse.specs.declared.classes.Folding.TheVariants as folding
use Rattle.zpl_grammar.specs.Lexeme.{Lexeme, head_kind, second_kind, behind}
use Rattle.zpl_parse.specs.Outcome.{Outcome, Done, Wrong, Deep, Reader, and_then, too_deep}
use Rattle.zpl_parse.specs.Classes.{or_op, and_op, comp_op, sum_op, term_op, opening_of, begins_expr, suffix_of, folding_of, outside_of, stride_of, closes_region, closes_dim, follows_region}
use Rattle.zpl_parse.specs.Tokens.{next_is, natural, natural_of}
use Rattle.zpl_parse.specs.Expressions.{at_of, exprs, actuals, components, dir, posts, region_base, rexpr, bounds, dim_text, dim_texts, begins_region, inner, in_bracket, bracket, along, Levels, shifted, remapped, suffixed, behind_name, inside, folded, unary_by, unary_over, chain, once, levels_over, no_expr, levels}
use Rattle.zpl_parse.proofs.Sound.Base.{Takes, nothing, one, here, further, past_then, IsSound, Spelled, done, wrong, behind_words, weaken, step, step_says, finish, choose, choose_some}
use Rattle.zpl_parse.proofs.Sound.Tokens.{takes_one, at_sign, sign, last_sign, name_sound, takes_head, takes_next}
use Rattle.zpl_parse.proofs.Sound.Classes.{IsOneSign, IsOperator, or_op_is, and_op_is, comp_op_is, sum_op_is, term_op_is, IsOpening, opening_is, suffix_is, folding_is, outside_is, stride_is}

-- a tree of the grammar that is no deeper than a number
pub record IsGood {A : Type 0} (Is : A → Type 0) (depth_of : A
    → ℕ) (d : ℕ) (tree : A) : Type 0 where
  pub is : Is tree
  pub depth : depth_of tree ≤ d

abbrev pub SaysExpr : ℕ → ℕ → Expr → List Word → Type 0
SaysExpr level d = Spelled expr_words (IsGood (IsExpr level) expr_depth d)

abbrev pub AreSomeExprs : Exprs → Type 0
AreSomeExprs those = HasExpr those × AreExprs those

abbrev pub HasDim : DimTexts → Type 0
HasDim NoDim = ⊥
HasDim (ThenDim first rest) = ⊤

-- a sign's words are taken
pub takes_signed : {lexemes : List Lexeme} {words : List Word} → IsOneSign (head_kind lexemes) words
    → Takes lexemes words (behind lexemes)
takes_signed {lexemes = lexemes} {words = words} is =
    subst (λ (w : List Word). Takes lexemes w (behind lexemes)) (sym is.are)
    (takes_head is.word is.sign lexemes is.kind)

pub more_exprs_are : (others : Exprs) → HasExpr others → word.Symbol sym.Comma ∷ exprs_words others
    ≡ more_exprs others
more_exprs_are NoExpr has = absurd has
more_exprs_are (ThenExpr first rest) has = refl

pub more_dims_are : (others : DimTexts) → HasDim others → word.Symbol sym.Comma ∷ dims_words others
    ≡ more_dims others
more_dims_are NoDim has = absurd has
more_dims_are (ThenDim first rest) has = refl

pub natural_by : (lexemes : List Lexeme) (o : Option Opening) → opening_of (head_kind lexemes) ≡ o
    → IsSound (Spelled number IsNatural) lexemes (natural_of o lexemes)
natural_by [] o e =
    subst (λ (o : Option Opening). IsSound (Spelled number IsNatural) [] (natural_of o [])) e wrong
natural_by (first ∷ rest) (Some (opening.Number value)) e =
    let is = opening_is first.kind (opening.Number value) e in
    record {
      tells = (
        number value,
        takes_one (word.Number value) (record { kind = is.0; bytes = tt }) tt,
        (refl, is.1),
      );
    }
natural_by (first ∷ rest) _ e = wrong

pub natural_sound : (lexemes : List Lexeme)
    → IsSound (Spelled number IsNatural) lexemes (natural lexemes)
natural_sound lexemes = natural_by lexemes (opening_of (head_kind lexemes)) refl

pub along_sound : (lexemes : List Lexeme)
    → IsSound (Spelled along_words IsAlong) lexemes (along lexemes)
along_sound lexemes = at_sign (word.Symbol sym.OpenBracket) tt lexemes
    (step (natural_sound (behind lexemes)) (λ dimension rest natural.
    last_sign (word.Symbol sym.CloseBracket) tt (Some dimension) (refl, natural)))
    (done (refl, tt))

pub region_base_sound : (most : ℕ) (lexemes : List Lexeme) →
    IsSound (Spelled (λ those. flat_map pre_words those.0 ++ base_words those.1)
    (λ (those : List Pre × RegionBase). ⊤)) lexemes (region_base most lexemes)
region_base_sound zero lexemes = wrong
region_base_sound (suc most) lexemes = at_sign word.Ditto tt lexemes
    (done (refl, tt))
    (step (name_sound lexemes) (λ first rest fact. choose_some (outside_of (head_kind rest))
    (λ e. done (refl, tt))
    (λ outside e. behind_words _ (takes_signed (outside_is (head_kind rest) outside e))
    (finish _ (region_base_sound most (behind rest)) (λ others fact. (simp append_assoc, tt))))))

-- a lone name closes as a region expression does
takes_name : {lexemes rest : List Lexeme} {words : List Word} (text : List ℕ)
    → Takes lexemes words rest → words ≡ word.Name text ∷ [] →
    (first : Lexeme) × (lexemes ≡ first ∷ rest) × (first.kind ≡ kind.Name)
takes_name text nothing e = absurd (cc)
takes_name text (one {first = first} {w = w} reads inner nothing) e =
    let same : w ≡ word.Name text = cc in
    (first, refl, subst (λ (w : Word). first.kind ≡ kind_of w) same reads.kind)
takes_name text (one reads inner (one more within others)) e = absurd (cc)

closes_follows : (k : Kind) → closes_region k ≡ true → follows_region k ≡ true
closes_follows (kind.Word key.Of) e = refl
closes_follows (kind.Word key.In) e = refl
closes_follows (kind.Word key.At) e = refl
closes_follows (kind.Word key.By) e = refl
closes_follows _ e = e

lone_begins : (text : List ℕ) {lexemes rest : List Lexeme} {words : List Word}
    → Takes lexemes words rest → words ≡ word.Name text ∷ [] →
    closes_region (head_kind rest) ≡ true → begins_region (head_kind lexemes) (second_kind lexemes)
    ≡ true
lone_begins text {lexemes = lexemes} {rest = rest} takes e closes =
    let (first, split, is) = takes_name text takes e in
    subst (λ (l : List Lexeme). begins_region (head_kind l) (second_kind l) ≡ true) (sym split)
    (subst (λ (k : Kind). begins_region k (head_kind rest)
    ≡ true) (sym is) (closes_follows (head_kind rest) closes))

pub has_dims : (dims : DimTexts) {lexemes rest : List Lexeme} {words : List Word} → HasDim dims
    → Takes lexemes words rest → words ≡ dims_words dims →
    closes_region (head_kind rest) ≡ true → begins_region (head_kind lexemes) (second_kind lexemes)
    ≡ false → HasDims dims
has_dims NoDim has takes e closes other = has
has_dims (ThenDim first (ThenDim second rest)) has takes e closes other = tt
has_dims (ThenDim (One (Named at called)) NoDim) has takes e closes other =
    absurd (false≢true (sym other ∙ lone_begins called.text takes e closes))
has_dims (ThenDim (One _) NoDim) has takes e closes other = tt
has_dims (ThenDim _ NoDim) has takes e closes other = tt

closed_dims : (d : ℕ) (lexemes : List Lexeme) (outcome : Outcome DimTexts)
    → IsSound (Spelled dims_words (IsGood (λ dims. HasDim dims × AreDims dims) dims_depth d))
    lexemes outcome →
    begins_region (head_kind lexemes) (second_kind lexemes) ≡ false →
    IsSound (Spelled inner_words (IsGood IsInner inner_depth d)) lexemes
    (and_then outcome (λ dims rest. elim (closes_region (head_kind rest)) [
      | true ↦
          Done (Dims dims) rest
      | false ↦ Wrong rest
    ]))
closed_dims d lexemes (Done dims rest) sound other = choose (closes_region (head_kind rest))
    (λ closes. record {
      tells = (
        sound.tells.0,
        sound.tells.1,
        (
          sound.tells.2.0,
          record {
            is = (
              has_dims dims sound.tells.2.1.is.0 sound.tells.1 sound.tells.2.0 closes other,
              sound.tells.2.1.is.1,
            );
            depth = sound.tells.2.1.depth;
          },
        ),
      );
    })
    (λ open_. record { tells = past_then sound.tells.1 here })
closed_dims d lexemes (Wrong rest) sound other = record { tells = sound.tells }
closed_dims d lexemes (Deep rest) sound other = record { tells = sound.tells }

-- the rules over one of expressions
module _ (d : ℕ) (expr : Reader Expr) (sound : (lexemes : List Lexeme)
    → IsSound (SaysExpr 0 d) lexemes (expr lexemes)) where
  pub exprs_sound : (most : ℕ) (lexemes : List Lexeme)
      → IsSound (Spelled exprs_words (IsGood AreSomeExprs exprs_depth d)) lexemes
      (exprs most expr lexemes)
  exprs_sound zero lexemes = wrong
  exprs_sound (suc most) lexemes = step (sound lexemes) (λ first rest good.
      at_sign (word.Symbol sym.Comma) tt rest
      (finish (ThenExpr first) (exprs_sound most (behind rest)) (λ others more. (
        ap (λ w. expr_words first ++ w) (more_exprs_are others more.is.0),
        record {
          is =
              (tt, (good.is, more.is.1));
          depth = omega arith;
        },
      )))
      (done (refl, record { is = (tt, (good.is, tt)); depth = omega arith })))

  pub actuals_sound : (most : ℕ) (lexemes : List Lexeme) →
      IsSound (Spelled (λ those. exprs_words those ++ symbol sym.CloseParen)
      (IsGood AreExprs exprs_depth d)) lexemes (actuals most expr lexemes)
  actuals_sound most lexemes = at_sign (word.Symbol sym.CloseParen) tt lexemes
      (done (refl, record { is = tt; depth = omega arith }))
      (step (exprs_sound most lexemes) (λ those rest good. last_sign (word.Symbol sym.CloseParen) tt
      those (refl, record { is = good.is.1; depth = good.depth })))

  pub components_sound : (most : ℕ) (lexemes : List Lexeme) →
      IsSound (Spelled (λ those. exprs_words those ++ symbol sym.CloseBracket)
      (IsGood AreSomeExprs exprs_depth d)) lexemes (components most expr lexemes)
  components_sound most lexemes =
      step (exprs_sound most lexemes) (λ those rest good. last_sign (word.Symbol sym.CloseBracket)
      tt those (refl, good))

  pub dir_sound : (most : ℕ) (lexemes : List Lexeme)
      → IsSound (Spelled dir_words (IsGood IsDir dir_depth d)) lexemes (dir most expr lexemes)
  dir_sound most lexemes = at_sign (word.Symbol sym.OpenBracket) tt lexemes
      (finish Vector (components_sound most (behind lexemes)) (λ parts good.
      (refl, record { is = good.is; depth = good.depth })))
      (finish NamedDir (name_sound lexemes) (λ called fact. (
        refl,
        record {
          is = tt;
          depth =
              omega arith;
        },
      )))

  pub posts_sound : (most : ℕ) (lexemes : List Lexeme)
      → IsSound (Spelled posts_words (IsGood ArePosts posts_depth d)) lexemes
      (posts most expr lexemes)
  posts_sound zero lexemes = wrong
  posts_sound (suc most) lexemes = choose_some (stride_of (head_kind lexemes))
      (λ e. done (refl, record { is = tt; depth = omega arith }))
      (λ stride e. behind_words _ (takes_signed (stride_is (head_kind lexemes) stride e))
      (step (dir_sound most (behind lexemes)) (λ way rest good.
      finish (ThenPost stride way) (posts_sound most rest) (λ others more.
      (simp append_assoc, record { is = (good.is, more.is); depth = omega arith })))))

  pub bounds_sound : (lexemes : List Lexeme)
      → IsSound (Spelled dim_words (IsGood IsDim dim_depth d)) lexemes (bounds expr lexemes)
  bounds_sound lexemes = step (sound lexemes) (λ low rest good.
      at_sign (word.Symbol sym.DotDot) tt rest
      (finish (Span low) (sound (behind rest)) (λ high more. (
        simp append_assoc,
        record {
          is =
              (good.is, more.is);
          depth = omega arith;
        },
      )))
      (done (append-nil (expr_words low), record { is = good.is; depth = good.depth })))

  pub dim_text_sound : (lexemes : List Lexeme)
      → IsSound (Spelled dim_words (IsGood IsDim dim_depth d)) lexemes (dim_text expr lexemes)
  dim_text_sound lexemes = choose (closes_dim (head_kind lexemes))
      (λ closes. done (refl, record { is = tt; depth = omega arith }))
      (λ goes. choose (next_is (kind.Symbol sym.Star) lexemes)
      (λ star. choose (closes_dim (second_kind lexemes))
      (λ closes. behind_words _ (takes_next (word.Symbol sym.Star) tt lexemes star)
      (done (refl, record { is = tt; depth = omega arith })))
      (λ other. bounds_sound lexemes))
      (λ other. bounds_sound lexemes))

  pub dim_texts_sound : (most : ℕ) (lexemes : List Lexeme)
      → IsSound (Spelled dims_words (IsGood (λ dims. HasDim dims × AreDims dims) dims_depth d))
      lexemes (dim_texts most expr lexemes)
  dim_texts_sound zero lexemes = wrong
  dim_texts_sound (suc most) lexemes = step (dim_text_sound lexemes) (λ first rest good.
      at_sign (word.Symbol sym.Comma) tt rest
      (finish (ThenDim first) (dim_texts_sound most (behind rest)) (λ others more. (
        ap (λ w. dim_words first ++ w) (more_dims_are others more.is.0),
        record {
          is =
              (tt, (good.is, more.is.1));
          depth = omega arith;
        },
      )))
      (done (refl, record { is = (tt, (good.is, tt)); depth = omega arith })))

  pub rexpr_sound : (most : ℕ) (lexemes : List Lexeme)
      → IsSound (Spelled inner_words (IsGood (λ inner. IsInner inner × IsRexpr inner) inner_depth
      d)) lexemes (rexpr most expr lexemes)
  rexpr_sound most lexemes = step (region_base_sound most lexemes) (λ base rest fact.
      finish _ (posts_sound most rest) (λ those good. (
        refl,
        record {
          is = (good.is, tt);
          depth =
              good.depth;
        },
      )))

  pub inner_sound : (most : ℕ) (lexemes : List Lexeme)
      → IsSound (Spelled inner_words (IsGood IsInner inner_depth d)) lexemes
      (inner most expr lexemes)
  inner_sound most lexemes = choose (begins_region (head_kind lexemes) (second_kind lexemes))
      (λ begins. weaken (rexpr_sound most lexemes) (λ tree words says.
      (says.0, record { is = says.1.is.0; depth = says.1.depth })))
      (λ other. closed_dims d lexemes (dim_texts most expr lexemes) (dim_texts_sound most lexemes)
      other)

  pub in_bracket_sound : (most : ℕ) (lexemes : List Lexeme) →
      IsSound (Spelled (λ inner. in_square (inner_words inner)) (IsGood IsInner inner_depth d))
      lexemes (in_bracket most expr lexemes)
  in_bracket_sound most lexemes = sign (word.Symbol sym.OpenBracket) tt (λ at rest.
      step (inner_sound most rest) (λ region after good. last_sign (word.Symbol sym.CloseBracket) tt
      region (refl, good)))

  pub bracket_sound : (most : ℕ) (lexemes : List Lexeme)
      → IsSound (Spelled bracket_words (IsGood IsBracket bracket_depth d)) lexemes
      (bracket most expr lexemes)
  bracket_sound most lexemes = choose (next_is (kind.Symbol sym.OpenBracket) lexemes)
      (λ begins. finish Bracketed (in_bracket_sound most lexemes) (λ inner good.
      (refl, record { is = good.is; depth = good.depth })))
      (λ other. done (refl, record { is = tt; depth = omega arith }))

-- the rules of expressions that are no deeper than a number
pub record AreSound (d : ℕ) (rules : Levels) : Type 0 where
  pub unary : (lexemes : List Lexeme) → IsSound (SaysExpr 5 d) lexemes (rules.unary lexemes)
  pub term : (lexemes : List Lexeme) → IsSound (SaysExpr 4 d) lexemes (rules.term lexemes)
  pub sum : (lexemes : List Lexeme) → IsSound (SaysExpr 3 d) lexemes (rules.sum lexemes)
  pub comp : (lexemes : List Lexeme) → IsSound (SaysExpr 2 d) lexemes (rules.comp lexemes)
  pub conj : (lexemes : List Lexeme) → IsSound (SaysExpr 1 d) lexemes (rules.conj lexemes)
  pub expr : (lexemes : List Lexeme) → IsSound (SaysExpr 0 d) lexemes (rules.expr lexemes)

-- unary
module _ (most deep : ℕ) (deeper : Levels) (are : AreSound deep deeper) where
  shifted_sound : (first : Name) (lexemes : List Lexeme)
      → IsSound (λ tree more. SaysExpr 5 (suc deep) tree (word.Name first.text ∷
      (word.Symbol sym.At ∷ more)))
      lexemes (shifted most deeper first lexemes)
  shifted_sound first lexemes = at_sign (word.Symbol sym.Caret) tt lexemes
      (finish (Around first.at first) (dir_sound deep deeper.expr are.expr most (behind lexemes))
      (λ shift good. (refl, record { is = good.is; depth = omega arith })))
      (finish (Shifted first.at first) (dir_sound deep deeper.expr are.expr most lexemes)
      (λ shift good. (refl, record { is = good.is; depth = omega arith })))

  remapped_sound : (first : Name) (lexemes : List Lexeme)
      → IsSound (λ tree more. SaysExpr 5 (suc deep) tree (word.Name first.text ∷
      (word.Symbol sym.Hash ∷ more)))
      lexemes (remapped most deeper first lexemes)
  remapped_sound first lexemes = sign (word.Symbol sym.OpenBracket) tt (λ at rest.
      finish (Remap first.at first) (components_sound deep deeper.expr are.expr most rest)
      (λ those good. (refl, record { is = good.is; depth = omega arith })))

  suffixed_sound : (first : Name) (lexemes : List Lexeme) (f : Option Suffix)
      → suffix_of (head_kind lexemes) ≡ f
      → IsSound (λ tree more. SaysExpr 5 (suc deep) tree (word.Name first.text ∷ more)) lexemes
      (suffixed most deeper first f lexemes)
  suffixed_sound first lexemes (Some suffix.Shift) e =
      behind_words _ (takes_head (word.Symbol sym.At) tt lexemes
      (suffix_is (head_kind lexemes) suffix.Shift e))
      (shifted_sound first (behind lexemes))
  suffixed_sound first lexemes (Some suffix.Remap) e =
      behind_words _ (takes_head (word.Symbol sym.Hash) tt lexemes
      (suffix_is (head_kind lexemes) suffix.Remap e))
      (remapped_sound first (behind lexemes))
  suffixed_sound first lexemes (Some suffix.Call) e =
      behind_words _ (takes_head (word.Symbol sym.OpenParen) tt lexemes
      (suffix_is (head_kind lexemes) suffix.Call e))
      (finish (Call first.at first) (actuals_sound deep deeper.expr are.expr most (behind lexemes))
      (λ those good. (refl, record { is = good.is; depth = omega arith })))
  suffixed_sound first lexemes None e = done (refl, record { is = tt; depth = omega arith })

  pub behind_name_sound : (first : Name) (lexemes : List Lexeme)
      → IsSound (λ tree more. SaysExpr 5 (suc deep) tree (word.Name first.text ∷ more)) lexemes
      (behind_name most deeper first lexemes)
  behind_name_sound first lexemes =
      suffixed_sound first lexemes (suffix_of (head_kind lexemes)) refl

  pub inside_sound : (lexemes : List Lexeme)
      → IsSound (Spelled (λ value. expr_words value ++ symbol sym.CloseParen)
      (IsGood (IsExpr 0) expr_depth deep)) lexemes (inside deeper lexemes)
  inside_sound lexemes =
      step (are.expr lexemes) (λ value rest good. last_sign (word.Symbol sym.CloseParen) tt value
      (refl, good))

  pub folded_sound : (at : ℕ) (operator : Fold) (lexemes : List Lexeme) (f : Option Folding)
      → folding_of operator (head_kind lexemes) ≡ f →
      IsSound (λ tree more. SaysExpr 5 (suc deep) tree (fold_words operator ++ more)) lexemes
      (folded most at operator deeper f lexemes)
  folded_sound at operator lexemes (Some folding.Reduce) e =
      behind_words _ (takes_head (word.Symbol sym.Reduce) tt lexemes
      (folding_is operator (head_kind lexemes) folding.Reduce e))
      (step (bracket_sound deep deeper.expr are.expr most (behind lexemes)) (λ over rest good.
      finish (Reduce at operator over) (are.unary rest) (λ operand more.
      (simp append_assoc, record { is = (refl, good.is, more.is); depth = omega arith }))))
  folded_sound at operator lexemes (Some folding.Scan) e =
      behind_words _ (takes_head (word.Symbol sym.Scan) tt lexemes
      (folding_is operator (head_kind lexemes) folding.Scan e))
      (step (along_sound (behind lexemes)) (λ dimension rest is.
      finish (Scan at operator dimension) (are.unary rest) (λ operand more.
      (simp append_assoc, record { is = (refl, is, more.is); depth = omega arith }))))
  folded_sound at operator lexemes (Some (folding.Pair o)) e =
      let is = folding_is operator (head_kind lexemes) (folding.Pair o) e in
      behind_words _ (takes_head (word.Symbol sym.OpenParen) tt lexemes is.0)
      (step (are.expr (behind lexemes)) (λ left rest good.
      sign (word.Symbol sym.Comma) tt (λ comma after.
      finish (Pair at o left) (inside_sound after) (λ right more. (
        sym (is.4 (expr_words left) (expr_words right)),
        record {
          is = (
            subst (λ (n : ℕ). StandsAt 5 n) (sym is.1) refl,
            subst (λ (n : ℕ). IsExpr n left) (sym is.2) good.is,
            subst (λ (n : ℕ). IsExpr n right) (sym is.3) more.is,
          );
          depth = omega arith;
        },
      )))))
  folded_sound at operator lexemes None e = wrong

  pub opened_sound : (first : Lexeme) (rest : List Lexeme) (o : Opening) → IsOpening first.kind o
      → IsSound (SaysExpr 5 (suc deep)) (first ∷ rest) (unary_by most deeper (Some o) first rest)
  opened_sound first rest (opening.Number value) is =
      behind_words _ (takes_one (word.Number value) (record { kind = is.0; bytes = tt }) tt)
      (done (refl, record { is = is.1; depth = omega arith }))
  opened_sound first rest (opening.Truth value) is =
      behind_words _ (takes_signed is) (done (
        append-nil _,
        record {
          is = tt;
          depth =
              omega arith;
        },
      ))
  opened_sound first rest (opening.Coord dimension) is =
      behind_words _ (takes_signed is.0) (done (
        append-nil _,
        record {
          is = (is.1, is.2);
          depth =
              omega arith;
        },
      ))
  opened_sound first rest opening.Name is =
      behind_words _ (takes_one (word.Name first.bytes) (record { kind = is; bytes = refl }) tt)
      (behind_name_sound (record { text = first.bytes; at = first.at }) rest)
  opened_sound first rest opening.Paren is =
      behind_words _ (takes_head (word.Symbol sym.OpenParen) tt (first ∷ rest) is)
      (finish (Paren first.at) (inside_sound rest) (λ value good.
      (refl, record { is = good.is; depth = omega arith })))
  opened_sound first rest opening.Minus is =
      behind_words _ (takes_head (word.Symbol sym.Minus) tt (first ∷ rest) is)
      (finish (Neg first.at) (are.unary rest) (λ value good.
      (refl, record { is = (refl, good.is); depth = omega arith })))
  opened_sound first rest opening.Not is =
      behind_words _ (takes_head (word.Symbol sym.Not) tt (first ∷ rest) is)
      (finish (Not first.at) (are.unary rest) (λ value good.
      (refl, record { is = (refl, good.is); depth = omega arith })))
  opened_sound first rest opening.Abs is =
      behind_words _ (takes_head (word.Keyword key.Abs) tt (first ∷ rest) is)
      (sign (word.Symbol sym.OpenParen) tt (λ at after. finish (Abs first.at) (inside_sound after)
      (λ value good. (refl, record { is = good.is; depth = omega arith }))))
  opened_sound first rest (opening.Fold operator) is =
      behind_words _ (takes_signed is) (folded_sound first.at operator rest
      (folding_of operator (head_kind rest)) refl)
  opened_sound first rest opening.Flood is =
      behind_words _ (takes_head (word.Symbol sym.Flood) tt (first ∷ rest) is)
      (step (in_bracket_sound deep deeper.expr are.expr most rest) (λ source after good.
      finish (Flood first.at source) (are.unary after) (λ operand more.
      (simp append_assoc, record { is = (refl, good.is, more.is); depth = omega arith }))))

  pub unary_by_sound : (first : Lexeme) (rest : List Lexeme) (o : Option Opening)
      → opening_of first.kind ≡ o
      → IsSound (SaysExpr 5 (suc deep)) (first ∷ rest) (unary_by most deeper o first rest)
  unary_by_sound first rest None e = wrong
  unary_by_sound first rest (Some o) e = opened_sound first rest o (opening_is first.kind o e)

  pub unary_over_sound : (lexemes : List Lexeme)
      → IsSound (SaysExpr 5 (suc deep)) lexemes (unary_over most deeper lexemes)
  unary_over_sound [] = wrong
  unary_over_sound (first ∷ rest) = unary_by_sound first rest (opening_of first.kind) refl

-- an expression may stand where a weaker one is wanted
pub expr_lower : (wanted own : ℕ) → ((n : ℕ) → StandsAt own n → StandsAt wanted n) → (tree : Expr)
    → IsExpr own tree → IsExpr wanted tree
expr_lower wanted own so (Neg at operand) is = (so _ is.0, is.1)
expr_lower wanted own so (Not at operand) is = (so _ is.0, is.1)
expr_lower wanted own so (Pair at o left right) is = (so _ is.0, is.1, is.2)
expr_lower wanted own so (Reduce at operator over operand) is = (so _ is.0, is.1, is.2)
expr_lower wanted own so (Scan at operator dimension operand) is = (so _ is.0, is.1, is.2)
expr_lower wanted own so (Flood at source operand) is = (so _ is.0, is.1, is.2)
expr_lower wanted own so (Number at value) is = is
expr_lower wanted own so (Truth at value) is = is
expr_lower wanted own so (Coord at dimension) is = is
expr_lower wanted own so (Named at called) is = is
expr_lower wanted own so (Shifted at called shift) is = is
expr_lower wanted own so (Around at called shift) is = is
expr_lower wanted own so (Remap at called those) is = is
expr_lower wanted own so (Call at called those) is = is
expr_lower wanted own so (Paren at inside) is = is
expr_lower wanted own so (Abs at operand) is = is

pub le_through : (a b c : ℕ) → a ≤ b → b ≤ c → a ≤ c
le_through a b c p q = omega arith

pub weaker : (wanted own : ℕ) → wanted ≤ own → (n : ℕ) → StandsAt own n → StandsAt wanted n
weaker wanted own below n stands =
    le-leb wanted n (le_through wanted own n below (leb-true own n stands))

pub lower : (wanted own d : ℕ) → wanted ≤ own → (tree : Expr)
    → IsGood (IsExpr own) expr_depth d tree → IsGood (IsExpr wanted) expr_depth d tree
lower wanted own d below tree good =
    record { is = expr_lower wanted own (weaker wanted own below) tree good.is; depth = good.depth }

-- what a chain makes: an expression that begins with what stood there before
abbrev pub SaysOn : ℕ → ℕ → Expr → Expr → List Word → Type 0
SaysOn level d before tree words = (expr_words before ++ words ≡ expr_words tree) ×
    IsGood (IsExpr level) expr_depth d tree

pair_good : (own left_own right_own deep at : ℕ) (k : Kind) (o : Op)
    → IsOperator own left_own right_own k o → (left right : Expr) →
    IsExpr left_own left → expr_depth left ≤ deep → IsGood (IsExpr right_own) expr_depth deep right
    → IsGood (IsExpr own) expr_depth (suc deep) (Pair at o left right)
pair_good own left_own right_own deep at k o is left right left_is fits good = record {
  is = (
    subst (λ (n : ℕ). StandsAt own n) (sym is.own_is) (le-leb own own (omega arith)),
    subst (λ (n : ℕ). IsExpr n left) (sym is.left_is) left_is,
    subst (λ (n : ℕ). IsExpr n right) (sym is.right_is) good.is,
  );
  depth = omega arith;
}

pub between_regroup : (left right : Expr) (o : Op)
    → ((a b : List Word) → pair_words o a b ≡ a ++ operator_words o ++ b) →
    expr_words left ++ (operator_words o ++ expr_words right)
    ≡ pair_words o (expr_words left) (expr_words right)
between_regroup left right o between =
    sym (append_assoc (expr_words left) (operator_words o) (expr_words right))
    ∙ sym (between (expr_words left) (expr_words right))

pub regroup : (a o b w : List Word) → a ++ (o ++ (b ++ w)) ≡ (a ++ o ++ b) ++ w
regroup a o b w = simp append_assoc

module _ (own right_own deep : ℕ) (op_of : Kind → Option Op) (operand : Reader Expr)
    (sound : (lexemes : List Lexeme) → IsSound (SaysExpr right_own deep) lexemes (operand lexemes))
  where
    pub chain_sound : ((k : Kind) (o : Op) → op_of k ≡ Some o → IsOperator own own right_own k o)
        → (most : ℕ) (left : Expr) → IsGood (IsExpr own) expr_depth (suc deep) left
        → (lexemes : List Lexeme) →
        IsSound (SaysOn own (suc deep) left) lexemes (chain most deep op_of operand left lexemes)
    chain_sound is zero left good lexemes = wrong
    chain_sound is (suc most) left good lexemes = choose_some (op_of (head_kind lexemes))
        (λ e. done (append-nil (expr_words left), good))
        (λ o e. choose (nat_le (expr_depth left) deep)
        (λ fits. behind_words _ (takes_signed (is (head_kind lexemes) o e).sign)
        (step (sound (behind lexemes)) (λ right rest more.
        weaken (chain_sound is most (Pair (at_of left) o left right)
        (pair_good own own right_own deep (at_of left) (head_kind lexemes) o
        (is (head_kind lexemes) o e) left right good.is (leb-true (expr_depth left) deep fits)
        more) rest)
        (λ tree words says. (
          regroup (expr_words left) (operator_words o) (expr_words right) words
              ∙ (ap (λ w. w ++
              words) (sym ((is (head_kind lexemes) o e).between (expr_words left) (expr_words right)))
              ∙ says.0),
          says.1,
        )))))
        (λ deep_. record { tells = past_then (takes_signed (is (head_kind lexemes) o e).sign) here }))

module _ (own operand_own deep : ℕ) (op_of : Kind → Option Op) (operand : Reader Expr)
    (sound : (lexemes : List Lexeme)
    → IsSound (SaysExpr operand_own deep) lexemes (operand lexemes)) where
  pub once_sound : ((k : Kind) (o : Op) → op_of k ≡ Some o
      → IsOperator own operand_own operand_own k o) → own ≤ operand_own → (left : Expr) →
      IsGood (IsExpr operand_own) expr_depth (suc deep) left → (lexemes : List Lexeme) →
      IsSound (SaysOn own (suc deep) left) lexemes (once deep op_of operand left lexemes)
  once_sound is below left good lexemes = choose_some (op_of (head_kind lexemes))
      (λ e. done (append-nil (expr_words left), lower own operand_own (suc deep) below left good))
      (λ o e. choose (nat_le (expr_depth left) deep)
      (λ fits. behind_words _ (takes_signed (is (head_kind lexemes) o e).sign)
      (finish (Pair (at_of left) o left) (sound (behind lexemes)) (λ right more. (
        between_regroup left right o (is (head_kind lexemes) o e).between,
        pair_good own operand_own operand_own deep (at_of left) (head_kind lexemes) o
            (is (head_kind lexemes) o e) left right good.is (leb-true (expr_depth left) deep fits)
            more,
      ))))
      (λ deep_. record { tells = past_then (takes_signed (is (head_kind lexemes) o e).sign) here }))

-- a rule that goes on from a tighter one
over : (wanted own d : ℕ) → wanted ≤ own → {outcome : Outcome Expr} {next : Expr
    → Reader Expr} {lexemes : List Lexeme} → IsSound (SaysExpr own d) lexemes outcome →
    ((left : Expr) → IsGood (IsExpr own) expr_depth d left → (rest : List Lexeme)
    → IsSound (SaysOn wanted d left) rest (next left rest)) →
    IsSound (SaysExpr wanted d) lexemes (and_then outcome next)
over wanted own d below sound so =
    step sound (λ left rest good. weaken (so left good rest) (λ tree words says. (says.0, says.1)))

module _ (most deep : ℕ) (unary : Reader Expr) (deeper : Levels) (sound : (lexemes : List Lexeme)
    → IsSound (SaysExpr 5 (suc deep)) lexemes (unary lexemes)) (are : AreSound deep deeper) where
  own : Levels
  own = levels_over most deep unary deeper

  term_sound : (lexemes : List Lexeme) → IsSound (SaysExpr 4 (suc deep)) lexemes (own.term lexemes)
  unfolding own
  term_sound lexemes = over 4 5 (suc deep) (omega arith) (sound lexemes) (λ left good rest.
      chain_sound 4 5 deep term_op deeper.unary are.unary term_op_is most left
      (lower 4 5 (suc deep) (omega arith) left good) rest)

  sum_sound : (lexemes : List Lexeme) → IsSound (SaysExpr 3 (suc deep)) lexemes (own.sum lexemes)
  unfolding own
  sum_sound lexemes = over 3 4 (suc deep) (omega arith) (term_sound lexemes) (λ left good rest.
      chain_sound 3 4 deep sum_op deeper.term are.term sum_op_is most left
      (lower 3 4 (suc deep) (omega arith) left good) rest)

  comp_sound : (lexemes : List Lexeme) → IsSound (SaysExpr 2 (suc deep)) lexemes (own.comp lexemes)
  unfolding own
  comp_sound lexemes = over 2 3 (suc deep) (omega arith) (sum_sound lexemes) (λ left good rest.
      once_sound 2 3 deep comp_op deeper.sum are.sum comp_op_is (omega arith) left good rest)

  conj_sound : (lexemes : List Lexeme) → IsSound (SaysExpr 1 (suc deep)) lexemes (own.conj lexemes)
  unfolding own
  conj_sound lexemes = over 1 2 (suc deep) (omega arith) (comp_sound lexemes) (λ left good rest.
      chain_sound 1 2 deep and_op deeper.comp are.comp and_op_is most left
      (lower 1 2 (suc deep) (omega arith) left good) rest)

  expr_sound : (lexemes : List Lexeme) → IsSound (SaysExpr 0 (suc deep)) lexemes (own.expr lexemes)
  unfolding own
  expr_sound lexemes = over 0 1 (suc deep) (omega arith) (conj_sound lexemes) (λ left good rest.
      chain_sound 0 1 deep or_op deeper.conj are.conj or_op_is most left
      (lower 0 1 (suc deep) (omega arith) left good) rest)

  pub levels_over_sound : AreSound (suc deep) (levels_over most deep unary deeper)
  unfolding own
  levels_over_sound = record {
    unary = sound;
    term = term_sound;
    sum = sum_sound;
    comp =
        comp_sound;
    conj = conj_sound;
    expr = expr_sound;
  }

-- where nothing is read
abbrev Nothing : {A : Type 0} → A → List Word → Type 0
Nothing tree words = ⊥

begins_inner : (k : Kind) → begins_expr k ≡ true → k ≡ kind.End → ⊥
begins_inner k e end = false≢true (subst (λ (k : Kind). begins_expr k ≡ true) end e)

pub too_deep_sound : {A : Type 0} {Says : A → List Word
    → Type 0} (test : Bool) (lexemes : List Lexeme) → (test ≡ true → head_kind lexemes ≡ kind.End
    → ⊥) → IsSound Says lexemes (too_deep test lexemes)
too_deep_sound true [] so = record { tells = here }
too_deep_sound true (first ∷ rest) so = record { tells = further (so refl) here }
too_deep_sound false lexemes so = wrong

pub no_expr_sound : (lexemes : List Lexeme) → IsSound Nothing lexemes (no_expr lexemes)
no_expr_sound lexemes =
    too_deep_sound (begins_expr (head_kind lexemes)) lexemes (begins_inner (head_kind lexemes))

none_then : (next : Expr → Reader Expr) {lexemes : List Lexeme} {outcome : Outcome Expr}
    → IsSound Nothing lexemes outcome → IsSound Nothing lexemes (and_then outcome next)
none_then next sound = step_says sound (λ tree rest words says. absurd says)

anything : {Says : Expr → List Word → Type 0} {lexemes : List Lexeme} {outcome : Outcome Expr}
    → IsSound Nothing lexemes outcome → IsSound Says lexemes outcome
anything sound = weaken sound (λ tree words says. absurd says)

pub levels_sound : (most d : ℕ) → AreSound d (levels most d)
levels_sound most zero = record {
  unary = λ lexemes. anything (no_expr_sound lexemes);
  term = λ lexemes. anything (none_then _ (no_expr_sound lexemes));
  sum = λ lexemes. anything (none_then _ (none_then _ (no_expr_sound lexemes)));
  comp = λ lexemes. anything (none_then _ (none_then _ (none_then _ (no_expr_sound lexemes))));
  conj = λ lexemes.
      anything (none_then _ (none_then _ (none_then _ (none_then _ (no_expr_sound lexemes)))));
  expr = λ lexemes.
      anything (none_then _
      (none_then _ (none_then _ (none_then _ (none_then _ (no_expr_sound lexemes))))));
}
levels_sound most (suc deep) =
    levels_over_sound most deep (unary_over most (levels most deep)) (levels most deep)
    (unary_over_sound most deep (levels most deep) (levels_sound most deep))
    (levels_sound most deep)
