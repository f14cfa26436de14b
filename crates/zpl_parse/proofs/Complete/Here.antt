-- What the rules of expressions are complete for, as those of statements and declarations take
-- them: with lists of their own length.
use Rattle.std.proofs.Common.{◌≡◌, ℕ, suc, zero, ◌<◌, ◌≤◌, false, List, [], ◌∷◌, ◌++◌, map, length, None, refl, ap, arith}
use Rattle.zpl_tokens.specs.declared.Kind.TheVariants as kind
use Rattle.zpl_tokens.specs.declared.symbols.Sym.TheVariants as sym
use Rattle.zpl_tree.specs.Word as word
use Rattle.zpl_tree.specs.Syntax.{Name, Expr, Exprs, Inner, Rexpr, Bracket, Posts, Pre, RegionBase}
use Rattle.zpl_tree.specs.Depth.{expr_depth, exprs_depth, inner_depth, bracket_depth, posts_depth}
use Rattle.zpl_tree.specs.Shape.{name_shape}
use Rattle.zpl_tree.specs.Spelling.{expr_words, exprs_words, inner_words, bracket_words, posts_words, names_words}
use Rattle.zpl_tree.specs.Grammar.{IsExpr, AreExprs, HasExpr, IsInner, IsBracket, ArePosts, HasAny}
use Rattle.zpl_grammar.specs.Lexeme.{Lexeme, head_kind}
use Rattle.zpl_parse.specs.Outcome.{and_then}
use Rattle.zpl_parse.specs.Classes.{stride_of}
use Rattle.zpl_parse.specs.Tokens.{next_is, names}
use Rattle.zpl_parse.specs.Expressions.{levels, actuals, components, inner, in_bracket, bracket, posts, rexpr}
use Rattle.zpl_parse.proofs.Complete.Base.{Begins, none, more, wider, Reads, read, made_reads}
use Rattle.zpl_parse.proofs.Complete.Levels.{SameExpr, StopsWhole, Whole, Opens}
use Rattle.zpl_parse.proofs.Complete.Opens.{opens_at}
use Rattle.zpl_parse.proofs.Complete.Parts.{SameExprs, SameInner, SameBracket, SamePosts, InnerEnds, RegionEnds, actuals_at, components_at, in_bracket_at, rexpr_at}
use Rattle.zpl_parse.proofs.Complete.Expressions.{expr_at, exprs_all, exprs_open, inner_all, bracket_all, posts_all}

abbrev pub SameNames : List Name → List Name → Type 0
SameNames t those = map name_shape those ≡ map name_shape t

-- NAME { "," NAME }
pub names_at : {most : ℕ} (d : ℕ) (those : List Name) → HasAny those
    → (turns : ℕ) (xs rest : List Lexeme) → Begins most (names_words those) xs rest
    → length xs ≤ turns → next_is (kind.Symbol sym.Comma) rest ≡ false →
    Reads (SameNames those) rest 0 d (names turns xs)
names_at d [] has turns xs rest b short ends = absurd has
names_at d (first ∷ others) has zero xs rest (more w bytes place bound b) short ends =
    absurd (omega arith)
names_at d (first ∷ []) has (suc turns) xs rest (more w bytes place bound (none limit)) short ends =
    rw (ends, names, and_then) (read (record { text = first.text; at = place } ∷ []) (omega arith)
    refl)
names_at d (first ∷ second ∷ others) has (suc turns) xs rest
    (more w bytes place bound (more v other where_at limit b)) short ends =
    made_reads (λ those. record { text = first.text; at = place } ∷ those) (λ those alike.
    ap (λ shapes. name_shape first ∷ shapes) alike) (names_at d (second ∷ others) tt turns _
    rest b (omega arith) ends)

module _ (wide most limit : ℕ) (fits : most ≤ wide) where
  pub expr_here : (t : Expr) → IsExpr 0 t → (xs rest : List Lexeme)
      → Begins most (expr_words t) xs rest → StopsWhole rest
      → Reads (SameExpr t) rest (expr_depth t) limit ((levels wide limit).expr xs)
  expr_here t is xs rest b stops =
      (expr_at wide Whole t is).reads limit xs rest (wider fits b) stops

  pub opens_here : (t : Expr) → IsExpr 0 t → (xs rest : List Lexeme)
      → Begins most (expr_words t) xs rest → Opens xs
  opens_here t is xs rest b = opens_at 0 t is xs rest b

  pub actuals_here : (those : Exprs) → AreExprs those → (turns : ℕ) (xs rest : List Lexeme)
      → Begins most (exprs_words those ++ word.Symbol sym.CloseParen ∷ []) xs rest
      → length xs < turns →
      Reads (SameExprs those) rest (exprs_depth those) limit (actuals turns (levels wide limit).expr
      xs)
  actuals_here those are turns xs rest b short =
      actuals_at those (exprs_open wide those are) (exprs_all wide those are) limit turns xs rest
      (wider fits b) short

  pub components_here : (those : Exprs) → AreExprs those → HasExpr those
      → (turns : ℕ) (xs rest : List Lexeme)
      → Begins most (exprs_words those ++ word.Symbol sym.CloseBracket ∷ []) xs rest
      → length xs < turns →
      Reads (SameExprs those) rest (exprs_depth those) limit
      (components turns (levels wide limit).expr xs)
  components_here those are has turns xs rest b short =
      components_at those (exprs_all wide those are has) limit turns xs rest (wider fits b) short

  pub inner_here : (t : Inner) → IsInner t → (turns : ℕ) (xs rest : List Lexeme)
      → Begins most (inner_words t) xs rest → length xs < turns → InnerEnds rest →
      Reads (SameInner t) rest (inner_depth t) limit (inner turns (levels wide limit).expr xs)
  inner_here t is turns xs rest b short ends =
      inner_all wide t is limit turns xs rest (wider fits b) short ends

  pub in_bracket_here : (t : Inner) → IsInner t → (turns : ℕ) (xs rest : List Lexeme)
      → Begins most (word.Symbol sym.OpenBracket ∷ (inner_words t ++ word.Symbol sym.CloseBracket ∷
      [])) xs rest → length xs < turns →
      Reads (SameInner t) rest (inner_depth t) limit (in_bracket turns (levels wide limit).expr xs)
  in_bracket_here t is turns xs rest b short =
      in_bracket_at t (inner_all wide t is) limit turns xs rest (wider fits b) short

  pub bracket_here : (t : Bracket) → IsBracket t → (turns : ℕ) (xs rest : List Lexeme)
      → Begins most (bracket_words t) xs rest → length xs < turns
      → next_is (kind.Symbol sym.OpenBracket) rest ≡ false →
      Reads (SameBracket t) rest (bracket_depth t) limit (bracket turns (levels wide limit).expr xs)
  bracket_here t is turns xs rest b short ends =
      bracket_all wide t is limit turns xs rest (wider fits b) short ends

  pub posts_here : (t : Posts) → ArePosts t → (turns : ℕ) (xs rest : List Lexeme)
      → Begins most (posts_words t) xs rest → length xs < turns → stride_of (head_kind rest)
      ≡ None →
      Reads (SamePosts t) rest (posts_depth t) limit (posts turns (levels wide limit).expr xs)
  posts_here t are turns xs rest b short ends =
      posts_all wide t are limit turns xs rest (wider fits b) short ends

  pub rexpr_here : (pre : List Pre) (base : RegionBase) (post : Posts) → ArePosts post
      → (turns : ℕ) (xs rest : List Lexeme)
      → Begins most (inner_words (Rexpr pre base post)) xs rest → length xs < turns
      → RegionEnds rest →
      Reads (SameInner (Rexpr pre base post)) rest (posts_depth post) limit
      (rexpr turns (levels wide limit).expr xs)
  rexpr_here pre base post are turns xs rest b short ends =
      rexpr_at pre base post (posts_all wide post are) limit turns xs rest (wider fits b) short ends
