-- Where expressions, directions and regions stand.
use Rattle.std.proofs.Common.{◌≡◌, ℕ, zero, suc, ◌≤◌, nat_le, Bool, true, false, List, [], ◌∷◌, ◌++◌, Option, Some, None, refl, sym, ap, subst, ◌∙◌, arith}
use Rattle.std.specs.List.{flat_map}
use Rattle.zpl_nums.specs.declared.operators.Op.{Op}
use Rattle.zpl_nums.specs.declared.operators.Op.TheVariants as op
use Rattle.zpl_nums.specs.declared.folds.Fold.{Fold}
use Rattle.zpl_tokens.specs.declared.Kind.{Kind}
use Rattle.zpl_tokens.specs.declared.Kind.TheVariants as kind
use Rattle.zpl_tokens.specs.declared.symbols.Sym.TheVariants as sym
use Rattle.zpl_tree.specs.Syntax.{Name, Pre, RegionBase, Expr, Number, Truth, Coord, Named, Shifted, Around, Remap, Call, Paren, Neg, Not, Abs, Pair, Reduce, Scan, Flood, ThenExpr, NamedDir, Vector, Bracketed, ThenPost, Span, ThenDim}
use Rattle.zpl_tree.specs.Spelling.{pre_words, operator_words, expr_words, dim_words}
use Rattle.zpl_tree.specs.Grammar.{own_level}
use Rattle.zpl_tree.specs.Depth.{expr_depth}
use Rattle.zpl_tree.specs.Word.{Word}
use Rattle.zpl_parse.specs.declared.classes.Opening.{Opening}
use Rattle.zpl_parse.specs.declared.classes.Opening.TheVariants as opening
use Rattle.zpl_parse.specs.declared.classes.Suffix.{Suffix}
use Rattle.zpl_parse.specs.declared.classes.Suffix.TheVariants as suffix
use Rattle.zpl_parse.specs.declared.classes.Folding.{Folding}
use Rattle.zpl_parse.specs.declared.classes.Folding.TheVariants as folding
use Rattle.zpl_grammar.specs.Lexeme.{Lexeme, head_kind, second_kind, head_at, behind}
use Rattle.zpl_parse.specs.Outcome.{Outcome, Done, Wrong, Deep, Reader, and_then, too_deep}
use Rattle.zpl_parse.specs.Classes.{or_op, and_op, comp_op, sum_op, term_op, opening_of, begins_expr, suffix_of, folding_of, outside_of, stride_of, closes_region, closes_dim}
use Rattle.zpl_parse.specs.Tokens.{next_is}
use Rattle.zpl_parse.specs.Expressions.{at_of, exprs, actuals, components, dir, posts, region_base, rexpr, bounds, dim_text, dim_texts, begins_region, inner, in_bracket, bracket, Levels, shifted, suffixed, behind_name, inside, folded, unary_by, unary_over, chain, once, levels_over, no_expr, levels}
use Rattle.zpl_grammar.specs.Offsets.{past, opens, EachAt, NameAt, PreAt, BaseAt, left_of, ExprAt, ExprsAt, DirAt, InnerAt, BracketAt, PostsAt, DimAt, DimsAt}
use Rattle.zpl_parse.proofs.Sound.Base.{IsSound}
use Rattle.zpl_parse.proofs.Sound.Tokens.{name_sound}
use Rattle.zpl_parse.proofs.Sound.Classes.{IsOperator, or_op_is, and_op_is, comp_op_is, sum_op_is, term_op_is, folding_is}
use Rattle.zpl_parse.proofs.Sound.Expressions.{SaysExpr, along_sound, region_base_sound, dir_sound, dim_text_sound, in_bracket_sound, bracket_sound, AreSound, levels_sound, levels_over_sound, unary_over_sound}
use Rattle.zpl_parse.proofs.Placed.Base.{IsAt, done_at, wrong_at, deep_at, past_append, anywhere, then_at, step_at, finish_at, last_at, choose_at, choose_some_at, sign_at, at_comma, name_at}

-- behind a name and an `of` or `in`
past_pre : (first : Name) (outside : Bool) (lexemes : List Lexeme)
    → past (pre_words (record { dir = first; outside = outside })) lexemes ≡ behind (behind lexemes)
past_pre first true lexemes = refl
past_pre first false lexemes = refl

abbrev BasesAt : List Lexeme → List Pre × RegionBase → Type 0
BasesAt lexemes those = EachAt PreAt pre_words lexemes those.0 ×
    BaseAt (past (flat_map pre_words those.0) lexemes) those.1

more_bases : (lexemes : List Lexeme) (first : Name) (outside : Bool) (others : List Pre ×
    RegionBase) → NameAt lexemes first → BasesAt (behind (behind lexemes)) others →
    BasesAt lexemes (record { dir = first; outside = outside } ∷ others.0, others.1)
more_bases lexemes first outside others here there =
    let pre : Pre = record { dir = first; outside = outside } in
    let at_others : BasesAt (past (pre_words pre) lexemes) others =
    subst (λ (l : List Lexeme). BasesAt l others) (sym (past_pre first outside lexemes)) there
    in (
      (here, at_others.0),
      subst (λ (l : List Lexeme). BaseAt l others.1)
          (sym (past_append (pre_words pre) (flat_map pre_words others.0) lexemes)) at_others.1,
    )

region_base_at : (most : ℕ) (lexemes : List Lexeme)
    → IsAt (λ those rest. BasesAt lexemes those) (region_base most lexemes)
region_base_at zero lexemes = wrong_at
region_base_at (suc most) lexemes = choose_at (next_is kind.Ditto lexemes)
    (λ ditto. done_at (tt, refl))
    (λ other. step_at _ (name_sound lexemes) (name_at lexemes) (λ first here.
    choose_some_at (outside_of (head_kind (behind lexemes)))
    (λ e. done_at (tt, here))
    (λ outside e. finish_at _ (region_base_at most _) (λ others rest there.
    more_bases lexemes first outside others here there))))

-- the rules over one of expressions
module _ (d : ℕ) (expr : Reader Expr) (sound : (lexemes : List Lexeme)
    → IsSound (SaysExpr 0 d) lexemes (expr lexemes))
    (at : (lexemes : List Lexeme) → IsAt (λ tree rest. ExprAt lexemes tree) (expr lexemes)) where
  pub exprs_at : (most : ℕ) (lexemes : List Lexeme)
      → IsAt (λ those rest. ExprsAt lexemes those) (exprs most expr lexemes)
  exprs_at zero lexemes = wrong_at
  exprs_at (suc most) lexemes =
      step_at _ (sound lexemes) (at lexemes) (λ first here.
      choose_at (at_comma (past (expr_words first) lexemes))
      (λ comma. finish_at (ThenExpr first) (exprs_at most _) (λ others rest there. (here, there)))
      (λ other. done_at (here, tt)))

  pub actuals_at : (most : ℕ) (lexemes : List Lexeme)
      → IsAt (λ those rest. ExprsAt lexemes those) (actuals most expr lexemes)
  actuals_at most lexemes =
      choose_at (next_is (kind.Symbol sym.CloseParen) lexemes) (λ closes. done_at tt) (λ other.
      then_at (exprs_at most lexemes) (λ those rest here. last_at _ _ (λ end left. here)))

  pub components_at : (most : ℕ) (lexemes : List Lexeme)
      → IsAt (λ those rest. ExprsAt lexemes those) (components most expr lexemes)
  components_at most lexemes =
      then_at (exprs_at most lexemes) (λ those rest here. last_at _ _ (λ end left. here))

  pub dir_at : (most : ℕ) (lexemes : List Lexeme)
      → IsAt (λ way rest. DirAt lexemes way) (dir most expr lexemes)
  dir_at most lexemes = choose_at (opens lexemes)
      (λ begins. finish_at Vector (components_at most (behind lexemes)) (λ parts rest here. here))
      (λ other. finish_at NamedDir (name_at lexemes) (λ called rest here. here))

  pub posts_at : (most : ℕ) (lexemes : List Lexeme)
      → IsAt (λ those rest. PostsAt lexemes those) (posts most expr lexemes)
  posts_at zero lexemes = wrong_at
  posts_at (suc most) lexemes = choose_some_at (stride_of (head_kind lexemes))
      (λ e. done_at tt)
      (λ stride e. step_at _ (dir_sound d expr sound most (behind lexemes))
      (dir_at most (behind lexemes)) (λ way here.
      finish_at (ThenPost stride way) (posts_at most _) (λ others rest there. (here, there))))

  bounds_at : (lexemes : List Lexeme) → IsAt (λ dim rest. DimAt lexemes dim) (bounds expr lexemes)
  bounds_at lexemes =
      step_at _ (sound lexemes) (at lexemes) (λ low here.
      choose_at (next_is (kind.Symbol sym.DotDot) (past (expr_words low) lexemes))
      (λ dots. finish_at (Span low) (at _) (λ high rest there. (here, there)))
      (λ other. done_at here))

  dim_text_at : (lexemes : List Lexeme)
      → IsAt (λ dim rest. DimAt lexemes dim) (dim_text expr lexemes)
  dim_text_at lexemes = choose_at (closes_dim (head_kind lexemes))
      (λ closes. done_at refl)
      (λ goes. choose_at (next_is (kind.Symbol sym.Star) lexemes)
      (λ star. choose_at (closes_dim (second_kind lexemes)) (λ closes. done_at refl) (λ other.
      bounds_at lexemes))
      (λ other. bounds_at lexemes))

  dim_texts_at : (most : ℕ) (lexemes : List Lexeme)
      → IsAt (λ dims rest. DimsAt lexemes dims) (dim_texts most expr lexemes)
  dim_texts_at zero lexemes = wrong_at
  dim_texts_at (suc most) lexemes =
      step_at _ (dim_text_sound d expr sound lexemes) (dim_text_at lexemes) (λ first here.
      choose_at (at_comma (past (dim_words first) lexemes))
      (λ comma. finish_at (ThenDim first) (dim_texts_at most _) (λ others rest there.
      (here, there)))
      (λ other. done_at (here, tt)))

  pub rexpr_at : (most : ℕ) (lexemes : List Lexeme)
      → IsAt (λ inner rest. InnerAt lexemes inner) (rexpr most expr lexemes)
  rexpr_at most lexemes =
      step_at _ (region_base_sound most lexemes) (region_base_at most lexemes) (λ base here.
      finish_at _ (posts_at most _) (λ those rest there. (here.0, here.1, there)))

  pub inner_at : (most : ℕ) (lexemes : List Lexeme)
      → IsAt (λ inner rest. InnerAt lexemes inner) (inner most expr lexemes)
  inner_at most lexemes = choose_at (begins_region (head_kind lexemes) (second_kind lexemes))
      (λ begins. rexpr_at most lexemes)
      (λ other. then_at (dim_texts_at most lexemes) (λ dims rest here.
      choose_at (closes_region (head_kind rest)) (λ closes. done_at here) (λ goes. wrong_at)))

  pub in_bracket_at : (most : ℕ) (lexemes : List Lexeme)
      → IsAt (λ inner rest. InnerAt (behind lexemes) inner) (in_bracket most expr lexemes)
  in_bracket_at most lexemes =
      sign_at (kind.Symbol sym.OpenBracket) lexemes _ (then_at (inner_at most (behind lexemes))
      (λ region rest here. last_at _ _ (λ end left. here)))

  pub bracket_at : (most : ℕ) (lexemes : List Lexeme)
      → IsAt (λ bracket rest. BracketAt lexemes bracket) (bracket most expr lexemes)
  bracket_at most lexemes =
      choose_at (opens lexemes) (λ begins. finish_at Bracketed (in_bracket_at most lexemes)
      (λ inner rest here. here)) (λ other. done_at tt)

-- the operators that stand before their operands, and the others
left_first : (o : Op) → own_level o ≤ 5 → (lexemes : List Lexeme) → left_of o lexemes ≡ lexemes
left_first op.Max below lexemes = absurd (omega arith)
left_first op.Min below lexemes = absurd (omega arith)
left_first _ below lexemes = refl

left_inside : (o : Op) → own_level o ≡ 6 → (lexemes : List Lexeme) → left_of o lexemes
    ≡ behind (behind lexemes)
left_inside op.Max is lexemes = refl
left_inside op.Min is lexemes = refl
left_inside op.Or is lexemes = absurd (omega arith)
left_inside op.And is lexemes = absurd (omega arith)
left_inside op.Eq is lexemes = absurd (omega arith)
left_inside op.Ne is lexemes = absurd (omega arith)
left_inside op.Lt is lexemes = absurd (omega arith)
left_inside op.Le is lexemes = absurd (omega arith)
left_inside op.Gt is lexemes = absurd (omega arith)
left_inside op.Ge is lexemes = absurd (omega arith)
left_inside op.Add is lexemes = absurd (omega arith)
left_inside op.Sub is lexemes = absurd (omega arith)
left_inside op.Mul is lexemes = absurd (omega arith)
left_inside op.Div is lexemes = absurd (omega arith)
left_inside op.Rem is lexemes = absurd (omega arith)

-- the rules of expressions of one depth
pub record AreAt (rules : Levels) : Type 0 where
  pub unary : (lexemes : List Lexeme)
      → IsAt (λ tree rest. ExprAt lexemes tree) (rules.unary lexemes)
  pub term : (lexemes : List Lexeme) → IsAt (λ tree rest. ExprAt lexemes tree) (rules.term lexemes)
  pub sum : (lexemes : List Lexeme) → IsAt (λ tree rest. ExprAt lexemes tree) (rules.sum lexemes)
  pub comp : (lexemes : List Lexeme) → IsAt (λ tree rest. ExprAt lexemes tree) (rules.comp lexemes)
  pub conj : (lexemes : List Lexeme) → IsAt (λ tree rest. ExprAt lexemes tree) (rules.conj lexemes)
  pub expr : (lexemes : List Lexeme) → IsAt (λ tree rest. ExprAt lexemes tree) (rules.expr lexemes)

-- unary
module _ (most deep : ℕ) (deeper : Levels) (sound : AreSound deep deeper) (are : AreAt deeper) where
  shifted_at : (first : Name) (at_first : Lexeme) (rest : List Lexeme) → first.at ≡ at_first.at
      → IsAt (λ tree left. ExprAt (at_first ∷ rest) tree) (shifted most deeper first (behind rest))
  shifted_at first at_first rest same = choose_at (next_is (kind.Symbol sym.Caret) (behind rest))
      (λ around. finish_at (Around first.at first)
      (dir_at deep deeper.expr sound.expr are.expr most (behind (behind rest))) (λ shift left here.
      (same, same, here)))
      (λ other. finish_at (Shifted first.at first)
      (dir_at deep deeper.expr sound.expr are.expr most (behind rest)) (λ shift left here.
      (same, same, here)))

  suffixed_at : (first : Name) (at_first : Lexeme) (rest : List Lexeme) (f : Option Suffix)
      → first.at ≡ at_first.at
      → IsAt (λ tree left. ExprAt (at_first ∷ rest) tree) (suffixed most deeper first f rest)
  suffixed_at first at_first rest (Some suffix.Shift) same = shifted_at first at_first rest same
  suffixed_at first at_first rest (Some suffix.Remap) same =
      sign_at (kind.Symbol sym.OpenBracket) (behind rest) _ (finish_at (Remap first.at first)
      (components_at deep deeper.expr sound.expr are.expr most (behind (behind rest)))
      (λ those left here. (same, same, here)))
  suffixed_at first at_first rest (Some suffix.Call) same =
      finish_at (Call first.at first) (actuals_at deep deeper.expr sound.expr are.expr most
      (behind rest))
      (λ those left here. (same, same, here))
  suffixed_at first at_first rest None same = done_at (same, same)

  behind_name_at : (first : Name) (at_first : Lexeme) (rest : List Lexeme) → first.at ≡ at_first.at
      → IsAt (λ tree left. ExprAt (at_first ∷ rest) tree) (behind_name most deeper first rest)
  behind_name_at first at_first rest same =
      suffixed_at first at_first rest (suffix_of (head_kind rest)) same

  inside_at : (lexemes : List Lexeme)
      → IsAt (λ tree rest. ExprAt lexemes tree) (inside deeper lexemes)
  inside_at lexemes = then_at (are.expr lexemes) (λ value rest here. last_at _ _ (λ end left. here))

  folded_at : (first : Lexeme) (operator : Fold) (lexemes : List Lexeme) (f : Option Folding)
      → folding_of operator (head_kind lexemes) ≡ f →
      IsAt (λ tree rest. ExprAt (first ∷ lexemes) tree) (folded most first.at operator deeper f
      lexemes)
  folded_at first operator lexemes (Some folding.Reduce) e =
      step_at _ (bracket_sound deep deeper.expr sound.expr most (behind lexemes))
      (bracket_at deep deeper.expr sound.expr are.expr most (behind lexemes)) (λ over here.
      finish_at (Reduce first.at operator over) (are.unary _) (λ operand rest there.
      (refl, here, there)))
  folded_at first operator lexemes (Some folding.Scan) e =
      step_at _ (along_sound (behind lexemes)) (anywhere _) (λ dimension fact.
      finish_at (Scan first.at operator dimension) (are.unary _) (λ operand rest there.
      (refl, there)))
  folded_at first operator lexemes (Some (folding.Pair o)) e =
      let is = left_inside o (folding_is operator (head_kind lexemes) (folding.Pair o) e).1 (first ∷
      lexemes) in
      step_at _ (sound.expr (behind lexemes)) (are.expr (behind lexemes)) (λ left here.
      sign_at (kind.Symbol sym.Comma) (past (expr_words left) (behind lexemes)) _
      (finish_at (Pair first.at o left) (inside_at _) (λ right rest there. (
        refl,
        subst (λ (l : List Lexeme). ExprAt l left) (sym is) here,
        subst (λ (l : List Lexeme). ExprAt (behind (past (expr_words left) l)) right) (sym is)
            there,
      ))))
  folded_at first operator lexemes None e = wrong_at

  unary_by_at : (first : Lexeme) (rest : List Lexeme) (o : Option Opening)
      → IsAt (λ tree left. ExprAt (first ∷ rest) tree) (unary_by most deeper o first rest)
  unary_by_at first rest (Some (opening.Number value)) = done_at refl
  unary_by_at first rest (Some (opening.Truth value)) = done_at refl
  unary_by_at first rest (Some (opening.Coord dimension)) = done_at refl
  unary_by_at first rest (Some opening.Name) =
      behind_name_at (record { text = first.bytes; at = first.at }) first rest refl
  unary_by_at first rest (Some opening.Paren) =
      finish_at (Paren first.at) (inside_at rest) (λ value left here. (refl, here))
  unary_by_at first rest (Some opening.Minus) =
      finish_at (Neg first.at) (are.unary rest) (λ value left here. (refl, here))
  unary_by_at first rest (Some opening.Not) =
      finish_at (Not first.at) (are.unary rest) (λ value left here. (refl, here))
  unary_by_at first rest (Some opening.Abs) =
      sign_at (kind.Symbol sym.OpenParen) rest _ (finish_at (Abs first.at) (inside_at (behind rest))
      (λ value left here. (refl, here)))
  unary_by_at first rest (Some (opening.Fold operator)) =
      folded_at first operator rest (folding_of operator (head_kind rest)) refl
  unary_by_at first rest (Some opening.Flood) =
      step_at _ (in_bracket_sound deep deeper.expr sound.expr most rest)
      (in_bracket_at deep deeper.expr sound.expr are.expr most rest) (λ source here.
      finish_at (Flood first.at source) (are.unary _) (λ operand left there. (refl, here, there)))
  unary_by_at first rest None = wrong_at

  pub unary_over_at : (lexemes : List Lexeme)
      → IsAt (λ tree rest. ExprAt lexemes tree) (unary_over most deeper lexemes)
  unary_over_at [] = wrong_at
  unary_over_at (first ∷ rest) = unary_by_at first rest (opening_of first.kind)

-- an expression has the offset of its first token
at_first : (lexemes : List Lexeme) (tree : Expr) → ExprAt lexemes tree → at_of tree
    ≡ head_at lexemes
at_first lexemes (Number at value) here = here
at_first lexemes (Truth at value) here = here
at_first lexemes (Coord at dimension) here = here
at_first lexemes (Named at called) here = here.0
at_first lexemes (Shifted at called shift) here = here.0
at_first lexemes (Around at called shift) here = here.0
at_first lexemes (Remap at called those) here = here.0
at_first lexemes (Call at called those) here = here.0
at_first lexemes (Paren at inside) here = here.0
at_first lexemes (Neg at operand) here = here.0
at_first lexemes (Not at operand) here = here.0
at_first lexemes (Abs at operand) here = here.0
at_first lexemes (Pair at o left right) here = here.0
at_first lexemes (Reduce at operator over operand) here = here.0
at_first lexemes (Scan at operator dimension operand) here = here.0
at_first lexemes (Flood at source operand) here = here.0

small_own : (a own : ℕ) → a ≡ own → own ≤ 4 → a ≤ 5
small_own a own is below = omega arith

pair_at : (own left_own right_own : ℕ) (k : Kind) (o : Op) → IsOperator own left_own right_own k o
    → own ≤ 4 → (lexemes : List Lexeme) (left right : Expr) → ExprAt lexemes left →
    ExprAt (behind (past (expr_words left) lexemes)) right
    → ExprAt lexemes (Pair (at_of left) o left right)
pair_at own left_own right_own k o is below lexemes left right here there =
    let first : left_of o lexemes ≡ lexemes =
    left_first o (small_own (own_level o) own is.own_is below) lexemes in (
      at_first lexemes left here,
      subst (λ (l : List Lexeme). ExprAt l left) (sym first) here,
      subst (λ (l : List Lexeme). ExprAt (behind (past (expr_words left) l)) right) (sym first)
          there,
    )

past_pair : (own left_own right_own : ℕ) (k : Kind) (o : Op) → IsOperator own left_own right_own k o
    → (at : ℕ) (lexemes : List Lexeme) (left right : Expr) →
    past (expr_words right) (behind (past (expr_words left) lexemes))
    ≡ past (expr_words (Pair at o left right)) lexemes
past_pair own left_own right_own k o is at lexemes left right =
    let before = past_append (expr_words left) (operator_words o) lexemes
    ∙ ap (λ (w : List Word). past w (past (expr_words left) lexemes)) is.sign.are in
    let whole = past_append (expr_words left ++ operator_words o) (expr_words right) lexemes
    ∙ ap (λ (l : List Lexeme). past (expr_words right) l) before in
    sym (ap (λ (w : List Word). past w lexemes) (is.between (expr_words left) (expr_words right))
    ∙ whole)

module _ (own right_own deep : ℕ) (below : own ≤ 4) (op_of : Kind
    → Option Op) (operand : Reader Expr)
    (sound : (lexemes : List Lexeme) → IsSound (SaysExpr right_own deep) lexemes (operand lexemes))
    (at : (lexemes : List Lexeme) → IsAt (λ tree rest. ExprAt lexemes tree) (operand lexemes))
  where
    chain_at : ((k : Kind) (o : Op) → op_of k ≡ Some o → IsOperator own own right_own k o)
        → (most : ℕ) (first : List Lexeme) (left : Expr) → ExprAt first left
        → (lexemes : List Lexeme) →
        lexemes ≡ past (expr_words left) first
        → IsAt (λ tree rest. ExprAt first tree) (chain most deep op_of operand left lexemes)
    chain_at is zero first left here lexemes lands = wrong_at
    chain_at is (suc most) first left here lexemes lands = choose_some_at (op_of (head_kind lexemes))
        (λ e. done_at here)
        (λ o e. choose_at (nat_le (expr_depth left) deep)
        (λ fits. step_at _ (sound (behind lexemes)) (at (behind lexemes)) (λ right there.
        let at_right : ExprAt (behind (past (expr_words left) first)) right =
        subst (λ (l : List Lexeme). ExprAt (behind l) right) lands there in
        chain_at is most first (Pair (at_of left) o left right)
        (pair_at own own right_own (head_kind lexemes) o (is (head_kind lexemes) o e) below first
        left right here at_right) _
        (ap (λ (l : List Lexeme). past (expr_words right) (behind l)) lands
        ∙ past_pair own own right_own (head_kind lexemes) o (is (head_kind lexemes) o e)
        (at_of left) first left right)))
        (λ deep_. deep_at))

    once_at : ((k : Kind) (o : Op) → op_of k ≡ Some o → IsOperator own right_own right_own k o)
        → (first : List Lexeme) (left : Expr) → ExprAt first left → (lexemes : List Lexeme) →
        lexemes ≡ past (expr_words left) first
        → IsAt (λ tree rest. ExprAt first tree) (once deep op_of operand left lexemes)
    once_at is first left here lexemes lands = choose_some_at (op_of (head_kind lexemes))
        (λ e. done_at here)
        (λ o e. choose_at (nat_le (expr_depth left) deep)
        (λ fits. finish_at (Pair (at_of left) o left) (at (behind lexemes)) (λ right rest there.
        pair_at own right_own right_own (head_kind lexemes) o (is (head_kind lexemes) o e) below first
        left right here (subst (λ (l : List Lexeme). ExprAt (behind l) right) lands there)))
        (λ deep_. deep_at))

module _ (most deep : ℕ) (unary : Reader Expr) (deeper : Levels) (sound : (lexemes : List Lexeme)
    → IsSound (SaysExpr 5 (suc deep)) lexemes (unary lexemes)) (are : AreSound deep deeper)
    (at : (lexemes : List Lexeme) → IsAt (λ tree rest. ExprAt lexemes tree) (unary lexemes))
    (are_at : AreAt deeper) where
  term_at : (lexemes : List Lexeme)
      → IsAt (λ tree rest. ExprAt lexemes tree) ((levels_over most deep unary deeper).term lexemes)
  term_at lexemes = step_at _ (sound lexemes) (at lexemes) (λ left here.
      chain_at 4 5 deep (omega arith) term_op deeper.unary are.unary are_at.unary term_op_is most
      lexemes left here _ refl)

  sum_at : (lexemes : List Lexeme)
      → IsAt (λ tree rest. ExprAt lexemes tree) ((levels_over most deep unary deeper).sum lexemes)
  sum_at lexemes =
      step_at _ ((levels_over_sound most deep unary deeper sound are).term lexemes)
      (term_at lexemes) (λ left here.
      chain_at 3 4 deep (omega arith) sum_op deeper.term are.term are_at.term sum_op_is most lexemes
      left here _ refl)

  comp_at : (lexemes : List Lexeme)
      → IsAt (λ tree rest. ExprAt lexemes tree) ((levels_over most deep unary deeper).comp lexemes)
  comp_at lexemes =
      step_at _ ((levels_over_sound most deep unary deeper sound are).sum lexemes) (sum_at lexemes)
      (λ left here.
      once_at 2 3 deep (omega arith) comp_op deeper.sum are.sum are_at.sum comp_op_is lexemes left
      here _ refl)

  conj_at : (lexemes : List Lexeme)
      → IsAt (λ tree rest. ExprAt lexemes tree) ((levels_over most deep unary deeper).conj lexemes)
  conj_at lexemes =
      step_at _ ((levels_over_sound most deep unary deeper sound are).comp lexemes)
      (comp_at lexemes) (λ left here.
      chain_at 1 2 deep (omega arith) and_op deeper.comp are.comp are_at.comp and_op_is most lexemes
      left here _ refl)

  expr_at : (lexemes : List Lexeme)
      → IsAt (λ tree rest. ExprAt lexemes tree) ((levels_over most deep unary deeper).expr lexemes)
  expr_at lexemes =
      step_at _ ((levels_over_sound most deep unary deeper sound are).conj lexemes)
      (conj_at lexemes) (λ left here.
      chain_at 0 1 deep (omega arith) or_op deeper.conj are.conj are_at.conj or_op_is most lexemes
      left here _ refl)

  levels_over_at : AreAt (levels_over most deep unary deeper)
  levels_over_at = record {
    unary = at;
    term = term_at;
    sum = sum_at;
    comp = comp_at;
    conj =
        conj_at;
    expr = expr_at;
  }

pub too_deep_at : {A : Type 0} {Says : A → List Lexeme
    → Type 0} (test : Bool) (lexemes : List Lexeme) → IsAt Says (too_deep test lexemes)
too_deep_at true lexemes = deep_at
too_deep_at false lexemes = wrong_at

-- where nothing is read
abbrev Nowhere : Expr → List Lexeme → Type 0
Nowhere tree rest = ⊥

no_expr_at : (lexemes : List Lexeme) → IsAt Nowhere (no_expr lexemes)
no_expr_at lexemes = too_deep_at (begins_expr (head_kind lexemes)) lexemes

none_then_at : (next : Expr → Reader Expr) {outcome : Outcome Expr} → IsAt Nowhere outcome
    → IsAt Nowhere (and_then outcome next)
none_then_at next at = then_at at (λ tree rest fact. absurd fact)

anything_at : {Says : Expr → List Lexeme → Type 0} (outcome : Outcome Expr) → IsAt Nowhere outcome
    → IsAt Says outcome
anything_at (Done tree rest) at = absurd at.holds
anything_at (Wrong rest) at = record { holds = tt }
anything_at (Deep rest) at = record { holds = tt }

pub levels_at : (most d : ℕ) → AreAt (levels most d)
levels_at most zero = record {
  unary = λ lexemes. anything_at _ (no_expr_at lexemes);
  term = λ lexemes. anything_at _ (none_then_at _ (no_expr_at lexemes));
  sum = λ lexemes. anything_at _ (none_then_at _ (none_then_at _ (no_expr_at lexemes)));
  comp = λ lexemes.
      anything_at _ (none_then_at _ (none_then_at _ (none_then_at _ (no_expr_at lexemes))));
  conj = λ lexemes.
      anything_at _
      (none_then_at _ (none_then_at _ (none_then_at _ (none_then_at _ (no_expr_at lexemes)))));
  expr = λ lexemes.
      anything_at _
      (none_then_at _
      (none_then_at _ (none_then_at _ (none_then_at _ (none_then_at _ (no_expr_at lexemes))))));
}
levels_at most (suc deep) =
    levels_over_at most deep (unary_over most (levels most deep)) (levels most deep)
    (unary_over_sound most deep (levels most deep) (levels_sound most deep))
    (levels_sound most deep)
    (unary_over_at most deep (levels most deep) (levels_sound most deep) (levels_at most deep))
    (levels_at most deep)
