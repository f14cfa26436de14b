-- Expressions of one shape that have the offsets of the same lexemes are equal.
use Rattle.std.proofs.Common.{◌≡◌, ℕ, Bool, List, [], ◌∷◌, ◌++◌, map, refl, sym, ap, subst, ◌∙◌}
use Rattle.std.specs.List.{flat_map}
use Rattle.zpl_nums.specs.declared.operators.Op.{Op}
use Rattle.zpl_tree.specs.Syntax.{Name, Pre, RegionBase, NamedRegion, Ditto, Expr, Number, Truth, Coord, Named, Shifted, Around, Remap, Call, Paren, Neg, Not, Abs, Pair, Reduce, Scan, Flood, NoExpr, ThenExpr, Dir, NamedDir, Vector, Inner, Rexpr, Dims, Bracket, NoBracket, Bracketed, NoPost, ThenPost, DimText, Blank, Star, One, Span, NoDim, ThenDim}
use Rattle.zpl_tree.specs.Shape.{name_shape, pre_shape, base_shape, expr_shape, exprs_shape, dir_shape, inner_shape, bracket_shape, posts_shape, dim_shape, dims_shape}
use Rattle.zpl_tree.specs.Spelling.{in_square, name_words, pre_words, base_words, along_words, expr_words, dir_words, inner_words, bracket_words, dim_words}
use Rattle.zpl_tree.specs.Word.{Word}
use Rattle.zpl_grammar.specs.Lexeme.{Lexeme, behind}
use Rattle.zpl_grammar.specs.Offsets.{past, EachAt, SeparatedAt, NameAt, NamesAt, PreAt, BaseAt, left_of, ExprAt, ExprsAt, DirAt, InnerAt, BracketAt, PostsAt, DimAt, DimsAt}

-- two of one shape that have the offsets of the same lexemes are equal
abbrev pub AreOnce : {A : Type 0} → (List Lexeme → A → Type 0) → (A → A) → Type 0
AreOnce {A} At shape = (lexemes : List Lexeme) (one other : A) → At lexemes one → At lexemes other
    → shape one ≡ shape other → one ≡ other

-- what is made of equal parts is equal
pub ap_two : {A B C : Type 0} (f : A → B → C) {a b : A} {c d : B} → a ≡ b → c ≡ d → f a c ≡ f b d
ap_two f e g = cc

pub ap_three : {A B C D : Type 0} (f : A → B → C → D) {a b : A} {c d : B} {i j : C} → a ≡ b → c ≡ d
    → i ≡ j → f a c i ≡ f b d j
ap_three f e g h = cc

-- of lists it is so where it is so of what they have
pub each_once : {A : Type 0} (At : List Lexeme → A → Type 0) (spelling : A → List Word) (shape : A
    → A) → AreOnce At shape → AreOnce (EachAt At spelling) (map shape)
each_once At spelling shape same lexemes [] [] x y e = refl
each_once At spelling shape same lexemes (one ∷ ones) (other ∷ others) x y e =
    let shapes : shape one ≡ shape other = cc in
    let more : map shape ones ≡ map shape others = cc in
    let first = same lexemes one other x.0 y.0 shapes in
    let there =
    subst (λ z. EachAt At spelling (past (spelling z) lexemes) others) (sym first) y.1 in
    ap_two (λ z zs. z ∷ zs) first (each_once At spelling shape same (past (spelling one) lexemes)
    ones others x.1 there more)
each_once At spelling shape same lexemes [] (other ∷ others) x y e = absurd (let no : ⊥ = cc in no)
each_once At spelling shape same lexemes (one ∷ ones) [] x y e = absurd (let no : ⊥ = cc in no)

pub separated_once : {A : Type 0} (At : List Lexeme → A → Type 0) (spelling : A
    → List Word) (shape : A → A) → AreOnce At shape → AreOnce (SeparatedAt At spelling) (map shape)
separated_once At spelling shape same lexemes [] [] x y e = refl
separated_once At spelling shape same lexemes (one ∷ ones) (other ∷ others) x y e =
    let shapes : shape one ≡ shape other = cc in
    let more : map shape ones ≡ map shape others = cc in
    let first = same lexemes one other x.0 y.0 shapes in
    let there =
    subst (λ z. SeparatedAt At spelling (behind (past (spelling z) lexemes)) others) (sym first)
    y.1 in
    ap_two (λ z zs. z ∷ zs) first (separated_once At spelling shape same
    (behind (past (spelling one) lexemes)) ones others x.1 there more)
separated_once At spelling shape same lexemes [] (other ∷ others) x y e = absurd (let no : ⊥ = cc in
    no)
separated_once At spelling shape same lexemes (one ∷ ones) [] x y e = absurd (let no : ⊥ = cc in no)

pub name_once : AreOnce NameAt name_shape
name_once lexemes one other x y e =
    ap_two (λ (text : List ℕ) (at : ℕ). record {
      text = text;
      at =
          at;
    }) (ap (λ (n : Name). n.text) e) (x ∙ sym y)

pub names_once : AreOnce NamesAt (map name_shape)
names_once = separated_once NameAt name_words name_shape name_once

pre_once : AreOnce PreAt pre_shape
pre_once lexemes one other x y e =
    ap_two (λ (dir : Name) (outside : Bool). record {
      dir = dir;
      outside =
          outside;
    }) (name_once lexemes one.dir other.dir x y (ap (λ (p : Pre). p.dir) e))
    (ap (λ (p : Pre). p.outside) e)

base_once : AreOnce BaseAt base_shape
base_once lexemes (NamedRegion one) (NamedRegion other) x y e =
    ap NamedRegion (name_once lexemes one other x y cc)
base_once lexemes (Ditto one) (Ditto other) x y e = ap Ditto (x ∙ sym y)
base_once lexemes (NamedRegion one) (Ditto other) x y e = absurd (let no : ⊥ = cc in no)
base_once lexemes (Ditto one) (NamedRegion other) x y e = absurd (let no : ⊥ = cc in no)

mutual
  pub expr_once : AreOnce ExprAt expr_shape
  expr_once lexemes (Number at value) (Number other_at other_value) x y e =
      let values : value ≡ other_value = cc in
      ap_two Number (x ∙ sym y) values
  expr_once lexemes (Truth at value) (Truth other_at other_value) x y e =
      let values : value ≡ other_value = cc in
      ap_two Truth (x ∙ sym y) values
  expr_once lexemes (Coord at dimension) (Coord other_at other_dimension) x y e =
      let dimensions : dimension ≡ other_dimension = cc in
      ap_two Coord (x ∙ sym y) dimensions
  expr_once lexemes (Named at name) (Named other_at other_name) x y e =
      let names : name_shape name ≡ name_shape other_name = cc in
      ap_two Named (x.0 ∙ sym y.0) (name_once lexemes name other_name x.1 y.1 names)
  expr_once lexemes (Shifted at name shift) (Shifted other_at other_name other_shift) x y e =
      let names : name_shape name ≡ name_shape other_name = cc in
      let shifts : dir_shape shift ≡ dir_shape other_shift = cc in
      let ats : at ≡ other_at = x.0 ∙ sym y.0 in
      let name_same = name_once lexemes name other_name x.1 y.1 names in
      let shift_same = dir_once (behind (behind lexemes)) shift other_shift x.2 y.2 shifts in
      cc
  expr_once lexemes (Around at name shift) (Around other_at other_name other_shift) x y e =
      let names : name_shape name ≡ name_shape other_name = cc in
      let shifts : dir_shape shift ≡ dir_shape other_shift = cc in
      let ats : at ≡ other_at = x.0 ∙ sym y.0 in
      let name_same = name_once lexemes name other_name x.1 y.1 names in
      let shift_same =
      dir_once (behind (behind (behind lexemes))) shift other_shift x.2 y.2 shifts in
      cc
  expr_once lexemes (Remap at name indices) (Remap other_at other_name other_indices) x y e =
      let names : name_shape name ≡ name_shape other_name = cc in
      let those : exprs_shape indices ≡ exprs_shape other_indices = cc in
      let ats : at ≡ other_at = x.0 ∙ sym y.0 in
      let name_same = name_once lexemes name other_name x.1 y.1 names in
      let indices_same =
      exprs_once (behind (behind (behind lexemes))) indices other_indices x.2 y.2 those in
      cc
  expr_once lexemes (Call at name actuals) (Call other_at other_name other_actuals) x y e =
      let names : name_shape name ≡ name_shape other_name = cc in
      let those : exprs_shape actuals ≡ exprs_shape other_actuals = cc in
      let ats : at ≡ other_at = x.0 ∙ sym y.0 in
      let name_same = name_once lexemes name other_name x.1 y.1 names in
      let actuals_same = exprs_once (behind (behind lexemes)) actuals other_actuals x.2 y.2 those in
      cc
  expr_once lexemes (Paren at inside) (Paren other_at other_inside) x y e =
      let insides : expr_shape inside ≡ expr_shape other_inside = cc in
      ap_two Paren (x.0 ∙ sym y.0) (expr_once (behind lexemes) inside other_inside x.1 y.1 insides)
  expr_once lexemes (Neg at operand) (Neg other_at other_operand) x y e =
      let operands : expr_shape operand ≡ expr_shape other_operand = cc in
      ap_two Neg (x.0 ∙ sym y.0) (expr_once (behind lexemes) operand other_operand x.1 y.1 operands)
  expr_once lexemes (Not at operand) (Not other_at other_operand) x y e =
      let operands : expr_shape operand ≡ expr_shape other_operand = cc in
      ap_two Not (x.0 ∙ sym y.0) (expr_once (behind lexemes) operand other_operand x.1 y.1 operands)
  expr_once lexemes (Abs at operand) (Abs other_at other_operand) x y e =
      let operands : expr_shape operand ≡ expr_shape other_operand = cc in
      ap_two Abs (x.0 ∙ sym y.0) (expr_once (behind (behind lexemes)) operand other_operand x.1 y.1
      operands)
  expr_once lexemes (Pair at op left right) (Pair other_at other_op other_left other_right) x y e =
      let ops : op ≡ other_op = cc in
      let lefts : expr_shape left ≡ expr_shape other_left = cc in
      let rights : expr_shape right ≡ expr_shape other_right = cc in
      let ats : at ≡ other_at = x.0 ∙ sym y.0 in
      let left_there = subst (λ (o : Op). ExprAt (left_of o lexemes) other_left) (sym ops) y.1 in
      let left_same = expr_once (left_of op lexemes) left other_left x.1 left_there lefts in
      let place =
      ap_two (λ (t : Expr) (o : Op). behind (past (expr_words t) (left_of o lexemes))) left_same
      ops in
      let right_there = subst (λ (l : List Lexeme). ExprAt l other_right) (sym place) y.2 in
      let right_same =
      expr_once (behind (past (expr_words left) (left_of op lexemes))) right other_right x.2
      right_there rights in
      cc
  expr_once lexemes (Reduce at operator over operand) (Reduce other_at other_operator other_over
      other_operand) x y e =
      let operators : operator ≡ other_operator = cc in
      let overs : bracket_shape over ≡ bracket_shape other_over = cc in
      let operands : expr_shape operand ≡ expr_shape other_operand = cc in
      let ats : at ≡ other_at = x.0 ∙ sym y.0 in
      let over_same = bracket_once (behind (behind lexemes)) over other_over x.1 y.1 overs in
      let there =
      subst (λ (b : Bracket). ExprAt (past (bracket_words b) (behind (behind lexemes)))
      other_operand) (sym over_same) y.2 in
      let operand_same =
      expr_once (past (bracket_words over) (behind (behind lexemes))) operand other_operand x.2
      there operands in
      cc
  expr_once lexemes (Scan at operator along operand) (Scan other_at other_operator other_along
      other_operand) x y e =
      let operators : operator ≡ other_operator = cc in
      let alongs : along ≡ other_along = cc in
      let operands : expr_shape operand ≡ expr_shape other_operand = cc in
      let ats : at ≡ other_at = x.0 ∙ sym y.0 in
      let there =
      subst (λ z. ExprAt (past (along_words z) (behind (behind lexemes))) other_operand)
      (sym alongs) y.1 in
      let operand_same =
      expr_once (past (along_words along) (behind (behind lexemes))) operand other_operand x.1
      there operands in
      cc
  expr_once lexemes (Flood at source operand) (Flood other_at other_source other_operand) x y e =
      let sources : inner_shape source ≡ inner_shape other_source = cc in
      let operands : expr_shape operand ≡ expr_shape other_operand = cc in
      let ats : at ≡ other_at = x.0 ∙ sym y.0 in
      let source_same = inner_once (behind (behind lexemes)) source other_source x.1 y.1 sources in
      let there =
      subst (λ (z : Inner). ExprAt (past (in_square (inner_words z)) (behind lexemes))
      other_operand) (sym source_same) y.2 in
      let operand_same =
      expr_once (past (in_square (inner_words source)) (behind lexemes)) operand other_operand
      x.2 there operands in
      cc
  expr_once lexemes one other x y e = absurd (let no : ⊥ = cc in no)

  pub exprs_once : AreOnce ExprsAt exprs_shape
  exprs_once lexemes NoExpr NoExpr x y e = refl
  exprs_once lexemes (ThenExpr first rest) (ThenExpr other_first other_rest) x y e =
      let firsts : expr_shape first ≡ expr_shape other_first = cc in
      let rests : exprs_shape rest ≡ exprs_shape other_rest = cc in
      let same = expr_once lexemes first other_first x.0 y.0 firsts in
      let there =
      subst (λ (z : Expr). ExprsAt (behind (past (expr_words z) lexemes)) other_rest) (sym same)
      y.1 in
      ap_two ThenExpr same (exprs_once (behind (past (expr_words first) lexemes)) rest other_rest
      x.1 there rests)
  exprs_once lexemes one other x y e = absurd (let no : ⊥ = cc in no)

  pub dir_once : AreOnce DirAt dir_shape
  dir_once lexemes (NamedDir name) (NamedDir other_name) x y e =
      let names : name_shape name ≡ name_shape other_name = cc in
      ap NamedDir (name_once lexemes name other_name x y names)
  dir_once lexemes (Vector parts) (Vector other_parts) x y e =
      let those : exprs_shape parts ≡ exprs_shape other_parts = cc in
      ap Vector (exprs_once (behind lexemes) parts other_parts x y those)
  dir_once lexemes one other x y e = absurd (let no : ⊥ = cc in no)

  pub inner_once : AreOnce InnerAt inner_shape
  inner_once lexemes (Rexpr pre base post) (Rexpr other_pre other_base other_post) x y e =
      let pres : map pre_shape pre ≡ map pre_shape other_pre = cc in
      let bases : base_shape base ≡ base_shape other_base = cc in
      let posts : posts_shape post ≡ posts_shape other_post = cc in
      let pre_same =
      each_once PreAt pre_words pre_shape pre_once lexemes pre other_pre x.0 y.0 pres in
      let base_there =
      subst (λ (z : List Pre). BaseAt (past (flat_map pre_words z) lexemes) other_base)
      (sym pre_same) y.1 in
      let base_same =
      base_once (past (flat_map pre_words pre) lexemes) base other_base x.1 base_there bases in
      let place =
      ap_two (λ (z : List Pre) (b : RegionBase). past (flat_map pre_words z ++ base_words b)
      lexemes) pre_same base_same in
      let post_there = subst (λ (l : List Lexeme). PostsAt l other_post) (sym place) y.2 in
      let post_same =
      posts_once (past (flat_map pre_words pre ++ base_words base) lexemes) post other_post x.2
      post_there posts in
      cc
  inner_once lexemes (Dims dims) (Dims other_dims) x y e =
      let those : dims_shape dims ≡ dims_shape other_dims = cc in
      ap Dims (dims_once lexemes dims other_dims x y those)
  inner_once lexemes one other x y e = absurd (let no : ⊥ = cc in no)

  pub bracket_once : AreOnce BracketAt bracket_shape
  bracket_once lexemes NoBracket NoBracket x y e = refl
  bracket_once lexemes (Bracketed inner) (Bracketed other_inner) x y e =
      let inners : inner_shape inner ≡ inner_shape other_inner = cc in
      ap Bracketed (inner_once (behind lexemes) inner other_inner x y inners)
  bracket_once lexemes one other x y e = absurd (let no : ⊥ = cc in no)

  pub posts_once : AreOnce PostsAt posts_shape
  posts_once lexemes NoPost NoPost x y e = refl
  posts_once lexemes (ThenPost stride dir rest) (ThenPost other_stride other_dir other_rest) x y e =
      let strides : stride ≡ other_stride = cc in
      let dirs : dir_shape dir ≡ dir_shape other_dir = cc in
      let rests : posts_shape rest ≡ posts_shape other_rest = cc in
      let dir_same = dir_once (behind lexemes) dir other_dir x.0 y.0 dirs in
      let there =
      subst (λ (z : Dir). PostsAt (past (dir_words z) (behind lexemes)) other_rest)
      (sym dir_same) y.1 in
      let rest_same =
      posts_once (past (dir_words dir) (behind lexemes)) rest other_rest x.1 there rests in
      cc
  posts_once lexemes one other x y e = absurd (let no : ⊥ = cc in no)

  pub dim_once : AreOnce DimAt dim_shape
  dim_once lexemes (Blank at) (Blank other_at) x y e = ap Blank (x ∙ sym y)
  dim_once lexemes (Star at) (Star other_at) x y e = ap Star (x ∙ sym y)
  dim_once lexemes (One index) (One other_index) x y e =
      let those : expr_shape index ≡ expr_shape other_index = cc in
      ap One (expr_once lexemes index other_index x y those)
  dim_once lexemes (Span low high) (Span other_low other_high) x y e =
      let lows : expr_shape low ≡ expr_shape other_low = cc in
      let highs : expr_shape high ≡ expr_shape other_high = cc in
      let low_same = expr_once lexemes low other_low x.0 y.0 lows in
      let there =
      subst (λ (z : Expr). ExprAt (behind (past (expr_words z) lexemes)) other_high)
      (sym low_same) y.1 in
      ap_two Span low_same (expr_once (behind (past (expr_words low) lexemes)) high other_high x.1
      there highs)
  dim_once lexemes one other x y e = absurd (let no : ⊥ = cc in no)

  pub dims_once : AreOnce DimsAt dims_shape
  dims_once lexemes NoDim NoDim x y e = refl
  dims_once lexemes (ThenDim first rest) (ThenDim other_first other_rest) x y e =
      let firsts : dim_shape first ≡ dim_shape other_first = cc in
      let rests : dims_shape rest ≡ dims_shape other_rest = cc in
      let same = dim_once lexemes first other_first x.0 y.0 firsts in
      let there =
      subst (λ (z : DimText). DimsAt (behind (past (dim_words z) lexemes)) other_rest)
      (sym same) y.1 in
      ap_two ThenDim same (dims_once (behind (past (dim_words first) lexemes)) rest other_rest x.1
      there rests)
  dims_once lexemes one other x y e = absurd (let no : ⊥ = cc in no)
