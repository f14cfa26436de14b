-- The rows of brackets, and expressions with slots, weigh no more than their words pay for.
use Rattle.std.proofs.Common.{◌≡◌, ℕ, zero, suc, ◌+◌, ◌*◌, ◌≤◌, Bool, true, false, if◌then◌else◌, List, [], ◌∷◌, ◌++◌, length, Option, Some, None, refl, ◌∙◌, arith, length-append}
use Rattle.std.specs.Prelude.{flat_map, ◌==◌}
use Rattle.zpl_nums.specs.declared.operators.Op.{Op}
use Rattle.zpl_nums.specs.declared.operators.Op.TheVariants as op
use Rattle.zpl_region.specs.declared.regions.Region.{Region}
use Rattle.zpl_tokens.specs.declared.keywords.Key.TheVariants as key
use Rattle.zpl_tokens.specs.declared.symbols.Sym.TheVariants as sym
use Rattle.zpl_tree.specs.Word.{Word}
use Rattle.zpl_tree.specs.Syntax.{Name, Pre, RegionBase, NamedRegion, Ditto, Expr, Number, Truth, Coord, Named, Shifted, Around, Remap, Call, Paren, Neg, Not, Abs, Pair, Reduce, Scan, Flood, NamedDir, Inner, Rexpr, Dims, Posts, NoPost, ThenPost, DimText, Blank, Star, One, Span, DimTexts, NoDim, ThenDim}
use Rattle.zpl_tree.specs.Spelling.{symbol, keyword, name_words, in_round, in_square, index_words, pair_words, pre_words, base_words, expr_words, dir_words, inner_words, posts_words, dim_words, dims_words, more_dims}
use Rattle.zpl_names.specs.Ranks.{is_index}
use Rattle.zpl_binding.specs.Regions.{Known}
use Rattle.zpl_meaning.specs.Regions.{vector_in}
use Rattle.zpl_meaning.specs.Store.{Thing, Scalar, ArrayAt, Fixed, thing_of}
use Rattle.node_form.specs.Expression.{words_of}
use Rattle.node_form.specs.declared.words.ExprOp.TheVariants as one
use Rattle.flat_form.specs.Row.{Row, Part}
use Rattle.zpl_lowering.specs.Where.{Numbers, Slotted, Where}
use Rattle.zpl_lowering.specs.Words.{thing_code, scalar_code}
use Rattle.zpl_lowering.specs.Bracket.{Opened, pre_form, standing, part_of, parts_of, three_parts, spanned, Form, post_forms, pre_forms, forms_of, formed, named_region, name_opened, computed, constant_region, one_row, fixed_or, bracket}
use Rattle.lowering_sizes.proofs.Costs.{cost, cost_both}
use Rattle.lowering_sizes.proofs.Weights.{rows_weight, rows_both, part_weight, parts_weight}
use Rattle.lowering_sizes.proofs.Slates.{variable_words}

-- ---- what words pay for

pub round_cost : (text : List ℕ → ℕ) (words : List Word) →
    cost text (in_round words) ≡ 64 + cost text words
round_cost text words = omega (arith, cost_both text words (symbol sym.CloseParen))

pub square_cost : (text : List ℕ → ℕ) (words : List Word) →
    cost text (in_square words) ≡ 64 + cost text words
square_cost text words = omega (arith, cost_both text words (symbol sym.CloseBracket))

pub index_cost : (text : List ℕ → ℕ) (k : ℕ) → cost text (index_words k) ≡ 32
index_cost text k = by (k == 1) (k == 2)
  where
    by : (b c : Bool) →
        cost text (if b then keyword key.Index1 else (if c then keyword key.Index2 else keyword
        key.Index3)) ≡ 32
    by true c = refl
    by false true = refl
    by false false = refl

pub truth_cost : (text : List ℕ → ℕ) (at : ℕ) (value : Bool) →
    cost text (expr_words (Truth at value)) ≡ 32
truth_cost text at true = refl
truth_cost text at false = refl

called : (text : List ℕ → ℕ) (left right : List Word) →
    cost text left + cost text right ≤ cost text (in_round (left ++ symbol sym.Comma ++ right))
called text left right =
    omega (
      arith,
      round_cost text (left ++ symbol sym.Comma ++ right),
      cost_both text (left ++ symbol sym.Comma) right,
      cost_both text left (symbol sym.Comma),
    )

pub between : (text : List ℕ → ℕ) (left middle right : List Word) →
    cost text left + cost text right ≤ cost text (left ++ middle ++ right)
between text left middle right =
    omega (arith, cost_both text (left ++ middle) right, cost_both text left middle)

pub pair_cost : (text : List ℕ → ℕ) (operator : Op) (left right : List Word) →
    cost text left + cost text right ≤ cost text (pair_words operator left right)
pair_cost text op.Max left right = omega (arith, called text left right)
pair_cost text op.Min left right = omega (arith, called text left right)
pair_cost text op.Add left right = between text left (symbol sym.Plus) right
pair_cost text op.Sub left right = between text left (symbol sym.Minus) right
pair_cost text op.Mul left right = between text left (symbol sym.Star) right
pair_cost text op.Div left right = between text left (symbol sym.Slash) right
pair_cost text op.Rem left right = between text left (symbol sym.Percent) right
pair_cost text op.Eq left right = between text left (symbol sym.Equal) right
pair_cost text op.Ne left right = between text left (symbol sym.NotEqual) right
pair_cost text op.Lt left right = between text left (symbol sym.Less) right
pair_cost text op.Le left right = between text left (symbol sym.LessEqual) right
pair_cost text op.Gt left right = between text left (symbol sym.Greater) right
pair_cost text op.Ge left right = between text left (symbol sym.GreaterEqual) right
pair_cost text op.And left right = between text left (symbol sym.And) right
pair_cost text op.Or left right = between text left (symbol sym.Or) right

-- ---- bounds

thing_words : (numbers : Numbers) (thing : Option Thing) →
    length (words_of (thing_code numbers thing)) ≤ 1
thing_words numbers (Some (Scalar place)) = variable_words _
thing_words numbers (Some (Fixed value)) = omega arith
thing_words numbers (Some (ArrayAt place home)) = omega arith
thing_words numbers None = omega arith

-- twice: an index is both ends of its span
pub scalar_words : (text : List ℕ → ℕ) (w : Where) (expr : Expr) →
    2 * length (words_of (scalar_code w expr)) + 2 ≤ cost text (expr_words expr)
scalar_words text w (Number at value) = omega arith
scalar_words text w (Truth at value) = omega (arith, truth_cost text at value)
scalar_words text w (Named at name) =
    omega (arith, thing_words w.numbers (thing_of w.environment name.text))
scalar_words text w (Paren at inside) =
    omega (arith, scalar_words text w inside, round_cost text (expr_words inside))
scalar_words text w (Neg at operand) =
    omega (
      arith,
      scalar_words text w operand,
      length-append (words_of (scalar_code w operand)) (one.Neg ∷ []),
    )
scalar_words text w (Not at operand) =
    omega (
      arith,
      scalar_words text w operand,
      length-append (words_of (scalar_code w operand)) (one.Not ∷ []),
    )
scalar_words text w (Abs at operand) =
    omega (
      arith,
      scalar_words text w operand,
      round_cost text (expr_words operand),
      length-append (words_of (scalar_code w operand)) (one.Abs ∷ []),
    )
scalar_words text w (Pair at operator left right) =
    omega (
      arith,
      scalar_words text w left,
      scalar_words text w right,
      pair_cost text operator (expr_words left) (expr_words right),
      length-append (words_of (scalar_code w left))
          (words_of (scalar_code w right) ++ one.Pair operator ∷ []),
      length-append (words_of (scalar_code w right)) (one.Pair operator ∷ []),
    )
scalar_words text w (Coord at k) = omega (arith, index_cost text k)
scalar_words text w (Shifted at name shift) = omega arith
scalar_words text w (Around at name shift) = omega arith
scalar_words text w (Remap at name indices) = omega arith
scalar_words text w (Call at name actuals) = omega arith
scalar_words text w (Reduce at operator over operand) =
    omega (arith, cost_both)
scalar_words text w (Scan at operator along operand) =
    omega (arith, cost_both)
scalar_words text w (Flood at source operand) = omega arith

part_cost : (text : List ℕ → ℕ) (w : Where) (current : ℕ) (dim : DimText) →
    part_weight (part_of w current dim) ≤ cost text (dim_words dim)
part_cost text w current (Blank at) = omega arith
part_cost text w current (Star at) = omega arith
part_cost text w current (One index) = omega (arith, scalar_words text w index)
part_cost text w current (Span low high) =
    omega (
      arith,
      scalar_words text w low,
      scalar_words text w high,
      between text (expr_words low) (symbol sym.DotDot) (expr_words high),
    )

more_parts_cost : (text : List ℕ → ℕ) (w : Where) (current : ℕ) (dims : DimTexts) →
    parts_weight (parts_of w current dims) ≤ cost text (more_dims dims)
more_parts_cost text w current NoDim = omega arith
more_parts_cost text w current (ThenDim first rest) =
    omega (
      arith,
      part_cost text w current first,
      more_parts_cost text w current rest,
      cost_both text (dim_words first) (more_dims rest),
    )

parts_cost : (text : List ℕ → ℕ) (w : Where) (current : ℕ) (dims : DimTexts) →
    parts_weight (parts_of w current dims) ≤ cost text (dims_words dims)
parts_cost text w current NoDim = omega arith
parts_cost text w current (ThenDim first rest) =
    omega (
      arith,
      part_cost text w current first,
      more_parts_cost text w current rest,
      cost_both text (dim_words first) (more_dims rest),
    )

three_weight : (n : ℕ) (parts : List Part) →
    parts_weight (three_parts n parts) ≤ parts_weight parts
three_weight zero parts = omega arith
three_weight (suc n) [] = omega (arith, three_weight n [])
three_weight (suc n) (part ∷ parts) = omega (arith, three_weight n parts)

-- ---- regions

abbrev pub opened_weight : (List ℕ → ℕ) → Opened → ℕ
opened_weight text opened = rows_weight text opened.rows + length opened.slots

spanned_weight : (text : List ℕ → ℕ) (w : Where) (next line : ℕ) (current : Slotted)
    (dims : DimTexts) →
    opened_weight text (spanned w next line current dims) ≤ 2 + cost text (dims_words dims)
spanned_weight text w next line current dims =
    omega (
      arith,
      three_weight 3 (parts_of w current.slot dims),
      parts_cost text w current.slot dims,
    )

formed_weight : (text : List ℕ → ℕ) (next line : ℕ) (forms : List Form) (opened : Opened) →
    opened_weight text (formed next line forms opened)
    ≡ opened_weight text opened + 2 * length forms
formed_weight text next line [] opened = omega arith
formed_weight text next line (form ∷ rest) opened =
    formed_weight text (suc next) line rest _ ∙
    omega (arith, rows_both, length-append opened.slots (length opened.flood ∷ []))

posts_cost : (text : List ℕ → ℕ) (known : Known) (post : Posts) →
    2 * length (post_forms known post) ≤ cost text (posts_words post)
posts_cost text known NoPost = omega arith
posts_cost text known (ThenPost true dir rest) =
    omega (arith, posts_cost text known rest, cost_both text (dir_words dir) (posts_words rest))
posts_cost text known (ThenPost false dir rest) =
    omega (arith, posts_cost text known rest, cost_both text (dir_words dir) (posts_words rest))

pre_cost : (text : List ℕ → ℕ) (pre : Pre) → cost text (pre_words pre) ≡ 64
pre_cost text pre = by pre.outside
  where
    by : (b : Bool) →
        cost text (name_words pre.dir ++ (if b then keyword key.Of else keyword key.In)) ≡ 64
    by true = refl
    by false = refl

pres_cost : (text : List ℕ → ℕ) (known : Known) (pre : List Pre) →
    2 * length (pre_forms known pre) ≤ cost text (flat_map pre_words pre)
pres_cost text known [] = omega arith
pres_cost text known (pre ∷ rest) =
    omega (
      arith,
      pres_cost text known rest,
      pre_cost text pre,
      cost_both text (pre_words pre) (flat_map pre_words rest),
      length-append (pre_forms known rest)
          (record { form = pre_form pre.outside; shift = vector_in known (NamedDir pre.dir) } ∷ []),
    )

formed_cost : (text : List ℕ → ℕ) (known : Known) (next line : ℕ) (pre : List Pre)
    (base : RegionBase) (post : Posts) (slot : ℕ) (flood : List Bool) →
    opened_weight text (formed next line (forms_of known pre post) (standing slot flood))
    ≤ cost text (inner_words (Rexpr pre base post))
formed_cost text known next line pre base post slot flood =
    omega (
      arith,
      formed_weight text next line (forms_of known pre post) (standing slot flood),
      length-append (post_forms known post) (pre_forms known pre),
      pres_cost text known pre,
      posts_cost text known post,
      cost_both text (flat_map pre_words pre ++ base_words base) (posts_words post),
      cost_both text (flat_map pre_words pre) (base_words base),
    )

name_cost : (text : List ℕ → ℕ) (is : Bool) (w : Where) (next line : ℕ) (current : Slotted)
    (pre : List Pre) (name : Name) (post : Posts) →
    opened_weight text (name_opened is w next line current pre name post)
    ≤ cost text (inner_words (Rexpr pre (NamedRegion name) post)) + 2
name_cost text true w next line current pre name post =
    omega (
      arith,
      spanned_weight text w next line current (ThenDim (One (Named name.at name)) NoDim),
      cost_both text (flat_map pre_words pre ++ name_words name) (posts_words post),
      cost_both text (flat_map pre_words pre) (name_words name),
    )
name_cost text false w next line current pre name post =
    omega (
      arith,
      formed_cost text w.setup.known next line pre (NamedRegion name) post
          (named_region w.setup.known name).slot (named_region w.setup.known name).flood,
    )

pub computed_cost : (text : List ℕ → ℕ) (w : Where) (next line : ℕ) (current : Slotted)
    (inner : Inner) →
    opened_weight text (computed w next line current inner)
    ≤ cost text (inner_words inner) + 2
computed_cost text w next line current (Rexpr pre (NamedRegion name) post) =
    name_cost text (is_index w.scope pre name post) w next line current pre name post
computed_cost text w next line current (Rexpr pre (Ditto at) post) =
    omega (
      arith,
      formed_cost text w.setup.known next line pre (Ditto at) post
          current.slot current.flood,
    )
computed_cost text w next line current (Dims dims) =
    omega (arith, spanned_weight text w next line current dims)

pub bracket_cost : (text : List ℕ → ℕ) (w : Where) (next line : ℕ) (current : Slotted)
    (inner : Inner) →
    opened_weight text (bracket w next line current inner) ≤ cost text (inner_words inner) + 2
bracket_cost text w next line current inner =
    by (constant_region w inner) (computed w next line current inner)
    (computed_cost text w next line current inner)
  where
    one : (rows : List Row) (opened fixed : Opened) (n : ℕ) → opened_weight text opened ≤ n + 2 →
        opened_weight text fixed ≤ 2 → opened_weight text (one_row rows opened fixed) ≤ n + 2
    one [] opened fixed n few two = few
    one (row ∷ rows) opened fixed n few two = omega arith

    by : (region : Option Region) (opened : Opened) →
        opened_weight text opened ≤ cost text (inner_words inner) + 2 →
        opened_weight text (fixed_or region next opened) ≤ cost text (inner_words inner) + 2
    by None opened few = few
    by (Some region) opened few =
        one opened.rows opened _ (cost text (inner_words inner)) few (omega arith)
