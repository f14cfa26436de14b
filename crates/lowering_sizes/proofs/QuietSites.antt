-- The sites of expressions and regions have calls, but no statements.
use Rattle.std.proofs.Common.{◌≡◌, ℕ, ◌+◌, ◌*◌, ◌≤◌, Bool, true, false, if◌then◌else◌, List, [], ◌∷◌, ◌++◌, map, length, Option, Some, None, arith}
use Rattle.std.specs.Prelude.{sum, flat_map}
use Rattle.std.specs.Option.{option_to_list}
use Rattle.zpl_tree.specs.Syntax.{Name, Pre, RegionBase, NamedRegion, Ditto, Expr, Number, Truth, Coord, Named, Shifted, Around, Remap, Call, Paren, Neg, Not, Abs, Pair, Reduce, Scan, Flood, Exprs, NoExpr, ThenExpr, Dir, NamedDir, Vector, Inner, Rexpr, Dims, NoBracket, Bracketed, Posts, NoPost, ThenPost, DimText, Blank, Star, One, Span, DimTexts, NoDim, ThenDim, Mask, Prefix, Item, Str, Value, Program}
use Rattle.zpl_nums.specs.declared.operators.Op.{Op}
use Rattle.zpl_names.specs.Kinds.{Rank}
use Rattle.zpl_names.specs.Ranks.{own_rank, inner_rank, is_index, mask_rank}
use Rattle.zpl_names.specs.Sites.{Reach, Role, Site, AtWhole, AtExpr, AtCall, AtNamed, AtDir, AtRegion, AtMask, AtStmt, AtBase, AtPosts, AtProcedure, Bound, Component, Operand, Actual, Limit, Printed, Assigned, actuals_sites, components_sites, dim_sites, dims_sites, dir_sites, expr_sites, exprs_sites, in_vector, index_sites, item_sites, over_source, posts_sites, prefix_sites, prefixes_sites, region_sites, step_sites, under_prefix, value_sites, whole_rank, whole_sites}
use Rattle.zpl_names.specs.Expansion.{Instance, plain_tokens_at}

-- What is told of a call at two sides, which differ in the calls that it makes in turn, and of the
-- plain assignments of an instance.
pub record Marks : Type 0 where
  pub program : Program
  pub instance : Instance
  pub less : Reach → Name → Exprs → ℕ
  pub most : Reach → Name → Exprs → ℕ

abbrev pub left_at : Marks → Site → ℕ
left_at k (AtCall reach place name actuals) = k.less reach name actuals
left_at k (AtStmt reach at prefixes form) =
    32 * sum (plain_tokens_at k.program k.instance (AtStmt reach at prefixes form))
left_at k (AtWhole reach role expr) = 0
left_at k (AtExpr reach rank expr) = 0
left_at k (AtNamed reach name) = 0
left_at k (AtDir reach dir) = 0
left_at k (AtRegion reach hint region) = 0
left_at k (AtMask reach prefix mask) = 0
left_at k (AtBase base) = 0
left_at k (AtPosts reach region posts) = 0
left_at k (AtProcedure procedure) = 0

abbrev pub right_at : Marks → Site → ℕ
right_at k (AtCall reach place name actuals) = k.most reach name actuals
right_at k (AtStmt reach at prefixes form) =
    length (plain_tokens_at k.program k.instance (AtStmt reach at prefixes form))
right_at k (AtWhole reach role expr) = 0
right_at k (AtExpr reach rank expr) = 0
right_at k (AtNamed reach name) = 0
right_at k (AtDir reach dir) = 0
right_at k (AtRegion reach hint region) = 0
right_at k (AtMask reach prefix mask) = 0
right_at k (AtBase base) = 0
right_at k (AtPosts reach region posts) = 0
right_at k (AtProcedure procedure) = 0

abbrev pub left_of : Marks → List Site → ℕ
left_of k [] = 0
left_of k (site ∷ rest) = left_at k site + left_of k rest

abbrev pub right_of : Marks → List Site → ℕ
right_of k [] = 0
right_of k (site ∷ rest) = right_at k site + right_of k rest

pub left_both : (k : Marks) (xs ys : List Site) →
    left_of k (xs ++ ys) ≡ left_of k xs + left_of k ys
left_both k [] ys = omega arith
left_both k (x ∷ xs) ys = omega (arith, left_both k xs ys)

pub right_both : (k : Marks) (xs ys : List Site) →
    right_of k (xs ++ ys) ≡ right_of k xs + right_of k ys
right_both k [] ys = omega arith
right_both k (x ∷ xs) ys = omega (arith, right_both k xs ys)

-- of calls no more is told at the left
abbrev pub Grows : Marks → Type 0
Grows k = (reach : Reach) (name : Name) (actuals : Exprs) →
    k.less reach name actuals ≤ k.most reach name actuals

two : (k : Marks) (xs ys : List Site) → left_of k xs ≤ right_of k xs →
    left_of k ys ≤ right_of k ys → left_of k (xs ++ ys) ≤ right_of k (xs ++ ys)
two k xs ys one other = omega (arith, left_both k xs ys, right_both k xs ys)

index_quiet : (k : Marks) (reach : Reach) (pre : List Pre) (base : RegionBase) (post : Posts) →
    left_of k (index_sites reach pre base post) ≤ right_of k (index_sites reach pre base post)
index_quiet k reach pre (Ditto at) post = omega arith
index_quiet k reach pre (NamedRegion name) post = by (is_index reach.scope pre name post)
  where
    by : (b : Bool) →
        left_of k (if b then
        AtWhole reach Bound (Named name.at name) ∷
        AtExpr reach (whole_rank reach Bound (Named name.at name)) (Named name.at name) ∷ []
        else [])
        ≤ right_of k (if b then
        AtWhole reach Bound (Named name.at name) ∷
        AtExpr reach (whole_rank reach Bound (Named name.at name)) (Named name.at name) ∷ []
        else [])
    by true = omega arith
    by false = omega arith

mutual
  pub expr_quiet : (k : Marks) → Grows k → (reach : Reach) (rank : Rank) (expr : Expr) →
      left_of k (expr_sites reach rank expr) ≤ right_of k (expr_sites reach rank expr)
  expr_quiet k grows reach rank (Number at value) = omega arith
  expr_quiet k grows reach rank (Truth at value) = omega arith
  expr_quiet k grows reach rank (Coord at dimension) = omega arith
  expr_quiet k grows reach rank (Named at name) = omega arith
  expr_quiet k grows reach rank (Shifted at name shift) =
      omega (arith, dir_quiet k grows reach shift)
  expr_quiet k grows reach rank (Around at name shift) =
      omega (arith, dir_quiet k grows reach shift)
  expr_quiet k grows reach rank (Remap at name indices) =
      omega (arith, exprs_quiet k grows reach rank indices)
  expr_quiet k grows reach rank (Call at name actuals) =
      omega (arith, grows reach name actuals, actuals_quiet k grows reach actuals)
  expr_quiet k grows reach rank (Paren at inside) =
      omega (arith, expr_quiet k grows reach rank inside)
  expr_quiet k grows reach rank (Neg at operand) =
      omega (arith, expr_quiet k grows reach rank operand)
  expr_quiet k grows reach rank (Not at operand) =
      omega (arith, expr_quiet k grows reach rank operand)
  expr_quiet k grows reach rank (Abs at operand) =
      omega (arith, expr_quiet k grows reach rank operand)
  expr_quiet k grows reach rank (Pair at op left right) =
      omega (
        arith,
        two k (expr_sites reach rank left) (expr_sites reach rank right)
            (expr_quiet k grows reach rank left) (expr_quiet k grows reach rank right),
      )
  expr_quiet k grows reach rank (Reduce at operator NoBracket operand) =
      omega (arith, expr_quiet k grows reach (whole_rank reach Operand operand) operand)
  expr_quiet k grows reach rank (Reduce at operator (Bracketed source) operand) =
      let hint = own_rank reach.scope reach.prefix operand in
      let over = inner_rank reach.scope hint reach.prefix source in
      omega (
        arith,
        two k (region_sites reach hint source)
            (expr_sites (over_source reach over source) over operand)
            (region_quiet k grows reach hint source)
            (expr_quiet k grows (over_source reach over source) over operand),
      )
  expr_quiet k grows reach rank (Scan at operator along operand) =
      omega (arith, expr_quiet k grows reach rank operand)
  expr_quiet k grows reach rank (Flood at source operand) =
      let hint = own_rank reach.scope reach.prefix operand in
      let over = inner_rank reach.scope hint reach.prefix source in
      omega (
        arith,
        two k (region_sites reach hint source)
            (expr_sites (over_source reach over source) over operand)
            (region_quiet k grows reach hint source)
            (expr_quiet k grows (over_source reach over source) over operand),
      )

  exprs_quiet : (k : Marks) → Grows k → (reach : Reach) (rank : Rank) (exprs : Exprs) →
      left_of k (exprs_sites reach rank exprs) ≤ right_of k (exprs_sites reach rank exprs)
  exprs_quiet k grows reach rank NoExpr = omega arith
  exprs_quiet k grows reach rank (ThenExpr first rest) =
      two k (expr_sites reach rank first) (exprs_sites reach rank rest)
      (expr_quiet k grows reach rank first) (exprs_quiet k grows reach rank rest)

  pub actuals_quiet : (k : Marks) → Grows k → (reach : Reach) (exprs : Exprs) →
      left_of k (actuals_sites reach exprs) ≤ right_of k (actuals_sites reach exprs)
  actuals_quiet k grows reach NoExpr = omega arith
  actuals_quiet k grows reach (ThenExpr (Named at name) rest) =
      omega (arith, actuals_quiet k grows reach rest)
  actuals_quiet k grows reach (ThenExpr (Number at value) rest) =
      omega (
        arith,
        two k (expr_sites reach (whole_rank reach Actual (Number at value)) (Number at value))
            (actuals_sites reach rest)
            (expr_quiet k grows reach (whole_rank reach Actual (Number at value)) (Number at value))
            (actuals_quiet k grows reach rest),
      )
  actuals_quiet k grows reach (ThenExpr (Truth at value) rest) =
      omega (
        arith,
        two k (expr_sites reach (whole_rank reach Actual (Truth at value)) (Truth at value))
            (actuals_sites reach rest)
            (expr_quiet k grows reach (whole_rank reach Actual (Truth at value)) (Truth at value))
            (actuals_quiet k grows reach rest),
      )
  actuals_quiet k grows reach (ThenExpr (Coord at dimension) rest) =
      omega (
        arith,
        two k (expr_sites reach (whole_rank reach Actual (Coord at dimension)) (Coord at dimension))
            (actuals_sites reach rest)
            (expr_quiet k grows reach (whole_rank reach Actual (Coord at dimension)) (Coord at dimension))
            (actuals_quiet k grows reach rest),
      )
  actuals_quiet k grows reach (ThenExpr (Shifted at name shift) rest) =
      omega (
        arith,
        two k (expr_sites reach (whole_rank reach Actual (Shifted at name shift)) (Shifted at name shift))
            (actuals_sites reach rest)
            (expr_quiet k grows reach (whole_rank reach Actual (Shifted at name shift)) (Shifted at name shift))
            (actuals_quiet k grows reach rest),
      )
  actuals_quiet k grows reach (ThenExpr (Around at name shift) rest) =
      omega (
        arith,
        two k (expr_sites reach (whole_rank reach Actual (Around at name shift)) (Around at name shift))
            (actuals_sites reach rest)
            (expr_quiet k grows reach (whole_rank reach Actual (Around at name shift)) (Around at name shift))
            (actuals_quiet k grows reach rest),
      )
  actuals_quiet k grows reach (ThenExpr (Remap at name indices) rest) =
      omega (
        arith,
        two k (expr_sites reach (whole_rank reach Actual (Remap at name indices)) (Remap at name indices))
            (actuals_sites reach rest)
            (expr_quiet k grows reach (whole_rank reach Actual (Remap at name indices)) (Remap at name indices))
            (actuals_quiet k grows reach rest),
      )
  actuals_quiet k grows reach (ThenExpr (Call at name actuals) rest) =
      omega (
        arith,
        two k (expr_sites reach (whole_rank reach Actual (Call at name actuals)) (Call at name actuals))
            (actuals_sites reach rest)
            (expr_quiet k grows reach (whole_rank reach Actual (Call at name actuals)) (Call at name actuals))
            (actuals_quiet k grows reach rest),
      )
  actuals_quiet k grows reach (ThenExpr (Paren at inside) rest) =
      omega (
        arith,
        two k (expr_sites reach (whole_rank reach Actual (Paren at inside)) (Paren at inside))
            (actuals_sites reach rest)
            (expr_quiet k grows reach (whole_rank reach Actual (Paren at inside)) (Paren at inside))
            (actuals_quiet k grows reach rest),
      )
  actuals_quiet k grows reach (ThenExpr (Neg at operand) rest) =
      omega (
        arith,
        two k (expr_sites reach (whole_rank reach Actual (Neg at operand)) (Neg at operand))
            (actuals_sites reach rest)
            (expr_quiet k grows reach (whole_rank reach Actual (Neg at operand)) (Neg at operand))
            (actuals_quiet k grows reach rest),
      )
  actuals_quiet k grows reach (ThenExpr (Not at operand) rest) =
      omega (
        arith,
        two k (expr_sites reach (whole_rank reach Actual (Not at operand)) (Not at operand))
            (actuals_sites reach rest)
            (expr_quiet k grows reach (whole_rank reach Actual (Not at operand)) (Not at operand))
            (actuals_quiet k grows reach rest),
      )
  actuals_quiet k grows reach (ThenExpr (Abs at operand) rest) =
      omega (
        arith,
        two k (expr_sites reach (whole_rank reach Actual (Abs at operand)) (Abs at operand))
            (actuals_sites reach rest)
            (expr_quiet k grows reach (whole_rank reach Actual (Abs at operand)) (Abs at operand))
            (actuals_quiet k grows reach rest),
      )
  actuals_quiet k grows reach (ThenExpr (Pair at op left right) rest) =
      omega (
        arith,
        two k (expr_sites reach (whole_rank reach Actual (Pair at op left right)) (Pair at op left right))
            (actuals_sites reach rest)
            (expr_quiet k grows reach (whole_rank reach Actual (Pair at op left right)) (Pair at op left right))
            (actuals_quiet k grows reach rest),
      )
  actuals_quiet k grows reach (ThenExpr (Reduce at operator over operand) rest) =
      omega (
        arith,
        two k (expr_sites reach (whole_rank reach Actual (Reduce at operator over operand)) (Reduce at operator over operand))
            (actuals_sites reach rest)
            (expr_quiet k grows reach (whole_rank reach Actual (Reduce at operator over operand)) (Reduce at operator over operand))
            (actuals_quiet k grows reach rest),
      )
  actuals_quiet k grows reach (ThenExpr (Scan at operator along operand) rest) =
      omega (
        arith,
        two k (expr_sites reach (whole_rank reach Actual (Scan at operator along operand)) (Scan at operator along operand))
            (actuals_sites reach rest)
            (expr_quiet k grows reach (whole_rank reach Actual (Scan at operator along operand)) (Scan at operator along operand))
            (actuals_quiet k grows reach rest),
      )
  actuals_quiet k grows reach (ThenExpr (Flood at source operand) rest) =
      omega (
        arith,
        two k (expr_sites reach (whole_rank reach Actual (Flood at source operand)) (Flood at source operand))
            (actuals_sites reach rest)
            (expr_quiet k grows reach (whole_rank reach Actual (Flood at source operand)) (Flood at source operand))
            (actuals_quiet k grows reach rest),
      )

  dir_quiet : (k : Marks) → Grows k → (reach : Reach) (dir : Dir) →
      left_of k (dir_sites reach dir) ≤ right_of k (dir_sites reach dir)
  dir_quiet k grows reach (NamedDir name) = omega arith
  dir_quiet k grows reach (Vector parts) =
      omega (arith, components_quiet k grows (in_vector reach) parts)

  components_quiet : (k : Marks) → Grows k → (reach : Reach) (exprs : Exprs) →
      left_of k (components_sites reach exprs) ≤ right_of k (components_sites reach exprs)
  components_quiet k grows reach NoExpr = omega arith
  components_quiet k grows reach (ThenExpr first rest) =
      omega (
        arith,
        two k (expr_sites reach (whole_rank reach Component first) first)
            (components_sites reach rest)
            (expr_quiet k grows reach (whole_rank reach Component first) first)
            (components_quiet k grows reach rest),
      )

  pub region_quiet : (k : Marks) → Grows k → (reach : Reach) (hint : Rank) (region : Inner) →
      left_of k (region_sites reach hint region) ≤ right_of k (region_sites reach hint region)
  region_quiet k grows reach hint (Rexpr pre base post) =
      omega (
        arith,
        two k (index_sites reach pre base post) (posts_sites reach post)
            (index_quiet k reach pre base post) (posts_quiet k grows reach post),
      )
  region_quiet k grows reach hint (Dims dims) = omega (arith, dims_quiet k grows reach dims)

  posts_quiet : (k : Marks) → Grows k → (reach : Reach) (post : Posts) →
      left_of k (posts_sites reach post) ≤ right_of k (posts_sites reach post)
  posts_quiet k grows reach NoPost = omega arith
  posts_quiet k grows reach (ThenPost stride dir rest) =
      two k (dir_sites reach dir) (posts_sites reach rest)
      (dir_quiet k grows reach dir) (posts_quiet k grows reach rest)

  dims_quiet : (k : Marks) → Grows k → (reach : Reach) (dims : DimTexts) →
      left_of k (dims_sites reach dims) ≤ right_of k (dims_sites reach dims)
  dims_quiet k grows reach NoDim = omega arith
  dims_quiet k grows reach (ThenDim first rest) =
      two k (dim_sites reach first) (dims_sites reach rest)
      (dim_quiet k grows reach first) (dims_quiet k grows reach rest)

  dim_quiet : (k : Marks) → Grows k → (reach : Reach) (dim : DimText) →
      left_of k (dim_sites reach dim) ≤ right_of k (dim_sites reach dim)
  dim_quiet k grows reach (Blank at) = omega arith
  dim_quiet k grows reach (Star at) = omega arith
  dim_quiet k grows reach (One index) =
      omega (arith, expr_quiet k grows reach (whole_rank reach Bound index) index)
  dim_quiet k grows reach (Span low high) =
      omega (
        arith,
        two k (expr_sites reach (whole_rank reach Bound low) low)
            (AtWhole reach Bound high ∷ expr_sites reach (whole_rank reach Bound high) high)
            (expr_quiet k grows reach (whole_rank reach Bound low) low)
            (omega (arith, expr_quiet k grows reach (whole_rank reach Bound high) high)),
      )

pub whole_quiet : (k : Marks) → Grows k → (reach : Reach) (role : Role) (expr : Expr) →
    left_of k (whole_sites reach role expr) ≤ right_of k (whole_sites reach role expr)
whole_quiet k grows reach role expr =
    omega (arith, expr_quiet k grows reach (whole_rank reach role expr) expr)

masks_quiet : (k : Marks) (reach : Reach) (prefix : Prefix) (mask : Option Mask) →
    left_of k (map (AtMask reach prefix) (option_to_list mask))
    ≤ right_of k (map (AtMask reach prefix) (option_to_list mask))
masks_quiet k reach prefix None = omega arith
masks_quiet k reach prefix (Some mask) = omega arith

pub prefixes_quiet : (k : Marks) → Grows k → (reach : Reach) (prefixes : List Prefix) →
    left_of k (prefixes_sites reach prefixes) ≤ right_of k (prefixes_sites reach prefixes)
prefixes_quiet k grows reach [] = omega arith
prefixes_quiet k grows reach (prefix ∷ rest) =
    two k (prefix_sites reach prefix) (prefixes_sites (under_prefix reach prefix) rest)
    (two k (region_sites reach (mask_rank reach.scope prefix.mask) prefix.region)
    (map (AtMask reach prefix) (option_to_list prefix.mask))
    (region_quiet k grows reach (mask_rank reach.scope prefix.mask) prefix.region)
    (masks_quiet k reach prefix prefix.mask))
    (prefixes_quiet k grows (under_prefix reach prefix) rest)

item_quiet : (k : Marks) → Grows k → (reach : Reach) (item : Item) →
    left_of k (item_sites reach item) ≤ right_of k (item_sites reach item)
item_quiet k grows reach (Str bytes) = omega arith
item_quiet k grows reach (Value value) = whole_quiet k grows reach Printed value

pub items_quiet : (k : Marks) → Grows k → (reach : Reach) (items : List Item) →
    left_of k (flat_map (item_sites reach) items) ≤ right_of k (flat_map (item_sites reach) items)
items_quiet k grows reach [] = omega arith
items_quiet k grows reach (item ∷ items) =
    two k (item_sites reach item) (flat_map (item_sites reach) items)
    (item_quiet k grows reach item) (items_quiet k grows reach items)

pub step_quiet : (k : Marks) → Grows k → (reach : Reach) (step : Option Expr) →
    left_of k (step_sites reach step) ≤ right_of k (step_sites reach step)
step_quiet k grows reach None = omega arith
step_quiet k grows reach (Some step) = whole_quiet k grows reach Limit step

pub value_quiet : (k : Marks) → Grows k → (reach : Reach) (name : Name) (op : Option Op)
    (value : Expr) →
    left_of k (value_sites reach name op value) ≤ right_of k (value_sites reach name op value)
value_quiet k grows reach name (Some op) value =
    whole_quiet k grows reach (Assigned name (Some op)) value
value_quiet k grows reach name None (Call at callee actuals) =
    omega (arith, grows reach callee actuals, actuals_quiet k grows reach actuals)
value_quiet k grows reach name None (Number at value) =
    whole_quiet k grows reach (Assigned name None) (Number at value)
value_quiet k grows reach name None (Truth at value) =
    whole_quiet k grows reach (Assigned name None) (Truth at value)
value_quiet k grows reach name None (Coord at dimension) =
    whole_quiet k grows reach (Assigned name None) (Coord at dimension)
value_quiet k grows reach name None (Shifted at other shift) =
    whole_quiet k grows reach (Assigned name None) (Shifted at other shift)
value_quiet k grows reach name None (Around at other shift) =
    whole_quiet k grows reach (Assigned name None) (Around at other shift)
value_quiet k grows reach name None (Remap at other indices) =
    whole_quiet k grows reach (Assigned name None) (Remap at other indices)
value_quiet k grows reach name None (Paren at inside) =
    whole_quiet k grows reach (Assigned name None) (Paren at inside)
value_quiet k grows reach name None (Neg at operand) =
    whole_quiet k grows reach (Assigned name None) (Neg at operand)
value_quiet k grows reach name None (Not at operand) =
    whole_quiet k grows reach (Assigned name None) (Not at operand)
value_quiet k grows reach name None (Abs at operand) =
    whole_quiet k grows reach (Assigned name None) (Abs at operand)
value_quiet k grows reach name None (Pair at op left right) =
    whole_quiet k grows reach (Assigned name None) (Pair at op left right)
value_quiet k grows reach name None (Reduce at operator over operand) =
    whole_quiet k grows reach (Assigned name None) (Reduce at operator over operand)
value_quiet k grows reach name None (Scan at operator along operand) =
    whole_quiet k grows reach (Assigned name None) (Scan at operator along operand)
value_quiet k grows reach name None (Flood at source operand) =
    whole_quiet k grows reach (Assigned name None) (Flood at source operand)
value_quiet k grows reach name None (Named at other) =
    whole_quiet k grows reach (Assigned name None) (Named at other)
