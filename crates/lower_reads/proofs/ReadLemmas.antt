-- The sites of a text that are reads that wrap round are just those that are counted.
use Rattle.std.proofs.Common.{◌≡◌, ℕ, ◌+◌, Bool, true, false, if◌then◌else◌, List, [], ◌∷◌, ◌++◌, map, length, Option, Some, None, refl, sym, ◌∙◌, ap, ap₂, length-append, arith}
use Rattle.std.specs.Prelude.{sum_by}
use Rattle.std.specs.List.{flat_map}
use Rattle.std.specs.Option.{option_to_list}
use Rattle.std.proofs.lemmas.Grind.{flat_map-append}
use Rattle.std.proofs.lemmas.List.Sums.{sum_by-cons}
use Rattle.zpl_lowering.specs.of_zpl_tree.Syntax.{Name, Pre, RegionBase, NamedRegion, Ditto, Expr, Number, Truth, Coord, Named, Shifted, Around, Remap, Call, Paren, Neg, Not, Abs, Pair, Reduce, Scan, Flood, Exprs, NoExpr, ThenExpr, Dir, NamedDir, Vector, Inner, Rexpr, Dims, NoBracket, Bracketed, Posts, NoPost, ThenPost, DimText, Blank, Star, One, Span, DimTexts, NoDim, ThenDim, Mask, Prefix, ForHead, Item, Str, Value, Base, Stmt, Prefixed, Stmts, NoStmt, ThenStmt, Form, Assign, Invoke, Block, If, While, Repeat, For, Border, Write, Return, Arm, Tested, Arms, NoArm, ThenArm, Otherwise, NoElse, Else}
use Rattle.zpl_nums.specs.declared.operators.Op.{Op}
use Rattle.zpl_lowering.specs.of_zpl_names.Kinds.{Rank}
use Rattle.zpl_lowering.specs.of_zpl_names.Ranks.{own_rank, inner_rank, is_index, mask_rank}
use Rattle.zpl_lowering.specs.of_zpl_names.Sites as sites
use Rattle.zpl_lowering.specs.of_zpl_names.Sites.{Reach, Role, Site, AtWhole, AtExpr, AtNamed, AtMask, Bound, Component, Operand, Actual, Limit, Test, Printed, Assigned, Result, actuals_sites, arm_sites, arms_rank, arms_sites, body_sites, components_sites, dim_sites, dims_sites, dir_sites, expr_sites, exprs_sites, form_sites, in_vector, index_sites, inside, item_sites, otherwise_sites, outermost_sites, over_source, posts_sites, prefix_sites, prefixes_sites, region_sites, step_sites, stmt_sites, stmts_sites, test_rank, under_prefix, under_prefixes, value_sites, whole_rank, whole_sites}
use Rattle.zpl_lowering.specs.Program.{reads_at}
use Rattle.lower_reads.specs.Reads.{expr_reads, exprs_reads, dir_reads, inner_reads, posts_reads, dim_reads, dims_reads, prefixes_reads, item_reads, step_reads, head_reads, stmt_reads, stmts_reads, form_reads, arms_reads, arm_reads, otherwise_reads}

-- how many of these sites are such reads
abbrev pub found : List Site → ℕ
found sites = length (flat_map reads_at sites)

pub found_both : (xs ys : List Site) → found (xs ++ ys) ≡ found xs + found ys
found_both xs ys =
    ap length (flat_map-append reads_at xs ys)
    ∙ length-append (flat_map reads_at xs) (flat_map reads_at ys)

two : (xs ys : List Site) (m n : ℕ) → found xs ≡ m → found ys ≡ n → found (xs ++ ys) ≡ m + n
two xs ys m n one other = found_both xs ys ∙ ap₂ (λ a b. a + b) one other

none_before : (n : ℕ) → n ≡ 0 + n
none_before n = omega arith

index_none : (reach : Reach) (pre : List Pre) (base : RegionBase) (post : Posts) →
    found (index_sites reach pre base post) ≡ 0
index_none reach pre (Ditto at) post = refl
index_none reach pre (NamedRegion name) post = by (is_index reach.scope pre name post)
  where
    by : (b : Bool) →
        found (if b then
        AtWhole reach Bound (Named name.at name) ∷
        AtExpr reach (whole_rank reach Bound (Named name.at name)) (Named name.at name) ∷ []
        else []) ≡ 0
    by true = refl
    by false = refl

mutual
  pub expr_found : (reach : Reach) (rank : Rank) (expr : Expr) →
      found (expr_sites reach rank expr) ≡ expr_reads expr
  expr_found reach rank (Number at value) = refl
  expr_found reach rank (Truth at value) = refl
  expr_found reach rank (Coord at dimension) = refl
  expr_found reach rank (Named at name) = refl
  expr_found reach rank (Shifted at name shift) = dir_found reach shift
  expr_found reach rank (Around at name shift) =
      found_both (AtExpr reach rank (Around at name shift) ∷ []) (dir_sites reach shift)
      ∙ ap (λ n. 1 + n) (dir_found reach shift)
  expr_found reach rank (Remap at name indices) = exprs_found reach rank indices
  expr_found reach rank (Call at name actuals) = actuals_found reach actuals
  expr_found reach rank (Paren at inside) = expr_found reach rank inside
  expr_found reach rank (Neg at operand) = expr_found reach rank operand
  expr_found reach rank (Not at operand) = expr_found reach rank operand
  expr_found reach rank (Abs at operand) = expr_found reach rank operand
  expr_found reach rank (Pair at op left right) =
      two (expr_sites reach rank left) (expr_sites reach rank right) _ _
      (expr_found reach rank left) (expr_found reach rank right)
  expr_found reach rank (Reduce at operator NoBracket operand) =
      expr_found reach (whole_rank reach Operand operand) operand
      ∙ none_before (expr_reads operand)
  expr_found reach rank (Reduce at operator (Bracketed source) operand) =
      let hint = own_rank reach.scope reach.prefix operand in
      let over = inner_rank reach.scope hint reach.prefix source in
      two (region_sites reach hint source) (expr_sites (over_source reach over source) over operand)
      _ _ (region_found reach hint source)
      (expr_found (over_source reach over source) over operand)
  expr_found reach rank (Scan at operator along operand) = expr_found reach rank operand
  expr_found reach rank (Flood at source operand) =
      let hint = own_rank reach.scope reach.prefix operand in
      let over = inner_rank reach.scope hint reach.prefix source in
      two (region_sites reach hint source) (expr_sites (over_source reach over source) over operand)
      _ _ (region_found reach hint source)
      (expr_found (over_source reach over source) over operand)

  pub exprs_found : (reach : Reach) (rank : Rank) (exprs : Exprs) →
      found (exprs_sites reach rank exprs) ≡ exprs_reads exprs
  exprs_found reach rank NoExpr = refl
  exprs_found reach rank (ThenExpr first rest) =
      two (expr_sites reach rank first) (exprs_sites reach rank rest) _ _
      (expr_found reach rank first) (exprs_found reach rank rest)

  pub actuals_found : (reach : Reach) (exprs : Exprs) →
      found (actuals_sites reach exprs) ≡ exprs_reads exprs
  actuals_found reach NoExpr = refl
  actuals_found reach (ThenExpr (Named at name) rest) =
      actuals_found reach rest ∙ none_before (exprs_reads rest)
  actuals_found reach (ThenExpr (Number at value) rest) =
      two (expr_sites reach (whole_rank reach Actual (Number at value)) (Number at value)) (actuals_sites reach rest) _ _
      (expr_found reach (whole_rank reach Actual (Number at value)) (Number at value)) (actuals_found reach rest)
  actuals_found reach (ThenExpr (Truth at value) rest) =
      two (expr_sites reach (whole_rank reach Actual (Truth at value)) (Truth at value)) (actuals_sites reach rest) _ _
      (expr_found reach (whole_rank reach Actual (Truth at value)) (Truth at value)) (actuals_found reach rest)
  actuals_found reach (ThenExpr (Coord at k) rest) =
      two (expr_sites reach (whole_rank reach Actual (Coord at k)) (Coord at k)) (actuals_sites reach rest) _ _
      (expr_found reach (whole_rank reach Actual (Coord at k)) (Coord at k)) (actuals_found reach rest)
  actuals_found reach (ThenExpr (Shifted at name shift) rest) =
      two (expr_sites reach (whole_rank reach Actual (Shifted at name shift)) (Shifted at name shift)) (actuals_sites reach rest) _ _
      (expr_found reach (whole_rank reach Actual (Shifted at name shift)) (Shifted at name shift)) (actuals_found reach rest)
  actuals_found reach (ThenExpr (Around at name shift) rest) =
      two (expr_sites reach (whole_rank reach Actual (Around at name shift)) (Around at name shift)) (actuals_sites reach rest) _ _
      (expr_found reach (whole_rank reach Actual (Around at name shift)) (Around at name shift)) (actuals_found reach rest)
  actuals_found reach (ThenExpr (Remap at name indices) rest) =
      two (expr_sites reach (whole_rank reach Actual (Remap at name indices)) (Remap at name indices)) (actuals_sites reach rest) _ _
      (expr_found reach (whole_rank reach Actual (Remap at name indices)) (Remap at name indices)) (actuals_found reach rest)
  actuals_found reach (ThenExpr (Call at name actuals) rest) =
      two (expr_sites reach (whole_rank reach Actual (Call at name actuals)) (Call at name actuals)) (actuals_sites reach rest) _ _
      (expr_found reach (whole_rank reach Actual (Call at name actuals)) (Call at name actuals)) (actuals_found reach rest)
  actuals_found reach (ThenExpr (Paren at inside) rest) =
      two (expr_sites reach (whole_rank reach Actual (Paren at inside)) (Paren at inside)) (actuals_sites reach rest) _ _
      (expr_found reach (whole_rank reach Actual (Paren at inside)) (Paren at inside)) (actuals_found reach rest)
  actuals_found reach (ThenExpr (Neg at operand) rest) =
      two (expr_sites reach (whole_rank reach Actual (Neg at operand)) (Neg at operand)) (actuals_sites reach rest) _ _
      (expr_found reach (whole_rank reach Actual (Neg at operand)) (Neg at operand)) (actuals_found reach rest)
  actuals_found reach (ThenExpr (Not at operand) rest) =
      two (expr_sites reach (whole_rank reach Actual (Not at operand)) (Not at operand)) (actuals_sites reach rest) _ _
      (expr_found reach (whole_rank reach Actual (Not at operand)) (Not at operand)) (actuals_found reach rest)
  actuals_found reach (ThenExpr (Abs at operand) rest) =
      two (expr_sites reach (whole_rank reach Actual (Abs at operand)) (Abs at operand)) (actuals_sites reach rest) _ _
      (expr_found reach (whole_rank reach Actual (Abs at operand)) (Abs at operand)) (actuals_found reach rest)
  actuals_found reach (ThenExpr (Pair at op left right) rest) =
      two (expr_sites reach (whole_rank reach Actual (Pair at op left right)) (Pair at op left right)) (actuals_sites reach rest) _ _
      (expr_found reach (whole_rank reach Actual (Pair at op left right)) (Pair at op left right)) (actuals_found reach rest)
  actuals_found reach (ThenExpr (Reduce at operator over operand) rest) =
      two (expr_sites reach (whole_rank reach Actual (Reduce at operator over operand)) (Reduce at operator over operand)) (actuals_sites reach rest) _ _
      (expr_found reach (whole_rank reach Actual (Reduce at operator over operand)) (Reduce at operator over operand)) (actuals_found reach rest)
  actuals_found reach (ThenExpr (Scan at operator along operand) rest) =
      two (expr_sites reach (whole_rank reach Actual (Scan at operator along operand)) (Scan at operator along operand)) (actuals_sites reach rest) _ _
      (expr_found reach (whole_rank reach Actual (Scan at operator along operand)) (Scan at operator along operand)) (actuals_found reach rest)
  actuals_found reach (ThenExpr (Flood at source operand) rest) =
      two (expr_sites reach (whole_rank reach Actual (Flood at source operand)) (Flood at source operand)) (actuals_sites reach rest) _ _
      (expr_found reach (whole_rank reach Actual (Flood at source operand)) (Flood at source operand)) (actuals_found reach rest)

  pub components_found : (reach : Reach) (exprs : Exprs) →
      found (components_sites reach exprs) ≡ exprs_reads exprs
  components_found reach NoExpr = refl
  components_found reach (ThenExpr first rest) =
      two (expr_sites reach (whole_rank reach Component first) first) (components_sites reach rest)
      _ _ (expr_found reach (whole_rank reach Component first) first) (components_found reach rest)

  pub dir_found : (reach : Reach) (dir : Dir) → found (dir_sites reach dir) ≡ dir_reads dir
  dir_found reach (NamedDir name) = refl
  dir_found reach (Vector parts) = components_found (in_vector reach) parts

  pub region_found : (reach : Reach) (hint : Rank) (inner : Inner) →
      found (region_sites reach hint inner) ≡ inner_reads inner
  region_found reach hint (Rexpr pre base post) =
      two (index_sites reach pre base post) (posts_sites reach post) 0 _
      (index_none reach pre base post) (posts_found reach post)
      ∙ sym (none_before (posts_reads post))
  region_found reach hint (Dims dims) = dims_found reach dims

  pub posts_found : (reach : Reach) (posts : Posts) →
      found (posts_sites reach posts) ≡ posts_reads posts
  posts_found reach NoPost = refl
  posts_found reach (ThenPost stride dir rest) =
      two (dir_sites reach dir) (posts_sites reach rest) _ _ (dir_found reach dir)
      (posts_found reach rest)

  pub dims_found : (reach : Reach) (dims : DimTexts) →
      found (dims_sites reach dims) ≡ dims_reads dims
  dims_found reach NoDim = refl
  dims_found reach (ThenDim first rest) =
      two (dim_sites reach first) (dims_sites reach rest) _ _ (dim_found reach first)
      (dims_found reach rest)

  pub dim_found : (reach : Reach) (dim : DimText) → found (dim_sites reach dim) ≡ dim_reads dim
  dim_found reach (Blank at) = refl
  dim_found reach (Star at) = refl
  dim_found reach (One index) = expr_found reach (whole_rank reach Bound index) index
  dim_found reach (Span low high) =
      two (expr_sites reach (whole_rank reach Bound low) low)
      (AtWhole reach Bound high ∷ expr_sites reach (whole_rank reach Bound high) high) _ _
      (expr_found reach (whole_rank reach Bound low) low)
      (expr_found reach (whole_rank reach Bound high) high)

-- ---- statements

whole_found : (reach : Reach) (role : Role) (expr : Expr) →
    found (whole_sites reach role expr) ≡ expr_reads expr
whole_found reach role expr = expr_found reach (whole_rank reach role expr) expr

masks_none : (reach : Reach) (prefix : Prefix) (masks : List Mask) →
    found (map (AtMask reach prefix) masks) ≡ 0
masks_none reach prefix [] = refl
masks_none reach prefix (mask ∷ masks) = masks_none reach prefix masks

none_behind : (n : ℕ) → n + 0 ≡ n
none_behind n = omega arith

prefix_found : (reach : Reach) (prefix : Prefix) →
    found (prefix_sites reach prefix) ≡ inner_reads prefix.region
prefix_found reach prefix =
    two (region_sites reach (mask_rank reach.scope prefix.mask) prefix.region)
    (map (AtMask reach prefix) (option_to_list prefix.mask)) _ 0
    (region_found reach (mask_rank reach.scope prefix.mask) prefix.region)
    (masks_none reach prefix (option_to_list prefix.mask))
    ∙ none_behind (inner_reads prefix.region)

prefixes_found : (reach : Reach) (prefixes : List Prefix) →
    found (prefixes_sites reach prefixes) ≡ prefixes_reads prefixes
prefixes_found reach [] = refl
prefixes_found reach (prefix ∷ rest) =
    two (prefix_sites reach prefix) (prefixes_sites (under_prefix reach prefix) rest) _ _
    (prefix_found reach prefix) (prefixes_found (under_prefix reach prefix) rest)
    ∙ sym (sum_by-cons (λ prefix. inner_reads prefix.region) prefix rest)

item_found : (reach : Reach) (item : Item) → found (item_sites reach item) ≡ item_reads item
item_found reach (Str bytes) = refl
item_found reach (Value value) = whole_found reach Printed value

items_found : (reach : Reach) (items : List Item) →
    found (flat_map (item_sites reach) items) ≡ sum_by item_reads items
items_found reach [] = refl
items_found reach (item ∷ items) =
    two (item_sites reach item) (flat_map (item_sites reach) items) _ _ (item_found reach item)
    (items_found reach items)
    ∙ sym (sum_by-cons item_reads item items)

step_found : (reach : Reach) (step : Option Expr) →
    found (step_sites reach step) ≡ step_reads step
step_found reach None = refl
step_found reach (Some step) = whole_found reach Limit step

value_found : (reach : Reach) (name : Name) (op : Option Op) (value : Expr) →
    found (value_sites reach name op value) ≡ expr_reads value
value_found reach name (Some op) value = whole_found reach (Assigned name (Some op)) value
value_found reach name None (Call at callee actuals) = actuals_found reach actuals
value_found reach name None (Number at value) =
    whole_found reach (Assigned name None) (Number at value)
value_found reach name None (Truth at value) =
    whole_found reach (Assigned name None) (Truth at value)
value_found reach name None (Coord at k) =
    whole_found reach (Assigned name None) (Coord at k)
value_found reach name None (Named at other) =
    whole_found reach (Assigned name None) (Named at other)
value_found reach name None (Shifted at other shift) =
    whole_found reach (Assigned name None) (Shifted at other shift)
value_found reach name None (Around at other shift) =
    whole_found reach (Assigned name None) (Around at other shift)
value_found reach name None (Remap at other indices) =
    whole_found reach (Assigned name None) (Remap at other indices)
value_found reach name None (Paren at inside) =
    whole_found reach (Assigned name None) (Paren at inside)
value_found reach name None (Neg at operand) =
    whole_found reach (Assigned name None) (Neg at operand)
value_found reach name None (Not at operand) =
    whole_found reach (Assigned name None) (Not at operand)
value_found reach name None (Abs at operand) =
    whole_found reach (Assigned name None) (Abs at operand)
value_found reach name None (Pair at other left right) =
    whole_found reach (Assigned name None) (Pair at other left right)
value_found reach name None (Reduce at operator over operand) =
    whole_found reach (Assigned name None) (Reduce at operator over operand)
value_found reach name None (Scan at operator along operand) =
    whole_found reach (Assigned name None) (Scan at operator along operand)
value_found reach name None (Flood at source operand) =
    whole_found reach (Assigned name None) (Flood at source operand)

head_found : (reach : Reach) (head : ForHead) (body : List Site) (n : ℕ) → found body ≡ n →
    found (whole_sites reach Limit head.first ++ whole_sites reach Limit head.last ++
    step_sites reach head.step ++ body) ≡ head_reads head + n
head_found reach head body n is =
    found_both (whole_sites reach Limit head.first ++ whole_sites reach Limit head.last ++
    step_sites reach head.step) body
    ∙ ap₂ (λ a b. a + b)
    (found_both (whole_sites reach Limit head.first ++ whole_sites reach Limit head.last)
    (step_sites reach head.step)
    ∙ ap₂ (λ a b. a + b)
    (two (whole_sites reach Limit head.first) (whole_sites reach Limit head.last) _ _
    (whole_found reach Limit head.first) (whole_found reach Limit head.last))
    (step_found reach head.step)
    ∙ grouped (expr_reads head.first) (expr_reads head.last) (step_reads head.step)) is
  where
    grouped : (a b c : ℕ) → (a + b) + c ≡ a + (b + c)
    grouped a b c = omega arith

mutual
  pub stmt_found : (reach : Reach) (stmt : Stmt) → found (stmt_sites reach stmt) ≡ stmt_reads stmt
  stmt_found reach (Prefixed at prefixes form) =
      found_both (prefixes_sites reach prefixes)
      (sites.AtStmt (under_prefixes reach prefixes) at prefixes form ∷
      form_sites (under_prefixes reach prefixes) form)
      ∙ ap₂ (λ a b. a + b) (prefixes_found reach prefixes)
      (form_found (under_prefixes reach prefixes) form)

  pub stmts_found : (reach : Reach) (stmts : Stmts) →
      found (stmts_sites reach stmts) ≡ stmts_reads stmts
  stmts_found reach NoStmt = refl
  stmts_found reach (ThenStmt first rest) =
      two (stmt_sites reach first) (stmts_sites reach rest) _ _ (stmt_found reach first)
      (stmts_found reach rest)

  pub form_found : (reach : Reach) (form : Form) → found (form_sites reach form) ≡ form_reads form
  form_found reach (Assign name op value) = value_found reach name op value
  form_found reach (Invoke name actuals) = actuals_found reach actuals
  form_found reach (Block body) = stmts_found (inside reach (Some 0)) body
  form_found reach (If arms otherwise) =
      let within = inside reach (arms_rank reach arms) in
      two (arms_sites reach within arms) (otherwise_sites within otherwise) _ _
      (arms_found reach within arms) (otherwise_found within otherwise)
  form_found reach (While test body) =
      two (whole_sites reach Test test) (stmts_sites (inside reach (test_rank reach test)) body) _ _
      (whole_found reach Test test) (stmts_found (inside reach (test_rank reach test)) body)
  form_found reach (Repeat body until test) =
      two (stmts_sites (inside reach (test_rank reach test)) body) (whole_sites reach Test test) _ _
      (stmts_found (inside reach (test_rank reach test)) body) (whole_found reach Test test)
  form_found reach (For head body) =
      head_found reach head (stmts_sites (inside reach (Some 0)) body) _
      (stmts_found (inside reach (Some 0)) body)
  form_found reach (Border border names) = refl
  form_found reach (Write line items) = items_found reach items
  form_found reach (Return value) = whole_found reach (Result reach.result) value

  pub arms_found : (reach within : Reach) (arms : Arms) →
      found (arms_sites reach within arms) ≡ arms_reads arms
  arms_found reach within NoArm = refl
  arms_found reach within (ThenArm first rest) =
      two (arm_sites reach within first) (arms_sites reach within rest) _ _
      (arm_found reach within first) (arms_found reach within rest)

  pub arm_found : (reach within : Reach) (arm : Arm) →
      found (arm_sites reach within arm) ≡ arm_reads arm
  arm_found reach within (Tested at test body) =
      two (whole_sites reach Test test) (stmts_sites within body) _ _ (whole_found reach Test test)
      (stmts_found within body)

  pub otherwise_found : (reach : Reach) (otherwise : Otherwise) →
      found (otherwise_sites reach otherwise) ≡ otherwise_reads otherwise
  otherwise_found reach NoElse = refl
  otherwise_found reach (Else body) = stmts_found reach body

-- ---- procedures

body_found : (reach : Reach) (result : Option Base) (body : Stmts) →
    found (body_sites reach result body) ≡ stmts_reads body
body_found reach result NoStmt = refl
body_found reach result (ThenStmt last NoStmt) =
    stmt_found (record reach { result = result }) last ∙ sym (none_behind (stmt_reads last))
body_found reach result (ThenStmt first (ThenStmt second rest)) =
    two (stmt_sites reach first) (body_sites reach result (ThenStmt second rest)) _ _
    (stmt_found reach first) (body_found reach result (ThenStmt second rest))

pub outermost_found : (reach : Reach) (result : Option Base) (stmt : Stmt) →
    found (outermost_sites reach result stmt) ≡ stmt_reads stmt
outermost_found reach result (Prefixed at prefixes (Block body)) =
    two (prefixes_sites reach prefixes) (body_sites (under_prefixes reach prefixes) result body) _ _
    (prefixes_found reach prefixes) (body_found (under_prefixes reach prefixes) result body)
outermost_found reach result (Prefixed at prefixes (Assign name op value)) =
    stmt_found reach (Prefixed at prefixes (Assign name op value))
outermost_found reach result (Prefixed at prefixes (Invoke name actuals)) =
    stmt_found reach (Prefixed at prefixes (Invoke name actuals))
outermost_found reach result (Prefixed at prefixes (If arms otherwise)) =
    stmt_found reach (Prefixed at prefixes (If arms otherwise))
outermost_found reach result (Prefixed at prefixes (While test body)) =
    stmt_found reach (Prefixed at prefixes (While test body))
outermost_found reach result (Prefixed at prefixes (Repeat body until test)) =
    stmt_found reach (Prefixed at prefixes (Repeat body until test))
outermost_found reach result (Prefixed at prefixes (For head body)) =
    stmt_found reach (Prefixed at prefixes (For head body))
outermost_found reach result (Prefixed at prefixes (Border border names)) =
    stmt_found reach (Prefixed at prefixes (Border border names))
outermost_found reach result (Prefixed at prefixes (Write line items)) =
    stmt_found reach (Prefixed at prefixes (Write line items))
outermost_found reach result (Prefixed at prefixes (Return value)) =
    stmt_found reach (Prefixed at prefixes (Return value))
