-- The walk over a text, under different current regions: the sites differ in nothing else.
use Rattle.std.proofs.Common.{◌≡◌, Bool, true, false, List, [], ◌∷◌, ◌++◌, map, Option, Some, None, option_to_list, refl, sym, ◌∙◌, ap, ap₂, subst₂, cond}
use Rattle.std.specs.List.{flat_map}
use Rattle.std.proofs.lemmas.List.{map-append}
use Rattle.zpl_tree.specs.of_zpl_nums.declared.operators.Op.{Op}
use Rattle.zpl_tree.specs.Syntax.{Name, Pre, RegionBase, NamedRegion, Ditto, Expr, Number, Truth, Coord, Named, Shifted, Around, Remap, Call, Paren, Neg, Not, Abs, Pair, Reduce, Scan, Flood, Exprs, NoExpr, ThenExpr, Dir, NamedDir, Vector, Inner, Rexpr, Dims, NoBracket, Bracketed, Posts, NoPost, ThenPost, DimText, Blank, Star, One, Span, DimTexts, NoDim, ThenDim, Mask, Prefix, Item, Str, Value, Stmt, Prefixed, Stmts, NoStmt, ThenStmt, Form, Assign, Invoke, Block, If, While, Repeat, For, Border, Write, Return, Tested, Arms, NoArm, ThenArm, Otherwise, NoElse, Else, Base, Program}
use Rattle.zpl_names.specs.Kinds.{Rank}
use Rattle.zpl_names.specs.Ranks.{first_rank, inner_rank, own_rank, is_index, mask_rank}
use Rattle.zpl_names.specs.Shapes.{Shapes, unknown_shapes}
use Rattle.zpl_names.specs.Declared.{Routine, scope_of}
use Rattle.zpl_names.specs.Sites.{Reach, in_body, over_source, under_prefix, under_prefixes, inside, Role, Bound, Limit, Result, Test, Printed, Actual, Operand, Assigned, whole_rank, Site, AtWhole, AtExpr, AtCall, AtNamed, AtDir, AtRegion, AtMask, AtStmt, AtBase, AtPosts, AtProcedure, index_sites, expr_sites, exprs_sites, actuals_sites, dir_sites, region_sites, posts_sites, dims_sites, dim_sites, whole_sites, prefix_sites, prefixes_sites, value_sites, item_sites, step_sites, stmt_sites, stmts_sites, form_sites, arms_sites, otherwise_sites, body_sites, outermost_sites, routine_sites, arms_rank, test_rank}

abbrev pub under : Reach → Shapes → Reach
under reach shapes = record reach { shapes = shapes }

-- the same site, where no current region is known
abbrev pub erase : Site → Site
erase (AtWhole reach role expr) = AtWhole (under reach unknown_shapes) role expr
erase (AtExpr reach rank expr) = AtExpr (under reach unknown_shapes) rank expr
erase (AtCall reach place name actuals) = AtCall (under reach unknown_shapes) place name actuals
erase (AtNamed reach name) = AtNamed (under reach unknown_shapes) name
erase (AtDir reach dir) = AtDir (under reach unknown_shapes) dir
erase (AtRegion reach hint region) = AtRegion (under reach unknown_shapes) hint region
erase (AtMask reach prefix mask) = AtMask (under reach unknown_shapes) prefix mask
erase (AtStmt reach at prefixes form) = AtStmt (under reach unknown_shapes) at prefixes form
erase (AtBase base) = AtBase base
erase (AtPosts reach region posts) = AtPosts (under reach unknown_shapes) region posts
erase (AtProcedure procedure) = AtProcedure procedure

-- two lists of sites differ in current regions alone
pub record Same (xs ys : List Site) : Type 0 where
  pub is : map erase xs ≡ map erase ys

nil : Same [] []
nil = record { is = refl }

itself : {xs : List Site} → Same xs xs
itself = record { is = refl }

cons : {x y : Site} {xs ys : List Site} → erase x ≡ erase y → Same xs ys → Same (x ∷ xs) (y ∷ ys)
cons e same = record { is = ap₂ (λ z zs. z ∷ zs) e same.is }

append : {xs ys xs' ys' : List Site} → Same xs ys → Same xs' ys' → Same (xs ++ xs') (ys ++ ys')
append {xs} {ys} {xs'} {ys'} one two =
    record {
      is = map-append erase xs xs' ∙ ap₂ (λ a b. a ++ b) one.is two.is ∙
          sym (map-append erase ys ys');
    }

abbrev index_of : Reach → Name → List Site
index_of reach name =
    AtWhole reach Bound (Named name.at name) ∷
    AtExpr reach (whole_rank reach Bound (Named name.at name)) (Named name.at name) ∷ []

index-same : (reach : Reach) (s t : Shapes) (pre : List Pre) (base : RegionBase) (post : Posts) →
    Same (index_sites (under reach s) pre base post) (index_sites (under reach t) pre base post)
index-same reach s t pre (Ditto at) post = nil
index-same reach s t pre (NamedRegion name) post = by (is_index reach.scope pre name post)
  where
    by : (b : Bool) → Same (cond b (index_of (under reach s) name) [])
        (cond b (index_of (under reach t) name) [])
    by true = cons refl (cons refl nil)
    by false = nil

mutual
  expr-same : (reach : Reach) (s t : Shapes) (rank : Rank) (expr : Expr) →
      Same (expr_sites (under reach s) rank expr) (expr_sites (under reach t) rank expr)
  expr-same reach s t rank (Number at value) = cons refl nil
  expr-same reach s t rank (Truth at value) = cons refl nil
  expr-same reach s t rank (Coord at dimension) = cons refl nil
  expr-same reach s t rank (Named at name) = cons refl nil
  expr-same reach s t rank (Shifted at name shift) = cons refl (dir-same reach s t shift)
  expr-same reach s t rank (Around at name shift) = cons refl (dir-same reach s t shift)
  expr-same reach s t rank (Remap at name indices) = cons refl (exprs-same reach s t rank indices)
  expr-same reach s t rank (Call at name actuals) = cons refl (actuals-same reach s t actuals)
  expr-same reach s t rank (Paren at inside) = cons refl (expr-same reach s t rank inside)
  expr-same reach s t rank (Neg at operand) = cons refl (expr-same reach s t rank operand)
  expr-same reach s t rank (Not at operand) = cons refl (expr-same reach s t rank operand)
  expr-same reach s t rank (Abs at operand) = cons refl (expr-same reach s t rank operand)
  expr-same reach s t rank (Pair at op left right) =
      append (cons refl (expr-same reach s t rank left)) (expr-same reach s t rank right)
  expr-same reach s t rank (Reduce at operator NoBracket operand) =
      cons refl (cons refl (expr-same reach s t (whole_rank reach Operand operand) operand))
  expr-same reach s t rank (Reduce at operator (Bracketed source) operand) =
      let hint = own_rank reach.scope reach.prefix operand in
      let over_rank = inner_rank reach.scope hint reach.prefix source in
      append (cons refl (region-same reach s t hint source))
      (expr-same reach (over_source (under reach s) over_rank source).shapes
      (over_source (under reach t) over_rank source).shapes over_rank operand)
  expr-same reach s t rank (Scan at operator along operand) =
      cons refl (expr-same reach s t rank operand)
  expr-same reach s t rank (Flood at source operand) =
      let hint = own_rank reach.scope reach.prefix operand in
      let over_rank = inner_rank reach.scope hint reach.prefix source in
      append (cons refl (region-same reach s t hint source))
      (expr-same reach (over_source (under reach s) over_rank source).shapes
      (over_source (under reach t) over_rank source).shapes over_rank operand)

  exprs-same : (reach : Reach) (s t : Shapes) (rank : Rank) (exprs : Exprs) →
      Same (exprs_sites (under reach s) rank exprs) (exprs_sites (under reach t) rank exprs)
  exprs-same reach s t rank NoExpr = nil
  exprs-same reach s t rank (ThenExpr first rest) =
      append (expr-same reach s t rank first) (exprs-same reach s t rank rest)

  actuals-same : (reach : Reach) (s t : Shapes) (actuals : Exprs) →
      Same (actuals_sites (under reach s) actuals) (actuals_sites (under reach t) actuals)
  actuals-same reach s t NoExpr = nil
  actuals-same reach s t (ThenExpr (Named at name) rest) = cons refl (actuals-same reach s t rest)
  actuals-same reach s t (ThenExpr first rest) =
      append (cons refl (expr-same reach s t (whole_rank reach Actual first) first))
      (actuals-same reach s t rest)

  dir-same : (reach : Reach) (s t : Shapes) (dir : Dir) →
      Same (dir_sites (under reach s) dir) (dir_sites (under reach t) dir)
  dir-same reach s t (NamedDir name) = cons refl nil
  dir-same reach s t (Vector parts) = cons refl itself

  region-same : (reach : Reach) (s t : Shapes) (hint : Rank) (region : Inner) →
      Same (region_sites (under reach s) hint region) (region_sites (under reach t) hint region)
  region-same reach s t hint (Rexpr pre base post) =
      append (cons refl (index-same reach s t pre base post)) (posts-same reach s t post)
  region-same reach s t hint (Dims dims) = cons refl (dims-same reach s t dims)

  posts-same : (reach : Reach) (s t : Shapes) (posts : Posts) →
      Same (posts_sites (under reach s) posts) (posts_sites (under reach t) posts)
  posts-same reach s t NoPost = nil
  posts-same reach s t (ThenPost stride dir rest) =
      append (dir-same reach s t dir) (posts-same reach s t rest)

  dims-same : (reach : Reach) (s t : Shapes) (dims : DimTexts) →
      Same (dims_sites (under reach s) dims) (dims_sites (under reach t) dims)
  dims-same reach s t NoDim = nil
  dims-same reach s t (ThenDim first rest) =
      append (dim-same reach s t first) (dims-same reach s t rest)

  dim-same : (reach : Reach) (s t : Shapes) (dim : DimText) →
      Same (dim_sites (under reach s) dim) (dim_sites (under reach t) dim)
  dim-same reach s t (Blank at) = nil
  dim-same reach s t (Star at) = nil
  dim-same reach s t (One index) =
      cons refl (expr-same reach s t (whole_rank reach Bound index) index)
  dim-same reach s t (Span low high) =
      append (cons refl (expr-same reach s t (whole_rank reach Bound low) low))
      (cons refl (expr-same reach s t (whole_rank reach Bound high) high))

whole-same : (reach : Reach) (s t : Shapes) (role : Role) (expr : Expr) →
    Same (whole_sites (under reach s) role expr) (whole_sites (under reach t) role expr)
whole-same reach s t Operand expr =
    cons refl (expr-same reach s t (whole_rank reach Operand expr) expr)
whole-same reach s t (Assigned name op) expr =
    cons refl (expr-same reach s t (whole_rank reach (Assigned name op) expr) expr)
whole-same reach s t role expr = cons refl (expr-same reach s t (whole_rank reach role expr) expr)

-- ---- statements

masks-same : (reach : Reach) (s t : Shapes) (prefix : Prefix) (mask : Option Mask) →
    Same (map (AtMask (under reach s) prefix) (option_to_list mask))
    (map (AtMask (under reach t) prefix) (option_to_list mask))
masks-same reach s t prefix None = nil
masks-same reach s t prefix (Some mask) = cons refl nil

prefix-same : (reach : Reach) (s t : Shapes) (prefix : Prefix) →
    Same (prefix_sites (under reach s) prefix) (prefix_sites (under reach t) prefix)
prefix-same reach s t prefix =
    append (region-same reach s t (mask_rank reach.scope prefix.mask) prefix.region)
    (masks-same reach s t prefix prefix.mask)

prefixes-same : (reach : Reach) (s t : Shapes) (prefixes : List Prefix) →
    Same (prefixes_sites (under reach s) prefixes) (prefixes_sites (under reach t) prefixes)
prefixes-same reach s t [] = nil
prefixes-same reach s t (prefix ∷ rest) =
    append (prefix-same reach s t prefix)
    (prefixes-same (under_prefix reach prefix) (under_prefix (under reach s) prefix).shapes
    (under_prefix (under reach t) prefix).shapes rest)

-- what holds of a reach under any current regions holds of it under prefixes
pub record AreSame (sites : Reach → List Site) : Type 0 where
  pub under_each : (reach : Reach) (s t : Shapes) →
      Same (sites (under reach s)) (sites (under reach t))

behind-prefixes : (sites : Reach → List Site) → AreSame sites →
    (prefixes : List Prefix) (reach : Reach) (s t : Shapes) →
    Same (sites (under_prefixes (under reach s) prefixes))
    (sites (under_prefixes (under reach t) prefixes))
behind-prefixes sites same [] reach s t = same.under_each reach s t
behind-prefixes sites same (prefix ∷ rest) reach s t =
    behind-prefixes sites same rest (under_prefix reach prefix)
    (under_prefix (under reach s) prefix).shapes (under_prefix (under reach t) prefix).shapes

value-same : (reach : Reach) (s t : Shapes) (name : Name) (op : Option Op) (value : Expr) →
    Same (value_sites (under reach s) name op value) (value_sites (under reach t) name op value)
value-same reach s t name None (Call at callee actuals) =
    cons refl (cons refl (actuals-same reach s t actuals))
value-same reach s t name op value = whole-same reach s t (Assigned name op) value

item-same : (reach : Reach) (s t : Shapes) (item : Item) →
    Same (item_sites (under reach s) item) (item_sites (under reach t) item)
item-same reach s t (Str bytes) = nil
item-same reach s t (Value value) = whole-same reach s t Printed value

items-same : (reach : Reach) (s t : Shapes) (items : List Item) →
    Same (flat_map (item_sites (under reach s)) items) (flat_map (item_sites (under reach t)) items)
items-same reach s t [] = nil
items-same reach s t (first ∷ rest) = append (item-same reach s t first) (items-same reach s t rest)

step-same : (reach : Reach) (s t : Shapes) (step : Option Expr) →
    Same (step_sites (under reach s) step) (step_sites (under reach t) step)
step-same reach s t None = nil
step-same reach s t (Some step) = whole-same reach s t Limit step

arms_rank-same : (reach : Reach) (s : Shapes) (arms : Arms) →
    arms_rank (under reach s) arms ≡ arms_rank reach arms
arms_rank-same reach s NoArm = refl
arms_rank-same reach s (ThenArm (Tested at test body) rest) =
    ap (first_rank (test_rank reach test)) (arms_rank-same reach s rest)

abbrev if_sites : Reach → Reach → Arms → Otherwise → List Site
if_sites reach within arms otherwise =
    arms_sites reach within arms ++ otherwise_sites within otherwise

mutual
  stmt-same : (stmt : Stmt) → AreSame (λ reach. stmt_sites reach stmt)
  stmt-same (Prefixed at prefixes form) = record {
    under_each = λ reach s t.
        append (prefixes-same reach s t prefixes)
        (behind-prefixes (λ reach. AtStmt reach at prefixes form ∷ form_sites reach form)
        (record { under_each = λ reach s t. cons refl ((form-same form).under_each reach s t) })
        prefixes reach s t);
  }

  stmts-same : (stmts : Stmts) → AreSame (λ reach. stmts_sites reach stmts)
  stmts-same NoStmt = record { under_each = λ reach s t. nil }
  stmts-same (ThenStmt first rest) = record {
    under_each = λ reach s t.
        append ((stmt-same first).under_each reach s t) ((stmts-same rest).under_each reach s t);
  }

  form-same : (form : Form) → AreSame (λ reach. form_sites reach form)
  form-same (Assign name op value) =
      record { under_each = λ reach s t. value-same reach s t name op value }
  form-same (Invoke name actuals) =
      record { under_each = λ reach s t. cons refl (actuals-same reach s t actuals) }
  form-same (Block body) =
      record { under_each = λ reach s t. (stmts-same body).under_each (inside reach (Some 0)) s t }
  form-same (If arms otherwise) = record {
    under_each = λ reach s t.
        let P : Rank → Rank → Type 0 = λ r q.
        Same (if_sites (under reach s) (under (inside reach r) s) arms otherwise)
        (if_sites (under reach t) (under (inside reach q) t) arms otherwise) in
        subst₂ P (sym (arms_rank-same reach s arms)) (sym (arms_rank-same reach t arms))
        (append (arms-same arms reach (inside reach (arms_rank reach arms)) s t)
        ((otherwise-same otherwise).under_each (inside reach (arms_rank reach arms)) s t));
  }
  form-same (While test body) = record {
    under_each = λ reach s t.
        append (whole-same reach s t Test test)
        ((stmts-same body).under_each (inside reach (test_rank reach test)) s t);
  }
  form-same (Repeat body until test) = record {
    under_each = λ reach s t.
        append ((stmts-same body).under_each (inside reach (test_rank reach test)) s t)
        (whole-same reach s t Test test);
  }
  form-same (For head body) = record {
    under_each = λ reach s t.
        append
        (append (append (whole-same reach s t Limit head.first)
        (whole-same reach s t Limit head.last))
        (step-same reach s t head.step)) ((stmts-same body).under_each (inside reach (Some 0)) s t);
  }
  form-same (Border border names) = record { under_each = λ reach s t. nil }
  form-same (Write line items) = record { under_each = λ reach s t. items-same reach s t items }
  form-same (Return value) =
      record { under_each = λ reach s t. whole-same reach s t (Result reach.result) value }

  arms-same : (arms : Arms) (reach within : Reach) (s t : Shapes) →
      Same (arms_sites (under reach s) (under within s) arms)
      (arms_sites (under reach t) (under within t) arms)
  arms-same NoArm reach within s t = nil
  arms-same (ThenArm (Tested at test body) rest) reach within s t =
      append (append (whole-same reach s t Test test) ((stmts-same body).under_each within s t))
      (arms-same rest reach within s t)

  otherwise-same : (otherwise : Otherwise) → AreSame (λ reach. otherwise_sites reach otherwise)
  otherwise-same NoElse = record { under_each = λ reach s t. nil }
  otherwise-same (Else body) = stmts-same body

-- ---- procedures

last-same : (result : Option Base) (body : Stmts) → AreSame (λ reach. body_sites reach result body)
last-same result NoStmt = record { under_each = λ reach s t. nil }
last-same result (ThenStmt last NoStmt) = record
    { under_each = λ reach s t. (stmt-same last).under_each (record reach { result = result }) s t }
last-same result (ThenStmt first (ThenStmt next rest)) = record {
  under_each = λ reach s t.
      append ((stmt-same first).under_each reach s t)
      ((last-same result (ThenStmt next rest)).under_each reach s t);
}

outermost-same : (result : Option Base) (body : Stmt) →
    AreSame (λ reach. outermost_sites reach result body)
outermost-same result (Prefixed at prefixes (Block body)) = record {
  under_each = λ reach s t.
      append (prefixes-same reach s t prefixes)
      (behind-prefixes (λ reach. body_sites reach result body) (last-same result body) prefixes
      reach s t);
}
outermost-same result stmt = stmt-same stmt

-- a procedure's sites under any current regions, and where none is known
pub routine-same : (program : Program) (shapes : Shapes) (routine : Routine) →
    Same (routine_sites program shapes routine) (routine_sites program unknown_shapes routine)
routine-same program shapes routine =
    (outermost-same routine.procedure.result routine.procedure.body).under_each
    (in_body (scope_of program routine) shapes) shapes unknown_shapes
