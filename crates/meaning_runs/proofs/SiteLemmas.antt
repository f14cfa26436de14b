-- The sites of a procedure's statements: their scopes, and the vectors that stand there.
use Rattle.std.proofs.Common.{◌≡◌, Bool, true, false, cond, inl, inr, List, [], ◌∷◌, ◌++◌, map}
use Rattle.std.proofs.Common.{Option}
use Rattle.std.proofs.Common.{Some, None, option_to_list, Contains, refl, sym, ap, ◌∙◌, subst}
use Rattle.std.specs.List.{flat_map}
use Rattle.zpl_nums.specs.declared.operators.Op.{Op}
use Rattle.zpl_meaning.specs.of_zpl_tree.Syntax.{Name, Pre, RegionBase, NamedRegion, Ditto, Expr, Number, Truth}
use Rattle.zpl_meaning.specs.of_zpl_tree.Syntax.{Coord, Named, Shifted, Around, Remap, Call, Paren, Neg, Not, Abs}
use Rattle.zpl_meaning.specs.of_zpl_tree.Syntax.{Pair, Reduce, Scan, Flood, Exprs, NoExpr, ThenExpr, Dir, NamedDir}
use Rattle.zpl_meaning.specs.of_zpl_tree.Syntax.{Vector, Inner, Rexpr, Dims, NoBracket, Bracketed, Posts, NoPost}
use Rattle.zpl_meaning.specs.of_zpl_tree.Syntax.{ThenPost, DimText, Blank, Star, One, Span, DimTexts, NoDim}
use Rattle.zpl_meaning.specs.of_zpl_tree.Syntax.{ThenDim, Mask, Prefix, Item, Str, Value, Stmt, Prefixed, Stmts}
use Rattle.zpl_meaning.specs.of_zpl_tree.Syntax.{NoStmt, ThenStmt, Form, Assign, Invoke, Block, If, While, Repeat}
use Rattle.zpl_meaning.specs.of_zpl_tree.Syntax.{For, Border, Write, Return, Arm, Tested, Arms, NoArm, ThenArm}
use Rattle.zpl_meaning.specs.of_zpl_tree.Syntax.{Otherwise, NoElse, Else, Base, Program, Decl, Config, Constant}
use Rattle.zpl_meaning.specs.of_zpl_tree.Syntax.{Regions, Directions, Vars, Defined}
use Rattle.zpl_meaning.specs.of_zpl_names.Kinds.{Rank}
use Rattle.zpl_meaning.specs.of_zpl_names.Scope.{Entry}
use Rattle.zpl_meaning.specs.of_zpl_names.Ranks.{inner_rank, own_rank, is_index, mask_rank}
use Rattle.zpl_meaning.specs.of_zpl_names.Shapes.{unknown_shapes}
use Rattle.zpl_meaning.specs.of_zpl_names.Declared.{Routine, routine_of, routines_of, routines_behind, scope_of}
use Rattle.zpl_meaning.specs.of_zpl_names.Declared.{globals_of, with_decl, with_procedure}
use Rattle.zpl_meaning.specs.of_zpl_names.Sites.{Reach, in_body, in_vector, over_source, under_prefix}
use Rattle.zpl_meaning.specs.of_zpl_names.Sites.{under_prefixes}
use Rattle.zpl_meaning.specs.of_zpl_names.Sites.{inside, Role, Bound, Component, Limit, Result, Test as TestRole}
use Rattle.zpl_meaning.specs.of_zpl_names.Sites.{Printed, Actual, Operand, Assigned, whole_rank, Site, AtWhole}
use Rattle.zpl_meaning.specs.of_zpl_names.Sites.{AtExpr, AtDir, AtRegion, AtMask}
use Rattle.zpl_meaning.specs.of_zpl_names.Sites.{index_sites, expr_sites, exprs_sites, actuals_sites, dir_sites}
use Rattle.zpl_meaning.specs.of_zpl_names.Sites.{components_sites, region_sites, posts_sites, dims_sites}
use Rattle.zpl_meaning.specs.of_zpl_names.Sites.{dim_sites}
use Rattle.zpl_meaning.specs.of_zpl_names.Sites.{whole_sites, prefixes_sites, value_sites, item_sites}
use Rattle.zpl_meaning.specs.of_zpl_names.Sites.{step_sites, stmt_sites, stmts_sites, form_sites, arms_sites}
use Rattle.zpl_meaning.specs.of_zpl_names.Sites.{arm_sites, otherwise_sites, body_sites, outermost_sites}
use Rattle.zpl_meaning.specs.of_zpl_names.Sites.{routine_sites, arms_rank, test_rank, each_sites, decl_sites}
use Rattle.zpl_meaning.specs.of_zpl_names.Sites.{head_sites, text_sites}
use Rattle.zpl_meaning.proofs.of_zpl_names.ListLemmas.{Among, Contains-from_among}
use Rattle.zpl_meaning.proofs.of_zpl_names.FaultlessLemmas.{left-among, right-among, flat_among}
use Rattle.zpl_meaning.specs.of_zpl_binding.Bound.{vectors_at, vectors_in}
use Rattle.zpl_meaning.proofs.DepthLemmas.{Each, each_left, each_right}
use Rattle.meaning_runs.specs.Computed.{HasVectors}

-- ---- the sites of procedures are among those of the text

module _ (program : Program) where
  pub in_text : (decls : List Decl) (earlier : List Entry) (routine : Routine) (site : Site)
      → Among (routines_behind earlier decls) routine
      → Among (routine_sites program unknown_shapes routine) site
      → Among (each_sites with_decl (decl_sites program) earlier decls) site
  in_text [] earlier routine site m n = absurd m
  in_text (Defined procedure ∷ decls) earlier routine site (inl e) n =
      left-among (decl_sites program earlier (Defined procedure)) _ site
      (right-among (head_sites earlier procedure)
      (routine_sites program unknown_shapes (routine_of earlier procedure)) site
      (subst (λ (r : Routine). Among (routine_sites program unknown_shapes r) site) (sym e) n))
  in_text (Defined procedure ∷ decls) earlier routine site (inr m) n =
      right-among (decl_sites program earlier (Defined procedure)) _ site
      (in_text decls (with_procedure earlier procedure) routine site m n)
  in_text (Config defines ∷ decls) earlier routine site m n =
      right-among (decl_sites program earlier (Config defines)) _ site
      (in_text decls _ routine site m n)
  in_text (Constant defines ∷ decls) earlier routine site m n =
      right-among (decl_sites program earlier (Constant defines)) _ site
      (in_text decls _ routine site m n)
  in_text (Regions regions ∷ decls) earlier routine site m n =
      right-among (decl_sites program earlier (Regions regions)) _ site
      (in_text decls _ routine site m n)
  in_text (Directions directions ∷ decls) earlier routine site m n =
      right-among (decl_sites program earlier (Directions directions)) _ site
      (in_text decls _ routine site m n)
  in_text (Vars vars ∷ decls) earlier routine site m n =
      right-among (decl_sites program earlier (Vars vars)) _ site
      (in_text decls _ routine site m n)

-- ---- what is told of the sites of a procedure's statements

-- the names in reach are those of the procedure, and it is no declaration
pub record IsIn (program : Program) (routine : Routine) (reach : Reach) : Type 0 where
  pub own : reach.scope.own ≡ routine.own
  pub globals : reach.scope.globals ≡ globals_of program
  pub stated : reach.declared ≡ false

module _ (program : Program) (routine : Routine) where
  abbrev InText : Site → Type 0
  InText site = Among (text_sites program) site

  abbrev pub Told : Site → Type 0
  Told (AtDir reach (NamedDir name)) = IsIn program routine reach
  Told (AtDir reach (Vector parts)) = Contains (vectors_in program) parts
  Told (AtRegion reach hint (Rexpr pre base post)) =
      IsIn program routine reach × HasVectors program post
  Told site = Unit {0}

  record Goes (sites : List Site) : Type 0 where
    go : Each InText sites → Each Told sites

  none : Goes []
  none = record { go = λ h. tt }

  skip : {site : Site} {sites : List Site} → Told site → Goes sites → Goes (site ∷ sites)
  skip told rest = record { go = λ h. (told, rest.go h.1) }

  join : (xs ys : List Site) → Each Told xs → Each Told ys → Each Told (xs ++ ys)
  join [] ys h k = k
  join (x ∷ xs) ys h k = (h.0, join xs ys h.1 k)

  both : {xs ys : List Site} → Goes xs → Goes ys → Goes (xs ++ ys)
  both {xs} {ys} one other =
      record {
        go = λ h. join xs ys (one.go (each_left InText xs ys h))
            (other.go (each_right InText xs ys h));
      }

  again : (reach within : Reach) → within.scope ≡ reach.scope → within.declared ≡ reach.declared
      → IsIn program routine reach → IsIn program routine within
  again reach within scope declared k = record {
    own = ap (λ s. s.own) scope ∙ k.own;
    globals = ap (λ s. s.globals) scope ∙ k.globals;
    stated = declared ∙ k.stated;
  }

  vector_is : (reach : Reach) → IsIn program routine reach → IsIn program routine (in_vector reach)
  vector_is reach k = record { own = k.own; globals = k.globals; stated = k.stated }

  vector_there : (reach : Reach) (parts : Exprs) → reach.declared ≡ false
      → InText (AtDir reach (Vector parts)) → Contains (vectors_in program) parts
  vector_there reach parts stated m =
      Contains-from_among (vectors_in program) parts
      (flat_among vectors_at (text_sites program) (AtDir reach (Vector parts)) parts m
      (subst (λ (b : Bool). Among (cond b [] (parts ∷ [])) parts) (sym stated) (inl refl)))

  vectors_there : (post : Posts) (reach : Reach) → IsIn program routine reach
      → Each InText (posts_sites reach post) → HasVectors program post
  vectors_there NoPost reach k h = tt
  vectors_there (ThenPost stride (NamedDir name) rest) reach k h = vectors_there rest reach k h.1
  vectors_there (ThenPost stride (Vector parts) rest) reach k h = (
    vector_there reach parts k.stated h.0,
    vectors_there rest reach k
        (each_right InText (dir_sites reach (Vector parts)) (posts_sites reach rest) h),
  )

  index_told : (reach : Reach) (pre : List Pre) (base : RegionBase) (post : Posts)
      → Goes (index_sites reach pre base post)
  index_told reach pre (Ditto at) post = none
  index_told reach pre (NamedRegion name) post = by (is_index reach.scope pre name post)
    where
      by : (b : Bool)
          → Goes (cond b (AtWhole reach Bound (Named name.at name) ∷
          AtExpr reach (whole_rank reach Bound (Named name.at name)) (Named name.at name) ∷ []) [])
      by true = skip tt (skip tt none)
      by false = none

  mutual
    expr_told : (expr : Expr) (reach : Reach) (rank : Rank) → IsIn program routine reach
        → Goes (expr_sites reach rank expr)
    expr_told (Number at value) reach rank k = skip tt none
    expr_told (Truth at value) reach rank k = skip tt none
    expr_told (Coord at dimension) reach rank k = skip tt none
    expr_told (Named at name) reach rank k = skip tt none
    expr_told (Shifted at name shift) reach rank k = skip tt (dir_told shift reach k)
    expr_told (Around at name shift) reach rank k = skip tt (dir_told shift reach k)
    expr_told (Remap at name indices) reach rank k = skip tt (exprs_told indices reach rank k)
    expr_told (Call at name actuals) reach rank k = skip tt (actuals_told actuals reach k)
    expr_told (Paren at inside) reach rank k = skip tt (expr_told inside reach rank k)
    expr_told (Neg at operand) reach rank k = skip tt (expr_told operand reach rank k)
    expr_told (Not at operand) reach rank k = skip tt (expr_told operand reach rank k)
    expr_told (Abs at operand) reach rank k = skip tt (expr_told operand reach rank k)
    expr_told (Pair at op left right) reach rank k =
        skip tt (both (expr_told left reach rank k) (expr_told right reach rank k))
    expr_told (Reduce at operator NoBracket operand) reach rank k =
        skip tt (skip tt (expr_told operand reach (whole_rank reach Operand operand) k))
    expr_told (Reduce at operator (Bracketed source) operand) reach rank k =
        let hint = own_rank reach.scope reach.prefix operand in
        let over = inner_rank reach.scope hint reach.prefix source in
        skip tt
        (both (region_told source reach hint k)
        (expr_told operand (over_source reach over source) over
        (again reach (over_source reach over source) refl refl k)))
    expr_told (Scan at operator along operand) reach rank k =
        skip tt (expr_told operand reach rank k)
    expr_told (Flood at source operand) reach rank k =
        let hint = own_rank reach.scope reach.prefix operand in
        let over = inner_rank reach.scope hint reach.prefix source in
        skip tt
        (both (region_told source reach hint k)
        (expr_told operand (over_source reach over source) over
        (again reach (over_source reach over source) refl refl k)))

    exprs_told : (exprs : Exprs) (reach : Reach) (rank : Rank) → IsIn program routine reach
        → Goes (exprs_sites reach rank exprs)
    exprs_told NoExpr reach rank k = none
    exprs_told (ThenExpr first rest) reach rank k =
        both (expr_told first reach rank k) (exprs_told rest reach rank k)

    actuals_told : (exprs : Exprs) (reach : Reach) → IsIn program routine reach
        → Goes (actuals_sites reach exprs)
    actuals_told NoExpr reach k = none
    actuals_told (ThenExpr (Named at name) rest) reach k = skip tt (actuals_told rest reach k)
    actuals_told (ThenExpr (Number at value) rest) reach k =
        skip tt (both (skip tt none) (actuals_told rest reach k))
    actuals_told (ThenExpr (Truth at value) rest) reach k =
        skip tt (both (skip tt none) (actuals_told rest reach k))
    actuals_told (ThenExpr (Coord at dimension) rest) reach k =
        skip tt (both (skip tt none) (actuals_told rest reach k))
    actuals_told (ThenExpr (Shifted at name shift) rest) reach k =
        skip tt (both (expr_told (Shifted at name shift) reach
        (whole_rank reach Actual (Shifted at name shift)) k) (actuals_told rest reach k))
    actuals_told (ThenExpr (Around at name shift) rest) reach k =
        skip tt (both (expr_told (Around at name shift) reach
        (whole_rank reach Actual (Around at name shift)) k) (actuals_told rest reach k))
    actuals_told (ThenExpr (Remap at name indices) rest) reach k =
        skip tt (both (expr_told (Remap at name indices) reach
        (whole_rank reach Actual (Remap at name indices)) k) (actuals_told rest reach k))
    actuals_told (ThenExpr (Call at name actuals) rest) reach k =
        skip tt (both (expr_told (Call at name actuals) reach
        (whole_rank reach Actual (Call at name actuals)) k) (actuals_told rest reach k))
    actuals_told (ThenExpr (Paren at inside) rest) reach k =
        skip tt (both (expr_told (Paren at inside) reach
        (whole_rank reach Actual (Paren at inside)) k) (actuals_told rest reach k))
    actuals_told (ThenExpr (Neg at operand) rest) reach k =
        skip tt (both (expr_told (Neg at operand) reach
        (whole_rank reach Actual (Neg at operand)) k) (actuals_told rest reach k))
    actuals_told (ThenExpr (Not at operand) rest) reach k =
        skip tt (both (expr_told (Not at operand) reach
        (whole_rank reach Actual (Not at operand)) k) (actuals_told rest reach k))
    actuals_told (ThenExpr (Abs at operand) rest) reach k =
        skip tt (both (expr_told (Abs at operand) reach
        (whole_rank reach Actual (Abs at operand)) k) (actuals_told rest reach k))
    actuals_told (ThenExpr (Pair at op left right) rest) reach k =
        skip tt (both (expr_told (Pair at op left right) reach
        (whole_rank reach Actual (Pair at op left right)) k) (actuals_told rest reach k))
    actuals_told (ThenExpr (Reduce at operator source operand) rest) reach k =
        skip tt (both (expr_told (Reduce at operator source operand) reach
        (whole_rank reach Actual (Reduce at operator source operand)) k)
        (actuals_told rest reach k))
    actuals_told (ThenExpr (Scan at operator along operand) rest) reach k =
        skip tt (both (expr_told (Scan at operator along operand) reach
        (whole_rank reach Actual (Scan at operator along operand)) k) (actuals_told rest reach k))
    actuals_told (ThenExpr (Flood at source operand) rest) reach k =
        skip tt (both (expr_told (Flood at source operand) reach
        (whole_rank reach Actual (Flood at source operand)) k) (actuals_told rest reach k))

    dir_told : (dir : Dir) (reach : Reach) → IsIn program routine reach → Goes (dir_sites reach dir)
    dir_told (NamedDir name) reach k = skip k none
    dir_told (Vector parts) reach k =
        let rest = components_told parts (in_vector reach) (vector_is reach k) in
        record { go = λ h. (vector_there reach parts k.stated h.0, rest.go h.1) }

    components_told : (exprs : Exprs) (reach : Reach) → IsIn program routine reach
        → Goes (components_sites reach exprs)
    components_told NoExpr reach k = none
    components_told (ThenExpr first rest) reach k =
        skip tt (both (expr_told first reach (whole_rank reach Component first) k)
        (components_told rest reach k))

    region_told : (region : Inner) (reach : Reach) (hint : Rank) → IsIn program routine reach
        → Goes (region_sites reach hint region)
    region_told (Rexpr pre base post) reach hint k =
        let rest = both (index_told reach pre base post) (posts_told post reach k) in
        record {
          go = λ h. (
            (
              k,
              vectors_there post reach k
                  (each_right InText (index_sites reach pre base post) (posts_sites reach post)
                  h.1),
            ),
            rest.go h.1,
          );
        }
    region_told (Dims dims) reach hint k = skip tt (dims_told dims reach k)

    posts_told : (post : Posts) (reach : Reach) → IsIn program routine reach
        → Goes (posts_sites reach post)
    posts_told NoPost reach k = none
    posts_told (ThenPost stride dir rest) reach k =
        both (dir_told dir reach k) (posts_told rest reach k)

    dims_told : (dims : DimTexts) (reach : Reach) → IsIn program routine reach
        → Goes (dims_sites reach dims)
    dims_told NoDim reach k = none
    dims_told (ThenDim first rest) reach k = both (dim_told first reach k) (dims_told rest reach k)

    dim_told : (dim : DimText) (reach : Reach) → IsIn program routine reach
        → Goes (dim_sites reach dim)
    dim_told (Blank at) reach k = none
    dim_told (Star at) reach k = none
    dim_told (One index) reach k =
        skip tt (expr_told index reach (whole_rank reach Bound index) k)
    dim_told (Span low high) reach k =
        skip tt (both (expr_told low reach (whole_rank reach Bound low) k)
        (skip tt (expr_told high reach (whole_rank reach Bound high) k)))

  whole_told : (reach : Reach) (role : Role) (expr : Expr) → IsIn program routine reach
      → Goes (whole_sites reach role expr)
  whole_told reach role expr k = skip tt (expr_told expr reach (whole_rank reach role expr) k)

  mask_told : (reach : Reach) (prefix : Prefix) (mask : Option Mask)
      → Goes (map (AtMask reach prefix) (option_to_list mask))
  mask_told reach prefix None = none
  mask_told reach prefix (Some mask) = skip tt none

  prefixes_told : (prefixes : List Prefix) (reach : Reach) → IsIn program routine reach
      → Goes (prefixes_sites reach prefixes)
  prefixes_told [] reach k = none
  prefixes_told (prefix ∷ rest) reach k =
      both
      (both (region_told prefix.region reach (mask_rank reach.scope prefix.mask) k)
      (mask_told reach prefix prefix.mask))
      (prefixes_told rest (under_prefix reach prefix)
      (again reach (under_prefix reach prefix) refl refl k))

  prefixes_in : (prefixes : List Prefix) (reach : Reach) → IsIn program routine reach
      → IsIn program routine (under_prefixes reach prefixes)
  prefixes_in [] reach k = k
  prefixes_in (prefix ∷ rest) reach k =
      prefixes_in rest (under_prefix reach prefix)
      (again reach (under_prefix reach prefix) refl refl k)

  assigned_told : (reach : Reach) (name : Name) (op : Option Op) (value : Expr)
      → IsIn program routine reach → Goes (value_sites reach name op value)
  assigned_told reach name None (Call at callee actuals) k =
      skip tt (skip tt (actuals_told actuals reach k))
  assigned_told reach name None (Number at value) k = skip tt (skip tt none)
  assigned_told reach name None (Truth at value) k = skip tt (skip tt none)
  assigned_told reach name None (Coord at dimension) k = skip tt (skip tt none)
  assigned_told reach name None (Named at read) k = skip tt (skip tt none)
  assigned_told reach name None (Shifted at read shift) k =
      whole_told reach (Assigned name None) (Shifted at read shift) k
  assigned_told reach name None (Around at read shift) k =
      whole_told reach (Assigned name None) (Around at read shift) k
  assigned_told reach name None (Remap at read indices) k =
      whole_told reach (Assigned name None) (Remap at read indices) k
  assigned_told reach name None (Paren at inside) k =
      whole_told reach (Assigned name None) (Paren at inside) k
  assigned_told reach name None (Neg at operand) k =
      whole_told reach (Assigned name None) (Neg at operand) k
  assigned_told reach name None (Not at operand) k =
      whole_told reach (Assigned name None) (Not at operand) k
  assigned_told reach name None (Abs at operand) k =
      whole_told reach (Assigned name None) (Abs at operand) k
  assigned_told reach name None (Pair at op left right) k =
      whole_told reach (Assigned name None) (Pair at op left right) k
  assigned_told reach name None (Reduce at operator source operand) k =
      whole_told reach (Assigned name None) (Reduce at operator source operand) k
  assigned_told reach name None (Scan at operator along operand) k =
      whole_told reach (Assigned name None) (Scan at operator along operand) k
  assigned_told reach name None (Flood at source operand) k =
      whole_told reach (Assigned name None) (Flood at source operand) k
  assigned_told reach name (Some op) value k = whole_told reach (Assigned name (Some op)) value k

  items_told : (items : List Item) (reach : Reach) → IsIn program routine reach
      → Goes (flat_map (item_sites reach) items)
  items_told [] reach k = none
  items_told (Str bytes ∷ items) reach k = both none (items_told items reach k)
  items_told (Value value ∷ items) reach k =
      both (whole_told reach Printed value k) (items_told items reach k)

  step_told : (step : Option Expr) (reach : Reach) → IsIn program routine reach
      → Goes (step_sites reach step)
  step_told None reach k = none
  step_told (Some step) reach k = whole_told reach Limit step k

  in_inside : (reach : Reach) (rank : Rank) → IsIn program routine reach
      → IsIn program routine (inside reach rank)
  in_inside reach rank k = again reach (inside reach rank) refl refl k

  mutual
    stmt_told : (stmt : Stmt) (reach : Reach) → IsIn program routine reach
        → Goes (stmt_sites reach stmt)
    stmt_told (Prefixed at prefixes form) reach k =
        both (prefixes_told prefixes reach k)
        (skip tt (form_told form (under_prefixes reach prefixes) (prefixes_in prefixes reach k)))

    stmts_told : (stmts : Stmts) (reach : Reach) → IsIn program routine reach
        → Goes (stmts_sites reach stmts)
    stmts_told NoStmt reach k = none
    stmts_told (ThenStmt first rest) reach k =
        both (stmt_told first reach k) (stmts_told rest reach k)

    form_told : (form : Form) (reach : Reach) → IsIn program routine reach
        → Goes (form_sites reach form)
    form_told (Assign name op value) reach k = assigned_told reach name op value k
    form_told (Invoke name actuals) reach k = skip tt (actuals_told actuals reach k)
    form_told (Block body) reach k =
        stmts_told body (inside reach (Some 0)) (in_inside reach (Some 0) k)
    form_told (If arms otherwise) reach k =
        let rank = arms_rank reach arms in
        both (arms_told arms reach (inside reach rank) k (in_inside reach rank k))
        (otherwise_told otherwise (inside reach rank) (in_inside reach rank k))
    form_told (While test body) reach k =
        let rank = test_rank reach test in
        both (whole_told reach TestRole test k)
        (stmts_told body (inside reach rank) (in_inside reach rank k))
    form_told (Repeat body until test) reach k =
        let rank = test_rank reach test in
        both (stmts_told body (inside reach rank) (in_inside reach rank k))
        (whole_told reach TestRole test k)
    form_told (For head body) reach k =
        both
        (both (both (whole_told reach Limit head.first k) (whole_told reach Limit head.last k))
        (step_told head.step reach k))
        (stmts_told body (inside reach (Some 0)) (in_inside reach (Some 0) k))
    form_told (Border border names) reach k = none
    form_told (Write line items) reach k = items_told items reach k
    form_told (Return value) reach k = whole_told reach (Result reach.result) value k

    arms_told : (arms : Arms) (reach within : Reach) → IsIn program routine reach
        → IsIn program routine within → Goes (arms_sites reach within arms)
    arms_told NoArm reach within k j = none
    arms_told (ThenArm first rest) reach within k j =
        both (arm_told first reach within k j) (arms_told rest reach within k j)

    arm_told : (arm : Arm) (reach within : Reach) → IsIn program routine reach
        → IsIn program routine within → Goes (arm_sites reach within arm)
    arm_told (Tested at test body) reach within k j =
        both (whole_told reach TestRole test k) (stmts_told body within j)

    otherwise_told : (otherwise : Otherwise) (reach : Reach) → IsIn program routine reach
        → Goes (otherwise_sites reach otherwise)
    otherwise_told NoElse reach k = none
    otherwise_told (Else body) reach k = stmts_told body reach k

  body_told : (stmts : Stmts) (reach : Reach) (answer : Option Base)
      → IsIn program routine reach → Goes (body_sites reach answer stmts)
  body_told NoStmt reach answer k = none
  body_told (ThenStmt last NoStmt) reach answer k =
      stmt_told last (record reach { result = answer })
      (again reach (record reach { result = answer }) refl refl k)
  body_told (ThenStmt first (ThenStmt second rest)) reach answer k =
      both (stmt_told first reach k) (body_told (ThenStmt second rest) reach answer k)

  outermost_told : (stmt : Stmt) (reach : Reach) (answer : Option Base)
      → IsIn program routine reach → Goes (outermost_sites reach answer stmt)
  outermost_told (Prefixed at prefixes (Block body)) reach answer k =
      both (prefixes_told prefixes reach k)
      (body_told body (under_prefixes reach prefixes) answer (prefixes_in prefixes reach k))
  outermost_told (Prefixed at prefixes (Assign name op value)) reach answer k =
      stmt_told (Prefixed at prefixes (Assign name op value)) reach k
  outermost_told (Prefixed at prefixes (Invoke name actuals)) reach answer k =
      stmt_told (Prefixed at prefixes (Invoke name actuals)) reach k
  outermost_told (Prefixed at prefixes (If arms otherwise)) reach answer k =
      stmt_told (Prefixed at prefixes (If arms otherwise)) reach k
  outermost_told (Prefixed at prefixes (While test body)) reach answer k =
      stmt_told (Prefixed at prefixes (While test body)) reach k
  outermost_told (Prefixed at prefixes (Repeat body until test)) reach answer k =
      stmt_told (Prefixed at prefixes (Repeat body until test)) reach k
  outermost_told (Prefixed at prefixes (For head body)) reach answer k =
      stmt_told (Prefixed at prefixes (For head body)) reach k
  outermost_told (Prefixed at prefixes (Border border names)) reach answer k =
      stmt_told (Prefixed at prefixes (Border border names)) reach k
  outermost_told (Prefixed at prefixes (Write line items)) reach answer k =
      stmt_told (Prefixed at prefixes (Write line items)) reach k
  outermost_told (Prefixed at prefixes (Return value)) reach answer k =
      stmt_told (Prefixed at prefixes (Return value)) reach k

  each_among : (P : Site → Type 0) (sites : List Site)
      → ((site : Site) → Among sites site → P site) → Each P sites
  each_among P [] h = tt
  each_among P (site ∷ sites) h =
      (h site (inl refl), each_among P sites (λ other m. h other (inr m)))

  among_each : (P : Site → Type 0) (sites : List Site) (site : Site) → Each P sites
      → Among sites site → P site
  among_each P [] site h m = absurd m
  among_each P (first ∷ sites) site h (inl e) = subst P e h.0
  among_each P (first ∷ sites) site h (inr m) = among_each P sites site h.1 m

  pub site_told : Among (routines_of program) routine → (site : Site)
      → Among (routine_sites program unknown_shapes routine) site → Told site
  site_told m site n =
      let reach = in_body (scope_of program routine) unknown_shapes in
      let sites = routine_sites program unknown_shapes routine in
      let goes = outermost_told routine.procedure.body reach routine.procedure.result
      (record { own = refl; globals = refl; stated = refl }) in
      among_each Told sites site
      (goes.go (each_among InText sites (λ other there.
      in_text program program.decls [] routine other m there))) n
