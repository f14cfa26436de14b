-- In a program without faults the sites of procedures have known ranks.
use Rattle.std.proofs.Common.{◌≡◌, ℕ, Bool, true, false, cond, List, [], ◌∷◌, ◌++◌, map, Option, Some, None, option_to_list, IsSome, Contains, refl, sym, subst, true≢false, inl, inr}
use Rattle.std.specs.List.{AllByRecursion, flat_map}
use Rattle.zpl_tree.specs.of_zpl_nums.declared.operators.Op.{Op}
use Rattle.zpl_tree.specs.Syntax.{Name, Pre, RegionBase, NamedRegion, Ditto, Expr, Number, Truth, Coord, Named, Shifted, Around, Remap, Call, Paren, Neg, Not, Abs, Pair, Reduce, Scan, Flood, Exprs, NoExpr, ThenExpr, Dir, NamedDir, Vector, Inner, Rexpr, Dims, NoBracket, Bracketed, Posts, NoPost, ThenPost, DimText, Blank, Star, One, Span, DimTexts, NoDim, ThenDim, Mask, Prefix, Item, Str, Value, Stmt, Prefixed, Stmts, NoStmt, ThenStmt, Form, Assign, Invoke, Block, If, While, Repeat, For, Border, Write, Return, Arm, Tested, Arms, NoArm, ThenArm, Otherwise, NoElse, Else, Base, Program}
use Rattle.zpl_names.specs.Kinds.{Rank, Kind, Config, Constant, Region, Direction, Scalar, Array, Procedure}
use Rattle.zpl_names.specs.Scope.{kind_of, is_value, is_array}
use Rattle.zpl_names.specs.Ranks.{inner_rank, own_rank, is_index, mask_rank}
use Rattle.zpl_names.specs.Shapes.{Shapes}
use Rattle.zpl_names.specs.Declared.{Routine, routines_of, scope_of}
use Rattle.zpl_names.specs.Sites.{Reach, in_body, in_vector, over_source, under_prefix, under_prefixes, inside, Role, Bound, Component, Limit, Result, Test, Printed, Actual, Operand, Assigned, target_rank, handed, whole_rank, Site, AtWhole, AtMask, AtStmt, index_sites, expr_sites, exprs_sites, actuals_sites, dir_sites, components_sites, region_sites, posts_sites, dims_sites, dim_sites, whole_sites, prefixes_sites, value_sites, item_sites, step_sites, test_rank, arms_rank, stmt_sites, stmts_sites, form_sites, arms_sites, arm_sites, otherwise_sites, body_sites, outermost_sites, routine_sites}
use Rattle.zpl_names.specs.Accepted.{HasNoFault, HasKnownRank, IsFaultless}
use Rattle.zpl_names.proofs.ListLemmas.{Among, among_from_Contains}
use Rattle.zpl_names.proofs.FaultlessLemmas.{clean-routine}
use Rattle.zpl_names.proofs.KnownLemmas.{AllKnown, OptKnown, Clean, clean_split, kind-known, array-known, taken, region-known, own-known, whole-known}
use Rattle.zpl_names.proofs.DeclaredLemmas.{known_scope, all_known}

abbrev Ranked : List Site → Type 0
Ranked sites = AllByRecursion HasKnownRank sites

join : (xs ys : List Site) → Ranked xs → Ranked ys → Ranked (xs ++ ys)
join [] ys h k = k
join (x ∷ xs) ys h k = (h.0, join xs ys h.1 k)

index-ranked : (reach : Reach) (pre : List Pre) (base : RegionBase) (post : Posts) →
    AllKnown reach.scope →
    IsSome reach.prefix → Clean (index_sites reach pre base post) →
    Ranked (index_sites reach pre base post)
index-ranked reach pre (Ditto at) post k p h = tt
index-ranked reach pre (NamedRegion name) post k p h = by (is_index reach.scope pre name post) h
  where
    by : (b : Bool) → Clean (cond b (whole_sites reach Bound (Named name.at name)) []) →
        Ranked (cond b (whole_sites reach Bound (Named name.at name)) [])
    by true h =
        let known = whole-known reach Bound (Named name.at name) k p p h in (known, (known, tt))
    by false h = tt

mutual
  expr-ranked : (reach : Reach) (rank : Rank) (expr : Expr) → AllKnown reach.scope →
      IsSome reach.prefix → IsSome rank →
      Clean (expr_sites reach rank expr) → Ranked (expr_sites reach rank expr)
  expr-ranked reach rank (Number at value) k p r h = (r, tt)
  expr-ranked reach rank (Truth at value) k p r h = (r, tt)
  expr-ranked reach rank (Coord at dimension) k p r h = (r, tt)
  expr-ranked reach rank (Named at name) k p r h = (r, tt)
  expr-ranked reach rank (Shifted at name shift) k p r h = (r, dir-ranked reach shift k p h.1)
  expr-ranked reach rank (Around at name shift) k p r h = (r, dir-ranked reach shift k p h.1)
  expr-ranked reach rank (Remap at name indices) k p r h =
      (r, exprs-ranked reach rank indices k p r h.1)
  expr-ranked reach rank (Call at name actuals) k p r h = (tt, actuals-ranked reach actuals k p h.1)
  expr-ranked reach rank (Paren at inside) k p r h = (r, expr-ranked reach rank inside k p r h.1)
  expr-ranked reach rank (Neg at operand) k p r h = (r, expr-ranked reach rank operand k p r h.1)
  expr-ranked reach rank (Not at operand) k p r h = (r, expr-ranked reach rank operand k p r h.1)
  expr-ranked reach rank (Abs at operand) k p r h = (r, expr-ranked reach rank operand k p r h.1)
  expr-ranked reach rank (Pair at op left right) k p r h =
      let parts = clean_split (expr_sites reach rank left) (expr_sites reach rank right) h.1 in (
        r,
        join (expr_sites reach rank left) (expr_sites reach rank right)
            (expr-ranked reach rank left k p r parts.0) (expr-ranked reach rank right k p r parts.1),
      )
  expr-ranked reach rank (Reduce at operator NoBracket operand) k p r h =
      let known = whole-known reach Operand operand k p p h.1 in
      (r, (known, expr-ranked reach (whole_rank reach Operand operand) operand k p known h.1.1))
  expr-ranked reach rank (Reduce at operator (Bracketed source) operand) k p r h =
      let hint = own_rank reach.scope reach.prefix operand in
      let over = inner_rank reach.scope hint reach.prefix source in
      let parts = clean_split (region_sites reach hint source)
      (expr_sites (over_source reach over source) over operand) h.1 in
      let known = own-known (over_source reach over source) over operand k p parts.1 in (
        r,
        join (region_sites reach hint source)
            (expr_sites (over_source reach over source) over operand)
            (region-ranked reach hint source k known p parts.0)
            (expr-ranked (over_source reach over source) over operand k p
            (region-known reach hint source k known p parts.0) parts.1),
      )
  expr-ranked reach rank (Scan at operator along operand) k p r h =
      (r, expr-ranked reach rank operand k p r h.1)
  expr-ranked reach rank (Flood at source operand) k p r h =
      let hint = own_rank reach.scope reach.prefix operand in
      let over = inner_rank reach.scope hint reach.prefix source in
      let parts = clean_split (region_sites reach hint source)
      (expr_sites (over_source reach over source) over operand) h.1 in
      let known = own-known (over_source reach over source) over operand k p parts.1 in (
        r,
        join (region_sites reach hint source)
            (expr_sites (over_source reach over source) over operand)
            (region-ranked reach hint source k known p parts.0)
            (expr-ranked (over_source reach over source) over operand k p
            (region-known reach hint source k known p parts.0) parts.1),
      )

  exprs-ranked : (reach : Reach) (rank : Rank) (exprs : Exprs) → AllKnown reach.scope →
      IsSome reach.prefix → IsSome rank →
      Clean (exprs_sites reach rank exprs) → Ranked (exprs_sites reach rank exprs)
  exprs-ranked reach rank NoExpr k p r h = tt
  exprs-ranked reach rank (ThenExpr first rest) k p r h =
      let parts = clean_split (expr_sites reach rank first) (exprs_sites reach rank rest) h in
      join (expr_sites reach rank first) (exprs_sites reach rank rest)
      (expr-ranked reach rank first k p r parts.0) (exprs-ranked reach rank rest k p r parts.1)

  actuals-ranked : (reach : Reach) (actuals : Exprs) → AllKnown reach.scope → IsSome reach.prefix →
      Clean (actuals_sites reach actuals) → Ranked (actuals_sites reach actuals)
  actuals-ranked reach NoExpr k p h = tt
  actuals-ranked reach (ThenExpr (Named at name) rest) k p h =
      (tt, actuals-ranked reach rest k p h.1)
  actuals-ranked reach (ThenExpr first rest) k p h =
      let parts = clean_split (AtWhole reach Actual first ∷
      expr_sites reach (whole_rank reach Actual first) first) (actuals_sites reach rest) h in
      let known = whole-known reach Actual first k p p parts.0 in
      join (AtWhole reach Actual first ∷ expr_sites reach (whole_rank reach Actual first) first)
      (actuals_sites reach rest)
      (known, expr-ranked reach (whole_rank reach Actual first) first k p known parts.0.1)
      (actuals-ranked reach rest k p parts.1)

  dir-ranked : (reach : Reach) (dir : Dir) → AllKnown reach.scope → IsSome reach.prefix →
      Clean (dir_sites reach dir) → Ranked (dir_sites reach dir)
  dir-ranked reach (NamedDir name) k p h = (tt, tt)
  dir-ranked reach (Vector parts) k p h = (
    tt,
    components-ranked (in_vector reach) parts (record { own = k.own; globals = k.globals }) p
        h.1,
  )

  components-ranked : (reach : Reach) (parts : Exprs) → AllKnown reach.scope → IsSome reach.prefix →
      Clean (components_sites reach parts) → Ranked (components_sites reach parts)
  components-ranked reach NoExpr k p h = tt
  components-ranked reach (ThenExpr first rest) k p h =
      let parts = clean_split (AtWhole reach Component first ∷
      expr_sites reach (whole_rank reach Component first) first) (components_sites reach rest) h
      in
      let known = whole-known reach Component first k p p parts.0 in
      join (AtWhole reach Component first ∷ expr_sites reach (whole_rank reach Component first)
      first) (components_sites reach rest)
      (known, expr-ranked reach (whole_rank reach Component first) first k p known parts.0.1)
      (components-ranked reach rest k p parts.1)

  region-ranked : (reach : Reach) (hint : Rank) (region : Inner) → AllKnown reach.scope →
      IsSome hint → IsSome reach.prefix →
      Clean (region_sites reach hint region) → Ranked (region_sites reach hint region)
  region-ranked reach hint (Rexpr pre base post) k i p h =
      let parts = clean_split (index_sites reach pre base post) (posts_sites reach post) h.1 in (
        region-known reach hint (Rexpr pre base post) k i p h,
        join (index_sites reach pre base post) (posts_sites reach post)
            (index-ranked reach pre base post k p parts.0) (posts-ranked reach post k p parts.1),
      )
  region-ranked reach hint (Dims dims) k i p h =
      (region-known reach hint (Dims dims) k i p h, dims-ranked reach dims k p h.1)

  posts-ranked : (reach : Reach) (posts : Posts) → AllKnown reach.scope → IsSome reach.prefix →
      Clean (posts_sites reach posts) → Ranked (posts_sites reach posts)
  posts-ranked reach NoPost k p h = tt
  posts-ranked reach (ThenPost stride dir rest) k p h =
      let parts = clean_split (dir_sites reach dir) (posts_sites reach rest) h in
      join (dir_sites reach dir) (posts_sites reach rest) (dir-ranked reach dir k p parts.0)
      (posts-ranked reach rest k p parts.1)

  dims-ranked : (reach : Reach) (dims : DimTexts) → AllKnown reach.scope → IsSome reach.prefix →
      Clean (dims_sites reach dims) → Ranked (dims_sites reach dims)
  dims-ranked reach NoDim k p h = tt
  dims-ranked reach (ThenDim first rest) k p h =
      let parts = clean_split (dim_sites reach first) (dims_sites reach rest) h in
      join (dim_sites reach first) (dims_sites reach rest) (dim-ranked reach first k p parts.0)
      (dims-ranked reach rest k p parts.1)

  dim-ranked : (reach : Reach) (dim : DimText) → AllKnown reach.scope → IsSome reach.prefix →
      Clean (dim_sites reach dim) → Ranked (dim_sites reach dim)
  dim-ranked reach (Blank at) k p h = tt
  dim-ranked reach (Star at) k p h = tt
  dim-ranked reach (One index) k p h =
      let known = whole-known reach Bound index k p p h in
      (known, expr-ranked reach (whole_rank reach Bound index) index k p known h.1)
  dim-ranked reach (Span low high) k p h =
      let one = AtWhole reach Bound low ∷ expr_sites reach (whole_rank reach Bound low) low in
      let two = AtWhole reach Bound high ∷ expr_sites reach (whole_rank reach Bound high) high in
      let parts = clean_split one two h in
      let known = whole-known reach Bound low k p p parts.0 in
      let top = whole-known reach Bound high k p p parts.1 in
      join one two (known, expr-ranked reach (whole_rank reach Bound low) low k p known parts.0.1)
      (top, expr-ranked reach (whole_rank reach Bound high) high k p top parts.1.1)

whole-ranked : (reach : Reach) (role : Role) (expr : Expr) → AllKnown reach.scope →
    IsSome reach.prefix → IsSome (handed reach role) →
    Clean (whole_sites reach role expr) → Ranked (whole_sites reach role expr)
whole-ranked reach role expr k p g h =
    let known = whole-known reach role expr k p g h in
    (known, expr-ranked reach (whole_rank reach role expr) expr k p known h.1)

-- ---- prefixes

hint-known : (reach : Reach) (prefix : Prefix) (mask : Option Mask) → AllKnown reach.scope →
    Clean (map (AtMask reach prefix) (option_to_list mask)) → IsSome (mask_rank reach.scope mask)
hint-known reach prefix None k h = refl
hint-known reach prefix (Some mask) k h =
    array-known (kind_of reach.scope mask.name) (kind-known reach.scope mask.name k)
    (taken reach is_array mask.name h.0.known)

masks-ranked : (reach : Reach) (prefix : Prefix) (mask : Option Mask) →
    Ranked (map (AtMask reach prefix) (option_to_list mask))
masks-ranked reach prefix None = tt
masks-ranked reach prefix (Some mask) = (tt, tt)

-- what is known under prefixes
record KnownUnder (reach : Reach) (prefixes : List Prefix) : Type 0 where
  sites : Ranked (prefixes_sites reach prefixes)
  scope : AllKnown (under_prefixes reach prefixes).scope
  prefix : IsSome (under_prefixes reach prefixes).prefix

prefixes-ranked : (reach : Reach) (prefixes : List Prefix) → AllKnown reach.scope →
    IsSome reach.prefix →
    Clean (prefixes_sites reach prefixes) → KnownUnder reach prefixes
prefixes-ranked reach [] k p h = record { sites = tt; scope = k; prefix = p }
prefixes-ranked reach (prefix ∷ rest) k p h =
    let region = region_sites reach (mask_rank reach.scope prefix.mask) prefix.region in
    let masks = map (AtMask reach prefix) (option_to_list prefix.mask) in
    let parts = clean_split (region ++ masks) (prefixes_sites (under_prefix reach prefix) rest) h in
    let own = clean_split region masks parts.0 in
    let hint = hint-known reach prefix prefix.mask k own.1 in
    let known =
    region-known reach (mask_rank reach.scope prefix.mask) prefix.region k hint p own.0 in
    let below = prefixes-ranked (under_prefix reach prefix) rest k known parts.1 in
    record {
      sites = join (region ++ masks) (prefixes_sites (under_prefix reach prefix) rest)
          (join region masks (region-ranked reach (mask_rank reach.scope prefix.mask) prefix.region
          k hint p own.0) (masks-ranked reach prefix prefix.mask)) below.sites;
      scope = below.scope;
      prefix = below.prefix;
    }

-- ---- statements

target-known : (prefix : Rank) (kind : Option Kind) → IsSome prefix → OptKnown kind →
    is_value kind ≡ true → IsSome (target_rank prefix kind)
target-known prefix (Some (Array base shape)) p k is = array-known (Some (Array base shape)) k refl
target-known prefix (Some (Config base)) p k is = p
target-known prefix (Some (Constant base)) p k is = p
target-known prefix (Some (Scalar base)) p k is = p
target-known prefix (Some (Region shape)) p k is = absurd (true≢false (sym is))
target-known prefix (Some (Direction rank)) p k is = absurd (true≢false (sym is))
target-known prefix (Some (Procedure signature)) p k is = absurd (true≢false (sym is))
target-known prefix None p k is = absurd (true≢false (sym is))

value-ranked : (reach : Reach) (name : Name) (op : Option Op) (value : Expr) →
    AllKnown reach.scope → IsSome reach.prefix →
    IsSome (handed reach (Assigned name op)) → Clean (value_sites reach name op value) →
    Ranked (value_sites reach name op value)
value-ranked reach name None (Call at callee actuals) k p g h =
    (refl, (tt, actuals-ranked reach actuals k p h.1.1))
value-ranked reach name op value k p g h = whole-ranked reach (Assigned name op) value k p g h

items-ranked : (reach : Reach) (items : List Item) → AllKnown reach.scope → IsSome reach.prefix →
    Clean (flat_map (item_sites reach) items) → Ranked (flat_map (item_sites reach) items)
items-ranked reach [] k p h = tt
items-ranked reach (Str bytes ∷ rest) k p h = items-ranked reach rest k p h
items-ranked reach (Value value ∷ rest) k p h =
    let parts =
    clean_split (whole_sites reach Printed value) (flat_map (item_sites reach) rest) h in
    join (whole_sites reach Printed value) (flat_map (item_sites reach) rest)
    (whole-ranked reach Printed value k p p parts.0) (items-ranked reach rest k p parts.1)

step-ranked : (reach : Reach) (step : Option Expr) → AllKnown reach.scope → IsSome reach.prefix →
    Clean (step_sites reach step) → Ranked (step_sites reach step)
step-ranked reach None k p h = tt
step-ranked reach (Some step) k p h = whole-ranked reach Limit step k p p h

mutual
  stmt-ranked : (reach : Reach) (stmt : Stmt) → AllKnown reach.scope → IsSome reach.prefix →
      Clean (stmt_sites reach stmt) → Ranked (stmt_sites reach stmt)
  stmt-ranked reach (Prefixed at prefixes form) k p h =
      let below = under_prefixes reach prefixes in
      let parts = clean_split (prefixes_sites reach prefixes)
      (AtStmt below at prefixes form ∷ form_sites below form) h in
      let known = prefixes-ranked reach prefixes k p parts.0 in
      join (prefixes_sites reach prefixes) (AtStmt below at prefixes form ∷ form_sites below form)
      known.sites (
        known.prefix,
        form-ranked below at prefixes form known.scope known.prefix parts.1.0
            parts.1.1,
      )

  stmts-ranked : (reach : Reach) (stmts : Stmts) → AllKnown reach.scope → IsSome reach.prefix →
      Clean (stmts_sites reach stmts) → Ranked (stmts_sites reach stmts)
  stmts-ranked reach NoStmt k p h = tt
  stmts-ranked reach (ThenStmt first rest) k p h =
      let parts = clean_split (stmt_sites reach first) (stmts_sites reach rest) h in
      join (stmt_sites reach first) (stmts_sites reach rest) (stmt-ranked reach first k p parts.0)
      (stmts-ranked reach rest k p parts.1)

  form-ranked : (reach : Reach) (at : ℕ) (prefixes : List Prefix) (form : Form) →
      AllKnown reach.scope → IsSome reach.prefix →
      HasNoFault (AtStmt reach at prefixes form) → Clean (form_sites reach form) →
      Ranked (form_sites reach form)
  form-ranked reach at prefixes (Assign name op value) k p fine h =
      value-ranked reach name op value k p
      (target-known reach.prefix (kind_of reach.scope name) p (kind-known reach.scope name k)
      (taken reach is_value name fine.known)) h
  form-ranked reach at prefixes (Invoke name actuals) k p fine h =
      (tt, actuals-ranked reach actuals k p h.1)
  form-ranked reach at prefixes (Block body) k p fine h =
      stmts-ranked (inside reach (Some 0)) body k p h
  form-ranked reach at prefixes (If arms otherwise) k p fine h =
      let within = inside reach (arms_rank reach arms) in
      let parts = clean_split (arms_sites reach within arms) (otherwise_sites within otherwise) h in
      join (arms_sites reach within arms) (otherwise_sites within otherwise)
      (arms-ranked reach within arms k p k p parts.0)
      (otherwise-ranked within otherwise k p parts.1)
  form-ranked reach at prefixes (While test body) k p fine h =
      let within = inside reach (test_rank reach test) in
      let parts = clean_split (whole_sites reach Test test) (stmts_sites within body) h in
      join (whole_sites reach Test test) (stmts_sites within body)
      (whole-ranked reach Test test k p p parts.0) (stmts-ranked within body k p parts.1)
  form-ranked reach at prefixes (Repeat body until test) k p fine h =
      let within = inside reach (test_rank reach test) in
      let parts = clean_split (stmts_sites within body) (whole_sites reach Test test) h in
      join (stmts_sites within body) (whole_sites reach Test test)
      (stmts-ranked within body k p parts.0) (whole-ranked reach Test test k p p parts.1)
  form-ranked reach at prefixes (For head body) k p fine h =
      let a = whole_sites reach Limit head.first in
      let b = whole_sites reach Limit head.last in
      let c = step_sites reach head.step in
      let d = stmts_sites (inside reach (Some 0)) body in
      let three = clean_split ((a ++ b) ++ c) d h in
      let two = clean_split (a ++ b) c three.0 in
      let one = clean_split a b two.0 in
      join ((a ++ b) ++ c) d (join (a ++ b) c
      (join a b (whole-ranked reach Limit head.first k p p one.0)
      (whole-ranked reach Limit head.last k p p one.1))
      (step-ranked reach head.step k p two.1))
      (stmts-ranked (inside reach (Some 0)) body k p three.1)
  form-ranked reach at prefixes (Border border names) k p fine h = tt
  form-ranked reach at prefixes (Write line items) k p fine h = items-ranked reach items k p h
  form-ranked reach at prefixes (Return value) k p fine h =
      whole-ranked reach (Result reach.result) value k p p h

  arms-ranked : (reach within : Reach) (arms : Arms) → AllKnown reach.scope → IsSome reach.prefix →
      AllKnown within.scope → IsSome within.prefix →
      Clean (arms_sites reach within arms) → Ranked (arms_sites reach within arms)
  arms-ranked reach within NoArm k p k' p' h = tt
  arms-ranked reach within (ThenArm first rest) k p k' p' h =
      let parts = clean_split (arm_sites reach within first) (arms_sites reach within rest) h in
      join (arm_sites reach within first) (arms_sites reach within rest)
      (arm-ranked reach within first k p k' p' parts.0)
      (arms-ranked reach within rest k p k' p' parts.1)

  arm-ranked : (reach within : Reach) (arm : Arm) → AllKnown reach.scope → IsSome reach.prefix →
      AllKnown within.scope → IsSome within.prefix →
      Clean (arm_sites reach within arm) → Ranked (arm_sites reach within arm)
  arm-ranked reach within (Tested at test body) k p k' p' h =
      let parts = clean_split (whole_sites reach Test test) (stmts_sites within body) h in
      join (whole_sites reach Test test) (stmts_sites within body)
      (whole-ranked reach Test test k p p parts.0) (stmts-ranked within body k' p' parts.1)

  otherwise-ranked : (reach : Reach) (otherwise : Otherwise) → AllKnown reach.scope →
      IsSome reach.prefix →
      Clean (otherwise_sites reach otherwise) → Ranked (otherwise_sites reach otherwise)
  otherwise-ranked reach NoElse k p h = tt
  otherwise-ranked reach (Else body) k p h = stmts-ranked reach body k p h

-- ---- procedures

body-ranked : (reach : Reach) (result : Option Base) (body : Stmts) → AllKnown reach.scope →
    IsSome reach.prefix →
    Clean (body_sites reach result body) → Ranked (body_sites reach result body)
body-ranked reach result NoStmt k p h = tt
body-ranked reach result (ThenStmt last NoStmt) k p h =
    stmt-ranked (record reach { result = result }) last k p h
body-ranked reach result (ThenStmt first (ThenStmt next rest)) k p h =
    let parts =
    clean_split (stmt_sites reach first) (body_sites reach result (ThenStmt next rest)) h in
    join (stmt_sites reach first) (body_sites reach result (ThenStmt next rest))
    (stmt-ranked reach first k p parts.0)
    (body-ranked reach result (ThenStmt next rest) k p parts.1)

outermost-ranked : (reach : Reach) (result : Option Base) (body : Stmt) → AllKnown reach.scope →
    IsSome reach.prefix →
    Clean (outermost_sites reach result body) → Ranked (outermost_sites reach result body)
outermost-ranked reach result (Prefixed at prefixes (Block body)) k p h =
    let below = under_prefixes reach prefixes in
    let parts = clean_split (prefixes_sites reach prefixes) (body_sites below result body) h in
    let known = prefixes-ranked reach prefixes k p parts.0 in
    join (prefixes_sites reach prefixes) (body_sites below result body) known.sites
    (body-ranked below result body known.scope known.prefix parts.1)
outermost-ranked reach result stmt k p h = stmt-ranked reach stmt k p h

clean-all : (sites : List Site) → ((site : Site) → Among sites site → HasNoFault site) → Clean sites
clean-all [] h = tt
clean-all (site ∷ sites) h = (h site (inl refl), clean-all sites (λ site m. h site (inr m)))

ranked-at : (sites : List Site) → Ranked sites → (site : Site) → Among sites site →
    HasKnownRank site
ranked-at [] h site m = absurd m
ranked-at (first ∷ rest) h site (inl e) =
    let P : Site → Type 0 = λ site. HasKnownRank site in subst P e h.0
ranked-at (first ∷ rest) h site (inr m) = ranked-at rest h.1 site m

pub ranks_known : (program : Program) → IsFaultless program → (routine : Routine) →
    Contains (routines_of program) routine →
    (shapes : Shapes) (site : Site) → Contains (routine_sites program shapes routine) site →
    HasKnownRank site
ranks_known program clean routine c shapes site m =
    ranked-at (routine_sites program shapes routine)
    (outermost-ranked (in_body (scope_of program routine) shapes) routine.procedure.result
    routine.procedure.body
    (all_known (scope_of program routine) (known_scope program clean routine c)) refl
    (clean-all (routine_sites program shapes routine)
    (λ site m. clean-routine program clean shapes routine
    (among_from_Contains (routines_of program) routine c) site m)))
    site (among_from_Contains (routine_sites program shapes routine) site m)
