-- The walk over the syntax lists what the sites of the text have.
use Rattle.std.proofs.Common.{◌≡◌, Bool, true, false, List, [], ◌∷◌, ◌++◌, map, Option, Some, None, option_to_list, refl, sym, ◌∙◌, ap, ap₂, subst, cond}
use Rattle.std.specs.List.{flat_map}
use Rattle.std.proofs.lemmas.List.{append_assoc}
use Rattle.std.proofs.lemmas.List.Concat.{flat_map-append}
use Rattle.zpl_nums.specs.declared.operators.Op.{Op}
use Rattle.zpl_binding.specs.of_zpl_tree.Syntax.{Name, Pre, RegionBase, NamedRegion, Ditto, Expr, Number, Truth, Coord, Named, Shifted, Around, Remap, Call, Paren, Neg, Not, Abs, Pair, Reduce, Scan, Flood, Exprs, NoExpr, ThenExpr, Dir, NamedDir, Vector, Inner, Rexpr, Dims, Bracket, NoBracket, Bracketed, Posts, NoPost, ThenPost, DimText, Blank, Star, One, Span, DimTexts, NoDim, ThenDim, Mask, Prefix, ForHead, Item, Str, Value, Stmt, Prefixed, Stmts, NoStmt, ThenStmt, Form, Assign, Invoke, Block, If, While, Repeat, For, Border, Write, Return, Arm, Tested, Arms, NoArm, ThenArm, Otherwise, NoElse, Else, Base, Define, RegionDef, DirDef, VarDef, Param, Procedure, Decl, Config, Constant, Regions, Directions, Vars, Defined, Program}
use Rattle.zpl_binding.specs.of_zpl_names.Kinds as kind
use Rattle.zpl_binding.specs.of_zpl_names.Kinds.{Rank}
use Rattle.zpl_binding.specs.of_zpl_names.Scope.{Entry, Scope}
use Rattle.zpl_binding.specs.of_zpl_names.Ranks.{inner_rank, own_rank, is_index, mask_rank}
use Rattle.zpl_binding.specs.of_zpl_names.Shapes.{Shapes, unknown_shapes}
use Rattle.zpl_binding.specs.of_zpl_names.Declared.{Routine, routine_of, scope_of, declaring, head_scope, with_define, with_region, with_direction, with_variables, with_decl}
use Rattle.zpl_binding.specs.of_zpl_names.Sites.{Reach, in_declaration, in_body, in_vector, over_source, under_prefix, under_prefixes, inside, Role, Bound, Component, Limit, Result, Test, Printed, Actual, Operand, Assigned, Initial, whole_rank, Site, AtWhole, AtExpr, AtCall, AtNamed, AtDir, AtRegion, AtMask, AtStmt, AtBase, AtPosts, AtProcedure, index_sites, expr_sites, exprs_sites, actuals_sites, dir_sites, components_sites, region_sites, posts_sites, dims_sites, dim_sites, whole_sites, prefix_sites, prefixes_sites, value_sites, item_sites, step_sites, stmt_sites, stmts_sites, form_sites, arms_sites, otherwise_sites, body_sites, outermost_sites, routine_sites, arms_rank, test_rank, shape_sites, define_sites, region_def_sites, direction_sites, variable_sites, param_sites, head_sites, each_sites, decl_sites, text_sites}
use Rattle.zpl_parts.specs.Part.{Part, VectorPart, BorderPart, AroundPart, CallPart, parts_at}
use Rattle.zpl_parts.specs.Walk.{vector_parts, border_parts, expr_parts, exprs_parts, dir_parts, bracket_parts, inner_parts, posts_parts, dims_parts, dim_parts, prefix_parts, step_parts, head_parts, item_parts, stmt_parts, stmts_parts, form_parts, arms_parts, arm_parts, otherwise_parts, define_parts, region_def_parts, direction_parts, variable_parts, param_parts, procedure_parts, decl_parts, text_parts}

-- the sites have these parts
pub record Have (sites : List Site) (parts : List Part) : Type 0 where
  pub is : flat_map parts_at sites ≡ parts

nil : Have [] []
nil = record { is = refl }

-- a site without parts
skip : {x : Site} {xs : List Site} {ps : List Part} → parts_at x ≡ [] → Have xs ps →
    Have (x ∷ xs) ps
skip {xs} e have = record { is = ap (λ front. front ++ flat_map parts_at xs) e ∙ have.is }

cons : {x : Site} {xs : List Site} {ps : List Part} (p : List Part) → parts_at x ≡ p →
    Have xs ps → Have (x ∷ xs) (p ++ ps)
cons p e have = record { is = ap₂ (λ front rest. front ++ rest) e have.is }

append : {xs ys : List Site} {ps qs : List Part} → Have xs ps → Have ys qs →
    Have (xs ++ ys) (ps ++ qs)
append {xs} {ys} one two =
    record {
      is = flat_map-append parts_at xs ys ∙ ap₂ (λ front rest. front ++ rest) one.is two.is;
    }

-- and nothing behind
last : {x : Site} {xs : List Site} (p : List Part) → parts_at x ≡ p → Have xs [] → Have (x ∷ xs) p
last {xs} p e have =
    record { is = ap₂ (λ front rest. front ++ rest) e have.is ∙ nothing p }
  where
    nothing : (ps : List Part) → ps ++ [] ≡ ps
    nothing [] = refl
    nothing (q ∷ ps) = ap (λ rest. q ∷ rest) (nothing ps)

-- ---- what a region expression is

region-at : (reach : Reach) (hint : Rank) (pre : List Pre) (base : RegionBase) (post : Posts) →
    parts_at (AtRegion reach hint (Rexpr pre base post)) ≡ border_parts pre base post
region-at reach hint pre (NamedRegion name) NoPost = refl
region-at reach hint pre (NamedRegion name) (ThenPost stride dir rest) = refl
region-at reach hint pre (Ditto at) NoPost = refl
region-at reach hint pre (Ditto at) (ThenPost stride dir rest) = refl

abbrev index_of : Reach → Name → List Site
index_of reach name =
    AtWhole reach Bound (Named name.at name) ∷
    AtExpr reach (whole_rank reach Bound (Named name.at name)) (Named name.at name) ∷ []

index-none : (reach : Reach) (pre : List Pre) (base : RegionBase) (post : Posts) →
    Have (index_sites reach pre base post) []
index-none reach pre (Ditto at) post = nil
index-none reach pre (NamedRegion name) post = by (is_index reach.scope pre name post)
  where
    by : (b : Bool) → Have (cond b (index_of reach name) []) []
    by true = skip refl (skip refl nil)
    by false = nil

mutual
  expr-have : (reach : Reach) (rank : Rank) (expr : Expr) →
      Have (expr_sites reach rank expr) (expr_parts reach.declared expr)
  expr-have reach rank (Number at value) = skip refl nil
  expr-have reach rank (Truth at value) = skip refl nil
  expr-have reach rank (Coord at dimension) = skip refl nil
  expr-have reach rank (Named at name) = skip refl nil
  expr-have reach rank (Shifted at name shift) = skip refl (dir-have reach shift)
  expr-have reach rank (Around at name shift) =
      cons (AroundPart name shift ∷ []) refl (dir-have reach shift)
  expr-have reach rank (Remap at name indices) = skip refl (exprs-have reach rank indices)
  expr-have reach rank (Call at name actuals) =
      cons (CallPart name actuals ∷ []) refl (actuals-have reach actuals)
  expr-have reach rank (Paren at inside) = skip refl (expr-have reach rank inside)
  expr-have reach rank (Neg at operand) = skip refl (expr-have reach rank operand)
  expr-have reach rank (Not at operand) = skip refl (expr-have reach rank operand)
  expr-have reach rank (Abs at operand) = skip refl (expr-have reach rank operand)
  expr-have reach rank (Pair at op left right) =
      append (skip refl (expr-have reach rank left)) (expr-have reach rank right)
  expr-have reach rank (Reduce at operator NoBracket operand) =
      skip refl (skip refl (expr-have reach (whole_rank reach Operand operand) operand))
  expr-have reach rank (Reduce at operator (Bracketed source) operand) =
      let hint = own_rank reach.scope reach.prefix operand in
      let over_rank = inner_rank reach.scope hint reach.prefix source in
      append (skip refl (region-have reach hint source))
      (expr-have (over_source reach over_rank source) over_rank operand)
  expr-have reach rank (Scan at operator along operand) =
      skip refl (expr-have reach rank operand)
  expr-have reach rank (Flood at source operand) =
      let hint = own_rank reach.scope reach.prefix operand in
      let over_rank = inner_rank reach.scope hint reach.prefix source in
      append (skip refl (region-have reach hint source))
      (expr-have (over_source reach over_rank source) over_rank operand)

  exprs-have : (reach : Reach) (rank : Rank) (exprs : Exprs) →
      Have (exprs_sites reach rank exprs) (exprs_parts reach.declared exprs)
  exprs-have reach rank NoExpr = nil
  exprs-have reach rank (ThenExpr first rest) =
      append (expr-have reach rank first) (exprs-have reach rank rest)

  actuals-have : (reach : Reach) (actuals : Exprs) →
      Have (actuals_sites reach actuals) (exprs_parts reach.declared actuals)
  actuals-have reach NoExpr = nil
  actuals-have reach (ThenExpr (Named at name) rest) = skip refl (actuals-have reach rest)
  actuals-have reach (ThenExpr first rest) =
      append (skip refl (expr-have reach (whole_rank reach Actual first) first))
      (actuals-have reach rest)

  dir-have : (reach : Reach) (dir : Dir) →
      Have (dir_sites reach dir) (dir_parts reach.declared dir)
  dir-have reach (NamedDir name) = skip refl nil
  dir-have reach (Vector parts) =
      cons (vector_parts reach.declared parts) refl (components-have (in_vector reach) parts)

  components-have : (reach : Reach) (exprs : Exprs) →
      Have (components_sites reach exprs) (exprs_parts reach.declared exprs)
  components-have reach NoExpr = nil
  components-have reach (ThenExpr first rest) =
      append (skip refl (expr-have reach (whole_rank reach Component first) first))
      (components-have reach rest)

  region-have : (reach : Reach) (hint : Rank) (region : Inner) →
      Have (region_sites reach hint region) (inner_parts reach.declared region)
  region-have reach hint (Rexpr pre base post) =
      append
      (last (border_parts pre base post) (region-at reach hint pre base post)
      (index-none reach pre base post))
      (posts-have reach post)
  region-have reach hint (Dims dims) = skip refl (dims-have reach dims)

  posts-have : (reach : Reach) (posts : Posts) →
      Have (posts_sites reach posts) (posts_parts reach.declared posts)
  posts-have reach NoPost = nil
  posts-have reach (ThenPost stride dir rest) =
      append (dir-have reach dir) (posts-have reach rest)

  dims-have : (reach : Reach) (dims : DimTexts) →
      Have (dims_sites reach dims) (dims_parts reach.declared dims)
  dims-have reach NoDim = nil
  dims-have reach (ThenDim first rest) = append (dim-have reach first) (dims-have reach rest)

  dim-have : (reach : Reach) (dim : DimText) →
      Have (dim_sites reach dim) (dim_parts reach.declared dim)
  dim-have reach (Blank at) = nil
  dim-have reach (Star at) = nil
  dim-have reach (One index) = skip refl (expr-have reach (whole_rank reach Bound index) index)
  dim-have reach (Span low high) =
      append (skip refl (expr-have reach (whole_rank reach Bound low) low))
      (skip refl (expr-have reach (whole_rank reach Bound high) high))

whole-have : (reach : Reach) (role : Role) (expr : Expr) →
    Have (whole_sites reach role expr) (expr_parts reach.declared expr)
whole-have reach role expr = skip refl (expr-have reach (whole_rank reach role expr) expr)

-- ---- statements, which stand in no declaration

in_text : (reach : Reach) (sites : List Site) (parts : Bool → List Part) →
    reach.declared ≡ false → Have sites (parts reach.declared) → Have sites (parts false)
in_text reach sites parts e have =
    let P : Bool → Type 0 = λ declared. Have sites (parts declared) in subst P e have

whole-in : (reach : Reach) (role : Role) (expr : Expr) → reach.declared ≡ false →
    Have (whole_sites reach role expr) (expr_parts false expr)
whole-in reach role expr e =
    in_text reach (whole_sites reach role expr) (λ declared. expr_parts declared expr) e
    (whole-have reach role expr)

actuals-in : (reach : Reach) (actuals : Exprs) → reach.declared ≡ false →
    Have (actuals_sites reach actuals) (exprs_parts false actuals)
actuals-in reach actuals e =
    in_text reach (actuals_sites reach actuals) (λ declared. exprs_parts declared actuals) e
    (actuals-have reach actuals)

masks-none : (reach : Reach) (prefix : Prefix) (mask : Option Mask) →
    Have (map (AtMask reach prefix) (option_to_list mask)) []
masks-none reach prefix None = nil
masks-none reach prefix (Some mask) = skip refl nil

-- nothing behind
append_none : {xs ys : List Site} {ps : List Part} → Have xs ps → Have ys [] →
    Have (xs ++ ys) ps
append_none {xs} {ys} {ps} one two =
    record {
      is = flat_map-append parts_at xs ys ∙ ap₂ (λ front rest. front ++ rest) one.is two.is ∙
          nothing ps;
    }
  where
    nothing : (ps : List Part) → ps ++ [] ≡ ps
    nothing [] = refl
    nothing (p ∷ ps) = ap (λ rest. p ∷ rest) (nothing ps)

prefix-have : (reach : Reach) (prefix : Prefix) → reach.declared ≡ false →
    Have (prefix_sites reach prefix) (prefix_parts prefix)
prefix-have reach prefix e =
    append_none
    (in_text reach (region_sites reach (mask_rank reach.scope prefix.mask) prefix.region)
    (λ declared. inner_parts declared prefix.region) e
    (region-have reach (mask_rank reach.scope prefix.mask) prefix.region))
    (masks-none reach prefix prefix.mask)

prefixes-have : (reach : Reach) (prefixes : List Prefix) → reach.declared ≡ false →
    Have (prefixes_sites reach prefixes) (flat_map prefix_parts prefixes)
prefixes-have reach [] e = nil
prefixes-have reach (prefix ∷ rest) e =
    append (prefix-have reach prefix e) (prefixes-have (under_prefix reach prefix) rest e)

-- prefixes leave it in the text
under-declared : (prefixes : List Prefix) (reach : Reach) →
    (under_prefixes reach prefixes).declared ≡ reach.declared
under-declared [] reach = refl
under-declared (prefix ∷ rest) reach = under-declared rest (under_prefix reach prefix)

value-have : (reach : Reach) (name : Name) (op : Option Op) (value : Expr) →
    reach.declared ≡ false → Have (value_sites reach name op value) (expr_parts false value)
value-have reach name None (Call at callee actuals) e =
    skip refl (cons (CallPart callee actuals ∷ []) refl (actuals-in reach actuals e))
value-have reach name op value e = whole-in reach (Assigned name op) value e

item-have : (reach : Reach) (item : Item) → reach.declared ≡ false →
    Have (item_sites reach item) (item_parts item)
item-have reach (Str bytes) e = nil
item-have reach (Value value) e = whole-in reach Printed value e

items-have : (reach : Reach) (items : List Item) → reach.declared ≡ false →
    Have (flat_map (item_sites reach) items) (flat_map item_parts items)
items-have reach [] e = nil
items-have reach (first ∷ rest) e = append (item-have reach first e) (items-have reach rest e)

step-have : (reach : Reach) (step : Option Expr) → reach.declared ≡ false →
    Have (step_sites reach step) (step_parts step)
step-have reach None e = nil
step-have reach (Some step) e = whole-in reach Limit step e

mutual
  stmt-have : (stmt : Stmt) (reach : Reach) → reach.declared ≡ false →
      Have (stmt_sites reach stmt) (stmt_parts stmt)
  stmt-have (Prefixed at prefixes form) reach e =
      append (prefixes-have reach prefixes e)
      (skip refl
      (form-have form (under_prefixes reach prefixes) (under-declared prefixes reach ∙ e)))

  stmts-have : (stmts : Stmts) (reach : Reach) → reach.declared ≡ false →
      Have (stmts_sites reach stmts) (stmts_parts stmts)
  stmts-have NoStmt reach e = nil
  stmts-have (ThenStmt first rest) reach e =
      append (stmt-have first reach e) (stmts-have rest reach e)

  form-have : (form : Form) (reach : Reach) → reach.declared ≡ false →
      Have (form_sites reach form) (form_parts form)
  form-have (Assign name op value) reach e = value-have reach name op value e
  form-have (Invoke name actuals) reach e =
      cons (CallPart name actuals ∷ []) refl (actuals-in reach actuals e)
  form-have (Block body) reach e = stmts-have body (inside reach (Some 0)) e
  form-have (If arms otherwise) reach e =
      append (arms-have arms reach (inside reach (arms_rank reach arms)) e e)
      (otherwise-have otherwise (inside reach (arms_rank reach arms)) e)
  form-have (While test body) reach e =
      append (whole-in reach Test test e)
      (stmts-have body (inside reach (test_rank reach test)) e)
  form-have (Repeat body until test) reach e =
      append (stmts-have body (inside reach (test_rank reach test)) e)
      (whole-in reach Test test e)
  form-have (For head body) reach e =
      append
      (append (append (whole-in reach Limit head.first e) (whole-in reach Limit head.last e))
      (step-have reach head.step e)) (stmts-have body (inside reach (Some 0)) e)
  form-have (Border border names) reach e = nil
  form-have (Write line items) reach e = items-have reach items e
  form-have (Return value) reach e = whole-in reach (Result reach.result) value e

  arms-have : (arms : Arms) (reach within : Reach) → reach.declared ≡ false →
      within.declared ≡ false → Have (arms_sites reach within arms) (arms_parts arms)
  arms-have NoArm reach within e e' = nil
  arms-have (ThenArm (Tested at test body) rest) reach within e e' =
      append (append (whole-in reach Test test e) (stmts-have body within e'))
      (arms-have rest reach within e e')

  otherwise-have : (otherwise : Otherwise) (reach : Reach) → reach.declared ≡ false →
      Have (otherwise_sites reach otherwise) (otherwise_parts otherwise)
  otherwise-have NoElse reach e = nil
  otherwise-have (Else body) reach e = stmts-have body reach e

-- ---- procedures

last-have : (result : Option Base) (body : Stmts) (reach : Reach) → reach.declared ≡ false →
    Have (body_sites reach result body) (stmts_parts body)
last-have result NoStmt reach e = nil
last-have result (ThenStmt final NoStmt) reach e =
    append_nothing (stmt-have final (record reach { result = result }) e)
  where
    append_nothing : {xs : List Site} {ps : List Part} → Have xs ps → Have xs (ps ++ [])
    append_nothing {xs} {ps} have = record { is = have.is ∙ nothing ps }
      where
        nothing : (ps : List Part) → ps ≡ ps ++ []
        nothing [] = refl
        nothing (p ∷ ps) = ap (λ rest. p ∷ rest) (nothing ps)
last-have result (ThenStmt first (ThenStmt next rest)) reach e =
    append (stmt-have first reach e) (last-have result (ThenStmt next rest) reach e)

outermost-have : (result : Option Base) (body : Stmt) (reach : Reach) → reach.declared ≡ false →
    Have (outermost_sites reach result body) (stmt_parts body)
outermost-have result (Prefixed at prefixes (Block body)) reach e =
    append (prefixes-have reach prefixes e)
    (last-have result body (under_prefixes reach prefixes) (under-declared prefixes reach ∙ e))
outermost-have result stmt reach e = stmt-have stmt reach e

-- a procedure's sites, under any current regions
pub routine-have : (program : Program) (shapes : Shapes) (routine : Routine) →
    Have (routine_sites program shapes routine) (stmt_parts routine.procedure.body)
routine-have program shapes routine =
    outermost-have routine.procedure.result routine.procedure.body
    (in_body (scope_of program routine) shapes) refl

-- ---- declarations

shape-have : (scope : Scope) (shape : Bracket) →
    Have (shape_sites scope shape) (bracket_parts true shape)
shape-have scope NoBracket = nil
shape-have scope (Bracketed inner) = region-have (in_declaration scope) (Some 0) inner

define-have : (earlier : List Entry) (define : Define) →
    Have (define_sites earlier define) (define_parts define)
define-have earlier define =
    skip refl (whole-have (in_declaration (declaring [] earlier)) (Initial define.base)
    define.value)

region_def-have : (earlier : List Entry) (region : RegionDef) →
    Have (region_def_sites earlier region) (region_def_parts region)
region_def-have earlier region =
    let reach = in_declaration (declaring [] earlier) in
    append (region-have reach (Some 0) region.body) (skip refl (posts-have reach region.posts))

direction-have : (earlier : List Entry) (direction : DirDef) →
    Have (direction_sites earlier direction) (direction_parts direction)
direction-have earlier direction =
    dir-have (in_declaration (declaring [] earlier)) (Vector direction.parts)

variable-have : (scope : Scope) (var : VarDef) →
    Have (variable_sites scope var) (variable_parts var)
variable-have scope var = append_none (shape-have scope var.shape) (skip refl nil)

param-have : (scope : Scope) (param : Param) →
    Have (param_sites scope param) (param_parts param)
param-have scope param = append_none (shape-have scope param.shape) (skip refl nil)

variables-have : (scope : Scope) (vars : List VarDef) →
    Have (flat_map (variable_sites scope) vars) (flat_map variable_parts vars)
variables-have scope [] = nil
variables-have scope (var ∷ vars) = append (variable-have scope var) (variables-have scope vars)

params-have : (scope : Scope) (params : List Param) →
    Have (flat_map (param_sites scope) params) (flat_map param_parts params)
params-have scope [] = nil
params-have scope (param ∷ params) = append (param-have scope param) (params-have scope params)

bases-none : (base : Option Base) → Have (map AtBase (option_to_list base)) []
bases-none None = nil
bases-none (Some base) = skip refl nil

head-have : (earlier : List Entry) (procedure : Procedure) →
    Have (head_sites earlier procedure)
    (flat_map param_parts procedure.params ++ flat_map variable_parts procedure.locals)
head-have earlier procedure =
    let scope = head_scope earlier procedure in
    append
    (append_none (skip refl (params-have scope procedure.params)) (bases-none procedure.result))
    (variables-have scope procedure.locals)

each-have : {A : Type 0} (adds : List Entry → A → List Entry) (sites : List Entry → A → List Site)
    (parts : A → List Part) →
    ((earlier : List Entry) (item : A) → Have (sites earlier item) (parts item)) →
    (items : List A) (earlier : List Entry) →
    Have (each_sites adds sites earlier items) (flat_map parts items)
each-have adds sites parts have [] earlier = nil
each-have adds sites parts have (first ∷ rest) earlier =
    append (have earlier first) (each-have adds sites parts have rest (adds earlier first))

decl-have : (program : Program) (earlier : List Entry) (decl : Decl) →
    Have (decl_sites program earlier decl) (decl_parts decl)
decl-have program earlier (Config defines) =
    each-have (with_define kind.Config) define_sites define_parts define-have defines earlier
decl-have program earlier (Constant defines) =
    each-have (with_define kind.Constant) define_sites define_parts define-have defines earlier
decl-have program earlier (Regions regions) =
    each-have with_region region_def_sites region_def_parts region_def-have regions earlier
decl-have program earlier (Directions directions) =
    each-have with_direction direction_sites direction_parts direction-have directions earlier
decl-have program earlier (Vars vars) =
    each-have with_variables (λ earlier var. variable_sites (declaring [] earlier) var)
    variable_parts (λ earlier var. variable-have (declaring [] earlier) var) vars earlier
decl-have program earlier (Defined procedure) =
    append (head-have earlier procedure)
    (routine-have program unknown_shapes (routine_of earlier procedure))

-- the sites of the whole text
pub text-have : (program : Program) → Have (text_sites program) (text_parts program)
text-have program =
    each-have with_decl (decl_sites program) decl_parts (decl-have program) program.decls []
