-- With accepted settings, the vectors that stand in the brackets of statements have no fault; and
-- what wraps round in the body of a procedure, and what is called there, stands in its text.
use Rattle.std.proofs.Common.{◌≡◌, ◌⊎◌, inl, inr, ℕ, ℤ, List, [], ◌∷◌, ◌++◌, map, Option, Some, None, option_to_list}
use Rattle.std.specs.Prelude.{Contains}
use Rattle.std.specs.List.{flat_map}
use Rattle.zpl_nums.specs.declared.operators.Op.{Op}
use Rattle.zpl_tree.specs.Syntax.{Name, Base, Inner, Rexpr, Dims, Expr, Number, Truth, Coord, Named, Shifted, Around, Remap, Call, Paren, Neg, Not, Abs, Pair, Reduce, Scan, Flood, Exprs, NoExpr, ThenExpr, NoBracket, Bracketed, Item, Str, Value, NamedDir, Vector, Posts, NoPost, ThenPost, Prefix, Stmt, Prefixed, Stmts, NoStmt, ThenStmt, Form, Assign, Invoke, Block, If, While, Repeat, For, Border, Write, Return, Tested, Arms, NoArm, ThenArm, Otherwise, NoElse, Else, Program}
use Rattle.zpl_names.specs.Kinds.{Rank}
use Rattle.zpl_names.specs.Ranks.{inner_rank, mask_rank, own_rank}
use Rattle.zpl_names.specs.Shapes.{unknown_shapes}
use Rattle.zpl_names.specs.Declared.{Routine, routine_named, routines_of, scope_of}
use Rattle.zpl_names.specs.Scope.{kind_of}
use Rattle.zpl_names.specs.Accepted.{IsFaultless}
use Rattle.zpl_names.proofs.ListLemmas.{Among, among_from_Contains}
use Rattle.zpl_names.proofs.FaultlessLemmas.{clean-routine}
use Rattle.zpl_names.specs.Sites.{AsStatement, AtCall, CallRole, Elsewhere, call_place, Reach, Role, Site, AtMask, AtStmt, Actual, Assigned, Limit, Operand, Printed, Result, Test as TestRole, actuals_sites, expr_sites, exprs_sites, item_sites, over_source, value_sites, whole_rank, in_body, inside, region_sites, prefix_sites, prefixes_sites, under_prefix, under_prefixes, whole_sites, step_sites, test_rank, arms_rank, stmt_sites, stmts_sites, form_sites, arms_sites, arm_sites, otherwise_sites, body_sites, outermost_sites, routine_sites}
use Rattle.zpl_binding.specs.Bound.{vectors_in}
use Rattle.zpl_binding.specs.Outcome.{outcome_of}
use Rattle.zpl_binding.specs.Regions.{Known}
use Rattle.zpl_binding.specs.Vectors.{three_components, vector_of}
use Rattle.zpl_meaning.specs.Given as mean
use Rattle.zpl_meaning.proofs.DepthLemmas.{Each, each_left, each_right, each_from}
use Rattle.meaning_runs.specs.Computed.{HasVectors, IsComputedAt}
use Rattle.served_places.specs.of_prefix_runs.Opens.{AreGivenPosts}
use Rattle.lowered_flat.proofs.of_lowering_fits.MadeCallLemmas.{IsGood}
use Rattle.lowered_flat.proofs.ToldLemmas.{call_there, read_there}
use Rattle.shown_programs.proofs.KnownLemmas.{given_is}
use Rattle.zpl_meaning.specs.Statement.{step_expr}
use Rattle.shown_programs.proofs.SourceLemmas.{AllGivenSources, AreGivenInner, AreGivenItems, AreGivenSources, IsCallOf, ProcedureText}
use Rattle.shown_programs.proofs.PlaceLemmas.{AreGivenPrefixes, IsGivenStmt, AreGivenStmts, IsGivenForm, AreGivenArms, IsGivenElse}

module _ (program : Program) (known : Known) (text : List ℕ) (routine : Routine)
    (named : routine_named program text ≡ Some routine)
    (directions : (text : List ℕ) (default : List ℤ)
    → mean.IsGiven (List ℤ) (outcome_of default known.directions text))
    (vectors : (parts : Exprs) → Contains (vectors_in program) parts
    → mean.IsGiven (List ℤ) (vector_of known.values parts)) where
  abbrev own : ProcedureText
  own = record { program = program; known = known; text = text }

  abbrev Told : Site → Type 0
  Told site = IsComputedAt program known site × IsGood program routine site

  posts_given : (post : Posts) → HasVectors program post → AreGivenPosts known post
  posts_given NoPost h = tt
  posts_given (ThenPost stride (NamedDir name) rest) h = (
    given_is (outcome_of (three_components []) known.directions name.text)
        (directions name.text (three_components [])),
    posts_given rest h,
  )
  posts_given (ThenPost stride (Vector parts) rest) h =
      (given_is (vector_of known.values parts) (vectors parts h.0), posts_given rest h.1)

  inner_given : (region : Inner) (reach : Reach) (hint : Rank)
      → Each Told (region_sites reach hint region) → AreGivenInner known region
  inner_given (Rexpr pre base post) reach hint h = posts_given post h.0.0.2
  inner_given (Dims dims) reach hint h = tt

  call_given : (reach : Reach) (role : CallRole) (name : Name) (actuals : Exprs)
      → IsGood program routine (AtCall reach role name actuals) → IsCallOf own name actuals
  call_given reach role name actuals good =
      (reach.shapes, call_there program text routine named reach role name actuals good)

  -- ---- values

  other_given : (actual : Expr) (rest : Exprs) (reach : Reach)
      → Each Told (expr_sites reach (whole_rank reach Actual actual) actual
      ++ actuals_sites reach rest)
      → (Each Told (expr_sites reach (whole_rank reach Actual actual) actual)
      ⊎ AreGivenSources own actual)
      × Each Told (actuals_sites reach rest)
  other_given actual rest reach h =
      let own = expr_sites reach (whole_rank reach Actual actual) actual in (
        inl (each_left Told own (actuals_sites reach rest) h),
        each_right Told own (actuals_sites reach rest) h,
      )

  -- an actual has its sites, or is a name alone
  actual_given : (actual : Expr) (rest : Exprs) (reach : Reach)
      → Each Told (actuals_sites reach (ThenExpr actual rest))
      → (Each Told (expr_sites reach (whole_rank reach Actual actual) actual)
      ⊎ AreGivenSources own actual)
      × Each Told (actuals_sites reach rest)
  actual_given (Named at name) rest reach h = (inr tt, h.1)
  actual_given (Number at value) rest reach h = other_given (Number at value) rest reach h.1
  actual_given (Truth at value) rest reach h = other_given (Truth at value) rest reach h.1
  actual_given (Coord at k) rest reach h = other_given (Coord at k) rest reach h.1
  actual_given (Shifted at name shift) rest reach h =
      other_given (Shifted at name shift) rest reach h.1
  actual_given (Around at name shift) rest reach h =
      other_given (Around at name shift) rest reach h.1
  actual_given (Remap at name indices) rest reach h =
      other_given (Remap at name indices) rest reach h.1
  actual_given (Call at name actuals) rest reach h =
      other_given (Call at name actuals) rest reach h.1
  actual_given (Paren at inner) rest reach h = other_given (Paren at inner) rest reach h.1
  actual_given (Neg at operand) rest reach h = other_given (Neg at operand) rest reach h.1
  actual_given (Not at operand) rest reach h = other_given (Not at operand) rest reach h.1
  actual_given (Abs at operand) rest reach h = other_given (Abs at operand) rest reach h.1
  actual_given (Pair at op left right) rest reach h =
      other_given (Pair at op left right) rest reach h.1
  actual_given (Reduce at operator over operand) rest reach h =
      other_given (Reduce at operator over operand) rest reach h.1
  actual_given (Scan at operator along operand) rest reach h =
      other_given (Scan at operator along operand) rest reach h.1
  actual_given (Flood at source operand) rest reach h =
      other_given (Flood at source operand) rest reach h.1

  either_given : (sites : List Site) (actual : Expr)
      → (Each Told sites ⊎ AreGivenSources own actual)
      → (Each Told sites → AreGivenSources own actual) → AreGivenSources own actual
  either_given sites actual (inl h) f = f h
  either_given sites actual (inr h) f = h

  mutual
    expr_given : (expr : Expr) (reach : Reach) (rank : Rank) → Each Told (expr_sites reach rank expr)
        → AreGivenSources own expr
    expr_given (Number at value) reach rank h = tt
    expr_given (Truth at value) reach rank h = tt
    expr_given (Coord at k) reach rank h = tt
    expr_given (Named at name) reach rank h = tt
    expr_given (Shifted at name shift) reach rank h = tt
    expr_given (Around at name shift) reach rank h =
        read_there program text routine named reach rank at name shift h.0.1.1
    expr_given (Remap at name indices) reach rank h = indices_given indices reach rank h.1
    expr_given (Call at name actuals) reach rank h =
        (call_given reach Elsewhere name actuals h.0.1, actuals_given actuals reach h.1)
    expr_given (Paren at inner) reach rank h = expr_given inner reach rank h.1
    expr_given (Neg at operand) reach rank h = expr_given operand reach rank h.1
    expr_given (Not at operand) reach rank h = expr_given operand reach rank h.1
    expr_given (Abs at operand) reach rank h = expr_given operand reach rank h.1
    expr_given (Pair at op left right) reach rank h =
        let one = expr_sites reach rank left in
        let other = expr_sites reach rank right in (
          expr_given left reach rank (each_left Told one other h.1),
          expr_given right reach rank (each_right Told one other h.1),
        )
    expr_given (Reduce at operator NoBracket operand) reach rank h =
        expr_given operand reach (whole_rank reach Operand operand) h.1.1
    expr_given (Reduce at operator (Bracketed source) operand) reach rank h =
        let hint = own_rank reach.scope reach.prefix operand in
        let over = inner_rank reach.scope hint reach.prefix source in
        let bracket = region_sites reach hint source in
        let behind = expr_sites (over_source reach over source) over operand in (
          inner_given source reach hint (each_left Told bracket behind h.1),
          expr_given operand (over_source reach over source) over
              (each_right Told bracket behind h.1),
        )
    expr_given (Scan at operator along operand) reach rank h = expr_given operand reach rank h.1
    expr_given (Flood at source operand) reach rank h =
        let hint = own_rank reach.scope reach.prefix operand in
        let over = inner_rank reach.scope hint reach.prefix source in
        let bracket = region_sites reach hint source in
        let behind = expr_sites (over_source reach over source) over operand in (
          inner_given source reach hint (each_left Told bracket behind h.1),
          expr_given operand (over_source reach over source) over
              (each_right Told bracket behind h.1),
        )

    indices_given : (indices : Exprs) (reach : Reach) (rank : Rank)
        → Each Told (exprs_sites reach rank indices) → AllGivenSources own indices
    indices_given NoExpr reach rank h = tt
    indices_given (ThenExpr first rest) reach rank h =
        let one = expr_sites reach rank first in
        let others = exprs_sites reach rank rest in (
          expr_given first reach rank (each_left Told one others h),
          indices_given rest reach rank (each_right Told one others h),
        )

    actuals_given : (actuals : Exprs) (reach : Reach) → Each Told (actuals_sites reach actuals)
        → AllGivenSources own actuals
    actuals_given NoExpr reach h = tt
    actuals_given (ThenExpr first rest) reach h =
        let parts = actual_given first rest reach h in
        let rank = whole_rank reach Actual first in (
          either_given (expr_sites reach rank first) first parts.0 (expr_given first reach rank),
          actuals_given rest reach parts.1,
        )

  whole_given : (reach : Reach) (role : Role) (expr : Expr) → Each Told (whole_sites reach role expr)
      → AreGivenSources own expr
  whole_given reach role expr h = expr_given expr reach (whole_rank reach role expr) h.1

  value_given : (name : Name) (op : Option Op) (value : Expr) (reach : Reach)
      → Each Told (value_sites reach name op value) → AreGivenSources own value
  value_given name (Some op) value reach h = whole_given reach (Assigned name (Some op)) value h
  value_given name None (Call at callee actuals) reach h = (
    call_given reach (call_place (kind_of reach.scope name)) callee actuals h.1.0.1,
    actuals_given actuals reach h.1.1,
  )
  value_given name None (Number at value) reach h = tt
  value_given name None (Truth at value) reach h = tt
  value_given name None (Coord at k) reach h = tt
  value_given name None (Named at it) reach h = tt
  value_given name None (Shifted at it shift) reach h = tt
  value_given name None (Around at it shift) reach h =
      whole_given reach (Assigned name None) (Around at it shift) h
  value_given name None (Remap at it indices) reach h =
      whole_given reach (Assigned name None) (Remap at it indices) h
  value_given name None (Paren at inner) reach h =
      whole_given reach (Assigned name None) (Paren at inner) h
  value_given name None (Neg at operand) reach h =
      whole_given reach (Assigned name None) (Neg at operand) h
  value_given name None (Not at operand) reach h =
      whole_given reach (Assigned name None) (Not at operand) h
  value_given name None (Abs at operand) reach h =
      whole_given reach (Assigned name None) (Abs at operand) h
  value_given name None (Pair at op left right) reach h =
      whole_given reach (Assigned name None) (Pair at op left right) h
  value_given name None (Reduce at operator over operand) reach h =
      whole_given reach (Assigned name None) (Reduce at operator over operand) h
  value_given name None (Scan at operator along operand) reach h =
      whole_given reach (Assigned name None) (Scan at operator along operand) h
  value_given name None (Flood at source operand) reach h =
      whole_given reach (Assigned name None) (Flood at source operand) h

  items_given : (items : List Item) (reach : Reach) → Each Told (flat_map (item_sites reach) items)
      → AreGivenItems own items
  items_given [] reach h = tt
  items_given (Str bytes ∷ items) reach h = items_given items reach h
  items_given (Value value ∷ items) reach h =
      let one = whole_sites reach Printed value in
      let others = flat_map (item_sites reach) items in (
        whole_given reach Printed value (each_left Told one others h),
        items_given items reach (each_right Told one others h),
      )

  step_given : (step : Option Expr) (reach : Reach) → Each Told (step_sites reach step)
      → AreGivenSources own (step_expr step)
  step_given None reach h = tt
  step_given (Some step) reach h = whole_given reach Limit step h

  -- ---- statements

  prefixes_given : (prefixes : List Prefix) (reach : Reach)
      → Each Told (prefixes_sites reach prefixes) → AreGivenPrefixes known prefixes
  prefixes_given [] reach h = tt
  prefixes_given (prefix ∷ rest) reach h =
      let hint = mask_rank reach.scope prefix.mask in
      let own = each_left Told (prefix_sites reach prefix)
      (prefixes_sites (under_prefix reach prefix) rest) h in (
        inner_given prefix.region reach hint
            (each_left Told (region_sites reach hint prefix.region)
            (map (AtMask reach prefix) (option_to_list prefix.mask)) own),
        prefixes_given rest (under_prefix reach prefix)
            (each_right Told (prefix_sites reach prefix)
            (prefixes_sites (under_prefix reach prefix) rest) h),
      )

  mutual
    stmt_given : (stmt : Stmt) (reach : Reach) → Each Told (stmt_sites reach stmt)
        → IsGivenStmt own stmt
    stmt_given (Prefixed at prefixes form) reach h =
        let inner = under_prefixes reach prefixes in (
          prefixes_given prefixes reach
              (each_left Told (prefixes_sites reach prefixes)
              (AtStmt inner at prefixes form ∷ form_sites inner form) h),
          form_given form inner (each_right Told (prefixes_sites reach prefixes)
              (AtStmt inner at prefixes form ∷ form_sites inner form) h).1,
        )

    all_given : (stmts : Stmts) (reach : Reach) → Each Told (stmts_sites reach stmts)
        → AreGivenStmts own stmts
    all_given NoStmt reach h = tt
    all_given (ThenStmt first rest) reach h = (
      stmt_given first reach (each_left Told (stmt_sites reach first) (stmts_sites reach rest) h),
      all_given rest reach (each_right Told (stmt_sites reach first) (stmts_sites reach rest) h),
    )

    form_given : (form : Form) (reach : Reach) → Each Told (form_sites reach form)
        → IsGivenForm own form
    form_given (Assign name op value) reach h = value_given name op value reach h
    form_given (Invoke name actuals) reach h =
        (call_given reach AsStatement name actuals h.0.1, actuals_given actuals reach h.1)
    form_given (Block body) reach h = all_given body (inside reach (Some 0)) h
    form_given (If arms otherwise) reach h =
        let within = inside reach (arms_rank reach arms) in (
          arms_given arms reach within
              (each_left Told (arms_sites reach within arms) (otherwise_sites within otherwise) h),
          else_given otherwise within
              (each_right Told (arms_sites reach within arms) (otherwise_sites within otherwise) h),
        )
    form_given (While test body) reach h =
        let within = inside reach (test_rank reach test) in
        let own = whole_sites reach TestRole test in (
          whole_given reach TestRole test (each_left Told own (stmts_sites within body) h),
          all_given body within (each_right Told own (stmts_sites within body) h),
        )
    form_given (Repeat body until test) reach h =
        let within = inside reach (test_rank reach test) in
        let own = whole_sites reach TestRole test in (
          whole_given reach TestRole test (each_right Told (stmts_sites within body) own h),
          all_given body within (each_left Told (stmts_sites within body) own h),
        )
    form_given (For head body) reach h =
        let first = whole_sites reach Limit head.first in
        let last = whole_sites reach Limit head.last in
        let step = step_sites reach head.step in
        let inner = stmts_sites (inside reach (Some 0)) body in
        let heads = each_left Told ((first ++ last) ++ step) inner h in
        let bounds = each_left Told (first ++ last) step heads in (
          (
            whole_given reach Limit head.first (each_left Told first last bounds),
            whole_given reach Limit head.last (each_right Told first last bounds),
            step_given head.step reach (each_right Told (first ++ last) step heads),
          ),
          all_given body (inside reach (Some 0))
              (each_right Told ((first ++ last) ++ step) inner h),
        )
    form_given (Border kind names) reach h = tt
    form_given (Write line items) reach h = items_given items reach h
    form_given (Return value) reach h = whole_given reach (Result reach.result) value h

    arms_given : (arms : Arms) (reach within : Reach) → Each Told (arms_sites reach within arms)
        → AreGivenArms own arms
    arms_given NoArm reach within h = tt
    arms_given (ThenArm (Tested at test body) rest) reach within h =
        let own = each_left Told (arm_sites reach within (Tested at test body))
        (arms_sites reach within rest) h in (
          (
            whole_given reach TestRole test
                (each_left Told (whole_sites reach TestRole test) (stmts_sites within body) own),
            all_given body within
                (each_right Told (whole_sites reach TestRole test) (stmts_sites within body) own),
          ),
          arms_given rest reach within
              (each_right Told (arm_sites reach within (Tested at test body))
              (arms_sites reach within rest) h),
        )

    else_given : (otherwise : Otherwise) (within : Reach)
        → Each Told (otherwise_sites within otherwise) → IsGivenElse own otherwise
    else_given NoElse within h = tt
    else_given (Else body) within h = all_given body within h

  outer_given : (stmts : Stmts) (reach : Reach) (result : Option Base)
      → Each Told (body_sites reach result stmts) → AreGivenStmts own stmts
  outer_given NoStmt reach result h = tt
  outer_given (ThenStmt last NoStmt) reach result h =
      (stmt_given last (record reach { result = result }) h, tt)
  outer_given (ThenStmt first (ThenStmt second rest)) reach result h = (
    stmt_given first reach
        (each_left Told (stmt_sites reach first) (body_sites reach result (ThenStmt second rest)) h),
    outer_given (ThenStmt second rest) reach result
        (each_right Told (stmt_sites reach first) (body_sites reach result (ThenStmt second rest)) h),
  )

  outermost_given : (stmt : Stmt) (reach : Reach) (result : Option Base)
      → Each Told (outermost_sites reach result stmt) → IsGivenStmt own stmt
  outermost_given (Prefixed at prefixes (Block body)) reach result h =
      let inner = under_prefixes reach prefixes in (
        prefixes_given prefixes reach
            (each_left Told (prefixes_sites reach prefixes) (body_sites inner result body) h),
        outer_given body inner result
            (each_right Told (prefixes_sites reach prefixes) (body_sites inner result body) h),
      )
  outermost_given (Prefixed at prefixes (Assign name op value)) reach result h =
      stmt_given (Prefixed at prefixes (Assign name op value)) reach h
  outermost_given (Prefixed at prefixes (Invoke name actuals)) reach result h =
      stmt_given (Prefixed at prefixes (Invoke name actuals)) reach h
  outermost_given (Prefixed at prefixes (If arms otherwise)) reach result h =
      stmt_given (Prefixed at prefixes (If arms otherwise)) reach h
  outermost_given (Prefixed at prefixes (While test body)) reach result h =
      stmt_given (Prefixed at prefixes (While test body)) reach h
  outermost_given (Prefixed at prefixes (Repeat body until test)) reach result h =
      stmt_given (Prefixed at prefixes (Repeat body until test)) reach h
  outermost_given (Prefixed at prefixes (For head body)) reach result h =
      stmt_given (Prefixed at prefixes (For head body)) reach h
  outermost_given (Prefixed at prefixes (Border kind names)) reach result h =
      stmt_given (Prefixed at prefixes (Border kind names)) reach h
  outermost_given (Prefixed at prefixes (Write line items)) reach result h =
      stmt_given (Prefixed at prefixes (Write line items)) reach h
  outermost_given (Prefixed at prefixes (Return value)) reach result h =
      stmt_given (Prefixed at prefixes (Return value)) reach h

  pub routine_given : IsFaultless program → Among (routines_of program) routine
      → ((site : Site) → Contains (routine_sites program unknown_shapes routine) site
      → IsComputedAt program known site)
      → IsGivenStmt own routine.procedure.body
  routine_given clean member computed =
      let sites = routine_sites program unknown_shapes routine in
      outermost_given routine.procedure.body (in_body (scope_of program routine) unknown_shapes)
      routine.procedure.result
      (each_from Told sites
      (λ site there.
      let m = among_from_Contains sites site there in
      (computed site there, (clean-routine program clean unknown_shapes routine member site m, m))))
