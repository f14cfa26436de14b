-- The text of a procedure that is reached is sound: its sites have no fault.
use Rattle.std.proofs.Common.{◌≡◌, ℕ, suc, Bool, true, false, List, [], ◌∷◌, ◌++◌, refl, sym, ap, ◌∙◌, subst}
use Rattle.std.proofs.Common.{arith}
use Rattle.std.specs.Prelude.{Contains, ◌||◌, Option, Some, None, flat_map}
use Rattle.std.specs.Option.{is_none}
use Rattle.zpl_nums.specs.declared.operators.Op.{Op}
use Rattle.meaning_ranks.specs.of_zpl_tree.Syntax.{Name, Expr, Number, Truth, Coord, Named, Shifted, Around, Remap, Call, Paren, Neg, Not, Abs, Pair, Reduce, Scan, Flood, Exprs, NoExpr, ThenExpr, NoBracket, Bracketed, Prefix, Item, Str, Value, Base, Stmt, Prefixed, Stmts, NoStmt, ThenStmt, Form, Assign, Invoke, Block, If, While, Repeat, For, Border, Write, Return, Arm, Tested, Arms, NoArm, ThenArm, Otherwise, NoElse, Else}
use Rattle.meaning_ranks.specs.of_zpl_tree.Syntax.{Program}
use Rattle.meaning_ranks.specs.of_zpl_tree.Grammar.{IsBody}
use Rattle.meaning_ranks.specs.of_zpl_names.Kinds.{Rank}
use Rattle.meaning_ranks.specs.of_zpl_names.Shapes.{Shapes}
use Rattle.meaning_ranks.specs.of_zpl_names.Declared.{Routine, routine_named, scope_of}
use Rattle.meaning_ranks.specs.of_zpl_names.Reached.{IsReached, sites_of, sites_at}
use Rattle.meaning_ranks.specs.of_zpl_names.Accepted.{HasNoFault, HasNoFaultUnder}
use Rattle.meaning_ranks.specs.of_zpl_names.Scope.{kind_of}
use Rattle.meaning_ranks.specs.of_zpl_names.Ranks.{own_rank, inner_rank, array_shape}
use Rattle.meaning_ranks.specs.of_zpl_names.Faults.{at_if, has_flood, flood_clashes, return_places}
use Rattle.meaning_ranks.specs.of_zpl_names.Sites.{Reach, in_body, under_prefix, under_prefixes, inside, over_source, Role, Operand, Limit, Result, Test, Printed, Actual, Assigned, whole_rank, Site, AtStmt, expr_sites, exprs_sites, actuals_sites, region_sites, whole_sites, prefixes_sites, value_sites, item_sites, step_sites, test_rank, arms_rank, stmt_sites, stmts_sites, form_sites, arms_sites, arm_sites, otherwise_sites, body_sites, outermost_sites}
use Rattle.meaning_ranks.specs.of_zpl_meaning.Statement.{step_expr}
use Rattle.lowering_fits.specs.Reach.{HasFlatRemaps, HaveFlatRemaps}
use Rattle.lowering_fits.specs.Lowerings.{answering, AreSoundItems, IsSoundStmt, AreSoundStmts, IsSoundForm, AreSoundArms, IsSoundArm, IsSoundElse}

-- ---- sites without these faults

pub record IsQuiet (site : Site) : Type 0 where
  pub floods : flood_clashes site ≡ []
  pub returns : return_places site ≡ []

abbrev pub AreQuiet : List Site → Type 0
AreQuiet [] = Unit {0}
AreQuiet (site ∷ sites) = IsQuiet site × AreQuiet sites

quiet_left : (xs ys : List Site) → AreQuiet (xs ++ ys) → AreQuiet xs
quiet_left [] ys are = tt
quiet_left (x ∷ xs) ys are = (are.0, quiet_left xs ys are.1)

quiet_right : (xs ys : List Site) → AreQuiet (xs ++ ys) → AreQuiet ys
quiet_right [] ys are = are
quiet_right (x ∷ xs) ys are = quiet_right xs ys are.1

not_at : (test : Bool) (at : ℕ) → at_if test at ≡ [] → test ≡ false
not_at true at e = let no : ⊥ = cc in absurd no
not_at false at e = refl

neither : (a b : Bool) → (a || b) ≡ false → a ≡ false
neither true b e = let no : ⊥ = cc in absurd no
neither false b e = refl

-- ---- expressions

mutual
  expr_flat : (reach : Reach) (rank : Rank) (one : Expr) → AreQuiet (expr_sites reach rank one) →
      HasFlatRemaps reach.scope one
  expr_flat reach rank (Number at value) are = tt
  expr_flat reach rank (Truth at value) are = tt
  expr_flat reach rank (Coord at k) are = tt
  expr_flat reach rank (Named at name) are = tt
  expr_flat reach rank (Shifted at name shift) are = tt
  expr_flat reach rank (Around at name shift) are = tt
  expr_flat reach rank (Remap at name indices) are = (
    neither (has_flood (array_shape (kind_of reach.scope name))) _ (not_at _ at are.0.floods),
    exprs_flat reach rank indices are.1,
  )
  expr_flat reach rank (Call at name actuals) are = actuals_flat reach actuals are.1
  expr_flat reach rank (Paren at inside) are = expr_flat reach rank inside are.1
  expr_flat reach rank (Neg at operand) are = expr_flat reach rank operand are.1
  expr_flat reach rank (Not at operand) are = expr_flat reach rank operand are.1
  expr_flat reach rank (Abs at operand) are = expr_flat reach rank operand are.1
  expr_flat reach rank (Pair at op left right) are = (
    expr_flat reach rank left
        (quiet_left (expr_sites reach rank left) (expr_sites reach rank right) are.1),
    expr_flat reach rank right
        (quiet_right (expr_sites reach rank left) (expr_sites reach rank right) are.1),
  )
  expr_flat reach rank (Reduce at operator NoBracket operand) are =
      expr_flat reach (whole_rank reach Operand operand) operand are.1.1
  expr_flat reach rank (Reduce at operator (Bracketed source) operand) are =
      let hint : Rank = own_rank reach.scope reach.prefix operand in
      let over : Rank = inner_rank reach.scope hint reach.prefix source in
      expr_flat (over_source reach over source) over operand
      (quiet_right (region_sites reach hint source)
      (expr_sites (over_source reach over source) over operand) are.1)
  expr_flat reach rank (Scan at operator along operand) are =
      expr_flat reach rank operand are.1
  expr_flat reach rank (Flood at source operand) are =
      let hint : Rank = own_rank reach.scope reach.prefix operand in
      let over : Rank = inner_rank reach.scope hint reach.prefix source in
      expr_flat (over_source reach over source) over operand
      (quiet_right (region_sites reach hint source)
      (expr_sites (over_source reach over source) over operand) are.1)

  exprs_flat : (reach : Reach) (rank : Rank) (all : Exprs) →
      AreQuiet (exprs_sites reach rank all) → HaveFlatRemaps reach.scope all
  exprs_flat reach rank NoExpr are = tt
  exprs_flat reach rank (ThenExpr first rest) are = (
    expr_flat reach rank first
        (quiet_left (expr_sites reach rank first) (exprs_sites reach rank rest) are),
    exprs_flat reach rank rest
        (quiet_right (expr_sites reach rank first) (exprs_sites reach rank rest) are),
  )

  actuals_flat : (reach : Reach) (all : Exprs) → AreQuiet (actuals_sites reach all) →
      HaveFlatRemaps reach.scope all
  actuals_flat reach NoExpr are = tt
  actuals_flat reach (ThenExpr (Named at name) rest) are = (tt, actuals_flat reach rest are.1)
  actuals_flat reach (ThenExpr (Number at value) rest) are =
      let one : Expr = Number at value in
      let rank : Rank = whole_rank reach Actual one in (
        expr_flat reach rank (Number at value)
            (quiet_left (expr_sites reach rank one) (actuals_sites reach rest) are.1),
        actuals_flat reach rest
            (quiet_right (expr_sites reach rank one) (actuals_sites reach rest) are.1),
      )
  actuals_flat reach (ThenExpr (Truth at value) rest) are =
      let one : Expr = Truth at value in
      let rank : Rank = whole_rank reach Actual one in (
        expr_flat reach rank (Truth at value)
            (quiet_left (expr_sites reach rank one) (actuals_sites reach rest) are.1),
        actuals_flat reach rest
            (quiet_right (expr_sites reach rank one) (actuals_sites reach rest) are.1),
      )
  actuals_flat reach (ThenExpr (Coord at k) rest) are =
      let one : Expr = Coord at k in
      let rank : Rank = whole_rank reach Actual one in (
        expr_flat reach rank (Coord at k)
            (quiet_left (expr_sites reach rank one) (actuals_sites reach rest) are.1),
        actuals_flat reach rest
            (quiet_right (expr_sites reach rank one) (actuals_sites reach rest) are.1),
      )
  actuals_flat reach (ThenExpr (Shifted at name shift) rest) are =
      let one : Expr = Shifted at name shift in
      let rank : Rank = whole_rank reach Actual one in (
        expr_flat reach rank (Shifted at name shift)
            (quiet_left (expr_sites reach rank one) (actuals_sites reach rest) are.1),
        actuals_flat reach rest
            (quiet_right (expr_sites reach rank one) (actuals_sites reach rest) are.1),
      )
  actuals_flat reach (ThenExpr (Around at name shift) rest) are =
      let one : Expr = Around at name shift in
      let rank : Rank = whole_rank reach Actual one in (
        expr_flat reach rank (Around at name shift)
            (quiet_left (expr_sites reach rank one) (actuals_sites reach rest) are.1),
        actuals_flat reach rest
            (quiet_right (expr_sites reach rank one) (actuals_sites reach rest) are.1),
      )
  actuals_flat reach (ThenExpr (Remap at name indices) rest) are =
      let one : Expr = Remap at name indices in
      let rank : Rank = whole_rank reach Actual one in (
        expr_flat reach rank (Remap at name indices)
            (quiet_left (expr_sites reach rank one) (actuals_sites reach rest) are.1),
        actuals_flat reach rest
            (quiet_right (expr_sites reach rank one) (actuals_sites reach rest) are.1),
      )
  actuals_flat reach (ThenExpr (Call at name actuals) rest) are =
      let one : Expr = Call at name actuals in
      let rank : Rank = whole_rank reach Actual one in (
        expr_flat reach rank (Call at name actuals)
            (quiet_left (expr_sites reach rank one) (actuals_sites reach rest) are.1),
        actuals_flat reach rest
            (quiet_right (expr_sites reach rank one) (actuals_sites reach rest) are.1),
      )
  actuals_flat reach (ThenExpr (Paren at inner) rest) are =
      let one : Expr = Paren at inner in
      let rank : Rank = whole_rank reach Actual one in (
        expr_flat reach rank (Paren at inner)
            (quiet_left (expr_sites reach rank one) (actuals_sites reach rest) are.1),
        actuals_flat reach rest
            (quiet_right (expr_sites reach rank one) (actuals_sites reach rest) are.1),
      )
  actuals_flat reach (ThenExpr (Neg at operand) rest) are =
      let one : Expr = Neg at operand in
      let rank : Rank = whole_rank reach Actual one in (
        expr_flat reach rank (Neg at operand)
            (quiet_left (expr_sites reach rank one) (actuals_sites reach rest) are.1),
        actuals_flat reach rest
            (quiet_right (expr_sites reach rank one) (actuals_sites reach rest) are.1),
      )
  actuals_flat reach (ThenExpr (Not at operand) rest) are =
      let one : Expr = Not at operand in
      let rank : Rank = whole_rank reach Actual one in (
        expr_flat reach rank (Not at operand)
            (quiet_left (expr_sites reach rank one) (actuals_sites reach rest) are.1),
        actuals_flat reach rest
            (quiet_right (expr_sites reach rank one) (actuals_sites reach rest) are.1),
      )
  actuals_flat reach (ThenExpr (Abs at operand) rest) are =
      let one : Expr = Abs at operand in
      let rank : Rank = whole_rank reach Actual one in (
        expr_flat reach rank (Abs at operand)
            (quiet_left (expr_sites reach rank one) (actuals_sites reach rest) are.1),
        actuals_flat reach rest
            (quiet_right (expr_sites reach rank one) (actuals_sites reach rest) are.1),
      )
  actuals_flat reach (ThenExpr (Pair at op left right) rest) are =
      let one : Expr = Pair at op left right in
      let rank : Rank = whole_rank reach Actual one in (
        expr_flat reach rank (Pair at op left right)
            (quiet_left (expr_sites reach rank one) (actuals_sites reach rest) are.1),
        actuals_flat reach rest
            (quiet_right (expr_sites reach rank one) (actuals_sites reach rest) are.1),
      )
  actuals_flat reach (ThenExpr (Reduce at operator over operand) rest) are =
      let one : Expr = Reduce at operator over operand in
      let rank : Rank = whole_rank reach Actual one in (
        expr_flat reach rank (Reduce at operator over operand)
            (quiet_left (expr_sites reach rank one) (actuals_sites reach rest) are.1),
        actuals_flat reach rest
            (quiet_right (expr_sites reach rank one) (actuals_sites reach rest) are.1),
      )
  actuals_flat reach (ThenExpr (Scan at operator along operand) rest) are =
      let one : Expr = Scan at operator along operand in
      let rank : Rank = whole_rank reach Actual one in (
        expr_flat reach rank (Scan at operator along operand)
            (quiet_left (expr_sites reach rank one) (actuals_sites reach rest) are.1),
        actuals_flat reach rest
            (quiet_right (expr_sites reach rank one) (actuals_sites reach rest) are.1),
      )
  actuals_flat reach (ThenExpr (Flood at source operand) rest) are =
      let one : Expr = Flood at source operand in
      let rank : Rank = whole_rank reach Actual one in (
        expr_flat reach rank (Flood at source operand)
            (quiet_left (expr_sites reach rank one) (actuals_sites reach rest) are.1),
        actuals_flat reach rest
            (quiet_right (expr_sites reach rank one) (actuals_sites reach rest) are.1),
      )

whole_flat : (reach : Reach) (role : Role) (one : Expr) → AreQuiet (whole_sites reach role one) →
    HasFlatRemaps reach.scope one
whole_flat reach role one are = expr_flat reach (whole_rank reach role one) one are.1

value_flat : (reach : Reach) (name : Name) (op : Option Op) (value : Expr) →
    AreQuiet (value_sites reach name op value) → HasFlatRemaps reach.scope value
value_flat reach name (Some op) value are = whole_flat reach (Assigned name (Some op)) value are
value_flat reach name None (Call at callee actuals) are = actuals_flat reach actuals are.1.1
value_flat reach name None (Named at other) are =
    whole_flat reach (Assigned name None) (Named at other) are
value_flat reach name None (Number at value) are =
    whole_flat reach (Assigned name None) (Number at value) are
value_flat reach name None (Truth at value) are =
    whole_flat reach (Assigned name None) (Truth at value) are
value_flat reach name None (Coord at k) are =
    whole_flat reach (Assigned name None) (Coord at k) are
value_flat reach name None (Shifted at other shift) are =
    whole_flat reach (Assigned name None) (Shifted at other shift) are
value_flat reach name None (Around at other shift) are =
    whole_flat reach (Assigned name None) (Around at other shift) are
value_flat reach name None (Remap at other indices) are =
    whole_flat reach (Assigned name None) (Remap at other indices) are
value_flat reach name None (Paren at inner) are =
    whole_flat reach (Assigned name None) (Paren at inner) are
value_flat reach name None (Neg at operand) are =
    whole_flat reach (Assigned name None) (Neg at operand) are
value_flat reach name None (Not at operand) are =
    whole_flat reach (Assigned name None) (Not at operand) are
value_flat reach name None (Abs at operand) are =
    whole_flat reach (Assigned name None) (Abs at operand) are
value_flat reach name None (Pair at op left right) are =
    whole_flat reach (Assigned name None) (Pair at op left right) are
value_flat reach name None (Reduce at operator over operand) are =
    whole_flat reach (Assigned name None) (Reduce at operator over operand) are
value_flat reach name None (Scan at operator along operand) are =
    whole_flat reach (Assigned name None) (Scan at operator along operand) are
value_flat reach name None (Flood at source operand) are =
    whole_flat reach (Assigned name None) (Flood at source operand) are

items_flat : (reach : Reach) (items : List Item) → AreQuiet (flat_map (item_sites reach) items) →
    AreSoundItems reach.scope items
items_flat reach [] are = tt
items_flat reach (Str bytes ∷ items) are = items_flat reach items are
items_flat reach (Value one ∷ items) are = (
  whole_flat reach Printed one
      (quiet_left (whole_sites reach Printed one) (flat_map (item_sites reach) items) are),
  items_flat reach items
      (quiet_right (whole_sites reach Printed one) (flat_map (item_sites reach) items) are),
)

step_flat : (reach : Reach) (step : Option Expr) → AreQuiet (step_sites reach step) →
    HasFlatRemaps reach.scope (step_expr step)
step_flat reach None are = tt
step_flat reach (Some step) are = whole_flat reach Limit step are

-- ---- prefixes keep the names and what is answered

scope_under : (prefixes : List Prefix) (reach : Reach) →
    (under_prefixes reach prefixes).scope ≡ reach.scope
scope_under [] reach = refl
scope_under (prefix ∷ rest) reach = scope_under rest (under_prefix reach prefix)

result_under : (prefixes : List Prefix) (reach : Reach) →
    (under_prefixes reach prefixes).result ≡ reach.result
result_under [] reach = refl
result_under (prefix ∷ rest) reach = result_under rest (under_prefix reach prefix)

-- a `return` may stand here
abbrev MayAnswer : Reach → Bool → Type 0
MayAnswer reach answers = is_none reach.result ≡ false → answers ≡ true

never : (reach : Reach) (rank : Rank) (answers : Bool) → MayAnswer (inside reach rank) answers
never reach rank answers e = let no : ⊥ = cc in absurd no

-- ---- statements

mutual
  stmt_sound : (answers : Bool) (reach : Reach) (stmt : Stmt) → MayAnswer reach answers →
      AreQuiet (stmt_sites reach stmt) → IsSoundStmt reach.scope answers stmt
  stmt_sound answers reach (Prefixed at prefixes form) may are =
      let inner : Reach = under_prefixes reach prefixes in
      let here = quiet_right (prefixes_sites reach prefixes)
      (AtStmt inner at prefixes form ∷ form_sites inner form) are in
      subst (λ scope. IsSoundForm scope answers form) (scope_under prefixes reach)
      (form_sound answers inner at prefixes form
      (λ e. may (ap is_none (sym (result_under prefixes reach)) ∙ e)) here.0 here.1)

  stmts_sound : (answers : Bool) (reach : Reach) (stmts : Stmts) → MayAnswer reach answers →
      AreQuiet (stmts_sites reach stmts) → AreSoundStmts reach.scope answers stmts
  stmts_sound answers reach NoStmt may are = tt
  stmts_sound answers reach (ThenStmt first rest) may are = (
    stmt_sound answers reach first may
        (quiet_left (stmt_sites reach first) (stmts_sites reach rest) are),
    stmts_sound answers reach rest may
        (quiet_right (stmt_sites reach first) (stmts_sites reach rest) are),
  )

  form_sound : (answers : Bool) (reach : Reach) (at : ℕ) (prefixes : List Prefix) (form : Form) →
      MayAnswer reach answers → IsQuiet (AtStmt reach at prefixes form) →
      AreQuiet (form_sites reach form) → IsSoundForm reach.scope answers form
  form_sound answers reach at prefixes (Assign name op value) may quiet are =
      value_flat reach name op value are
  form_sound answers reach at prefixes (Invoke name actuals) may quiet are =
      actuals_flat reach actuals are.1
  form_sound answers reach at prefixes (Block body) may quiet are =
      stmts_sound answers (inside reach (Some 0)) body (never reach (Some 0) answers) are
  form_sound answers reach at prefixes (If arms otherwise) may quiet are =
      let within : Reach = inside reach (arms_rank reach arms) in (
        arms_sound answers reach within arms refl (never reach (arms_rank reach arms) answers)
            (quiet_left (arms_sites reach within arms) (otherwise_sites within otherwise) are),
        otherwise_sound answers within otherwise (never reach (arms_rank reach arms) answers)
            (quiet_right (arms_sites reach within arms) (otherwise_sites within otherwise) are),
      )
  form_sound answers reach at prefixes (While test body) may quiet are =
      let within : Reach = inside reach (test_rank reach test) in (
        whole_flat reach Test test
            (quiet_left (whole_sites reach Test test) (stmts_sites within body) are),
        stmts_sound answers within body (never reach (test_rank reach test) answers)
            (quiet_right (whole_sites reach Test test) (stmts_sites within body) are),
      )
  form_sound answers reach at prefixes (Repeat body until test) may quiet are =
      let within : Reach = inside reach (test_rank reach test) in (
        whole_flat reach Test test
            (quiet_right (stmts_sites within body) (whole_sites reach Test test) are),
        stmts_sound answers within body (never reach (test_rank reach test) answers)
            (quiet_left (stmts_sites within body) (whole_sites reach Test test) are),
      )
  form_sound answers reach at prefixes (For head body) may quiet are =
      let within : Reach = inside reach (Some 0) in
      let first : List Site = whole_sites reach Limit head.first in
      let last : List Site = whole_sites reach Limit head.last in
      let step : List Site = step_sites reach head.step in
      let inner : List Site = stmts_sites within body in
      let three = quiet_left (first ++ last ++ step) inner are in
      let two = quiet_left (first ++ last) step three in (
        (
          whole_flat reach Limit head.first (quiet_left first last two),
          whole_flat reach Limit head.last (quiet_right first last two),
          step_flat reach head.step (quiet_right (first ++ last) step three),
        ),
        stmts_sound answers within body (never reach (Some 0) answers)
            (quiet_right (first ++ last ++ step) inner are),
      )
  form_sound answers reach at prefixes (Border kind names) may quiet are = tt
  form_sound answers reach at prefixes (Write ends items) may quiet are =
      items_flat reach items are
  form_sound answers reach at prefixes (Return value) may quiet are = (
    may (not_at (is_none reach.result) at quiet.returns),
    whole_flat reach (Result reach.result) value are,
  )

  arms_sound : (answers : Bool) (reach within : Reach) (arms : Arms) →
      within.scope ≡ reach.scope → MayAnswer within answers →
      AreQuiet (arms_sites reach within arms) → AreSoundArms reach.scope answers arms
  arms_sound answers reach within NoArm same may are = tt
  arms_sound answers reach within (ThenArm first rest) same may are = (
    arm_sound answers reach within first same may
        (quiet_left (arm_sites reach within first) (arms_sites reach within rest) are),
    arms_sound answers reach within rest same may
        (quiet_right (arm_sites reach within first) (arms_sites reach within rest) are),
  )

  arm_sound : (answers : Bool) (reach within : Reach) (arm : Arm) → within.scope ≡ reach.scope →
      MayAnswer within answers → AreQuiet (arm_sites reach within arm) →
      IsSoundArm reach.scope answers arm
  arm_sound answers reach within (Tested at test body) same may are = (
    whole_flat reach Test test
        (quiet_left (whole_sites reach Test test) (stmts_sites within body) are),
    subst (λ scope. AreSoundStmts scope answers body) same
        (stmts_sound answers within body may
        (quiet_right (whole_sites reach Test test) (stmts_sites within body) are)),
  )

  otherwise_sound : (answers : Bool) (within : Reach) (otherwise : Otherwise) →
      MayAnswer within answers → AreQuiet (otherwise_sites within otherwise) →
      IsSoundElse within.scope answers otherwise
  otherwise_sound answers within NoElse may are = tt
  otherwise_sound answers within (Else body) may are = stmts_sound answers within body may are

-- ---- a procedure's body

answers_it : (result : Option Base) → is_none result ≡ false → answering result ≡ true
answers_it None e = let no : ⊥ = cc in absurd no
answers_it (Some base) e = refl

body_sound : (reach : Reach) (result : Option Base) (body : Stmts) → reach.result ≡ None →
    AreQuiet (body_sites reach result body) → AreSoundStmts reach.scope (answering result) body
body_sound reach result NoStmt none are = tt
body_sound reach result (ThenStmt last NoStmt) none are = (
  stmt_sound (answering result) (record reach { result = result }) last (answers_it result) are,
  tt,
)
body_sound reach result (ThenStmt first (ThenStmt next rest)) none are = (
  stmt_sound (answering result) reach first
      (λ e. let no : ⊥ = cc (none) in absurd no)
      (quiet_left (stmt_sites reach first) (body_sites reach result (ThenStmt next rest)) are),
  body_sound reach result (ThenStmt next rest) none
      (quiet_right (stmt_sites reach first) (body_sites reach result (ThenStmt next rest)) are),
)

pub outermost_sound : (reach : Reach) (result : Option Base) (at : ℕ) (prefixes : List Prefix)
    (body : Stmts) → reach.result ≡ None →
    AreQuiet (outermost_sites reach result (Prefixed at prefixes (Block body))) →
    IsSoundStmt reach.scope (answering result) (Prefixed at prefixes (Block body))
outermost_sound reach result at prefixes body none are =
    let inner : Reach = under_prefixes reach prefixes in
    subst (λ scope. AreSoundStmts scope (answering result) body) (scope_under prefixes reach)
    (body_sound inner result body (result_under prefixes reach ∙ none)
    (quiet_right (prefixes_sites reach prefixes) (body_sites inner result body) are))

-- ---- no fault

all_quiet : (sites : List Site) → ((site : Site) → Contains sites site → IsQuiet site) →
    AreQuiet sites
all_quiet [] quiet = tt
all_quiet (site ∷ sites) quiet = (
  quiet site (0, omega arith, refl),
  all_quiet sites (λ other in_it. quiet other (later other in_it)),
)
  where
    later : (other : Site) → Contains sites other → Contains (site ∷ sites) other
    later other in_it = let below = in_it.1 in (suc in_it.0, omega arith, in_it.2)

pub body_sound_at : (program : Program) →
    ((text : List ℕ) (shapes : Shapes) → IsReached program text shapes → (site : Site) →
    Contains (sites_at program text shapes) site → HasNoFault site) →
    ((text : List ℕ) (shapes : Shapes) → IsReached program text shapes → (site : Site) →
    Contains (sites_at program text shapes) site → HasNoFaultUnder site) →
    (text : List ℕ) (shapes : Shapes) (routine : Routine) → IsReached program text shapes →
    routine_named program text ≡ Some routine → IsBody routine.procedure.body →
    IsSoundStmt (scope_of program routine) (answering routine.procedure.result)
    routine.procedure.body
body_sound_at program none under text shapes routine reached named body =
    by routine.procedure.body body
    (all_quiet
    (outermost_sites (in_body (scope_of program routine) shapes) routine.procedure.result
    routine.procedure.body)
    (λ site in_it. quiet site
    (subst (λ found. Contains (sites_of program shapes found) site) (sym named) in_it)))
  where
    quiet : (site : Site) → Contains (sites_at program text shapes) site → IsQuiet site
    quiet site in_it = record {
      floods = (under text shapes reached site in_it).floods;
      returns = (none text shapes reached site in_it).returns;
    }

    by : (stmt : Stmt) → IsBody stmt →
        AreQuiet (outermost_sites (in_body (scope_of program routine) shapes)
        routine.procedure.result stmt) →
        IsSoundStmt (scope_of program routine) (answering routine.procedure.result) stmt
    by (Prefixed at prefixes (Block inner)) body are =
        outermost_sound (in_body (scope_of program routine) shapes) routine.procedure.result at
        prefixes inner refl are
    by (Prefixed at prefixes (Assign name op value)) body are = absurd body
    by (Prefixed at prefixes (Invoke name actuals)) body are = absurd body
    by (Prefixed at prefixes (If arms otherwise)) body are = absurd body
    by (Prefixed at prefixes (While test inner)) body are = absurd body
    by (Prefixed at prefixes (Repeat inner until test)) body are = absurd body
    by (Prefixed at prefixes (For head inner)) body are = absurd body
    by (Prefixed at prefixes (Border kind names)) body are = absurd body
    by (Prefixed at prefixes (Write ends items)) body are = absurd body
    by (Prefixed at prefixes (Return value)) body are = absurd body
