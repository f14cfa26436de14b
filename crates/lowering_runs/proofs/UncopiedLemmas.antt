-- Code of programs of scalars has no copies for reads that wrap round, neither of its own procedure nor
-- of those that are called.
use Rattle.std.proofs.Common.{◌≡◌, ℕ, zero, suc, ◌+◌, Bool, true, false, List, [], ◌∷◌, ◌++◌, Option, Some, None, refl, sym, ap, ◌∙◌, subst}
use Rattle.std.specs.Prelude.{slice_get}
use Rattle.zpl_tree.specs.Syntax.{Name, Expr, Number, Truth, Coord, Named, Shifted, Around, Remap, Call, Paren, Neg, Not, Abs, Pair, Reduce, Scan, Flood, Bracket, NoBracket, Bracketed, VarDef, Stmt, Prefixed, Stmts, NoStmt, ThenStmt, Form, Assign, Invoke, Block, If, While, Repeat, For, Border, Write, Return, Tested, Arms, NoArm, ThenArm, Otherwise, NoElse, Else}
use Rattle.zpl_names.specs.Kinds.{Rank}
use Rattle.zpl_names.specs.Scope.{kind_of}
use Rattle.zpl_names.specs.Sites.{Role, Assigned, Test as TestRole, is_shattered}
use Rattle.zpl_names.specs.Declared.{Routine}
use Rattle.zpl_names.specs.Expansion.{FormalName, formal_names}
use Rattle.lowering_fits.specs.of_zpl_meaning.Store.{Thing, Scalar, ArrayAt, Fixed, thing_of}
use Rattle.lowering_fits.specs.of_zpl_meaning.Context.{Setup}
use Rattle.lowering_fits.specs.of_zpl_meaning.Calls.{formals_in}
use Rattle.lowering_fits.specs.of_zpl_meaning.Points.{assigned_expr}
use Rattle.lowering_fits.specs.of_zpl_meaning.Statement.{arms_at}
use Rattle.lowering_fits.specs.of_zpl_lowering.Where.{Where, Next, slotted_at, reach_of, rank_for, line_of}
use Rattle.lowering_fits.specs.of_zpl_lowering.Slate as slate
use Rattle.lowering_fits.specs.of_zpl_lowering.Slate.{Placed, settled, settled_each}
use Rattle.lowering_fits.specs.of_zpl_lowering.Reference.{Reference, over_reference, refer_to}
use Rattle.lowering_fits.specs.of_zpl_lowering.Lowered as low_code
use Rattle.lowering_fits.specs.of_zpl_lowering.Lowered.{Lowered, behind, phased, phased_with}
use Rattle.lowering_fits.specs.of_zpl_lowering.Statement as low
use Rattle.lowering_fits.specs.of_zpl_lowering.Statement.{Lowering, Calling, Given}
use Rattle.lowering_fits.specs.of_zpl_lowering.Program as prog
use Rattle.lowering_fits.specs.of_zpl_lowering.Program.{Framed, Entry}
use Rattle.lowering_runs.specs.Scalars.{IsScalarExpr}
use Rattle.lowering_runs.specs.ScalarText.{IsScalarStmt, AreScalarStmts, IsScalarForm, AreScalarArms, IsScalarElse, IsScalarRoutine, IsScalarCall}
use Rattle.lowering_runs.proofs.StatementLemmas.{lowered_plain}
use Rattle.lowering_runs.proofs.InlineLemmas.{AllScalar, actuals_scalar, printed_scalar}

abbrev pub IsUncopied : Lowered → Type 0
IsUncopied own = (own.copies ≡ []) × (own.later ≡ [])

pub none_append : {A : Type 0} (xs ys : List A) → xs ≡ [] → ys ≡ [] → xs ++ ys ≡ []
none_append xs ys h k = ap (λ zs. zs ++ ys) h ∙ k

-- code of two parts
parts_uncopied : (one other : Lowered) → IsUncopied one → IsUncopied other
    → (one.copies ++ other.copies ≡ []) × (one.later ++ other.later ≡ [])
parts_uncopied one other h k =
    (none_append one.copies other.copies h.0 k.0, none_append one.later other.later h.1 k.1)

-- ---- phases

expr_uncopied : (w : Where) (line : ℕ) (next : Next) (rank : Rank) (expr : Expr)
    → IsScalarExpr expr → (settled w line next rank expr).copies ≡ []
expr_uncopied w line next rank (Number at value) h = refl
expr_uncopied w line next rank (Truth at value) h = refl
expr_uncopied w line next rank (Named at name) h = refl
expr_uncopied w line next rank (Paren at inside) h = expr_uncopied w line next rank inside h
expr_uncopied w line next rank (Neg at operand) h = expr_uncopied w line next rank operand h
expr_uncopied w line next rank (Not at operand) h = expr_uncopied w line next rank operand h
expr_uncopied w line next rank (Abs at operand) h = expr_uncopied w line next rank operand h
expr_uncopied w line next rank (Pair at op left right) h =
    let one = settled w line next rank left in
    let after = slate.behind next one in
    none_append one.copies (settled w line after rank right).copies
    (expr_uncopied w line next rank left h.0) (expr_uncopied w line after rank right h.1)
expr_uncopied w line next rank (Coord at k) h = absurd h
expr_uncopied w line next rank (Shifted at name shift) h = absurd h
expr_uncopied w line next rank (Around at name shift) h = absurd h
expr_uncopied w line next rank (Remap at name indices) h = absurd h
expr_uncopied w line next rank (Call at name actuals) h = absurd h
expr_uncopied w line next rank (Reduce at operator over operand) h = absurd h
expr_uncopied w line next rank (Scan at operator along operand) h = absurd h
expr_uncopied w line next rank (Flood at source operand) h = absurd h

each_uncopied : (w : Where) (line : ℕ) (next : Next) (exprs : List Placed) → AllScalar exprs
    → (settled_each w line next exprs).copies ≡ []
each_uncopied w line next [] h = refl
each_uncopied w line next (placed ∷ exprs) h =
    let one = settled w line next placed.rank placed.expr in
    let after = slate.behind next one in
    none_append one.copies (settled_each w line after exprs).copies
    (expr_uncopied w line next placed.rank placed.expr h.0) (each_uncopied w line after exprs h.1)

phases_uncopied : (w : Where) (line : ℕ) (next : Next) (own last : List Reference)
    (exprs : List Placed) → AllScalar exprs
    → IsUncopied (phased_with w line next own last exprs).lowered
phases_uncopied w line next own last exprs h = (each_uncopied w line next exprs h, refl)

-- the statement's own rows behind its phases have none
behind_phases : (own : Lowered) → IsUncopied own
    → (own.copies ++ [] ≡ []) × (own.later ++ [] ≡ [])
behind_phases own h = (none_append own.copies [] h.0 refl, none_append own.later [] h.1 refl)

-- ---- statements

to_uncopied : (w : Where) (role : Role) (line : ℕ) (next : Next) (value : Expr)
    (thing : Option Thing) → IsScalarExpr value
    → IsUncopied (low.lowered_to w role line next value thing)
to_uncopied w role line next value (Some (Scalar target)) h =
    let placed = low.placed_in w role value in
    behind_phases (phased w line next (placed ∷ [])).lowered
    (phases_uncopied w line next [] [] (placed ∷ []) (h, tt))
to_uncopied w role line next value (Some (ArrayAt target home)) h =
    let over = slotted_at w.currents (rank_for w role) in
    let placed = low.placed_in w role value in
    let own = refer_to over.slot [] (slice_get w.numbers.arrays target) in
    let last = over_reference w.numbers over in
    behind_phases (phased_with w line next own last (placed ∷ [])).lowered
    (phases_uncopied w line next own last (placed ∷ []) (h, tt))
to_uncopied w role line next value (Some (Fixed number)) h = (refl, refl)
to_uncopied w role line next value None h = (refl, refl)

choice_uncopied : (b : Bool) (one other : Lowered) → b ≡ false → IsUncopied other
    → IsUncopied (low.choose_code b one other)
choice_uncopied b one other e h =
    subst (λ (c : Bool). IsUncopied (low.choose_code c one other)) (sym e) h

module _ (IsCallable : List ℕ → Type 0) (call : Calling → Next → Lowered)
    (calls : (calling : Calling) (next : Next) → IsCallable calling.name
    → IsUncopied (call calling next)) where
  abbrev at_place : Where → Lowering
  at_place w = record { place = w; call = call }

  test_uncopied : (w : Where) (next : Next) (test : Expr) (at : ℕ) → IsScalarExpr test
      → IsUncopied (low.test_of w next test at).before
  test_uncopied w next test at h =
      phases_uncopied w (line_of w at) next [] [] (low.placed_in w TestRole test ∷ []) (h, tt)

  with_values_uncopied : (w : Where) (line : ℕ) (next : Next) (exprs : List Placed)
      → AllScalar exprs → (scalar : ℕ)
      → IsUncopied (low.with_values line scalar (phased w line next exprs))
  with_values_uncopied w line next exprs h scalar =
      behind_phases (phased w line next exprs).lowered (phases_uncopied w line next [] [] exprs h)

  mutual
    pub stmt_uncopied : (stmt : Stmt) (w : Where) (next : Next)
        → IsScalarStmt IsCallable (reach_of w) stmt
        → IsUncopied (low.lowered (at_place w) next stmt)
    stmt_uncopied (Prefixed at [] form) w next h = form_uncopied form w next at h.1
    stmt_uncopied (Prefixed at (prefix ∷ rest) form) w next h = absurd h.0

    all_uncopied : (stmts : Stmts) (w : Where) (next : Next)
        → AreScalarStmts IsCallable (reach_of w) stmts
        → IsUncopied (low.lowered_all (at_place w) next stmts)
    all_uncopied NoStmt w next h = (refl, refl)
    all_uncopied (ThenStmt first rest) w next h =
        let one = low.lowered (at_place w) next first in
        parts_uncopied one (low.lowered_all (at_place w) (behind next one) rest)
        (stmt_uncopied first w next h.0) (all_uncopied rest w (behind next one) h.1)

    form_uncopied : (form : Form) (w : Where) (next : Next) (at : ℕ)
        → IsScalarForm IsCallable (reach_of w) form
        → IsUncopied (low.lowered_form (at_place w) next at form)
    form_uncopied (Assign name op value) w next at h =
        subst IsUncopied (sym (lowered_plain (at_place w) next name op value (line_of w at) h.2))
        (to_uncopied w (Assigned name op) (line_of w at) next (assigned_expr name op value)
        (thing_of w.environment name.text) h.2)
    form_uncopied (Invoke name actuals) w next at h =
        let line = line_of w at in
        let formals = formals_in (kind_of w.scope name) in
        let exprs = low.value_exprs w formals actuals in
        let scalar = next.scalars + (phased w line next exprs).lowered.scalars in
        let own = low.with_values line scalar (phased w line next exprs) in
        let calling : Calling = record {
          name = name.text;
          actuals = low.given_to w scalar formals actuals;
          currents = w.currents;
          result = 0;
          numbers = w.numbers;
          line = line;
        } in
        parts_uncopied own (call calling (behind next own))
        (with_values_uncopied w line next exprs (actuals_scalar w formals actuals h.0) scalar)
        (calls calling (behind next own) h.1)
    form_uncopied (Block body) w next at h = all_uncopied body w next h
    form_uncopied (If arms otherwise) w next at h =
        choice_uncopied (is_shattered (reach_of w) (If arms otherwise))
        (low.shattered w (line_of w at) next (If arms otherwise))
        (low.lowered_arms (at_place w) next at arms otherwise
        (λ after. low.lowered_otherwise (at_place w) after otherwise)) h.0
        (arms_uncopied arms w next at otherwise h.1
        (λ after. else_uncopied otherwise w after h.2))
    form_uncopied (While test body) w next at h =
        let before = (low.test_of w next test at).before in
        choice_uncopied (is_shattered (reach_of w) (While test body))
        (low.shattered w (line_of w at) next (While test body))
        (low.while_code next (low.test_of w next test at)
        (λ after. low.lowered_all (at_place w) after body)) h.0
        (parts_uncopied before (low.lowered_all (at_place w) (behind next before) body)
        (test_uncopied w next test at h.1) (all_uncopied body w (behind next before) h.2))
    form_uncopied (Repeat body until test) w next at h =
        let inside = low.lowered_all (at_place w) next body in
        choice_uncopied (is_shattered (reach_of w) (Repeat body until test))
        (low.shattered w (line_of w at) next (Repeat body until test))
        (low.repeat_code next inside (λ after. low.test_of w after test until)) h.0
        (parts_uncopied inside (low.test_of w (behind next inside) test until).before
        (all_uncopied body w next h.2) (test_uncopied w (behind next inside) test until h.1))
    form_uncopied (For head body) w next at h =
        let line = line_of w at in
        let exprs = low.head_exprs w head in
        let scalar = next.scalars + (phased w line next exprs).lowered.scalars in
        let own = low.with_values line scalar (phased w line next exprs) in
        let after = behind next own in
        let target = low.scalar_of w.numbers (thing_of w.environment head.name.text) in
        parts_uncopied own
        (low.counted head.down (low.counter_from scalar) line target after
        (λ more. low.lowered_all (at_place w) more body))
        (with_values_uncopied w line next exprs (h.0, (h.1, (h.2, tt))) scalar)
        (all_uncopied body w _ h.3)
    form_uncopied (Border kind names) w next at h = absurd h
    form_uncopied (Write ends items) w next at h =
        behind_phases (phased w (line_of w at) next (low.printed_exprs w items)).lowered
        (phases_uncopied w (line_of w at) next [] [] (low.printed_exprs w items)
        (printed_scalar w (reach_of w) items h))
    form_uncopied (Return value) w next at h = absurd h

    arms_uncopied : (arms : Arms) (w : Where) (next : Next) (at : ℕ) (otherwise : Otherwise)
        → AreScalarArms IsCallable (reach_of w) arms
        → ((after : Next) → IsUncopied (low.lowered_otherwise (at_place w) after otherwise))
        → IsUncopied (low.lowered_arms (at_place w) next at arms otherwise
        (λ after. low.lowered_otherwise (at_place w) after otherwise))
    arms_uncopied NoArm w next at otherwise h last = last next
    arms_uncopied (ThenArm (Tested own test body) NoArm) w next at NoElse h last =
        let before = (low.test_of w next test at).before in
        parts_uncopied before (low.lowered_all (at_place w) (behind next before) body)
        (test_uncopied w next test at h.0.0) (all_uncopied body w (behind next before) h.0.1)
    arms_uncopied (ThenArm (Tested own test body) NoArm) w next at (Else other) h last =
        let before = (low.test_of w next test at).before in
        let after = behind next before in
        let inside = low.lowered_all (at_place w) after body in
        let others = low.lowered_otherwise (at_place w) (behind after inside) (Else other) in
        parts_uncopied before
        (low_code.both inside others)
        (test_uncopied w next test at h.0.0)
        (parts_uncopied inside others (all_uncopied body w after h.0.1) (last (behind after inside)))
    arms_uncopied (ThenArm (Tested own test body) (ThenArm second rest)) w next at otherwise h last =
        let before = (low.test_of w next test at).before in
        let after = behind next before in
        let inside = low.lowered_all (at_place w) after body in
        let others = low.lowered_arms (at_place w) (behind after inside)
        (arms_at (ThenArm second rest)) (ThenArm second rest) otherwise
        (λ more. low.lowered_otherwise (at_place w) more otherwise) in
        parts_uncopied before
        (low_code.both inside others)
        (test_uncopied w next test at h.0.0)
        (parts_uncopied inside others (all_uncopied body w after h.0.1)
        (arms_uncopied (ThenArm second rest) w (behind after inside) (arms_at (ThenArm second rest))
        otherwise h.1 last))

    else_uncopied : (otherwise : Otherwise) (w : Where) (next : Next)
        → IsScalarElse IsCallable (reach_of w) otherwise
        → IsUncopied (low.lowered_otherwise (at_place w) next otherwise)
    else_uncopied NoElse w next h = (refl, refl)
    else_uncopied (Else body) w next h = all_uncopied body w next h

-- ---- procedures

givens_uncopied : (line : ℕ) (formals : List FormalName) (givens : List Given) (framed : Framed)
    (next : Next) (rest : Framed → Next → Lowered)
    → ((framed : Framed) (next : Next) → IsUncopied (rest framed next))
    → IsUncopied (prog.givens_code line formals givens framed next rest)
givens_uncopied line [] givens framed next rest h = h framed next
givens_uncopied line (formal ∷ formals) [] framed next rest h = h framed next
givens_uncopied line (formal ∷ formals) (low.Valued scalar ∷ givens) framed next rest h =
    givens_uncopied line formals givens (prog.with_scalar framed formal.name scalar) next rest h
givens_uncopied line (formal ∷ formals) (low.Referring thing ∷ givens) framed next rest h =
    givens_uncopied line formals givens
    (record framed { names = framed.names ++ (formal.name.text, thing) ∷ [] }) next rest h
givens_uncopied line (formal ∷ formals) (low.Copied stored home ∷ givens) framed next rest h =
    givens_uncopied line formals givens
    (prog.with_array framed formal.name home
    (record { array = next.arrays; storage = stored.storage }))
    (behind next (prog.made_copy line next stored)) rest h

module _ (setup : Setup) (entry : Entry) where
  local_uncopied : (shape : Bracket) (name : Name) (framed : Framed) (next : Next)
      (rest : Framed → Next → Lowered)
      → ((framed : Framed) (next : Next) → IsUncopied (rest framed next))
      → IsUncopied (prog.local_code setup entry shape name framed next rest)
  local_uncopied NoBracket name framed next rest h = h _ _
  local_uncopied (Bracketed inner) name framed next rest h = h _ _

  names_uncopied : (shape : Bracket) (names : List Name) (framed : Framed) (next : Next)
      (rest : Framed → Next → Lowered)
      → ((framed : Framed) (next : Next) → IsUncopied (rest framed next))
      → IsUncopied (prog.names_code setup entry shape names framed next rest)
  names_uncopied shape [] framed next rest h = h framed next
  names_uncopied shape (name ∷ names) framed next rest h =
      local_uncopied shape name framed next
      (λ frame after. prog.names_code setup entry shape names frame after rest)
      (λ frame after. names_uncopied shape names frame after rest h)

  locals_uncopied : (vars : List VarDef) (framed : Framed) (next : Next)
      (rest : Framed → Next → Lowered)
      → ((framed : Framed) (next : Next) → IsUncopied (rest framed next))
      → IsUncopied (prog.locals_code setup entry vars framed next rest)
  locals_uncopied [] framed next rest h = h framed next
  locals_uncopied (var ∷ vars) framed next rest h =
      names_uncopied var.shape var.names framed next
      (λ frame after. prog.locals_code setup entry vars frame after rest)
      (λ frame after. locals_uncopied vars frame after rest h)

-- all of a procedure, as it is lowered where it is called
pub body_uncopied : (setup : Setup) (IsCallable : List ℕ → Type 0)
    (call : Calling → Next → Lowered)
    → ((calling : Calling) (next : Next) → IsCallable calling.name
    → IsUncopied (call calling next))
    → (entry : Entry) (routine : Routine) → IsScalarRoutine setup.program IsCallable routine
    → (calling : Calling) (next : Next)
    → IsUncopied (prog.body_code setup entry call routine calling next)
body_uncopied setup IsCallable call calls entry routine h calling next =
    let rest : Framed → Next → Lowered = λ frame last.
    low.lowered (record { place = prog.where_in setup routine calling frame; call = call }) last
    routine.procedure.body in
    givens_uncopied entry.line (formal_names routine.procedure.params) calling.actuals
    (record { names = []; numbers = calling.numbers }) next
    (λ frame after. prog.locals_code setup entry routine.procedure.locals frame after rest)
    (λ frame after. locals_uncopied setup entry routine.procedure.locals frame after rest
    (λ frame last. stmt_uncopied IsCallable call calls routine.procedure.body
    (prog.where_in setup routine calling frame) last h.1))

routine_uncopied : (setup : Setup) (IsCallable : List ℕ → Type 0)
    (call : Calling → Next → Lowered)
    → ((calling : Calling) (next : Next) → IsCallable calling.name
    → IsUncopied (call calling next))
    → (clears : Bool) (routine : Routine) → IsScalarRoutine setup.program IsCallable routine
    → (calling : Calling) (next : Next)
    → IsUncopied (prog.routine_code setup clears call (Some routine) calling next)
routine_uncopied setup IsCallable call calls clears routine h calling next =
    let entry : Entry = record { clears = clears; line = calling.line } in
    let inner = prog.in_call (prog.reads_round setup.program routine) next in
    let body = prog.body_code setup entry call routine calling inner in
    let none = body_uncopied setup IsCallable call calls entry routine h calling inner in
    (refl, none_append body.copies body.later none.0 none.1)

pub call_uncopied : (setup : Setup) (depth : ℕ) (calling : Calling) (next : Next)
    → IsScalarCall setup.program depth calling.name
    → IsUncopied (prog.call_code setup depth calling next)
call_uncopied setup zero calling next h = absurd h
call_uncopied setup (suc depth) calling next h =
    subst (λ (r : Option Routine).
    IsUncopied (prog.routine_code setup true (prog.call_code setup depth) r calling next))
    (sym h.named)
    (routine_uncopied setup (IsScalarCall setup.program depth) (prog.call_code setup depth)
    (call_uncopied setup depth) true h.routine h.scalar calling next)
