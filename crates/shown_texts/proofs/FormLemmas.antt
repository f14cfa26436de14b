-- Programs of the forms that are proved, with small numerals, are shown.
use Rattle.std.proofs.Common.{◌≡◌, inl, inr, ◌⊎◌, ℕ, zero, suc, Bool, true, false, cond, List, [], ◌∷◌, Option, Some, None, sym, subst, find}
use Rattle.std.specs.List.{AllByRecursion}
use Rattle.std.specs.Str.{bytes_eq}
use Rattle.zpl_nums.specs.declared.operators.Op.{Op}
use Rattle.zpl_nums.proofs.IntegerLemmas.{IsInteger-truth}
use Rattle.zpl_tree.specs.Syntax.{Name, Expr, Number, Truth, Coord, Named, Shifted, Around, Remap, Call, Paren, Neg, Not, Abs, Pair, Reduce, Scan, Flood, NoBracket, Bracketed, Exprs, NoExpr, ThenExpr, Inner, Rexpr, Dims, DimText, Blank, Star, One, Span, DimTexts, NoDim, ThenDim, Prefix, Item, Str, Value, Stmt, Prefixed, Stmts, NoStmt, ThenStmt, Form, Assign, Invoke, Block, If, While, Repeat, For, Border, Write, Return, Arm, Tested, Arms, NoArm, ThenArm, Otherwise, NoElse, Else, Decl, Config, Constant, Regions, Directions, Vars, Defined, Program}
use Rattle.zpl_names.specs.Kinds.{Formal, ScalarFormal, ArrayFormal}
use Rattle.zpl_names.specs.Scope.{Entry, kind_of}
use Rattle.zpl_names.specs.Shapes.{unknown_shapes}
use Rattle.zpl_names.specs.Sites.{Reach, in_body, is_shattered}
use Rattle.zpl_names.specs.Declared.{Routine, routines_behind, routines_of, scope_of, with_procedure, with_decl}
use Rattle.zpl_names.specs.Reached.{longest_chain}
use Rattle.zpl_meaning.specs.Points.{Part, Reads, Writes, stmt_parts, stmts_parts, form_parts, arms_parts, arm_parts, otherwise_parts}
use Rattle.row_runs.specs.Straight.{Every}
use Rattle.flat_form.proofs.WordLemmas.{every_append}
use Rattle.zpl_meaning.specs.Calls.{formals_in}
use Rattle.zpl_meaning.specs.Statement.{step_expr}
use Rattle.zpl_binding.specs.Settings.{Setting}
use Rattle.shown_programs.specs.of_served_places.Told.{IsPlainExpr}
use Rattle.shown_programs.specs.of_served_places.Given.{HasSmall, HasSmallDim, HaveSmallDims}
use Rattle.shown_programs.specs.Text.{HasSmallInner, HaveSmallPrefixes, behind_prefixes, IsReturnText, IsShownStmt, AreShown, IsShownForm, AreShownArms, IsShownArm, IsShownElse, AreAnsweringTexts, IsAnsweringText, IsPlainPart, IsOperatedText, AreOperatedIndices, AreOperatedTexts, AreCallTexts, IsAskedText, IsLeafForm, IsShownRoutine, IsShownCall, IsShownProgram}
use Rattle.shown_texts.specs.Numerals.{IsSmallExpr, AreSmallExprs, IsSmallInner, IsSmallDim, AreSmallDims, IsSmallPrefix, IsSmallStep, IsSmallItem, IsSmallStmt, AreSmallStmts, IsSmallForm, AreSmallArms, IsSmallArm, IsSmallElse, IsSmallProcedure, IsSmallDecl, HasSmallNumerals}
use Rattle.shown_texts.specs.Forms.{HasPlainForm, HasOperatedForm, HaveOperatedIndices, HasPartForm, IsShatteredOr, HaveCallForms, HavePrintForms, HasAskingForm, HasAssignForm, HasStmtForm, HaveForms, HasForm, HaveArmForms, HasArmForm, HasElseForm, HasReturnForm, HaveAnswerForms, HasAnswerForm, HasRoutineForm, HasChainForms, HasShownForms}
use Rattle.shown_texts.proofs.ValueLemmas.{values_small}

-- ---- prefixes

expr_has : (expr : Expr) → IsSmallExpr expr → HasSmall expr
expr_has (Number at value) small = small
expr_has (Paren at inside) small = expr_has inside small
expr_has (Neg at operand) small = expr_has operand small
expr_has (Not at operand) small = expr_has operand small
expr_has (Abs at operand) small = expr_has operand small
expr_has (Pair at op left right) small = (expr_has left small.0, expr_has right small.1)
expr_has (Truth at value) small = tt
expr_has (Coord at k) small = tt
expr_has (Named at name) small = tt
expr_has (Shifted at name shift) small = tt
expr_has (Around at name shift) small = tt
expr_has (Remap at name indices) small = tt
expr_has (Call at name actuals) small = tt
expr_has (Reduce at operator over operand) small = tt
expr_has (Scan at operator along operand) small = tt
expr_has (Flood at source operand) small = tt

dim_has : (dim : DimText) → IsSmallDim dim → HasSmallDim dim
dim_has (Blank at) small = tt
dim_has (Star at) small = tt
dim_has (One index) small = expr_has index small
dim_has (Span low high) small = (expr_has low small.0, expr_has high small.1)

dims_have : (dims : DimTexts) → AreSmallDims dims → HaveSmallDims dims
dims_have NoDim small = tt
dims_have (ThenDim first rest) small = (dim_has first small.0, dims_have rest small.1)

inner_has : (inner : Inner) → IsSmallInner inner → HasSmallInner inner
inner_has (Rexpr pre base post) small = tt
inner_has (Dims dims) small = dims_have dims small

prefixes_have : (prefixes : List Prefix) → AllByRecursion IsSmallPrefix prefixes
    → HaveSmallPrefixes prefixes
prefixes_have [] small = tt
prefixes_have (prefix ∷ rest) small =
    (inner_has prefix.region small.0, prefixes_have rest small.1)

-- ---- expressions

plain_shown : (expr : Expr) → HasPlainForm expr → IsSmallExpr expr → IsPlainExpr expr
plain_shown (Number at value) form small = small
plain_shown (Truth at value) form small = tt
plain_shown (Coord at k) form small = tt
plain_shown (Named at name) form small = tt
plain_shown (Shifted at name shift) form small = tt
plain_shown (Paren at inside) form small = plain_shown inside form small
plain_shown (Neg at operand) form small = plain_shown operand form small
plain_shown (Not at operand) form small = plain_shown operand form small
plain_shown (Abs at operand) form small = plain_shown operand form small
plain_shown (Pair at op left right) form small =
    (plain_shown left form.0 small.0, plain_shown right form.1 small.1)
plain_shown (Around at name shift) form small = absurd form
plain_shown (Remap at name indices) form small = absurd form
plain_shown (Call at name actuals) form small = absurd form
plain_shown (Reduce at operator over operand) form small = absurd form
plain_shown (Scan at operator along operand) form small = absurd form
plain_shown (Flood at source operand) form small = absurd form

mutual
  operated_shown : (expr : Expr) → HasOperatedForm expr → IsSmallExpr expr → IsOperatedText expr
  operated_shown (Number at value) form small = small
  operated_shown (Truth at value) form small = tt
  operated_shown (Coord at k) form small = tt
  operated_shown (Named at name) form small = tt
  operated_shown (Shifted at name shift) form small = tt
  operated_shown (Paren at inside) form small = operated_shown inside form small
  operated_shown (Neg at operand) form small = operated_shown operand form small
  operated_shown (Not at operand) form small = operated_shown operand form small
  operated_shown (Abs at operand) form small = operated_shown operand form small
  operated_shown (Pair at op left right) form small =
      (operated_shown left form.0 small.0, operated_shown right form.1 small.1)
  operated_shown (Reduce at operator NoBracket operand) form small =
      operated_shown operand form small.1
  operated_shown (Reduce at operator (Bracketed source) operand) form small =
      (inner_has source small.0, operated_shown operand form small.1)
  operated_shown (Scan at operator along operand) form small = operated_shown operand form small.1
  operated_shown (Flood at source operand) form small =
      (inner_has source small.0, operated_shown operand form small.1)
  operated_shown (Remap at name indices) form small = indices_shown indices form small
  operated_shown (Around at name shift) form small = tt
  operated_shown (Call at name actuals) form small = absurd form

  indices_shown : (indices : Exprs) → HaveOperatedIndices indices → AreSmallExprs indices
      → AreOperatedIndices indices
  indices_shown NoExpr forms small = tt
  indices_shown (ThenExpr first rest) forms small =
      (operated_shown first forms.0 small.0, indices_shown rest forms.1 small.1)

step_small : (step : Option Expr) → IsSmallStep step → IsSmallExpr (step_expr step)
step_small None small = IsInteger-truth true
step_small (Some step) small = small

actuals_shown : (formals : List Formal) (actuals : Exprs) → HaveCallForms formals actuals
    → AreSmallExprs actuals → AreCallTexts formals actuals
actuals_shown [] actuals forms small = tt
actuals_shown (formal ∷ formals) NoExpr forms small = tt
actuals_shown (ScalarFormal false base ∷ formals) (ThenExpr actual rest) forms small =
    (operated_shown actual forms.0 small.0, actuals_shown formals rest forms.1 small.1)
actuals_shown (ScalarFormal true base ∷ formals) (ThenExpr actual rest) forms small =
    actuals_shown formals rest forms small.1
actuals_shown (ArrayFormal by_ref base shape ∷ formals) (ThenExpr actual rest) forms small =
    actuals_shown formals rest forms small.1

items_shown : (items : List Item) → HavePrintForms items → AllByRecursion IsSmallItem items
    → AreOperatedTexts items
items_shown [] forms small = tt
items_shown (Str bytes ∷ items) forms small = items_shown items forms small.1
items_shown (Value expr ∷ items) forms small =
    (operated_shown expr forms.0 small.0, items_shown items forms.1 small.1)

-- ---- what shattered statements read

abbrev IsSmallPart : Part → Type 0
IsSmallPart (Reads expr) = IsSmallExpr expr
IsSmallPart (Writes name) = Unit {0}

mutual
  stmt_reads : (stmt : Stmt) → IsSmallStmt stmt → Every IsSmallPart (stmt_parts stmt)
  stmt_reads (Prefixed at prefixes form) small = form_reads form small.1

  stmts_read : (stmts : Stmts) → AreSmallStmts stmts → Every IsSmallPart (stmts_parts stmts)
  stmts_read NoStmt small = tt
  stmts_read (ThenStmt first rest) small =
      every_append IsSmallPart (stmt_parts first) (stmts_parts rest) (stmt_reads first small.0)
      (stmts_read rest small.1)

  form_reads : (form : Form) → IsSmallForm form → Every IsSmallPart (form_parts form)
  form_reads (Assign name op value) small = (tt, (small, tt))
  form_reads (Block body) small = stmts_read body small
  form_reads (If arms otherwise) small =
      every_append IsSmallPart (arms_parts arms) (otherwise_parts otherwise)
      (arms_read arms small.0) (else_reads otherwise small.1)
  form_reads (While test body) small = (small.0, stmts_read body small.1)
  form_reads (Repeat body until test) small =
      every_append IsSmallPart (stmts_parts body) (Reads test ∷ []) (stmts_read body small.0)
      (small.1, tt)
  form_reads (Invoke name actuals) small = tt
  form_reads (For head body) small = tt
  form_reads (Border kind names) small = tt
  form_reads (Write line items) small = tt
  form_reads (Return value) small = tt

  arms_read : (arms : Arms) → AreSmallArms arms → Every IsSmallPart (arms_parts arms)
  arms_read NoArm small = tt
  arms_read (ThenArm first rest) small =
      every_append IsSmallPart (arm_parts first) (arms_parts rest) (arm_reads first small.0)
      (arms_read rest small.1)

  arm_reads : (arm : Arm) → IsSmallArm arm → Every IsSmallPart (arm_parts arm)
  arm_reads (Tested at test body) small = (small.0, stmts_read body small.1)

  else_reads : (otherwise : Otherwise) → IsSmallElse otherwise
      → Every IsSmallPart (otherwise_parts otherwise)
  else_reads NoElse small = tt
  else_reads (Else body) small = stmts_read body small

parts_shown : (parts : List Part) → Every HasPartForm parts → Every IsSmallPart parts
    → Every IsPlainPart parts
parts_shown [] forms small = tt
parts_shown (Reads expr ∷ parts) forms small =
    (plain_shown expr forms.0 small.0, parts_shown parts forms.1 small.1)
parts_shown (Writes name ∷ parts) forms small = (tt, parts_shown parts forms.1 small.1)

-- ---- statements, where what may be called is shown

module _ (IsCallable IsCalled : Bool → List ℕ → Type 0)
    (called : (answers : Bool) (name : List ℕ) → IsCallable answers name → IsCalled answers name)
  where
    -- a statement that is shattered, or has other parts
    either : (reach : Reach) (form : Form) (Forms Parts : Type 0) → IsShatteredOr reach form Forms
        → IsSmallForm form → (Forms → Parts)
        → IsLeafForm IsCalled reach form ⊎ ((is_shattered reach form ≡ false) × Parts)
    either reach form Forms Parts (inl is) small shown =
        inl (inr (inl (is.0, parts_shown (form_parts form) is.1 (form_reads form small))))
    either reach form Forms Parts (inr is) small shown = inr (is.0, shown is.1)

    asked_shown : (reach : Reach) (op : Option Op) (value : Expr)
        → HasAskingForm IsCallable reach op value → IsSmallExpr value
        → IsAskedText IsCalled reach op value
    asked_shown reach op value asks small =
        subst (λ (o : Option Op). IsAskedText IsCalled reach o value) (sym asks.no_operator)
        (subst (IsAskedText IsCalled reach None) (sym asks.call) (
          actuals_shown (formals_in (kind_of reach.scope asks.name)) asks.actuals asks.forms
              (subst IsSmallExpr asks.call small),
          called true asks.name.text asks.callable,
        ))

    assign_shown : (reach : Reach) (name : Name) (op : Option Op) (value : Expr)
        → HasAssignForm IsCallable reach op value → IsSmallExpr value
        → IsLeafForm IsCalled reach (Assign name op value)
    assign_shown reach name op value (inl operated) small =
        inr (inr (inl (operated_shown value operated small)))
    assign_shown reach name op value (inr asks) small =
        inr (inr (inr (asked_shown reach op value asks small)))

    mutual
      stmt_shown : (reach : Reach) (stmt : Stmt) → HasStmtForm IsCallable reach stmt
          → IsSmallStmt stmt → IsShownStmt (IsLeafForm IsCalled) reach stmt
      stmt_shown reach (Prefixed at prefixes form) forms small = (
        prefixes_have prefixes small.0,
        form_shown (behind_prefixes reach prefixes) form forms small.1,
      )

      stmts_shown : (reach : Reach) (stmts : Stmts) → HaveForms IsCallable reach stmts
          → AreSmallStmts stmts → AreShown (IsLeafForm IsCalled) reach stmts
      stmts_shown reach NoStmt forms small = tt
      stmts_shown reach (ThenStmt first rest) forms small =
          (stmt_shown reach first forms.0 small.0, stmts_shown reach rest forms.1 small.1)

      form_shown : (reach : Reach) (form : Form) → HasForm IsCallable reach form
          → IsSmallForm form → IsShownForm (IsLeafForm IsCalled) reach form
      form_shown reach (Assign name op value) forms small =
          assign_shown reach name op value forms small
      form_shown reach (Invoke name actuals) forms small =
          inr (inr (inr (
            actuals_shown (formals_in (kind_of reach.scope name)) actuals forms.0 small,
            called false name.text forms.1,
          )))
      form_shown reach (Block body) forms small = stmts_shown reach body forms small
      form_shown reach (If arms otherwise) forms small =
          either reach (If arms otherwise)
          (HaveArmForms IsCallable reach arms × HasElseForm IsCallable reach otherwise)
          (AreShownArms (IsLeafForm IsCalled) reach arms
          × IsShownElse (IsLeafForm IsCalled) reach otherwise) forms small
          (λ own. (arms_shown reach arms own.0 small.0, else_shown reach otherwise own.1 small.1))
      form_shown reach (While test body) forms small =
          either reach (While test body) (HasOperatedForm test × HaveForms IsCallable reach body)
          (IsOperatedText test × AreShown (IsLeafForm IsCalled) reach body) forms small
          (λ own. (operated_shown test own.0 small.0, stmts_shown reach body own.1 small.1))
      form_shown reach (Repeat body until test) forms small =
          either reach (Repeat body until test)
          (HasOperatedForm test × HaveForms IsCallable reach body)
          (IsOperatedText test × AreShown (IsLeafForm IsCalled) reach body) forms small
          (λ own. (operated_shown test own.0 small.1, stmts_shown reach body own.1 small.0))
      form_shown reach (For head body) forms small = (
        (
          operated_shown head.first forms.0.0 small.0.0,
          operated_shown head.last forms.0.1 small.0.1,
          operated_shown (step_expr head.step) forms.0.2 (step_small head.step small.0.2),
        ),
        stmts_shown reach body forms.1 small.1,
      )
      form_shown reach (Border kind names) forms small = inl tt
      form_shown reach (Write line items) forms small =
          inr (inr (inl (items_shown items forms small)))
      form_shown reach (Return value) forms small = absurd forms

      arms_shown : (reach : Reach) (arms : Arms) → HaveArmForms IsCallable reach arms
          → AreSmallArms arms → AreShownArms (IsLeafForm IsCalled) reach arms
      arms_shown reach NoArm forms small = tt
      arms_shown reach (ThenArm first rest) forms small =
          (arm_shown reach first forms.0 small.0, arms_shown reach rest forms.1 small.1)

      arm_shown : (reach : Reach) (arm : Arm) → HasArmForm IsCallable reach arm
          → IsSmallArm arm → IsShownArm (IsLeafForm IsCalled) reach arm
      arm_shown reach (Tested at test body) forms small =
          (operated_shown test forms.0 small.0, stmts_shown reach body forms.1 small.1)

      else_shown : (reach : Reach) (otherwise : Otherwise)
          → HasElseForm IsCallable reach otherwise → IsSmallElse otherwise
          → IsShownElse (IsLeafForm IsCalled) reach otherwise
      else_shown reach NoElse forms small = tt
      else_shown reach (Else body) forms small = stmts_shown reach body forms small

    return_shown : (stmt : Stmt) → HasReturnForm IsCallable stmt → IsSmallStmt stmt
        → IsReturnText stmt
    return_shown stmt form small =
        let own : IsSmallStmt (Prefixed form.at form.prefixes (Return form.value)) =
        subst IsSmallStmt form.returns small in
        subst IsReturnText (sym form.returns)
        (prefixes_have form.prefixes own.0, operated_shown form.value form.form own.1)

    answers_shown : (reach : Reach) (stmts : Stmts) → HaveAnswerForms IsCallable reach stmts
        → AreSmallStmts stmts → AreAnsweringTexts (IsLeafForm IsCalled) reach stmts
    answers_shown reach NoStmt forms small = absurd forms
    answers_shown reach (ThenStmt first NoStmt) forms small = return_shown first forms small.0
    answers_shown reach (ThenStmt first (ThenStmt second rest)) forms small = (
      stmt_shown reach first forms.0 small.0,
      answers_shown reach (ThenStmt second rest) forms.1 small.1,
    )

    answer_shown : (reach : Reach) (stmt : Stmt) → HasAnswerForm IsCallable reach stmt
        → IsSmallStmt stmt → IsAnsweringText (IsLeafForm IsCalled) reach stmt
    answer_shown reach stmt form small =
        let own : IsSmallStmt (Prefixed form.at form.prefixes (Block form.body)) =
        subst IsSmallStmt form.block small in
        subst (IsAnsweringText (IsLeafForm IsCalled) reach) (sym form.block) (
          prefixes_have form.prefixes own.0,
          answers_shown (behind_prefixes reach form.prefixes) form.body form.forms own.1,
        )

    routine_shown : (program : Program) (answers : Bool) (routine : Routine)
        → HasRoutineForm program IsCallable answers routine → IsSmallProcedure routine.procedure
        → IsShownRoutine IsLeafForm program IsCalled answers routine
    routine_shown program false routine form small =
        stmt_shown (in_body (scope_of program routine) unknown_shapes) routine.procedure.body form
        small.2
    routine_shown program true routine form small =
        answer_shown (in_body (scope_of program routine) unknown_shapes) routine.procedure.body form
        small.2

-- ---- procedures and programs

abbrev IsSmallRoutine : Routine → Type 0
IsSmallRoutine routine = IsSmallProcedure routine.procedure

routines_small : (earlier : List Entry) (decls : List Decl) → AllByRecursion IsSmallDecl decls
    → AllByRecursion IsSmallRoutine (routines_behind earlier decls)
routines_small earlier [] small = tt
routines_small earlier (Defined procedure ∷ decls) small =
    (small.0, routines_small (with_procedure earlier procedure) decls small.1)
routines_small earlier (Config configs ∷ decls) small =
    routines_small (with_decl earlier (Config configs)) decls small.1
routines_small earlier (Constant constants ∷ decls) small =
    routines_small (with_decl earlier (Constant constants)) decls small.1
routines_small earlier (Regions regions ∷ decls) small =
    routines_small (with_decl earlier (Regions regions)) decls small.1
routines_small earlier (Directions directions ∷ decls) small =
    routines_small (with_decl earlier (Directions directions)) decls small.1
routines_small earlier (Vars vars ∷ decls) small =
    routines_small (with_decl earlier (Vars vars)) decls small.1

found_small : (test : Routine → Bool) (routines : List Routine)
    → AllByRecursion IsSmallRoutine routines → (routine : Routine)
    → find test routines ≡ Some routine → IsSmallRoutine routine
found_small test [] small routine is = cc
found_small test (first ∷ rest) small routine is =
    by (test first) is (found_small test rest small.1 routine)
  where
    by : (b : Bool) → cond b (Some first) (find test rest) ≡ Some routine
        → (find test rest ≡ Some routine → IsSmallRoutine routine) → IsSmallRoutine routine
    by true same later =
        let one : first ≡ routine = cc in subst IsSmallRoutine one small.0
    by false same later = later same

chain_shown : (program : Program) → HasSmallNumerals program → (depth : ℕ) (answers : Bool)
    (name : List ℕ) → HasChainForms program depth answers name
    → IsShownCall IsLeafForm program depth answers name
chain_shown program small zero answers name forms = absurd forms
chain_shown program small (suc depth) answers name forms = record {
  routine = forms.routine;
  named = forms.named;
  shown = routine_shown (HasChainForms program depth) (IsShownCall IsLeafForm program depth)
      (chain_shown program small depth) program answers forms.routine forms.form
      (found_small (λ routine. bytes_eq routine.procedure.name.text name) (routines_of program)
      (routines_small [] program.decls small) forms.routine forms.named);
}

pub program_shown : (program : Program) (settings : List Setting) → HasSmallNumerals program
    → HasShownForms program → IsShownProgram program settings
program_shown program settings small forms = record {
  values = values_small program settings small;
  entry = chain_shown program small longest_chain false program.name.text forms;
}
