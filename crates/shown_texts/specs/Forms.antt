-- Programs all of whose statements are of forms for which it is proved that code goes as they do,
-- whatever their numbers are. Of text alone.
use Rattle.std.specs.Prelude.{◌≡◌, ◌⊎◌, ℕ, zero, suc, Bool, true, false, List, [], ◌∷◌, Option, Some, None, ⊤}
use Rattle.zpl_nums.specs.declared.operators.Op.{Op}
use Rattle.zpl_tree.specs.Syntax.{Name, Expr, Number, Truth, Coord, Named, Shifted, Around, Remap, Call, Paren, Neg, Not, Abs, Pair, Reduce, Scan, Flood, Exprs, NoExpr, ThenExpr, Item, Str, Value, Prefix, Stmt, Prefixed, Stmts, NoStmt, ThenStmt, Form, Assign, Invoke, Block, If, While, Repeat, For, Border, Write, Return, Arm, Tested, Arms, NoArm, ThenArm, Otherwise, NoElse, Else, Program}
use Rattle.zpl_names.specs.Kinds.{Formal, ScalarFormal, ArrayFormal}
use Rattle.zpl_names.specs.Scope.{kind_of}
use Rattle.zpl_names.specs.Shapes.{unknown_shapes}
use Rattle.zpl_names.specs.Sites.{Reach, in_body, is_shattered}
use Rattle.zpl_names.specs.Declared.{Routine, routine_named, scope_of}
use Rattle.zpl_names.specs.Reached.{longest_chain}
use Rattle.zpl_meaning.specs.Points.{Part, Reads, Writes, form_parts}
use Rattle.zpl_meaning.specs.Calls.{formals_in}
use Rattle.zpl_meaning.specs.Statement.{step_expr}
use Rattle.row_runs.specs.Straight.{Every}
use Rattle.shown_programs.specs.Text.{behind_prefixes}

-- ---- expressions

-- no operators over regions, no wraps round and no calls
abbrev pub HasPlainForm : Expr → Type 0
HasPlainForm (Number at value) = ⊤
HasPlainForm (Truth at value) = ⊤
HasPlainForm (Coord at k) = ⊤
HasPlainForm (Named at name) = ⊤
HasPlainForm (Shifted at name shift) = ⊤
HasPlainForm (Paren at inside) = HasPlainForm inside
HasPlainForm (Neg at operand) = HasPlainForm operand
HasPlainForm (Not at operand) = HasPlainForm operand
HasPlainForm (Abs at operand) = HasPlainForm operand
HasPlainForm (Pair at op left right) = HasPlainForm left × HasPlainForm right
HasPlainForm (Around at name shift) = ⊥
HasPlainForm (Remap at name indices) = ⊥
HasPlainForm (Call at name actuals) = ⊥
HasPlainForm (Reduce at operator over operand) = ⊥
HasPlainForm (Scan at operator along operand) = ⊥
HasPlainForm (Flood at source operand) = ⊥

-- any operators over regions, also in one another's operands, reads that wrap round, and no calls
abbrev mutual
  pub HasOperatedForm : Expr → Type 0
  HasOperatedForm (Number at value) = ⊤
  HasOperatedForm (Truth at value) = ⊤
  HasOperatedForm (Coord at k) = ⊤
  HasOperatedForm (Named at name) = ⊤
  HasOperatedForm (Shifted at name shift) = ⊤
  HasOperatedForm (Paren at inside) = HasOperatedForm inside
  HasOperatedForm (Neg at operand) = HasOperatedForm operand
  HasOperatedForm (Not at operand) = HasOperatedForm operand
  HasOperatedForm (Abs at operand) = HasOperatedForm operand
  HasOperatedForm (Pair at op left right) = HasOperatedForm left × HasOperatedForm right
  HasOperatedForm (Reduce at operator over operand) = HasOperatedForm operand
  HasOperatedForm (Scan at operator along operand) = HasOperatedForm operand
  HasOperatedForm (Flood at source operand) = HasOperatedForm operand
  HasOperatedForm (Remap at name indices) = HaveOperatedIndices indices
  HasOperatedForm (Around at name shift) = ⊤
  HasOperatedForm (Call at name actuals) = ⊥

  pub HaveOperatedIndices : Exprs → Type 0
  HaveOperatedIndices NoExpr = ⊤
  HaveOperatedIndices (ThenExpr first rest) = HasOperatedForm first × HaveOperatedIndices rest

-- what parameters take: a value of a scalar may have operators over regions
abbrev pub HaveCallForms : List Formal → Exprs → Type 0
HaveCallForms [] actuals = ⊤
HaveCallForms (formal ∷ formals) NoExpr = ⊤
HaveCallForms (ScalarFormal false base ∷ formals) (ThenExpr actual rest) =
    HasOperatedForm actual × HaveCallForms formals rest
HaveCallForms (ScalarFormal true base ∷ formals) (ThenExpr actual rest) =
    HaveCallForms formals rest
HaveCallForms (ArrayFormal by_ref base shape ∷ formals) (ThenExpr actual rest) =
    HaveCallForms formals rest

-- texts, scalars and arrays are printed, with operators over regions
abbrev pub HavePrintForms : List Item → Type 0
HavePrintForms [] = ⊤
HavePrintForms (Str bytes ∷ items) = HavePrintForms items
HavePrintForms (Value expr ∷ items) = HasOperatedForm expr × HavePrintForms items

-- what a shattered statement reads
abbrev pub HasPartForm : Part → Type 0
HasPartForm (Reads expr) = HasPlainForm expr
HasPartForm (Writes name) = ⊤

-- an `if`, a `while` or a `repeat` whose tests are arrays, or of other parts
abbrev pub IsShatteredOr : Reach → Form → Type 0 → Type 0
IsShatteredOr reach form Parts =
    ((is_shattered reach form ≡ true) × Every HasPartForm (form_parts form))
    ⊎ ((is_shattered reach form ≡ false) × Parts)

-- ---- statements, where these procedures may be called, for an answer or without one

module _ (IsCallable : Bool → List ℕ → Type 0) where
  -- the answer of a call is assigned
  pub record HasAskingForm (reach : Reach) (op : Option Op) (value : Expr) : Type 0 where
    pub at : ℕ
    pub name : Name
    pub actuals : Exprs
    pub no_operator : op ≡ None
    pub call : value ≡ Call at name actuals
    pub forms : HaveCallForms (formals_in (kind_of reach.scope name)) actuals
    pub callable : IsCallable true name.text

  -- a scalar or an array is assigned, or the answer of a call
  abbrev pub HasAssignForm : Reach → Option Op → Expr → Type 0
  HasAssignForm reach op value = HasOperatedForm value ⊎ HasAskingForm reach op value

  abbrev mutual
    pub HasStmtForm : Reach → Stmt → Type 0
    HasStmtForm reach (Prefixed at prefixes form) =
        HasForm (behind_prefixes reach prefixes) form

    pub HaveForms : Reach → Stmts → Type 0
    HaveForms reach NoStmt = ⊤
    HaveForms reach (ThenStmt first rest) = HasStmtForm reach first × HaveForms reach rest

    pub HasForm : Reach → Form → Type 0
    HasForm reach (Assign name op value) = HasAssignForm reach op value
    HasForm reach (Invoke name actuals) =
        HaveCallForms (formals_in (kind_of reach.scope name)) actuals
        × IsCallable false name.text
    HasForm reach (Block body) = HaveForms reach body
    HasForm reach (If arms otherwise) =
        IsShatteredOr reach (If arms otherwise)
        (HaveArmForms reach arms × HasElseForm reach otherwise)
    HasForm reach (While test body) =
        IsShatteredOr reach (While test body)
        (HasOperatedForm test × HaveForms reach body)
    HasForm reach (Repeat body until test) =
        IsShatteredOr reach (Repeat body until test)
        (HasOperatedForm test × HaveForms reach body)
    HasForm reach (For head body) =
        (HasOperatedForm head.first × HasOperatedForm head.last × HasOperatedForm (step_expr head.step))
        × HaveForms reach body
    HasForm reach (Border kind names) = ⊤
    HasForm reach (Write line items) = HavePrintForms items
    HasForm reach (Return value) = ⊥

    pub HaveArmForms : Reach → Arms → Type 0
    HaveArmForms reach NoArm = ⊤
    HaveArmForms reach (ThenArm first rest) = HasArmForm reach first × HaveArmForms reach rest

    pub HasArmForm : Reach → Arm → Type 0
    HasArmForm reach (Tested at test body) = HasOperatedForm test × HaveForms reach body

    pub HasElseForm : Reach → Otherwise → Type 0
    HasElseForm reach NoElse = ⊤
    HasElseForm reach (Else body) = HaveForms reach body

  -- a value is returned, behind any prefixes
  pub record HasReturnForm (stmt : Stmt) : Type 0 where
    pub at : ℕ
    pub prefixes : List Prefix
    pub value : Expr
    pub returns : stmt ≡ Prefixed at prefixes (Return value)
    pub form : HasOperatedForm value

  -- bodies of procedures that answer: statements of these forms, and then a `return`
  abbrev pub HaveAnswerForms : Reach → Stmts → Type 0
  HaveAnswerForms reach NoStmt = ⊥
  HaveAnswerForms reach (ThenStmt first NoStmt) = HasReturnForm first
  HaveAnswerForms reach (ThenStmt first (ThenStmt second rest)) =
      HasStmtForm reach first × HaveAnswerForms reach (ThenStmt second rest)

  -- in a block behind any prefixes
  pub record HasAnswerForm (reach : Reach) (stmt : Stmt) : Type 0 where
    pub at : ℕ
    pub prefixes : List Prefix
    pub body : Stmts
    pub block : stmt ≡ Prefixed at prefixes (Block body)
    pub forms : HaveAnswerForms (behind_prefixes reach prefixes) body

-- ---- procedures and programs

module _ (program : Program) where
  -- the body of a procedure that answers or doesn't, where these may be called
  abbrev pub HasRoutineForm : (Bool → List ℕ → Type 0) → Bool → Routine → Type 0
  HasRoutineForm IsCallable false routine =
      HasStmtForm IsCallable (in_body (scope_of program routine) unknown_shapes)
      routine.procedure.body
  HasRoutineForm IsCallable true routine =
      HasAnswerForm IsCallable (in_body (scope_of program routine) unknown_shapes)
      routine.procedure.body

  -- the name stands for such a procedure, down a chain of so many calls
  pub record IsOfForms (IsCallable : Bool → List ℕ → Type 0) (answers : Bool) (name : List ℕ)
      : Type 0 where
    pub routine : Routine
    pub named : routine_named program name ≡ Some routine
    pub form : HasRoutineForm IsCallable answers routine

  abbrev pub HasChainForms : ℕ → Bool → List ℕ → Type 0
  HasChainForms zero answers name = ⊥
  HasChainForms (suc depth) answers name = IsOfForms (HasChainForms depth) answers name

-- all that the program's procedures do, from the entry procedure on, is of these forms
abbrev pub HasShownForms : Program → Type 0
HasShownForms program = HasChainForms program longest_chain false program.name.text
