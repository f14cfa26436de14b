-- Programs all of whose statements are of forms for which it is proved that code goes as they do. Of
-- text alone.
use Rattle.std.specs.Prelude.{◌≡◌, ◌⊎◌, ℕ, zero, suc, Bool, true, false, pos, List, [], ◌∷◌, Option, Some, None}
use Rattle.zpl_nums.specs.declared.operators.Op.{Op}
use Rattle.zpl_nums.specs.Integer.{IsInteger}
use Rattle.zpl_tree.specs.Syntax.{NoBracket, Bracketed, Inner, Rexpr, Dims, Expr, Number, Truth, Coord, Named, Shifted, Around, Remap, Call, Paren, Neg, Not, Abs, Pair, Reduce, Scan, Flood, Exprs, NoExpr, ThenExpr, Item, Str, Value, Prefix, Stmt, Prefixed, Stmts, NoStmt, ThenStmt, Form, Assign, Invoke, Block, If, While, Repeat, For, Border, Write, Return, Arm, Tested, Arms, NoArm, ThenArm, Otherwise, NoElse, Else, Program}
use Rattle.zpl_names.specs.Kinds.{Formal, ScalarFormal, ArrayFormal}
use Rattle.zpl_names.specs.Scope.{kind_of}
use Rattle.zpl_names.specs.Shapes.{prefix_rank, unknown_shapes}
use Rattle.zpl_names.specs.Sites.{Reach, in_body, is_shattered}
use Rattle.zpl_names.specs.Declared.{Routine, routine_named, scope_of}
use Rattle.zpl_names.specs.Reached.{longest_chain}
use Rattle.zpl_binding.specs.Outcome.{value_or, outcome_of}
use Rattle.zpl_binding.specs.Settings.{Setting}
use Rattle.zpl_binding.specs.Declarations.{known_of}
use Rattle.zpl_meaning.specs.Points.{Part, Reads, Writes, form_parts}
use Rattle.zpl_meaning.specs.Calls.{formals_in}
use Rattle.zpl_meaning.specs.Statement.{step_expr}
use Rattle.row_runs.specs.Straight.{Every}
use Rattle.served_places.specs.Told.{IsPlainExpr}
use Rattle.served_places.specs.Given.{HaveSmallDims}

-- ---- prefixes

-- the numbers of bounds are of 64 bits
abbrev pub HasSmallInner : Inner → Type 0
HasSmallInner (Rexpr pre base post) = Unit {0}
HasSmallInner (Dims dims) = HaveSmallDims dims

abbrev pub HaveSmallPrefixes : List Prefix → Type 0
HaveSmallPrefixes [] = Unit {0}
HaveSmallPrefixes (prefix ∷ rest) = HasSmallInner prefix.region × HaveSmallPrefixes rest

abbrev pub behind_prefix : Reach → Prefix → Reach
behind_prefix reach prefix =
    record reach { prefix = prefix_rank reach.scope reach.prefix prefix }

abbrev pub behind_prefixes : Reach → List Prefix → Reach
behind_prefixes reach [] = reach
behind_prefixes reach (prefix ∷ rest) = behind_prefixes (behind_prefix reach prefix) rest

-- ---- values with operators over regions

-- A value with full and partial folds, scans, floods and remap reads, also in one another's
-- operands, and reads that wrap round. Numbers are of 64 bits, also in brackets.
abbrev mutual
  pub IsOperatedText : Expr → Type 0
  IsOperatedText (Number at value) = IsInteger value
  IsOperatedText (Truth at value) = Unit {0}
  IsOperatedText (Coord at k) = Unit {0}
  IsOperatedText (Named at name) = Unit {0}
  IsOperatedText (Shifted at name shift) = Unit {0}
  IsOperatedText (Paren at inside) = IsOperatedText inside
  IsOperatedText (Neg at operand) = IsOperatedText operand
  IsOperatedText (Not at operand) = IsOperatedText operand
  IsOperatedText (Abs at operand) = IsOperatedText operand
  IsOperatedText (Pair at op left right) = IsOperatedText left × IsOperatedText right
  IsOperatedText (Reduce at operator NoBracket operand) = IsOperatedText operand
  IsOperatedText (Reduce at operator (Bracketed source) operand) =
      HasSmallInner source × IsOperatedText operand
  IsOperatedText (Flood at source operand) = HasSmallInner source × IsOperatedText operand
  IsOperatedText (Scan at operator along operand) = IsOperatedText operand
  IsOperatedText (Remap at name indices) = AreOperatedIndices indices
  IsOperatedText (Around at name shift) = Unit {0}
  IsOperatedText (Call at name actuals) = ⊥

  pub AreOperatedIndices : Exprs → Type 0
  AreOperatedIndices NoExpr = Unit {0}
  AreOperatedIndices (ThenExpr first rest) = IsOperatedText first × AreOperatedIndices rest

-- a value is returned, which may have operators over regions
abbrev pub IsReturnForm : Form → Type 0
IsReturnForm (Return value) = IsOperatedText value
IsReturnForm (Assign name op value) = ⊥
IsReturnForm (Invoke name actuals) = ⊥
IsReturnForm (Block body) = ⊥
IsReturnForm (If arms otherwise) = ⊥
IsReturnForm (While test body) = ⊥
IsReturnForm (Repeat body until test) = ⊥
IsReturnForm (For head body) = ⊥
IsReturnForm (Border kind names) = ⊥
IsReturnForm (Write line items) = ⊥

-- behind any prefixes
abbrev pub IsReturnText : Stmt → Type 0
IsReturnText (Prefixed at prefixes form) = HaveSmallPrefixes prefixes × IsReturnForm form

-- ---- statements, for any forms that have no statements in them, or are shattered

module _ (IsLeaf : Reach → Form → Type 0) where
  abbrev mutual
    pub IsShownStmt : Reach → Stmt → Type 0
    IsShownStmt reach (Prefixed at prefixes form) =
        HaveSmallPrefixes prefixes × IsShownForm (behind_prefixes reach prefixes) form

    pub AreShown : Reach → Stmts → Type 0
    AreShown reach NoStmt = Unit {0}
    AreShown reach (ThenStmt first rest) = IsShownStmt reach first × AreShown reach rest

    pub IsShownForm : Reach → Form → Type 0
    IsShownForm reach (Assign name op value) = IsLeaf reach (Assign name op value)
    IsShownForm reach (Invoke name actuals) = IsLeaf reach (Invoke name actuals)
    IsShownForm reach (Block body) = AreShown reach body
    IsShownForm reach (If arms otherwise) =
        IsLeaf reach (If arms otherwise)
        ⊎ ((is_shattered reach (If arms otherwise) ≡ false)
        × (AreShownArms reach arms × IsShownElse reach otherwise))
    IsShownForm reach (While test body) =
        IsLeaf reach (While test body)
        ⊎ ((is_shattered reach (While test body) ≡ false)
        × (IsOperatedText test × AreShown reach body))
    IsShownForm reach (Repeat body until test) =
        IsLeaf reach (Repeat body until test)
        ⊎ ((is_shattered reach (Repeat body until test) ≡ false)
        × (IsOperatedText test × AreShown reach body))
    IsShownForm reach (For head body) =
        (IsOperatedText head.first × IsOperatedText head.last × IsOperatedText (step_expr head.step))
        × AreShown reach body
    IsShownForm reach (Border kind names) = IsLeaf reach (Border kind names)
    IsShownForm reach (Write line items) = IsLeaf reach (Write line items)
    IsShownForm reach (Return value) = IsLeaf reach (Return value)

    pub AreShownArms : Reach → Arms → Type 0
    AreShownArms reach NoArm = Unit {0}
    AreShownArms reach (ThenArm first rest) = IsShownArm reach first × AreShownArms reach rest

    pub IsShownArm : Reach → Arm → Type 0
    IsShownArm reach (Tested at test body) = IsOperatedText test × AreShown reach body

    pub IsShownElse : Reach → Otherwise → Type 0
    IsShownElse reach NoElse = Unit {0}
    IsShownElse reach (Else body) = AreShown reach body

  -- bodies of procedures that answer: statements of these forms, and then a `return`
  abbrev pub AreAnsweringTexts : Reach → Stmts → Type 0
  AreAnsweringTexts reach NoStmt = ⊥
  AreAnsweringTexts reach (ThenStmt first NoStmt) = IsReturnText first
  AreAnsweringTexts reach (ThenStmt first (ThenStmt second rest)) =
      IsShownStmt reach first × AreAnsweringTexts reach (ThenStmt second rest)

  abbrev pub IsAnsweringForm : Reach → Form → Type 0
  IsAnsweringForm reach (Block body) = AreAnsweringTexts reach body
  IsAnsweringForm reach (Assign name op value) = ⊥
  IsAnsweringForm reach (Invoke name actuals) = ⊥
  IsAnsweringForm reach (If arms otherwise) = ⊥
  IsAnsweringForm reach (While test body) = ⊥
  IsAnsweringForm reach (Repeat body until test) = ⊥
  IsAnsweringForm reach (For head body) = ⊥
  IsAnsweringForm reach (Border kind names) = ⊥
  IsAnsweringForm reach (Write line items) = ⊥
  IsAnsweringForm reach (Return value) = ⊥

  -- in a block behind any prefixes
  abbrev pub IsAnsweringText : Reach → Stmt → Type 0
  IsAnsweringText reach (Prefixed at prefixes form) =
      HaveSmallPrefixes prefixes × IsAnsweringForm (behind_prefixes reach prefixes) form

-- ---- the forms that are proved

-- what parameters take: a value of a scalar may have operators over regions
abbrev pub AreCallTexts : List Formal → Exprs → Type 0
AreCallTexts [] actuals = Unit {0}
AreCallTexts (formal ∷ formals) NoExpr = Unit {0}
AreCallTexts (ScalarFormal false base ∷ formals) (ThenExpr actual rest) =
    IsOperatedText actual × AreCallTexts formals rest
AreCallTexts (ScalarFormal true base ∷ formals) (ThenExpr actual rest) =
    AreCallTexts formals rest
AreCallTexts (ArrayFormal by_ref base shape ∷ formals) (ThenExpr actual rest) =
    AreCallTexts formals rest

-- a procedure that answers is called, and the answer assigned
abbrev pub IsAskedText : (Bool → List ℕ → Type 0) → Reach → Option Op → Expr → Type 0
IsAskedText IsCallable reach None (Call at name actuals) =
    AreCallTexts (formals_in (kind_of reach.scope name)) actuals × IsCallable true name.text
IsAskedText IsCallable reach None (Number at number) = ⊥
IsAskedText IsCallable reach None (Truth at truth) = ⊥
IsAskedText IsCallable reach None (Coord at k) = ⊥
IsAskedText IsCallable reach None (Named at it) = ⊥
IsAskedText IsCallable reach None (Shifted at it shift) = ⊥
IsAskedText IsCallable reach None (Around at it shift) = ⊥
IsAskedText IsCallable reach None (Remap at it indices) = ⊥
IsAskedText IsCallable reach None (Paren at inside) = ⊥
IsAskedText IsCallable reach None (Neg at operand) = ⊥
IsAskedText IsCallable reach None (Not at operand) = ⊥
IsAskedText IsCallable reach None (Abs at operand) = ⊥
IsAskedText IsCallable reach None (Pair at op left right) = ⊥
IsAskedText IsCallable reach None (Reduce at operator over operand) = ⊥
IsAskedText IsCallable reach None (Scan at operator along operand) = ⊥
IsAskedText IsCallable reach None (Flood at source operand) = ⊥
IsAskedText IsCallable reach (Some op) value = ⊥

-- A procedure is called that may be, with values of scalars, which may have operators over regions,
-- references, and copies of arrays: as a statement, or for its answer.
abbrev pub IsCallForm : (Bool → List ℕ → Type 0) → Reach → Form → Type 0
IsCallForm IsCallable reach (Invoke name actuals) =
    AreCallTexts (formals_in (kind_of reach.scope name)) actuals × IsCallable false name.text
IsCallForm IsCallable reach (Assign name op value) = IsAskedText IsCallable reach op value
IsCallForm IsCallable reach (Write line items) = ⊥
IsCallForm IsCallable reach (Block body) = ⊥
IsCallForm IsCallable reach (If arms otherwise) = ⊥
IsCallForm IsCallable reach (While test body) = ⊥
IsCallForm IsCallable reach (Repeat body until test) = ⊥
IsCallForm IsCallable reach (For head body) = ⊥
IsCallForm IsCallable reach (Border kind names) = ⊥
IsCallForm IsCallable reach (Return value) = ⊥

abbrev pub IsBorderForm : Reach → Form → Type 0
IsBorderForm reach (Border kind names) = Unit {0}
IsBorderForm reach (Assign name op value) = ⊥
IsBorderForm reach (Invoke name actuals) = ⊥
IsBorderForm reach (Block body) = ⊥
IsBorderForm reach (If arms otherwise) = ⊥
IsBorderForm reach (While test body) = ⊥
IsBorderForm reach (Repeat body until test) = ⊥
IsBorderForm reach (For head body) = ⊥
IsBorderForm reach (Write line items) = ⊥
IsBorderForm reach (Return value) = ⊥

-- what is read has no operators over regions, and numbers of 64 bits
abbrev pub IsPlainPart : Part → Type 0
IsPlainPart (Reads expr) = IsPlainExpr expr
IsPlainPart (Writes name) = Unit {0}

-- an `if`, a `while` or a `repeat` whose tests are arrays
abbrev pub IsShatteredForm : Reach → Form → Type 0
IsShatteredForm reach form =
    (is_shattered reach form ≡ true) × Every IsPlainPart (form_parts form)

-- texts, scalars and arrays are printed, with values that have operators over regions
abbrev pub AreOperatedTexts : List Item → Type 0
AreOperatedTexts [] = Unit {0}
AreOperatedTexts (Str bytes ∷ items) = AreOperatedTexts items
AreOperatedTexts (Value expr ∷ items) = IsOperatedText expr × AreOperatedTexts items

-- a scalar or an array is assigned such a value, or such values are printed
abbrev pub IsOperatedForm : Reach → Form → Type 0
IsOperatedForm reach (Assign name op value) = IsOperatedText value
IsOperatedForm reach (Write line items) = AreOperatedTexts items
IsOperatedForm reach (Invoke name actuals) = ⊥
IsOperatedForm reach (Block body) = ⊥
IsOperatedForm reach (If arms otherwise) = ⊥
IsOperatedForm reach (While test body) = ⊥
IsOperatedForm reach (Repeat body until test) = ⊥
IsOperatedForm reach (For head body) = ⊥
IsOperatedForm reach (Border kind names) = ⊥
IsOperatedForm reach (Return value) = ⊥

-- A form that is proved: further ones are further lines.
abbrev pub IsLeafForm : (Bool → List ℕ → Type 0) → Reach → Form → Type 0
IsLeafForm IsCallable reach form =
    IsBorderForm reach form
    ⊎ (IsShatteredForm reach form
    ⊎ (IsOperatedForm reach form
    ⊎ IsCallForm IsCallable reach form))

-- ---- procedures and programs

module _ (IsLeaf : (Bool → List ℕ → Type 0) → Reach → Form → Type 0) (program : Program) where
  -- the body of a procedure that answers or doesn't, where these may be called
  abbrev pub IsShownRoutine : (Bool → List ℕ → Type 0) → Bool → Routine → Type 0
  IsShownRoutine IsCallable false routine =
      IsShownStmt (IsLeaf IsCallable) (in_body (scope_of program routine) unknown_shapes)
      routine.procedure.body
  IsShownRoutine IsCallable true routine =
      IsAnsweringText (IsLeaf IsCallable) (in_body (scope_of program routine) unknown_shapes)
      routine.procedure.body

  -- the name stands for such a procedure, down a chain of so many calls
  pub record IsRoutine (IsCallable : Bool → List ℕ → Type 0) (answers : Bool) (name : List ℕ)
      : Type 0 where
    pub routine : Routine
    pub named : routine_named program name ≡ Some routine
    pub shown : IsShownRoutine IsCallable answers routine

  abbrev pub IsShownCall : ℕ → Bool → List ℕ → Type 0
  IsShownCall zero answers name = ⊥
  IsShownCall (suc depth) answers name = IsRoutine (IsShownCall depth) answers name

-- A program of these forms, under settings: all that its procedures do, from the entry procedure on,
-- is of them. Configs and constants have values of 64 bits.
pub record IsShownProgram (program : Program) (settings : List Setting) : Type 0 where
  pub values : (text : List ℕ)
      → IsInteger (value_or (pos 0) (outcome_of (pos 0) (known_of program settings).values text))
  pub entry : IsShownCall IsLeafForm program longest_chain false program.name.text
