-- Programs of scalars: their procedures' statements are those for which it is proved here that code
-- goes as they do. Of text alone.
use Rattle.std.specs.Prelude.{◌≡◌, ℕ, zero, suc, false, List, [], ◌∷◌, Some}
use Rattle.zpl_nums.specs.Integer.{IsInteger}
use Rattle.std.specs.Prelude.{pos}
use Rattle.lowering_fits.specs.of_zpl_binding.Outcome.{value_or, outcome_of}
use Rattle.lowering_fits.specs.of_zpl_binding.Settings.{Setting}
use Rattle.lowering_fits.specs.of_zpl_binding.Declarations.{known_of}
use Rattle.zpl_tree.specs.Syntax.{Decl, Vars, Config, Constant, Regions, Directions, Defined, Exprs, NoExpr, ThenExpr, Item, Str, Value, Stmt, Prefixed, Stmts, NoStmt, ThenStmt, Form, Assign, Invoke, Block, If, While, Repeat, For, Border, Write, Return, Arm, Tested, Arms, NoArm, ThenArm, Otherwise, NoElse, Else, Program}
use Rattle.zpl_names.specs.Kinds.{Formal, ScalarFormal, ArrayFormal}
use Rattle.zpl_names.specs.Scope.{kind_of}
use Rattle.zpl_names.specs.Shapes.{unknown_shapes}
use Rattle.zpl_names.specs.Sites.{Reach, in_body, Assigned, Printed, whole_rank, handed, is_shattered}
use Rattle.zpl_names.specs.Declared.{Routine, routine_named, scope_of}
use Rattle.zpl_names.specs.Reached.{longest_chain}
use Rattle.lowering_fits.specs.of_zpl_meaning.Points.{assigned_expr}
use Rattle.lowering_fits.specs.of_zpl_meaning.Calls.{formals_in}
use Rattle.lowering_fits.specs.of_zpl_meaning.Proper.{HasNoPrefix}
use Rattle.lowering_fits.specs.of_zpl_meaning.Statement.{step_expr}
use Rattle.lowering_runs.specs.Scalars.{IsScalarExpr}
use Rattle.lowering_runs.specs.Frames.{AreScalarLocals}

-- arrays by value are left out
abbrev pub AreScalarActuals : List Formal → Exprs → Type 0
AreScalarActuals [] actuals = Unit {0}
AreScalarActuals (formal ∷ formals) NoExpr = Unit {0}
AreScalarActuals (ScalarFormal false base ∷ formals) (ThenExpr actual rest) =
    IsScalarExpr actual × AreScalarActuals formals rest
AreScalarActuals (ScalarFormal by_ref base ∷ formals) (ThenExpr actual rest) =
    AreScalarActuals formals rest
AreScalarActuals (ArrayFormal false base shape ∷ formals) (ThenExpr actual rest) = ⊥
AreScalarActuals (ArrayFormal by_ref base shape ∷ formals) (ThenExpr actual rest) =
    AreScalarActuals formals rest

-- rank 0
abbrev pub AreScalarTexts : Reach → List Item → Type 0
AreScalarTexts reach [] = Unit {0}
AreScalarTexts reach (Str bytes ∷ items) = AreScalarTexts reach items
AreScalarTexts reach (Value expr ∷ items) =
    (whole_rank reach Printed expr ≡ Some 0) × IsScalarExpr expr × AreScalarTexts reach items

-- what may be called, by its name
module _ (IsCallable : List ℕ → Type 0) (reach : Reach) where
  abbrev mutual
    pub IsScalarStmt : Stmt → Type 0
    IsScalarStmt (Prefixed at prefixes form) = HasNoPrefix prefixes × IsScalarForm form

    pub AreScalarStmts : Stmts → Type 0
    AreScalarStmts NoStmt = Unit {0}
    AreScalarStmts (ThenStmt first rest) = IsScalarStmt first × AreScalarStmts rest

    pub IsScalarForm : Form → Type 0
    IsScalarForm (Assign name op value) =
        (handed reach (Assigned name op) ≡ Some 0)
        × (whole_rank reach (Assigned name op) (assigned_expr name op value) ≡ Some 0)
        × IsScalarExpr (assigned_expr name op value)
    IsScalarForm (Invoke name actuals) =
        AreScalarActuals (formals_in (kind_of reach.scope name)) actuals × IsCallable name.text
    IsScalarForm (Block body) = AreScalarStmts body
    IsScalarForm (If arms otherwise) =
        (is_shattered reach (If arms otherwise) ≡ false) × AreScalarArms arms
        × IsScalarElse otherwise
    IsScalarForm (While test body) =
        (is_shattered reach (While test body) ≡ false) × IsScalarExpr test × AreScalarStmts body
    IsScalarForm (Repeat body until test) =
        (is_shattered reach (Repeat body until test) ≡ false) × IsScalarExpr test
        × AreScalarStmts body
    IsScalarForm (For head body) =
        IsScalarExpr head.first × IsScalarExpr head.last × IsScalarExpr (step_expr head.step)
        × AreScalarStmts body
    IsScalarForm (Border kind names) = ⊥
    IsScalarForm (Write line items) = AreScalarTexts reach items
    IsScalarForm (Return value) = ⊥

    pub AreScalarArms : Arms → Type 0
    AreScalarArms NoArm = Unit {0}
    AreScalarArms (ThenArm first rest) = IsScalarArm first × AreScalarArms rest

    pub IsScalarArm : Arm → Type 0
    IsScalarArm (Tested at test body) = IsScalarExpr test × AreScalarStmts body

    pub IsScalarElse : Otherwise → Type 0
    IsScalarElse NoElse = Unit {0}
    IsScalarElse (Else body) = AreScalarStmts body

-- a procedure, where these may be called
abbrev pub IsScalarRoutine : Program → (List ℕ → Type 0) → Routine → Type 0
IsScalarRoutine program IsCallable routine =
    AreScalarLocals routine.procedure.locals
    × IsScalarStmt IsCallable (record (in_body (scope_of program routine) unknown_shapes) {
      prefix = Some 0;
    }) routine.procedure.body

-- the name stands for such a procedure, down a chain of so many calls
pub record IsRoutine (program : Program) (IsCallable : List ℕ → Type 0) (name : List ℕ)
    : Type 0 where
  pub routine : Routine
  pub named : routine_named program name ≡ Some routine
  pub scalar : IsScalarRoutine program IsCallable routine

abbrev pub IsScalarCall : Program → ℕ → List ℕ → Type 0
IsScalarCall program zero name = ⊥
IsScalarCall program (suc depth) name = IsRoutine program (IsScalarCall program depth) name

-- no array is declared beside the procedures
abbrev pub AreScalarDecls : List Decl → Type 0
AreScalarDecls [] = Unit {0}
AreScalarDecls (Vars vars ∷ decls) = AreScalarLocals vars × AreScalarDecls decls
AreScalarDecls (Config configs ∷ decls) = AreScalarDecls decls
AreScalarDecls (Constant constants ∷ decls) = AreScalarDecls decls
AreScalarDecls (Regions regions ∷ decls) = AreScalarDecls decls
AreScalarDecls (Directions directions ∷ decls) = AreScalarDecls decls
AreScalarDecls (Defined procedure ∷ decls) = AreScalarDecls decls

-- A program of scalars, under settings: its variables are scalars, and so is all that its
-- procedures do, from the entry procedure on. Configs and constants have values of 64 bits.
pub record IsScalarProgram (program : Program) (settings : List Setting) : Type 0 where
  pub decls : AreScalarDecls program.decls
  pub values : (text : List ℕ)
      → IsInteger (value_or (pos 0) (outcome_of (pos 0) (known_of program settings).values text))
  pub entry : IsScalarCall program longest_chain program.name.text
