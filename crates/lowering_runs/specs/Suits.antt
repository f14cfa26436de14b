-- Statements that suit the places where they stand: what is asked of each form in them holds at the
-- place that it comes to. It is asked form by form, for any prefixes, for any tests and bounds, and
-- for any forms that have no statements in them.
use Rattle.std.specs.Prelude.{◌≡◌, ◌⊎◌, ℕ, Bool, false, List}
use Rattle.zpl_tree.specs.Syntax.{Expr, Prefix, ForHead, Stmt, Prefixed, Stmts, NoStmt, ThenStmt, Form, Assign, Invoke, Block, If, While, Repeat, For, Border, Write, Return, Arm, Tested, Arms, NoArm, ThenArm, Otherwise, NoElse, Else}
use Rattle.zpl_names.specs.Sites.{is_shattered}
use Rattle.lowering_fits.specs.of_zpl_meaning.Store.{thing_of}
use Rattle.lowering_fits.specs.of_zpl_meaning.Context.{Place, reach_of}
use Rattle.lowering_fits.specs.of_zpl_meaning.Proper.{IsVariable}
use Rattle.lowering_fits.specs.of_zpl_meaning.Statement.{step_expr}
use Rattle.lowering_fits.specs.of_zpl_lowering.Where.{Where}
use Rattle.lowering_fits.specs.of_zpl_lowering.Statement.{is_border}
use Rattle.lowering_runs.specs.Scalars.{IsScalarAt}

-- What is asked of a `for`, beside its body: of its bounds and its step, and of its variable.
abbrev pub IsServedHeadBy : (Expr → Where → Place → Type 0) → ForHead → Where → Place → Type 0
IsServedHeadBy IsBound head w place =
    IsBound head.first w place × IsBound head.last w place × IsBound (step_expr head.step) w place
    × IsVariable (thing_of place.environment head.name.text)

-- its bounds are of scalars
abbrev pub IsServedHead : ForHead → Place → Type 0
IsServedHead head place =
    IsScalarAt place head.first × IsScalarAt place head.last
    × IsScalarAt place (step_expr head.step)
    × IsVariable (thing_of place.environment head.name.text)

-- What is asked behind prefixes, whether these are of a border statement; of the tests of `if`,
-- `while` and `repeat`; of the bounds of `for`; and of a form that has no statements in it, or is
-- shattered, by its offset.
module _ (IsUnder : Bool → List Prefix → (Where → Place → Type 0) → Where → Place → Type 0)
    (IsTest IsBound : Expr → Where → Place → Type 0)
    (IsLeaf : ℕ → Form → Where → Place → Type 0) where
  abbrev mutual
    pub SuitsStmtBy : Stmt → Where → Place → Type 0
    SuitsStmtBy (Prefixed at prefixes form) w place =
        IsUnder (is_border form) prefixes (λ inner there. SuitsFormBy at form inner there) w place

    pub SuitAllBy : Stmts → Where → Place → Type 0
    SuitAllBy NoStmt w place = Unit {0}
    SuitAllBy (ThenStmt first rest) w place = SuitsStmtBy first w place × SuitAllBy rest w place

    pub SuitsFormBy : ℕ → Form → Where → Place → Type 0
    SuitsFormBy at (Assign name op value) w place = IsLeaf at (Assign name op value) w place
    SuitsFormBy at (Invoke name actuals) w place = IsLeaf at (Invoke name actuals) w place
    SuitsFormBy at (Block body) w place = SuitAllBy body w place
    SuitsFormBy at (If arms otherwise) w place =
        IsLeaf at (If arms otherwise) w place
        ⊎ ((is_shattered (reach_of place) (If arms otherwise) ≡ false)
        × (SuitArmsBy arms w place × SuitsElseBy otherwise w place))
    SuitsFormBy at (While test body) w place =
        IsLeaf at (While test body) w place
        ⊎ ((is_shattered (reach_of place) (While test body) ≡ false)
        × (IsTest test w place × SuitAllBy body w place))
    SuitsFormBy at (Repeat body until test) w place =
        IsLeaf at (Repeat body until test) w place
        ⊎ ((is_shattered (reach_of place) (Repeat body until test) ≡ false)
        × (IsTest test w place × SuitAllBy body w place))
    SuitsFormBy at (For head body) w place =
        IsServedHeadBy IsBound head w place × SuitAllBy body w place
    SuitsFormBy at (Border kind names) w place = IsLeaf at (Border kind names) w place
    SuitsFormBy at (Write line items) w place = IsLeaf at (Write line items) w place
    SuitsFormBy at (Return value) w place = IsLeaf at (Return value) w place

    pub SuitArmsBy : Arms → Where → Place → Type 0
    SuitArmsBy NoArm w place = Unit {0}
    SuitArmsBy (ThenArm first rest) w place = SuitsArmBy first w place × SuitArmsBy rest w place

    pub SuitsArmBy : Arm → Where → Place → Type 0
    SuitsArmBy (Tested at test body) w place = IsTest test w place × SuitAllBy body w place

    pub SuitsElseBy : Otherwise → Where → Place → Type 0
    SuitsElseBy NoElse w place = Unit {0}
    SuitsElseBy (Else body) w place = SuitAllBy body w place

-- a test is of scalars
abbrev pub ScalarTest : Expr → Where → Place → Type 0
ScalarTest test w place = IsScalarAt place test

-- and so is a bound
abbrev pub ScalarBound : Expr → Where → Place → Type 0
ScalarBound bound w place = IsScalarAt place bound

-- the same, where all tests and bounds are of scalars
module _ (IsUnder : Bool → List Prefix → (Where → Place → Type 0) → Where → Place → Type 0)
    (IsLeaf : ℕ → Form → Where → Place → Type 0) where
  abbrev pub SuitsStmt : Stmt → Where → Place → Type 0
  SuitsStmt stmt w place = SuitsStmtBy IsUnder ScalarTest ScalarBound IsLeaf stmt w place

  abbrev pub SuitAll : Stmts → Where → Place → Type 0
  SuitAll stmts w place = SuitAllBy IsUnder ScalarTest ScalarBound IsLeaf stmts w place

  abbrev pub SuitsForm : ℕ → Form → Where → Place → Type 0
  SuitsForm at form w place = SuitsFormBy IsUnder ScalarTest ScalarBound IsLeaf at form w place

  abbrev pub SuitArms : Arms → Where → Place → Type 0
  SuitArms arms w place = SuitArmsBy IsUnder ScalarTest ScalarBound IsLeaf arms w place

  abbrev pub SuitsElse : Otherwise → Where → Place → Type 0
  SuitsElse otherwise w place = SuitsElseBy IsUnder ScalarTest ScalarBound IsLeaf otherwise w place
