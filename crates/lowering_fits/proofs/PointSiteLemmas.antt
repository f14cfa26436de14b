-- What the parts of statements have of their own: the actuals of calls, right sides, and statements
-- that are shattered.
use Rattle.std.proofs.Common.{◌≡◌, true, List, [], ◌∷◌, ◌++◌, refl}
use Rattle.std.specs.Prelude.{Option, Some, None}
use Rattle.zpl_nums.specs.declared.operators.Op.{Op}
use Rattle.meaning_ranks.specs.of_zpl_tree.Syntax.{Name, Expr, Number, Truth, Coord, Named, Shifted, Around, Remap, Call, Paren, Neg, Not, Abs, Pair, Reduce, Scan, Flood, Exprs, ThenExpr, Stmt, Prefixed, Stmts, NoStmt, ThenStmt, Form, Assign, Invoke, Block, If, While, Repeat, For, Border, Write, Return, Tested, Arms, NoArm, ThenArm, Otherwise, NoElse, Else}
use Rattle.meaning_ranks.specs.of_zpl_names.Kinds.{Rank}
use Rattle.meaning_ranks.specs.of_zpl_names.Types.{is_elementwise}
use Rattle.meaning_ranks.specs.of_zpl_names.Sites.{Reach, Actual, Assigned, Test, whole_rank, inside, Site, AtWhole, AtNamed, expr_sites, actuals_sites, whole_sites, value_sites, test_rank, arms_rank, stmt_sites, stmts_sites, form_sites, arms_sites, otherwise_sites}
use Rattle.meaning_ranks.specs.of_zpl_meaning.Store.{Environment}
use Rattle.meaning_ranks.specs.of_zpl_meaning.Context.{Place}
use Rattle.meaning_ranks.specs.of_zpl_meaning.Calls.{actual_thing}
use Rattle.meaning_ranks.specs.of_zpl_meaning.Proper.{IsArray, IsVariable, IsPoint, ArePoints, IsPointForm, ArePointArms, IsPointElse}
use Rattle.meaning_ranks.specs.Ranked.{IsPointOf, ArePointsOf, IsPointFormOf, ArePointArmsOf, IsPointElseOf}
use Rattle.lowering_fits.proofs.TallyLemmas.{IsSilent, no_sites, silent_both}
use Rattle.lowering_fits.proofs.MadeLemmas.{elementwise_silent}

-- ---- actuals

-- the sites of one actual
abbrev pub actual_sites : Reach → Expr → List Site
actual_sites reach (Named at name) = AtNamed reach name ∷ []
actual_sites reach actual =
    AtWhole reach Actual actual ∷ expr_sites reach (whole_rank reach Actual actual) actual

pub actuals_split : (reach : Reach) (first : Expr) (rest : Exprs) →
    actuals_sites reach (ThenExpr first rest) ≡
    actual_sites reach first ++ actuals_sites reach rest
actuals_split reach (Number at value) rest = refl
actuals_split reach (Truth at value) rest = refl
actuals_split reach (Coord at k) rest = refl
actuals_split reach (Named at name) rest = refl
actuals_split reach (Shifted at name shift) rest = refl
actuals_split reach (Around at name shift) rest = refl
actuals_split reach (Remap at name indices) rest = refl
actuals_split reach (Call at callee actuals) rest = refl
actuals_split reach (Paren at inside) rest = refl
actuals_split reach (Neg at operand) rest = refl
actuals_split reach (Not at operand) rest = refl
actuals_split reach (Abs at operand) rest = refl
actuals_split reach (Pair at operator left right) rest = refl
actuals_split reach (Reduce at operator over operand) rest = refl
actuals_split reach (Scan at operator along operand) rest = refl
actuals_split reach (Flood at source operand) rest = refl

-- an actual that is a name
abbrev pub IsNamed : Expr → Type 0
IsNamed (Number at value) = ⊥
IsNamed (Truth at value) = ⊥
IsNamed (Coord at k) = ⊥
IsNamed (Named at name) = Unit {0}
IsNamed (Shifted at name shift) = ⊥
IsNamed (Around at name shift) = ⊥
IsNamed (Remap at name indices) = ⊥
IsNamed (Call at callee actuals) = ⊥
IsNamed (Paren at inside) = ⊥
IsNamed (Neg at operand) = ⊥
IsNamed (Not at operand) = ⊥
IsNamed (Abs at operand) = ⊥
IsNamed (Pair at operator left right) = ⊥
IsNamed (Reduce at operator over operand) = ⊥
IsNamed (Scan at operator along operand) = ⊥
IsNamed (Flood at source operand) = ⊥

pub variable_named : (environment : Environment) (actual : Expr) →
    IsVariable (actual_thing environment actual) → IsNamed actual
variable_named environment (Number at value) is = absurd is
variable_named environment (Truth at value) is = absurd is
variable_named environment (Coord at k) is = absurd is
variable_named environment (Named at name) is = tt
variable_named environment (Shifted at name shift) is = absurd is
variable_named environment (Around at name shift) is = absurd is
variable_named environment (Remap at name indices) is = absurd is
variable_named environment (Call at callee actuals) is = absurd is
variable_named environment (Paren at inside) is = absurd is
variable_named environment (Neg at operand) is = absurd is
variable_named environment (Not at operand) is = absurd is
variable_named environment (Abs at operand) is = absurd is
variable_named environment (Pair at operator left right) is = absurd is
variable_named environment (Reduce at operator over operand) is = absurd is
variable_named environment (Scan at operator along operand) is = absurd is
variable_named environment (Flood at source operand) is = absurd is

pub array_named : (environment : Environment) (actual : Expr) →
    IsArray (actual_thing environment actual) → IsNamed actual
array_named environment (Number at value) is = absurd is
array_named environment (Truth at value) is = absurd is
array_named environment (Coord at k) is = absurd is
array_named environment (Named at name) is = tt
array_named environment (Shifted at name shift) is = absurd is
array_named environment (Around at name shift) is = absurd is
array_named environment (Remap at name indices) is = absurd is
array_named environment (Call at callee actuals) is = absurd is
array_named environment (Paren at inside) is = absurd is
array_named environment (Neg at operand) is = absurd is
array_named environment (Not at operand) is = absurd is
array_named environment (Abs at operand) is = absurd is
array_named environment (Pair at operator left right) is = absurd is
array_named environment (Reduce at operator over operand) is = absurd is
array_named environment (Scan at operator along operand) is = absurd is
array_named environment (Flood at source operand) is = absurd is

pub named_silent : (reach : Reach) (actual : Expr) → IsNamed actual →
    IsSilent (actual_sites reach actual)
named_silent reach (Number at value) is = absurd is
named_silent reach (Truth at value) is = absurd is
named_silent reach (Coord at k) is = absurd is
named_silent reach (Named at name) is = record { reads = refl; calls = λ n. refl }
named_silent reach (Shifted at name shift) is = absurd is
named_silent reach (Around at name shift) is = absurd is
named_silent reach (Remap at name indices) is = absurd is
named_silent reach (Call at callee actuals) is = absurd is
named_silent reach (Paren at inside) is = absurd is
named_silent reach (Neg at operand) is = absurd is
named_silent reach (Not at operand) is = absurd is
named_silent reach (Abs at operand) is = absurd is
named_silent reach (Pair at operator left right) is = absurd is
named_silent reach (Reduce at operator over operand) is = absurd is
named_silent reach (Scan at operator along operand) is = absurd is
named_silent reach (Flood at source operand) is = absurd is

-- ---- right sides that are elementwise

pub value_silent : (reach : Reach) (name : Name) (op : Option Op) (value : Expr) →
    is_elementwise value ≡ true → IsSilent (value_sites reach name op value)
value_silent reach name (Some op) value is =
    let later = elementwise_silent reach (whole_rank reach (Assigned name (Some op)) value) value
    is in
    record { reads = later.reads; calls = later.calls }
value_silent reach name None (Number offset value) is =
    let later = elementwise_silent reach (whole_rank reach (Assigned name None) (Number offset value))
    (Number offset value) is in
    record { reads = later.reads; calls = later.calls }
value_silent reach name None (Truth offset value) is =
    let later = elementwise_silent reach (whole_rank reach (Assigned name None) (Truth offset value))
    (Truth offset value) is in
    record { reads = later.reads; calls = later.calls }
value_silent reach name None (Coord offset k) is =
    let later = elementwise_silent reach (whole_rank reach (Assigned name None) (Coord offset k))
    (Coord offset k) is in
    record { reads = later.reads; calls = later.calls }
value_silent reach name None (Named offset read) is =
    let later = elementwise_silent reach (whole_rank reach (Assigned name None) (Named offset read))
    (Named offset read) is in
    record { reads = later.reads; calls = later.calls }
value_silent reach name None (Shifted offset read shift) is = let no : ⊥ = cc in absurd no
value_silent reach name None (Around offset read shift) is = let no : ⊥ = cc in absurd no
value_silent reach name None (Remap offset read indices) is = let no : ⊥ = cc in absurd no
value_silent reach name None (Call offset callee actuals) is = let no : ⊥ = cc in absurd no
value_silent reach name None (Paren offset inside) is =
    let later = elementwise_silent reach (whole_rank reach (Assigned name None) (Paren offset inside))
    (Paren offset inside) is in
    record { reads = later.reads; calls = later.calls }
value_silent reach name None (Neg offset operand) is =
    let later = elementwise_silent reach (whole_rank reach (Assigned name None) (Neg offset operand))
    (Neg offset operand) is in
    record { reads = later.reads; calls = later.calls }
value_silent reach name None (Not offset operand) is =
    let later = elementwise_silent reach (whole_rank reach (Assigned name None) (Not offset operand))
    (Not offset operand) is in
    record { reads = later.reads; calls = later.calls }
value_silent reach name None (Abs offset operand) is =
    let later = elementwise_silent reach (whole_rank reach (Assigned name None) (Abs offset operand))
    (Abs offset operand) is in
    record { reads = later.reads; calls = later.calls }
value_silent reach name None (Pair offset operator left right) is =
    let later = elementwise_silent reach (whole_rank reach (Assigned name None) (Pair offset operator left right))
    (Pair offset operator left right) is in
    record { reads = later.reads; calls = later.calls }
value_silent reach name None (Reduce offset operator over operand) is = let no : ⊥ = cc in absurd no
value_silent reach name None (Scan offset operator along operand) is = let no : ⊥ = cc in absurd no
value_silent reach name None (Flood offset source operand) is = let no : ⊥ = cc in absurd no

test_silent : (reach : Reach) (test : Expr) → is_elementwise test ≡ true →
    IsSilent (whole_sites reach Test test)
test_silent reach test is =
    let later = elementwise_silent reach (whole_rank reach Test test) test is in
    record { reads = later.reads; calls = later.calls }

-- ---- statements that are shattered

mutual
  point_silent : (reach : Reach) (place : Place) (rank : Rank) (stmt : Stmt) →
      IsPoint place rank stmt → IsPointOf place rank stmt → IsSilent (stmt_sites reach stmt)
  point_silent reach place rank (Prefixed at [] form) is of =
      let later = form_silent reach place rank form is.1 of in
      record { reads = later.reads; calls = later.calls }
  point_silent reach place rank (Prefixed at (prefix ∷ rest) form) is of = absurd is.0

  points_silent : (reach : Reach) (place : Place) (rank : Rank) (stmts : Stmts) →
      ArePoints place rank stmts → ArePointsOf place rank stmts →
      IsSilent (stmts_sites reach stmts)
  points_silent reach place rank NoStmt are of = no_sites
  points_silent reach place rank (ThenStmt first rest) are of =
      silent_both (stmt_sites reach first) (stmts_sites reach rest)
      (point_silent reach place rank first are.0 of.0)
      (points_silent reach place rank rest are.1 of.1)

  pub form_silent : (reach : Reach) (place : Place) (rank : Rank) (form : Form) →
      IsPointForm place rank form → IsPointFormOf place rank form →
      IsSilent (form_sites reach form)
  form_silent reach place rank (Assign name op value) is of =
      value_silent reach name op value of.1.0
  form_silent reach place rank (Block body) is of =
      points_silent (inside reach (Some 0)) place rank body is of
  form_silent reach place rank (If arms otherwise) is of =
      let within = inside reach (arms_rank reach arms) in
      silent_both (arms_sites reach within arms) (otherwise_sites within otherwise)
      (arms_silent reach within place rank arms is.0 of.0)
      (else_silent within place rank otherwise is.1 of.1)
  form_silent reach place rank (While test body) is of =
      let within = inside reach (test_rank reach test) in
      silent_both (whole_sites reach Test test) (stmts_sites within body)
      (test_silent reach test of.0.0) (points_silent within place rank body is.1 of.1)
  form_silent reach place rank (Repeat body until test) is of =
      let within = inside reach (test_rank reach test) in
      silent_both (stmts_sites within body) (whole_sites reach Test test)
      (points_silent within place rank body is.1 of.1) (test_silent reach test of.0.0)
  form_silent reach place rank (Invoke name actuals) is of = absurd is
  form_silent reach place rank (For head body) is of = absurd is
  form_silent reach place rank (Border kind names) is of = absurd is
  form_silent reach place rank (Write ends items) is of = absurd is
  form_silent reach place rank (Return value) is of = absurd is

  arms_silent : (reach within : Reach) (place : Place) (rank : Rank) (arms : Arms) →
      ArePointArms place rank arms → ArePointArmsOf place rank arms →
      IsSilent (arms_sites reach within arms)
  arms_silent reach within place rank NoArm are of = no_sites
  arms_silent reach within place rank (ThenArm (Tested at test body) rest) are of =
      silent_both (whole_sites reach Test test ++ stmts_sites within body)
      (arms_sites reach within rest)
      (silent_both (whole_sites reach Test test) (stmts_sites within body)
      (test_silent reach test of.0.0.0) (points_silent within place rank body are.0.1 of.0.1))
      (arms_silent reach within place rank rest are.1 of.1)

  else_silent : (within : Reach) (place : Place) (rank : Rank) (otherwise : Otherwise) →
      IsPointElse place rank otherwise → IsPointElseOf place rank otherwise →
      IsSilent (otherwise_sites within otherwise)
  else_silent within place rank NoElse is of = no_sites
  else_silent within place rank (Else body) is of = points_silent within place rank body is of
