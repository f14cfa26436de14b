-- Statements of scalars, where a program is run.
use Rattle.std.specs.Prelude.{◌≡◌, ℕ, List, [], Contains}
use Rattle.zpl_tree.specs.Syntax.{Stmt, Prefixed, Stmts, Form}
use Rattle.lowering_fits.specs.of_zpl_meaning.Context.{Setup, Place, reach_of}
use Rattle.lowering_fits.specs.of_zpl_meaning.Visited.{IsVisited, list_of}
use Rattle.lowering_runs.specs.ScalarText.{IsScalarStmt, AreScalarStmts, IsScalarForm}

module _ (setup : Setup) (IsCallable : List ℕ → Type 0) where
  pub record IsServed (stmt : Stmt) (place : Place) : Type 0 where
    pub setup_is : place.setup ≡ setup
    pub visited : IsVisited setup place stmt
    pub scalar : IsScalarStmt IsCallable (reach_of place) stmt

  pub record AreServed (stmts : Stmts) (place : Place) : Type 0 where
    pub setup_is : place.setup ≡ setup
    pub visited : (stmt : Stmt) → Contains (list_of stmts) stmt → IsVisited setup place stmt
    pub scalar : AreScalarStmts IsCallable (reach_of place) stmts

  -- of a statement without prefixes
  pub record IsServedForm (at : ℕ) (form : Form) (place : Place) : Type 0 where
    pub setup_is : place.setup ≡ setup
    pub visited : IsVisited setup place (Prefixed at [] form)
    pub scalar : IsScalarForm IsCallable (reach_of place) form
