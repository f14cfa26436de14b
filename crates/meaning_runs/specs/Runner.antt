-- How the statements in a form are run: by themselves, or for one tuple of a shattered statement.
use Rattle.std.specs.Prelude.{ℕ}
use Rattle.zpl_meaning.specs.of_zpl_tree.Syntax.{Expr, Stmt, Stmts}
use Rattle.zpl_meaning.specs.Store.{Store}
use Rattle.zpl_meaning.specs.Outcome.{Outcome, Test}
use Rattle.zpl_meaning.specs.Points.{Point, point_test, point_stmt, point_stmts}
use Rattle.zpl_meaning.specs.Statement.{Context, test_of, exec, exec_all}

pub record Runner : Type 0 where
  -- how many turns each loop that is entered may make
  pub bound : ℕ
  pub one : Stmt → Store → Outcome
  pub all : Stmts → Store → Outcome
  -- the test that an expression is, whose line is that of an offset
  pub test : Expr → ℕ → Test

-- statements by themselves
abbrev pub runner_at : Context → ℕ → Runner
runner_at context n = record {
  bound = n;
  one = exec context n;
  all = exec_all context n;
  test = test_of context.place;
}

-- statements for a tuple; each test has the line of the whole
abbrev pub runner_of : Point → ℕ → Runner
runner_of point n = record {
  bound = n;
  one = point_stmt point n;
  all = point_stmts point n;
  test = λ expr at. point_test point expr;
}
