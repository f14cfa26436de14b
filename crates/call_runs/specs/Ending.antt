-- Bodies that end in a `return`.
use Rattle.zpl_tree.specs.Syntax.{Expr, Stmt, Prefixed, Stmts, NoStmt, ThenStmt, Form, Assign, Invoke, Block, If, While, Repeat, For, Border, Write, Return}
use Rattle.zpl_meaning.specs.Context.{Place}
use Rattle.prefix_runs.specs.of_zpl_lowering.Where.{Where}
use Rattle.prefix_runs.specs.of_zpl_lowering.Statement.{is_border}
use Rattle.prefix_runs.specs.Under.{IsUnder}

-- What is asked of the value that is returned.
module _ (IsValue : Expr → Where → Place → Type 0) where
  -- a value is returned
  abbrev pub IsReturned : Form → Where → Place → Type 0
  IsReturned (Return value) w place = IsValue value w place
  IsReturned (Assign name op value) w place = ⊥
  IsReturned (Invoke name actuals) w place = ⊥
  IsReturned (Block body) w place = ⊥
  IsReturned (If arms otherwise) w place = ⊥
  IsReturned (While test body) w place = ⊥
  IsReturned (Repeat body until test) w place = ⊥
  IsReturned (For head body) w place = ⊥
  IsReturned (Border kind names) w place = ⊥
  IsReturned (Write ends items) w place = ⊥

  -- behind any prefixes
  abbrev pub IsReturning : Stmt → Where → Place → Type 0
  IsReturning (Prefixed at prefixes form) w place =
      IsUnder (is_border form) prefixes (λ inner there. IsReturned form inner there) w place

  module _ (IsServed : Stmt → Where → Place → Type 0) where
    -- Statements of which something is asked, and then a `return`.
    abbrev pub AreAnswering : Stmts → Where → Place → Type 0
    AreAnswering NoStmt w place = ⊥
    AreAnswering (ThenStmt first NoStmt) w place = IsReturning first w place
    AreAnswering (ThenStmt first (ThenStmt second rest)) w place =
        IsServed first w place × AreAnswering (ThenStmt second rest) w place

    abbrev pub IsBlockAnswering : Form → Where → Place → Type 0
    IsBlockAnswering (Block body) w place = AreAnswering body w place
    IsBlockAnswering (Return value) w place = ⊥
    IsBlockAnswering (Assign name op value) w place = ⊥
    IsBlockAnswering (Invoke name actuals) w place = ⊥
    IsBlockAnswering (If arms otherwise) w place = ⊥
    IsBlockAnswering (While test body) w place = ⊥
    IsBlockAnswering (Repeat body until test) w place = ⊥
    IsBlockAnswering (For head body) w place = ⊥
    IsBlockAnswering (Border kind names) w place = ⊥
    IsBlockAnswering (Write ends items) w place = ⊥

    -- the body of a procedure that answers: a block behind any prefixes
    abbrev pub IsAnsweringBody : Stmt → Where → Place → Type 0
    IsAnsweringBody (Prefixed at prefixes form) w place =
        IsUnder (is_border form) prefixes (λ inner there. IsBlockAnswering form inner there) w place
