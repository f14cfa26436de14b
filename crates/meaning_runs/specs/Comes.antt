-- What the run of a form comes to: the statements in it, each with the store that it finds there,
-- and the turns of its loops.
use Rattle.std.specs.Prelude.{◌≡◌, ℕ, zero, suc, true, false, ℤ}
use Rattle.zpl_nums.specs.declared.ends.End.TheVariants.{Done}
use Rattle.zpl_meaning.specs.of_zpl_tree.Syntax.{Expr, Stmt, Stmts, ThenStmt, Form, Block, If, While}
use Rattle.zpl_meaning.specs.of_zpl_tree.Syntax.{Repeat, Tested, Arms, NoArm, ThenArm, Otherwise, Else}
use Rattle.zpl_meaning.specs.Store.{Store}
use Rattle.zpl_meaning.specs.Outcome.{Outcome, Test, Count, is_past, next_value}
use Rattle.zpl_meaning.specs.Statement.{arms_at}
use Rattle.zpl_meaning.specs.Wanting.{Holds}
use Rattle.meaning_runs.specs.Runner.{Runner}

-- ---- loops: from a store, with so many turns that may be made, to another store, with so many
-- left

-- A loop that tests before its turns comes to its test.
pub data ComesToTest (test : Test) (body : Store → Outcome) : ℕ → Store → ℕ → Store → Type 0 where
  Enters : (n : ℕ) (store : Store) → ComesToTest test body n store n store
  Again : (n left : ℕ) (store later : Store) → Holds test store true →
      (body store).ending ≡ Done → ComesToTest test body n (body store).store left later →
      ComesToTest test body (suc n) store left later

-- One that tests after them comes to where a turn begins.
pub data ComesToTurn (test : Test) (body : Store → Outcome) : ℕ → Store → ℕ → Store → Type 0 where
  Enters : (n : ℕ) (store : Store) → ComesToTurn test body n store n store
  Again : (n left : ℕ) (store later : Store) → (body store).ending ≡ Done →
      Holds test (body store).store false →
      ComesToTurn test body n (body store).store left later →
      ComesToTurn test body (suc n) store left later

-- One that counts comes to a value, which may be past the last.
pub data ComesToValue (count : Count) (set : ℤ → Store → Store) (body : Store → Outcome) : ℕ → ℤ →
    Store → ℕ → ℤ → Store → Type 0 where
  Enters : (n : ℕ) (value : ℤ) (store : Store) → ComesToValue count set body n value store n value
      store
  Again : (n left : ℕ) (value reached : ℤ) (store later : Store) → is_past count value ≡ false →
      (body (set value store)).ending ≡ Done →
      ComesToValue count set body n (next_value count value) (body (set value store)).store left
      reached later →
      ComesToValue count set body (suc n) value store left reached later

-- ---- statements: from a store to a statement, with the store there

-- one of those that are run one after another
pub data ComesInAll (runner : Runner) : Stmts → Store → Stmt → Store → Type 0 where
  First : (first : Stmt) (rest : Stmts) (store : Store) →
      ComesInAll runner (ThenStmt first rest) store first store
  Later : (first part : Stmt) (rest : Stmts) (store later : Store) →
      (runner.one first store).ending ≡ Done →
      ComesInAll runner rest (runner.one first store).store part later →
      ComesInAll runner (ThenStmt first rest) store part later

-- of arms whose first test is at an offset: those in the first arm whose test is true, or else in
-- the last choice
pub data ComesInArms (runner : Runner) : ℕ → Arms → Otherwise → Store → Stmt → Store → Type 0
  where
    InFirst : (at own : ℕ) (test : Expr) (body : Stmts) (rest : Arms) (otherwise : Otherwise)
        (store : Store) (part : Stmt) (later : Store) →
        Holds (runner.test test at) store true → ComesInAll runner body store part later →
        ComesInArms runner at (ThenArm (Tested own test body) rest) otherwise store part later
    InRest : (at own : ℕ) (test : Expr) (body : Stmts) (rest : Arms) (otherwise : Otherwise)
        (store : Store) (part : Stmt) (later : Store) →
        Holds (runner.test test at) store false →
        ComesInArms runner (arms_at rest) rest otherwise store part later →
        ComesInArms runner at (ThenArm (Tested own test body) rest) otherwise store part later
    InElse : (at : ℕ) (body : Stmts) (store : Store) (part : Stmt) (later : Store) →
        ComesInAll runner body store part later →
        ComesInArms runner at NoArm (Else body) store part later

-- of a form whose statement begins at an offset behind its prefixes
pub data ComesIn (runner : Runner) : ℕ → Form → Store → Stmt → Store → Type 0 where
  InBlock : (at : ℕ) (body : Stmts) (store : Store) (part : Stmt) (later : Store) →
      ComesInAll runner body store part later →
      ComesIn runner at (Block body) store part later
  InChoice : (at : ℕ) (arms : Arms) (otherwise : Otherwise) (store : Store) (part : Stmt)
      (later : Store) → ComesInArms runner at arms otherwise store part later →
      ComesIn runner at (If arms otherwise) store part later
  InWhile : (at : ℕ) (test : Expr) (body : Stmts) (store : Store) (left : ℕ) (turn : Store)
      (part : Stmt) (later : Store) →
      ComesToTest (runner.test test at) (runner.all body) runner.bound store (suc left) turn →
      Holds (runner.test test at) turn true → ComesInAll runner body turn part later →
      ComesIn runner at (While test body) store part later
  InRepeat : (at : ℕ) (body : Stmts) (until : ℕ) (test : Expr) (store : Store) (left : ℕ)
      (turn : Store) (part : Stmt) (later : Store) →
      ComesToTurn (runner.test test until) (runner.all body) runner.bound store (suc left) turn →
      ComesInAll runner body turn part later →
      ComesIn runner at (Repeat body until test) store part later

-- ---- where a loop stops

-- It wants a turn, and may make none.
pub data WantsTurn (runner : Runner) : ℕ → Form → Store → Type 0 where
  BeforeTurns : (at : ℕ) (test : Expr) (body : Stmts) (store last : Store) →
      ComesToTest (runner.test test at) (runner.all body) runner.bound store zero last →
      Holds (runner.test test at) last true → WantsTurn runner at (While test body) store
  AfterTurns : (at : ℕ) (body : Stmts) (until : ℕ) (test : Expr) (store last : Store) →
      ComesToTurn (runner.test test until) (runner.all body) runner.bound store zero last →
      WantsTurn runner at (Repeat body until test) store
