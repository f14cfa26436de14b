-- Where a run traps: at a statement that it comes to, by that statement itself.
use Rattle.std.specs.Prelude.{◌≡◌, ℕ, suc, true, false, List, ◌∷◌}
use Rattle.zpl_nums.specs.declared.ends.End.TheVariants.{Done, Trap}
use Rattle.zpl_nums.specs.declared.ends.TrapKind.{TrapKind}
use Rattle.zpl_meaning.specs.of_zpl_tree.Syntax.{Name, Expr, Exprs, ForHead, Prefix, Stmt, Prefixed, Stmts, Form}
use Rattle.zpl_meaning.specs.of_zpl_tree.Syntax.{Assign, Invoke, Block, If, While, Repeat, For, Border, Write}
use Rattle.zpl_meaning.specs.of_zpl_tree.Syntax.{Return, Tested, Arms, ThenArm, Otherwise}
use Rattle.zpl_meaning.specs.Computed.{Gives, Traps}
use Rattle.zpl_meaning.specs.Store.{Store}
use Rattle.zpl_meaning.specs.Context.{Over, Place}
use Rattle.zpl_meaning.specs.Regions.{over_in, under_prefix}
use Rattle.zpl_meaning.specs.Calls.{actuals_in}
use Rattle.zpl_meaning.specs.Single.{HasNoCall}
use Rattle.zpl_meaning.specs.Statement.{Context, line_of, head_value, is_split, arms_at, exec_form}
use Rattle.zpl_meaning.specs.Visited.{IsCall}
use Rattle.zpl_meaning.specs.Wanting.{Holds}
use Rattle.meaning_runs.specs.Runner.{Runner, runner_at}
use Rattle.meaning_runs.specs.Comes.{ComesToTest, ComesToTurn}
use Rattle.meaning_runs.specs.Met.{ComesUnder, Opening, context_at, IsMet}

-- ---- tests

-- the test of an arm, where those before it are false
pub data ArmTraps (runner : Runner) : ℕ → Arms → Store → TrapKind → ℕ → Type 0 where
  ThisArm : (at own : ℕ) (test : Expr) (body : Stmts) (rest : Arms) (store : Store)
      (kind : TrapKind) → (runner.test test at).value store ≡ Traps kind →
      ArmTraps runner at (ThenArm (Tested own test body) rest) store kind
      (runner.test test at).line
  LaterArm : (at own : ℕ) (test : Expr) (body : Stmts) (rest : Arms) (store : Store)
      (kind : TrapKind) (line : ℕ) → Holds (runner.test test at) store false →
      ArmTraps runner (arms_at rest) rest store kind line →
      ArmTraps runner at (ThenArm (Tested own test body) rest) store kind line

-- a test of a form, at the store where its run comes to it
pub data TestTraps (runner : Runner) : ℕ → Form → Store → TrapKind → ℕ → Type 0 where
  OfArm : (at : ℕ) (arms : Arms) (otherwise : Otherwise) (store : Store) (kind : TrapKind)
      (line : ℕ) → ArmTraps runner at arms store kind line →
      TestTraps runner at (If arms otherwise) store kind line
  OfWhile : (at : ℕ) (test : Expr) (body : Stmts) (store : Store) (left : ℕ) (last : Store)
      (kind : TrapKind) →
      ComesToTest (runner.test test at) (runner.all body) runner.bound store left last →
      (runner.test test at).value last ≡ Traps kind →
      TestTraps runner at (While test body) store kind (runner.test test at).line
  OfRepeat : (at : ℕ) (body : Stmts) (until : ℕ) (test : Expr) (store : Store) (left : ℕ)
      (turn : Store) (kind : TrapKind) →
      ComesToTurn (runner.test test until) (runner.all body) runner.bound store (suc left) turn →
      (runner.all body turn).ending ≡ Done →
      (runner.test test until).value (runner.all body turn).store ≡ Traps kind →
      TestTraps runner at (Repeat body until test) store kind (runner.test test until).line

-- ---- a statement without its prefixes

-- It has no other statement in it, and calls nothing. A border statement of several names is one
-- statement here; the store at its later names is told by no law here.
abbrev pub IsAlone : Context → Form → Type 0
IsAlone context (Assign name op value) = HasNoCall op value
IsAlone context (Write line items) = Unit {0}
IsAlone context (Border kind names) = Unit {0}
IsAlone context (Return value) = Unit {0}
IsAlone context (If arms otherwise) = is_split context (If arms otherwise) ≡ true
IsAlone context (While test body) = is_split context (While test body) ≡ true
IsAlone context (Repeat body until test) = is_split context (Repeat body until test) ≡ true
IsAlone context (Invoke name actuals) = ⊥
IsAlone context (Block body) = ⊥
IsAlone context (For head body) = ⊥

-- It traps, and it isn't a statement in it, or one of what it calls, that does.
pub data TrapsAt (context : Context) (n : ℕ) : ℕ → Form → Store → TrapKind → ℕ → Type 0 where
  Alone : (at : ℕ) (form : Form) (store : Store) (kind : TrapKind) (line : ℕ) →
      IsAlone context form → (exec_form context n at form store).ending ≡ Trap kind line →
      TrapsAt context n at form store kind line
  ATest : (at : ℕ) (form : Form) (store : Store) (kind : TrapKind) (line : ℕ) →
      is_split context form ≡ false → TestTraps (runner_at context n) at form store kind line →
      TrapsAt context n at form store kind line
  Head : (at : ℕ) (head : ForHead) (body : Stmts) (store : Store) (kind : TrapKind) →
      head_value context.place store head ≡ Traps kind →
      TrapsAt context n at (For head body) store kind (line_of context.place at)
  Actuals : (at : ℕ) (form : Form) (name : Name) (actuals : Exprs) (store : Store)
      (kind : TrapKind) → IsCall form name actuals →
      actuals_in context.place store name actuals ≡ Traps kind →
      TrapsAt context n at form store kind (line_of context.place at)

-- ---- prefixes: the first that traps, under those before it
pub data PrefixTraps (store : Store) : List Prefix → Place → TrapKind → ℕ → Type 0 where
  ThisPrefix : (prefix : Prefix) (rest : List Prefix) (place : Place) (kind : TrapKind) →
      over_in place store prefix ≡ Traps kind →
      PrefixTraps store (prefix ∷ rest) place kind (line_of place prefix.at)
  LaterPrefix : (prefix : Prefix) (rest : List Prefix) (place : Place) (over : Over)
      (kind : TrapKind) (line : ℕ) → over_in place store prefix ≡ Gives over →
      PrefixTraps store rest (under_prefix place prefix over) kind line →
      PrefixTraps store (prefix ∷ rest) place kind line

-- ---- statements, and the run

pub data StmtTraps (opening : Opening) (deeper : ℕ) (place : Place) : Stmt → Store → TrapKind → ℕ →
    Type 0 where
  InPrefixes : (at : ℕ) (prefixes : List Prefix) (form : Form) (store : Store) (kind : TrapKind)
      (line : ℕ) → PrefixTraps store prefixes place kind line →
      StmtTraps opening deeper place (Prefixed at prefixes form) store kind line
  BehindThem : (inner : Place) (at : ℕ) (prefixes : List Prefix) (form : Form) (store : Store)
      (kind : TrapKind) (line : ℕ) → ComesUnder store prefixes place inner →
      TrapsAt (context_at opening deeper inner) opening.bound at form store kind line →
      StmtTraps opening deeper place (Prefixed at prefixes form) store kind line

-- a statement that the run comes to
pub record SomeStatementTraps (opening : Opening) (kind : TrapKind) (line : ℕ) : Type 0 where
  pub deeper : ℕ
  pub place : Place
  pub stmt : Stmt
  pub store : Store
  pub met : IsMet opening deeper place stmt store
  pub traps : StmtTraps opening deeper place stmt store kind line
