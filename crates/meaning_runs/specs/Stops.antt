-- Where a run wants more: at a loop that wants a turn, and may make none.
use Rattle.std.specs.Prelude.{◌≡◌, ℕ, zero, true, false, ℤ, List}
use Rattle.zpl_meaning.specs.of_zpl_tree.Syntax.{ForHead, Prefix, Prefixed, Stmts, Form, For}
use Rattle.zpl_meaning.specs.Store.{Store}
use Rattle.zpl_meaning.specs.Context.{Place}
use Rattle.zpl_meaning.specs.Outcome.{is_past}
use Rattle.zpl_meaning.specs.Statement.{Context, line_of, is_split}
use Rattle.meaning_runs.specs.Runner.{runner_at, runner_of}
use Rattle.meaning_runs.specs.Comes.{WantsTurn}
use Rattle.meaning_runs.specs.Met.{IsCounting, CountsTo, ComesUnder, Opening, context_at, IsMet}
use Rattle.meaning_runs.specs.Tuple.{point_at, IsRunAt, IsMetBy}

-- in a shattered statement: a loop that the run of some tuple comes to
pub record SomeTupleStops (place : Place) (line n : ℕ) (form : Form) (store : Store) : Type 0
  where
    pub tuple : List ℤ
    pub runs : IsRunAt place form store tuple
    pub loop : Form
    pub there : Store
    pub met : IsMetBy place line n form store tuple loop there
    pub wants : WantsTurn (runner_of (point_at place line form tuple) n) 0 loop there

-- a statement without its prefixes, where it isn't a statement in it that wants more
pub data StopsAt (context : Context) (n : ℕ) : ℕ → Form → Store → Type 0 where
  Loop : (at : ℕ) (form : Form) (store : Store) → is_split context form ≡ false →
      WantsTurn (runner_at context n) at form store → StopsAt context n at form store
  Counting : (at : ℕ) (head : ForHead) (body : Stmts) (store : Store) (value : ℤ) (last : Store)
      (counting : IsCounting context.place head store) →
      CountsTo context n head body store counting zero value last →
      is_past counting.start.count value ≡ false →
      StopsAt context n at (For head body) store
  Tuples : (at : ℕ) (form : Form) (store : Store) → is_split context form ≡ true →
      SomeTupleStops context.place (line_of context.place at) n form store →
      StopsAt context n at form store

-- a statement that the run comes to
pub record SomeLoopStops (opening : Opening) : Type 0 where
  pub deeper : ℕ
  pub place : Place
  pub at : ℕ
  pub prefixes : List Prefix
  pub form : Form
  pub store : Store
  pub met : IsMet opening deeper place (Prefixed at prefixes form) store
  pub inner : Place
  pub under : ComesUnder store prefixes place inner
  pub stops : StopsAt (context_at opening deeper inner) opening.bound at form store
