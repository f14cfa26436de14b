-- What a procedure that is called for an answer has come to.
use Rattle.std.specs.Prelude.{◌≡◌, ℕ, ℤ, List, None}
use Rattle.meaning_runs.specs.of_zpl_tree.Syntax.{Expr, Prefix, Prefixed, Return}
use Rattle.meaning_runs.specs.of_zpl_names.Sites.{Result}
use Rattle.meaning_runs.specs.of_zpl_meaning.Computed.{Gives}
use Rattle.meaning_runs.specs.of_zpl_meaning.Store.{Store, scalar_at}
use Rattle.meaning_runs.specs.of_zpl_meaning.Context.{Place}
use Rattle.meaning_runs.specs.of_zpl_meaning.Phases.{scalar_in}
use Rattle.meaning_runs.specs.of_zpl_meaning.Calls.{Called}
use Rattle.meaning_runs.specs.Met.{ComesUnder, IsMet, Opening}

-- A `return` that the run comes to, in the procedure that was called and behind its prefixes; the
-- value there; and that value in the scalar that takes the answer, in the store that the call
-- leaves.
pub record HasAnswered (opening : Opening) (called : Called) (after : Store) : Type 0 where
  pub deeper : ℕ
  pub place : Place
  pub inner : Place
  pub at : ℕ
  pub prefixes : List Prefix
  pub value : Expr
  pub store : Store
  pub answer : ℤ
  pub met : IsMet opening deeper place (Prefixed at prefixes (Return value)) store
  pub behind : ComesUnder store prefixes place inner
  pub own : inner.result ≡ called.result
  pub computed : scalar_in inner store (Result None) value ≡ Gives answer
  pub taken : scalar_at after called.result ≡ answer
