-- What is kept of a store: each place for a scalar and for an array that it has.
use Rattle.std.specs.Prelude.{◌≤◌, length}
use Rattle.zpl_meaning.specs.Store.{Store}
use Rattle.zpl_meaning.specs.Outcome.{Outcome}
use Rattle.zpl_meaning.specs.Calls.{Called}

pub record IsNoShorter (before after : Store) : Type 0 where
  pub scalars : length before.scalars ≤ length after.scalars
  pub arrays : length before.arrays ≤ length after.arrays

-- an outcome keeps those of the store that it began with
abbrev pub Keeps : Store → Outcome → Type 0
Keeps store outcome = IsNoShorter store outcome.store

abbrev pub AlwaysKeeps : (Store → Outcome) → Type 0
AlwaysKeeps run = (store : Store) → Keeps store (run store)

-- what is called keeps those that there are
abbrev pub CallsKeep : (Called → Store → Outcome) → Type 0
CallsKeep call = (called : Called) → AlwaysKeeps (call called)
