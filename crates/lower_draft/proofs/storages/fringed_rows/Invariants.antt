use Rattle.std.proofs.Common.{◌≡◌, ◌++◌, drop}
use Rattle.lower_draft.specs.Spread.{fringed_rows}
use Rattle.lower_draft.proofs.storages.fringed_rows.Given as goal

abbrev pub invariant-loop-k : goal.invariant-loop-k
invariant-loop-k l =
    l.rows ++ fringed_rows l.fringes l.k (drop l.k l.storages)
    ≡ fringed_rows l.fringes 0 l.storages
