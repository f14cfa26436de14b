use Rattle.std.proofs.Common.{◌≡◌, ◌++◌, drop, map}
use Rattle.zpl_lowering.specs.Tables.{temp_row}
use Rattle.lower_draft.proofs.storages.add_temps.Given as goal

abbrev pub invariant-loop-flood : goal.invariant-loop-flood
invariant-loop-flood l =
    l.rows ++ map temp_row (drop l.flood-index l.temps)
    ≡ l.initial.rows ++ map temp_row l.temps
