use Rattle.std.proofs.Common.{◌≡◌, drop}
use Rattle.temp_norm.specs.Normalised.{with_temporaries}
use Rattle.temp_norm.proofs.loops.add_temporaries.Given as goal

abbrev pub invariant-loop-row : goal.invariant-loop-row
invariant-loop-row l =
    with_temporaries l.tables (drop l.row-index l.rows)
    ≡ with_temporaries l.initial.tables l.rows
