use Rattle.std.proofs.Common.{◌≡◌, drop}
use Rattle.temp_norm.specs.Normalised.{temporaries}
use Rattle.temp_norm.proofs.PieceLemmas.{with_all}
use Rattle.temp_norm.proofs.temporaries.temporaries.Given as goal

abbrev pub invariant-loop-i : goal.invariant-loop-i
invariant-loop-i l =
    with_all l.tables l.rows.items (drop l.i l.tables.code) ≡ temporaries l.tables
