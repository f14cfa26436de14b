use Rattle.std.proofs.Common.{◌≡◌}
use Rattle.value_rows.specs.Row.{misses}
use Rattle.value_rows.proofs.RowLemmas.{misses_from}
use Rattle.value_rows.proofs.rows.pair_misses.Given as goal

abbrev pub invariant-loop-k : goal.invariant-loop-k
invariant-loop-k l = misses l.op l.values l.others l.kept ≡ misses_from l.op l.k l.values l.others l.kept
