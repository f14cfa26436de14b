use Rattle.std.proofs.Common.{◌≡◌}
use Rattle.value_rows.specs.Row.{keep_if}
use Rattle.value_rows.proofs.RowLemmas.{mixed}
use Rattle.value_rows.proofs.rows.clear_masked.Given as goal

abbrev pub invariant-loop-k : goal.invariant-loop-k
invariant-loop-k l = l.values ≡ mixed keep_if l.k l.initial.values l.kept
