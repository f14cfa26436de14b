use Rattle.std.proofs.Common.{◌≡◌}
use Rattle.value_rows.specs.Row.{pair_value}
use Rattle.value_rows.proofs.RowLemmas.{mixed}
use Rattle.value_rows.proofs.rows.pair_each.Given as goal

abbrev pub invariant-loop-k : goal.invariant-loop-k
invariant-loop-k l = l.values ≡ mixed (pair_value l.op) l.k l.initial.values l.others
