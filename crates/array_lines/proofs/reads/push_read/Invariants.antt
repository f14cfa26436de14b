use Rattle.std.proofs.Common.{◌≡◌, ◌++◌}
use Rattle.array_lines.specs.Axis.{along}
use Rattle.array_lines.specs.Read.{all_values}
use Rattle.array_lines.proofs.RunLemmas.{left_of}
use Rattle.array_lines.proofs.reads.push_read.Given as goal

abbrev pub invariant-loop-k : goal.invariant-loop-k
invariant-loop-k l =
    l.out.items ++ all_values l.sides (left_of l.planes.along.first l.planes.along.step l.planes.along.count l.k)
    ≡ l.fn.out.items ++ all_values l.sides (along l.planes.along)
