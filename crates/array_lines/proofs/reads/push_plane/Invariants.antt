use Rattle.std.proofs.Common.{◌≡◌, ◌++◌}
use Rattle.array_lines.specs.Axis.{along}
use Rattle.array_lines.specs.Read.{plane_values}
use Rattle.array_lines.proofs.RunLemmas.{left_of}
use Rattle.array_lines.proofs.reads.push_plane.Given as goal

abbrev pub invariant-loop-k : goal.invariant-loop-k
invariant-loop-k l =
    l.out.items ++ plane_values l.sides l.fn.plane (left_of l.rows.along.first l.rows.along.step l.rows.along.count l.k)
    ≡ l.fn.out.items ++ plane_values l.sides l.fn.plane (along l.rows.along)
