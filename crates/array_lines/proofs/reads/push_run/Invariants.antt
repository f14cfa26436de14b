use Rattle.std.proofs.Common.{◌≡◌, ◌++◌}
use Rattle.array_lines.specs.Read.{run_of}
use Rattle.array_lines.proofs.RunLemmas.{run_left}
use Rattle.array_lines.proofs.reads.push_run.Given as goal

abbrev pub invariant-loop-k : goal.invariant-loop-k
invariant-loop-k l = l.out.items ++ run_left l.values l.first l.apart l.count l.k ≡ l.fn.out.items ++ run_of l.values l.first l.apart l.count
