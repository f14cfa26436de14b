use Rattle.std.proofs.Common.{◌≡◌, length}
use Rattle.node_emit.specs.Emit.{along_tree}
use Rattle.flat_passes.proofs.InPlaceLemmas.{changed}
use Rattle.node_emit.proofs.rows.go_along_tree.Given as goal

abbrev pub invariant-loop-i : goal.invariant-loop-i
invariant-loop-i l = record {
  done : l.code ≡ changed along_tree l.i l.initial.code;
  as_long : length l.code ≡ length l.initial.code;
}
