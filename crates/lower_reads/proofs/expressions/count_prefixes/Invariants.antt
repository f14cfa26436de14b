use Rattle.std.proofs.Common.{◌≡◌, ◌+◌, drop, map}
use Rattle.zpl_lowering.specs.of_zpl_tree.View.{prefix_of}
use Rattle.lower_reads.specs.Reads.{prefixes_reads}
use Rattle.lower_reads.proofs.expressions.count_prefixes.Given as goal

abbrev pub invariant-loop-prefix : goal.invariant-loop-prefix
invariant-loop-prefix l =
    l.count + prefixes_reads (map prefix_of (drop l.prefix-index l.prefixes)) ≡
    l.initial.count + prefixes_reads (map prefix_of l.prefixes)
