use Rattle.std.proofs.Common.{◌≡◌, ◌+◌, drop, map}
use Rattle.std.specs.Prelude.{sum_by}
use Rattle.zpl_lowering.specs.of_zpl_tree.View.{item_of}
use Rattle.lower_reads.specs.Reads.{item_reads}
use Rattle.lower_reads.proofs.statements.count_items.Given as goal

abbrev pub invariant-loop-item : goal.invariant-loop-item
invariant-loop-item l =
    l.count + sum_by item_reads (map item_of (drop l.item-index l.items)) ≡
    l.initial.count + sum_by item_reads (map item_of l.items)
