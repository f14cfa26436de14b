use Rattle.std.proofs.Common.{List, ◌++◌, take}
use Rattle.temp_norm.specs.of_node_form.declared.arrays.Item.{Item}
use Rattle.fuse_contract.specs.Known.{IsKnown}
use Rattle.fuse_contract.proofs.known.Known.learn_all.Given as goal

abbrev pub invariant-loop-i : goal.invariant-loop-i
invariant-loop-i l =
    (items : List Item) → IsKnown l.initial.self items
    → IsKnown l.self (take l.i l.references ++ items)
