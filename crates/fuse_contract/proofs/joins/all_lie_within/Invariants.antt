use Rattle.std.proofs.Common.{◌≡◌, List, true, take}
use Rattle.std.specs.List.{list_all}
use Rattle.temp_norm.specs.of_node_form.declared.arrays.Item.{Item}
use Rattle.fuse_contract.specs.Fusing.{lies_within}
use Rattle.fuse_contract.specs.Known.{IsKnown}
use Rattle.fuse_contract.proofs.joins.all_lie_within.Given as goal

abbrev pub invariant-loop-i : goal.invariant-loop-i
invariant-loop-i l =
    (items : List Item) → IsKnown l.known items
    → list_all (lies_within l.tables items) (take l.i l.references) ≡ true
