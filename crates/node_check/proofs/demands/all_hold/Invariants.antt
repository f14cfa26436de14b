use Rattle.std.proofs.Common.{◌≡◌, take, true}
use Rattle.std.specs.List.{list_all}
use Rattle.std.specs.Prelude.{flat_map}
use Rattle.node_check.specs.Demand.{is_held}
use Rattle.node_form.specs.Value.{unmoved}
use Rattle.code_parts.specs.Uses.{as_list}
use Rattle.node_check.proofs.demands.all_hold.Given as goal

abbrev pub invariant-loop-array : goal.invariant-loop-array
invariant-loop-array l =
    list_all (λ one. is_held l.tables l.facts one unmoved l.slot)
    (flat_map as_list (take l.array-index l.arrays)) ≡ true
