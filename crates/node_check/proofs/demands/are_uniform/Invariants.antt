use Rattle.std.proofs.Common.{◌≡◌, take, true}
use Rattle.std.specs.List.{list_all}
use Rattle.node_check.specs.Demand.{is_uniform_part}
use Rattle.node_check.proofs.demands.are_uniform.Given as goal

abbrev pub invariant-loop-part : goal.invariant-loop-part
invariant-loop-part l =
    list_all (is_uniform_part l.tables l.facts) (take l.part-index l.parts) ≡ true
