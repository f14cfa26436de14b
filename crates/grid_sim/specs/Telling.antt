-- How a move is told.
use Rattle.std.specs.Prelude.{Some, None}
use Rattle.node_turn.specs.declared.steps.Traffic.{Traffic}
use Rattle.node_turn.specs.declared.steps.Traffic.TheVariants as traffic
use Rattle.grid_sim.specs.declared.turns.Told.{Told}
use Rattle.grid_sim.specs.declared.turns.Turned.TheVariants as turned

abbrev pub told_of : Traffic → Told
told_of traffic.Quiet = record { turned = turned.Moved; sent = None; took = None }
told_of (traffic.Sent to words) = record { turned = turned.Moved; sent = Some to; took = None }
told_of (traffic.Took from) = record { turned = turned.Moved; sent = None; took = Some from }
