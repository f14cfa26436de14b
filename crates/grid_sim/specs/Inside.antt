-- What stands for a simulation in memory.
--
--   simulation_of   the simulation
--   IsSimulation    what holds of the fields between turns
use Rattle.std.specs.Prelude.{◌≡◌, []}
use Rattle.node_form.specs.declared.tables.Tables.{Tables}
use Rattle.grid_meaning.specs.Stored.{arrangement_of}
use Rattle.grid_sim.specs.Counting.{AreCounts}
use Rattle.grid_sim.specs.Processors.{AreProcessors, world_of}
use Rattle.grid_sim.specs.Simulation.{Simulation}
use Rattle.grid_sim.specs.declared.counts.Counts.{Counts}
use Rattle.grid_sim.specs.declared.processors.Processors.{Processors}
use Rattle.grid_sim.specs.declared.sims.Sim.TheInside.{Inside}

abbrev pub simulation_in : Tables → Processors → Counts → Simulation
simulation_in code team counts = record {
  code = code;
  capacity = team.links.capacity;
  grid = record {
    world = world_of team;
    printed = [];
    turns = counts.turns;
    sends = counts.sends;
    words = counts.words;
  };
}

abbrev pub simulation_of : Inside → Simulation
simulation_of inside = simulation_in inside.code inside.team inside.counts

pub record IsSimulation (inside : Inside) : Type 0 where
  pub layout : inside.layout ≡ arrangement_of inside.code
  pub team : AreProcessors inside.code inside.team
  pub counts : AreCounts inside.counts
