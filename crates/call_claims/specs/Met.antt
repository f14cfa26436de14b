-- What words ask for can be met.
use Rattle.std.specs.Prelude.{◌≤◌}
use Rattle.zpl_claims.specs.of_grid_meaning.Grid.{IsCapacity}
use Rattle.call_claims.specs.Command.{Asked, latency_of, limit_of}
use Rattle.call_claims.specs.declared.limits.TheConstants.{MOST_LATENCY, MOST_TURNS}

-- Links hold a message, and turns and ticks are within the most.
pub record CanBeMet (asked : Asked) : Type 0 where
  pub links : IsCapacity asked.links
  pub turns : limit_of asked ≤ MOST_TURNS
  pub latency : latency_of asked ≤ MOST_LATENCY
