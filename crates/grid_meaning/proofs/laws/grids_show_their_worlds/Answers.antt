use Rattle.grid_meaning.proofs.WorldLemmas.{IsOver-world, IsStuck-world, IsIdle-world, processors_alike}
use Rattle.grid_meaning.proofs.laws.grids_show_their_worlds.Goals as goal

pub returns : goal.returns
returns c = record { over = IsOver-world; stuck = IsStuck-world; idle = IsIdle-world; processors = processors_alike }
