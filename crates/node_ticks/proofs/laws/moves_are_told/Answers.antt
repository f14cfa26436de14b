use Rattle.grid_meaning.specs.Local.{start_locals}
use Rattle.node_ticks.proofs.laws.moves_are_told.Goals as goal

pub returns-clause-moves : goal.returns-clause-moves
returns-clause-moves c = λ code links. c.moves_are_told.ensures code (start_locals code) links

pub returns-clause-turns : goal.returns-clause-turns
returns-clause-turns c = λ code links. c.turns_tell_moves.ensures code (start_locals code) links
