-- What a row does in a turn, as code tells it.
use Rattle.grid_meaning.specs.Collective as meaning
use Rattle.node_stages.specs.declared.stages.Stage.{Stage}
use Rattle.node_stages.specs.declared.stages.Stage.TheVariants.{Alone, Sends, TakesFrom, Last}

abbrev pub staged : Stage → meaning.Stage
staged Alone = meaning.Alone
staged (Sends to) = meaning.Sends to
staged (TakesFrom from) = meaning.TakesFrom from
staged Last = meaning.Last
