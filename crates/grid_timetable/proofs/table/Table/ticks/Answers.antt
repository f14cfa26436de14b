use Rattle.grid_timetable.proofs.FirstLemmas.{least_length}
use Rattle.grid_timetable.proofs.table.Table.ticks.Goals as goal

pub returns : goal.returns
returns c = λ history is. least_length _ history is
