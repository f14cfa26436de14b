use Rattle.point_runs.proofs.SplitLemmas.{if_split, while_split, repeat_split}
use Rattle.point_runs.proofs.laws.shattered_statements_go_alike.Goals as goal

pub returns : goal.returns
returns c = record { choices = if_split; loops = while_split; turns = repeat_split }
