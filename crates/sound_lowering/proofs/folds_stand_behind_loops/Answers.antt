use Rattle.sound_lowering.proofs.FoldLemmas.{rows_folded}
use Rattle.sound_lowering.proofs.TakenLemmas.{taken_in}
use Rattle.sound_lowering.proofs.folds_stand_behind_loops.Goals as goal

pub returns-clause-rows : goal.returns-clause-rows
returns-clause-rows c program settings = rows_folded program settings

pub returns-clause-tables : goal.returns-clause-tables
returns-clause-tables c code rows same folded = taken_in code rows same folded
