use Rattle.std.proofs.lemmas.List.Elements.{All-nil}
use Rattle.zpl_lowering.specs.Program.{lowered_program}
use Rattle.zpl_lowering.specs.Tables.{empty_tables, rows_of}
use Rattle.lowering_loops.proofs.GroupLemmas.{rows_unit}
use Rattle.lowering_loops.proofs.UnitLemmas.{program_units}
use Rattle.lowering_loops.proofs.loops_stand_in_one_unit.Goals as goal

pub returns : goal.returns
returns c = λ program settings.
    rows_unit (empty_tables _ (lowered_program program settings))
    (rows_of (lowered_program program settings)) (program_units program settings) (All-nil _)
