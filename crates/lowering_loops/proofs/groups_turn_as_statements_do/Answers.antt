use Rattle.std.proofs.lemmas.List.Elements.{All-nil}
use Rattle.zpl_names.specs.Expansion.{shattered_loops}
use Rattle.zpl_lowering.specs.Program.{lowered_program}
use Rattle.zpl_lowering.specs.Tables.{empty_tables, rows_of}
use Rattle.lowering_loops.proofs.GroupLemmas.{rows_turn}
use Rattle.lowering_loops.proofs.TurnLemmas.{program_turns}
use Rattle.lowering_loops.proofs.groups_turn_as_statements_do.Goals as goal

pub returns : goal.returns
returns c = λ program settings.
    rows_turn (shattered_loops program) (empty_tables _ (lowered_program program settings))
    (rows_of (lowered_program program settings)) (program_turns program settings) (All-nil _)
