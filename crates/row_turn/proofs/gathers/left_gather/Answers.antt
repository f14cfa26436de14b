use Rattle.row_turn.proofs.RowLemmas.{gather_left}
use Rattle.row_turn.proofs.gathers.left_gather.Goals as goal

pub returns : goal.returns
returns c =
    gather_left c.args.code.now c.args.p c.args.truth c.args.array c.args.slot c.args.local.now c.leave.new.local c.requires.other c.leave.ensures
