use Rattle.std.proofs.Common.{◌<◌, arith}
use Rattle.grid_timetable.specs.Ledger.{ledger_of}
use Rattle.grid_timetable.proofs.FirstLemmas.{read_next, few_moves}
use Rattle.grid_timetable.proofs.table.Table.last_processor.Goals as goal

pub end_of-requires : goal.end_of-requires
end_of-requires c =
    let below : c.loop-p.p < c.requires.history.count = omega (arith, c.loop-p-test.true, c.requires.is.count) in
    read_next (ledger_of c.args.self.now) c.requires.history c.requires.is c.loop-p.p below
    (few_moves (ledger_of c.args.self.now) c.requires.history c.requires.is c.loop-p.p below)
