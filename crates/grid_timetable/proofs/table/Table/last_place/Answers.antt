use Rattle.grid_timetable.specs.Ledger.{ledger_of}
use Rattle.grid_timetable.proofs.TraceLemmas.{never_ends}
use Rattle.grid_timetable.proofs.table.Table.last_place.Goals as goal

pub returns-in_err-p-clause-none : goal.returns-in_err-p-clause-none
returns-in_err-p-clause-none c = λ none.
    never_ends (ledger_of c.args.self.now) c.requires.history c.requires.is (c.last_processor.ensures.none c.in_err-p.was)
