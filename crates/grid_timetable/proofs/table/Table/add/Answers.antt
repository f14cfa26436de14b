use Rattle.std.proofs.Common.{◌<◌, length, arith}
use Rattle.grid_timetable.specs.Ledger.{ledger_of}
use Rattle.grid_timetable.proofs.AddLemmas.{can_too, can_open, can_settle, is_added}
use Rattle.grid_timetable.proofs.table.Table.add.Goals as goal

pub opened-stretch-requires : goal.opened-stretch-requires
opened-stretch-requires c =
    can_open (ledger_of c.args.self.now) c.requires.history c.requires.is c.args.p c.args.sent c.args.took c.requires.can

pub place_in-place-requires : goal.place_in-place-requires
place_in-place-requires c =
    (can_open (ledger_of c.args.self.now) c.requires.history c.requires.is c.args.p c.args.sent c.args.took c.requires.can).next

pub settle-requires : goal.settle-requires
settle-requires c =
    can_settle (ledger_of c.args.self.now) c.requires.history c.requires.is c.args.p c.args.sent c.args.took c.requires.can
    c.opened-stretch.result c.place_in-place.result (ledger_of c.enter.new.self)
    c.opened-stretch.ensures c.place_in-place.ensures c.in_ok-enter.ensures.done

pub returns-clause-added : goal.returns-clause-added
returns-clause-added c = λ history is.
    let room : length history.moves < 4194304 = omega (arith, c.if-self-eq-MOST_MOVES.false, is.made, is.few) in (
      room,
      is_added (ledger_of c.args.self.now) history is c.args.p c.args.sent c.args.took
          (can_too (ledger_of c.args.self.now) c.requires.history history c.requires.is is c.args.p c.args.sent c.args.took c.requires.can)
          c.opened-stretch.result c.place_in-place.result (ledger_of c.enter.new.self) (ledger_of c.settle.new.self)
          c.opened-stretch.ensures c.place_in-place.ensures c.in_ok-enter.ensures.done c.settle.ensures room,
    )
