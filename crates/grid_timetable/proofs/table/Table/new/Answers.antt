use Rattle.std.proofs.Common.{sym, subst}
use Rattle.grid_timetable.specs.History.{no_moves}
use Rattle.grid_timetable.specs.Mail.{Post}
use Rattle.grid_timetable.specs.Table.{IsLedgerOf}
use Rattle.grid_timetable.proofs.FirstLemmas.{first_ledger}
use Rattle.grid_timetable.proofs.table.Table.new.Goals as goal

pub returns : goal.returns
returns c =
    subst (λ (mail : Post). IsLedgerOf (record {
      count = c.args.count;
      latency = c.args.latency;
      made = 0;
      ticks = 0;
      lanes = c.in_ok-lanes.lanes.items;
      stretches = c.in_ok-stretches.stretches.items;
      mail = mail;
    }) (no_moves c.args.count c.args.latency)) (sym c.in_ok-mail.ensures)
    (first_ledger c.args.count c.args.latency c.in_ok-lanes.lanes.items c.in_ok-stretches.stretches.items
    c.in_ok-lanes.ensures c.in_ok-stretches.ensures c.requires)
