use Rattle.std.proofs.Common.{[], ap, ◌∙◌, cond}
use Rattle.grid_links.specs.Machine.{Blocked}
use Rattle.grid_meaning.specs.Action.{Action, Unheld, moves}
use Rattle.grid_meaning.specs.Collective.{Collective}
use Rattle.row_turn.specs.declared.answers.OwnTurn.TheVariants as own
use Rattle.row_turn.specs.Own.{IsOwn}
use Rattle.row_turn.proofs.ScanLemmas.{of_scan, scan_along, scan_keeps, scan_slot}
use Rattle.row_turn.proofs.scans.last_in_scan.Goals as goal

pub region_in-region-requires-clause-slot : goal.region_in-region-requires-clause-slot
region_in-region-requires-clause-slot c = scan_slot c.args.code.now c.args.p c.args.row.now c.scan_of-scan.result c.scan_of-scan.ensures c.args.local.now c.requires.at

pub scan_last-requires-clause-along : goal.scan_last-requires-clause-along
scan_last-requires-clause-along c =
    scan_along c.args.code.now c.args.p c.args.row.now c.scan_of-scan.result c.scan_of-scan.ensures c.args.local.now c.requires.at c.region_in-region.result c.region_in-region.ensures.ranked

pub scan_last-requires-clause-kept : goal.scan_last-requires-clause-kept
scan_last-requires-clause-kept c =
    c.kept_totals_are_of_others.ensures c.args.code.now c.args.p c.scan_of-scan.result c.args.local.now.local
    (scan_keeps c.args.code.now c.args.p c.args.row.now c.scan_of-scan.result c.scan_of-scan.ensures c.args.local.now c.requires.at)

pub returns-then-held-clause-own : goal.returns-then-held-clause-own
returns-then-held-clause-own c =
    of_scan c.args.code.now c.args.p c.args.row.now c.scan_of-scan.result c.scan_of-scan.ensures (λ (r : Collective). IsOwn c.args.p (r.last c.args.local.now.local) c.args.local.now c.scan_last.new.local own.Moves)
    (record {
      moved = c.in_ok-held.ensures.last ∙ ap (λ b. cond b (moves c.scan_last.new.local.local []) (Blocked Unheld)) c.if-held.true;
      same = c.in_ok-held.ensures.rest;
    })

pub returns-else-held-clause-own : goal.returns-else-held-clause-own
returns-else-held-clause-own c =
    of_scan c.args.code.now c.args.p c.args.row.now c.scan_of-scan.result c.scan_of-scan.ensures (λ (r : Collective). IsOwn c.args.p (r.last c.args.local.now.local) c.args.local.now c.scan_last.new.local own.Unheld)
    (record {
      stuck = c.in_ok-held.ensures.last ∙ ap (λ b. cond b (moves c.scan_last.new.local.local []) (Blocked Unheld)) c.if-held.false;
      same = c.in_ok-held.ensures.same c.if-held.false;
    })
