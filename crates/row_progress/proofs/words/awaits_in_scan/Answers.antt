use Rattle.std.specs.Prelude.{◌≡◌}
use Rattle.grid_meaning.specs.Collective.{Collective}
use Rattle.row_progress.proofs.KeeperLemmas.{of_scan, scan_along_at, scan_slot_at}
use Rattle.row_progress.proofs.words.awaits_in_scan.Goals as goal

pub region_in-region-requires-clause-slot : goal.region_in-region-requires-clause-slot
region_in-region-requires-clause-slot c = scan_slot_at c.args.code.now c.args.row.now c.scan_of-scan.result c.scan_of-scan.ensures c.requires.start.fits

pub scan_awaits-requires-clause-along : goal.scan_awaits-requires-clause-along
scan_awaits-requires-clause-along c =
    scan_along_at c.args.code.now c.args.row.now c.scan_of-scan.result c.scan_of-scan.ensures c.requires.start.fits c.region_in-region.result c.region_in-region.ensures.ranked

pub returns : goal.returns
returns c =
    of_scan c.args.code.now c.args.p c.args.row.now c.scan_of-scan.result c.scan_of-scan.ensures (λ (r : Collective). r.awaits c.args.local.now.local c.args.from c.args.many ≡ c.scan_awaits.result)
    (c.scan_awaits.ensures c.args.p c.args.local.now.local c.region_in-region.ensures.there)
