use Rattle.std.proofs.Common.{cond}
use Rattle.std.specs.Prelude.{◌≡◌, Some, None}
use Rattle.grid_meaning.specs.Collective.{Collective}
use Rattle.row_turn.proofs.RemapLemmas.{of_remap, remap_fits, remap_slot}
use Rattle.row_turn.proofs.RowLemmas.{ok_map}
use Rattle.row_turn.proofs.remaps.alone_in_remap.Goals as goal

pub region_in-region-requires-clause-slot : goal.region_in-region-requires-clause-slot
region_in-region-requires-clause-slot c = remap_slot c.args.code.now c.args.p c.args.row.now c.remap_of-remap.result c.remap_of-remap.ensures c.args.local.now c.requires.at

pub remap_alone-requires-clause-fits : goal.remap_alone-requires-clause-fits
remap_alone-requires-clause-fits c =
    remap_fits c.args.code.now c.args.p c.args.row.now c.remap_of-remap.result c.remap_of-remap.ensures c.args.local.now c.requires.at c.region_in-region.result c.region_in-region.ensures.ranked

pub returns-clause-alone : goal.returns-clause-alone
returns-clause-alone c =
    ok_map c.remap_alone.result _ _ (λ held told.
    of_remap c.args.code.now c.args.p c.args.row.now c.remap_of-remap.result c.remap_of-remap.ensures (λ (r : Collective). r.alone c.args.local.now.local ≡ cond held (Some c.remap_alone.new.local.local) None) told)
    c.remap_alone.ensures.alone
