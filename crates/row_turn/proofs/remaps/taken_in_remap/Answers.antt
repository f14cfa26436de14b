use Rattle.std.proofs.Common.{cond, length, true}
use Rattle.std.specs.Prelude.{◌≡◌, Some, None}
use Rattle.grid_meaning.specs.Collective.{Collective}
use Rattle.row_turn.proofs.RemapLemmas.{is_remap, of_remap, remap_fits, remap_slot}
use Rattle.row_turn.proofs.RowLemmas.{ok_map}
use Rattle.row_turn.proofs.remaps.taken_in_remap.Goals as goal

pub region_in-region-requires-clause-slot : goal.region_in-region-requires-clause-slot
region_in-region-requires-clause-slot c = remap_slot c.args.code.now c.args.p c.args.row.now c.remap_of-remap.result c.remap_of-remap.ensures c.args.local.now c.requires.at

pub remap_taken-requires-clause-fits : goal.remap_taken-requires-clause-fits
remap_taken-requires-clause-fits c =
    remap_fits c.args.code.now c.args.p c.args.row.now c.remap_of-remap.result c.remap_of-remap.ensures c.args.local.now c.requires.at c.region_in-region.result c.region_in-region.ensures.ranked

pub remap_taken-requires-clause-awaited : goal.remap_taken-requires-clause-awaited
remap_taken-requires-clause-awaited c =
    is_remap c.args.code.now c.args.p c.args.row.now c.remap_of-remap.result c.remap_of-remap.ensures (λ (r : Collective). r.awaits c.args.local.now.local c.args.from (length c.args.words.now) ≡ true) c.requires.awaited

pub returns-clause-taken : goal.returns-clause-taken
returns-clause-taken c =
    ok_map c.remap_taken.result _ _ (λ held told.
    of_remap c.args.code.now c.args.p c.args.row.now c.remap_of-remap.result c.remap_of-remap.ensures (λ (r : Collective). r.taken c.args.local.now.local c.args.from c.args.words.now ≡ cond held (Some c.remap_taken.new.local.local) None) told)
    c.remap_taken.ensures.taken
