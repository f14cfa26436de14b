use Rattle.std.specs.Prelude.{◌≡◌, is_some}
use Rattle.grid_meaning.specs.Collective.{Collective}
use Rattle.row_turn.proofs.RemapLemmas.{of_remap, remap_fits, remap_slot}
use Rattle.row_turn.proofs.remaps.held_in_remap.Goals as goal

pub region_in-region-requires-clause-slot : goal.region_in-region-requires-clause-slot
region_in-region-requires-clause-slot c = remap_slot c.args.code.now c.args.p c.args.row.now c.remap_of-remap.result c.remap_of-remap.ensures c.args.local.now c.requires.at

pub remap_words_held-requires-clause-fits : goal.remap_words_held-requires-clause-fits
remap_words_held-requires-clause-fits c =
    remap_fits c.args.code.now c.args.p c.args.row.now c.remap_of-remap.result c.remap_of-remap.ensures c.args.local.now c.requires.at c.region_in-region.result c.region_in-region.ensures.ranked

pub returns : goal.returns
returns c =
    of_remap c.args.code.now c.args.p c.args.row.now c.remap_of-remap.result c.remap_of-remap.ensures (λ (r : Collective). is_some (r.words_to c.args.local.now.local c.args.to) ≡ c.remap_words_held.result) c.remap_words_held.ensures
