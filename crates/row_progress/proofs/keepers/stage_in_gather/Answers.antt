use Rattle.std.proofs.Common.{ap, subst, sym, ◌∙◌, ◌<◌, length}
use Rattle.std.specs.Prelude.{slice_get}
use Rattle.grid_meaning.specs.Gather.{gather_stages}
use Rattle.row_turn.proofs.StandLemmas.{slot_within}
use Rattle.row_progress.proofs.KeeperLemmas.{gathering}
use Rattle.row_progress.proofs.keepers.stage_in_gather.Goals as goal

pub region_in-region-requires-clause-slot : goal.region_in-region-requires-clause-slot
region_in-region-requires-clause-slot c = slot_within c.args.code.now c.args.slot c.requires.along.start.fits.rank c.requires.along.start.fits.fit.0

pub gather_stage-requires-clause-made : goal.gather_stage-requires-clause-made
gather_stage-requires-clause-made c =
    let same = gathering c.args.code.now c.args.p c.args._truth c.args._array c.args.slot c.args.local.now.local c.region_in-region.result c.region_in-region.ensures.there in
    subst (λ n. n < length (gather_stages c.args.code.now c.args.p c.region_in-region.result)) (sym c.made.ensures) (subst (λ s. c.args.local.now.local.made < length s) same c.requires.along.under)

pub returns : goal.returns
returns c =
    let same = gathering c.args.code.now c.args.p c.args._truth c.args._array c.args.slot c.args.local.now.local c.region_in-region.result c.region_in-region.ensures.there in
    ap (λ s. slice_get s c.args.local.now.local.made) same ∙ (ap (slice_get (gather_stages c.args.code.now c.args.p c.region_in-region.result)) (sym c.made.ensures) ∙ c.gather_stage.ensures)
