use Rattle.std.proofs.Common.{◌-◌, sym, ap, arith}
use Rattle.zpl_region.specs.declared.dims.Dim.TheVariants.{Flood}
use Rattle.zpl_arrays.specs.Conformity.{is_collapsed}
use Rattle.zpl_arrays.proofs.AgreeLemmas.{past_rank}
use Rattle.zpl_arrays.proofs.reductions.collapses.Goals as goal

pub returns-then-place-target : goal.returns-then-place-target
returns-then-place-target c =
    let r = c.args.target.now in
    let low = c.requires.region.rank_above in
    let high = c.requires.region.rank_below in
    sym (ap is_collapsed (past_rank (3 - r.rank) r.rank c.args.place r.dims Flood c.requires.region.padded c.if-place-target.true (omega arith)))
