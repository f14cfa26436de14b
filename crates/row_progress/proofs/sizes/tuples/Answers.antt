use Rattle.std.proofs.Common.{◌≡◌, length, ◌∙◌, arith}
use Rattle.row_progress.proofs.SizeLemmas.{tuples_told}
use Rattle.row_progress.proofs.sizes.tuples.Goals as goal

pub returns : goal.returns
returns c =
    let three : length c.args.region.now.dims ≡ 3 = omega arith in
    tuples_told c.args.region.now _ _ _ _ _ _ three c.requires (c.from.ensures ∙ c.size.ensures.size) (c.from-2.ensures ∙ c.size-2.ensures.size)
    (c.from-3.ensures ∙ c.size-3.ensures.size)
