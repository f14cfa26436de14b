use Rattle.std.proofs.Common.{◌≡◌, pos, arith}
use Rattle.std.proofs.lemmas.Int.{ints}
use Rattle.region_places.proofs.WalkLemmas.{is_ones}
use Rattle.region_places.proofs.walks.ones.Goals as goal

pub returns-then-step-eq1 : goal.returns-then-step-eq1
returns-then-step-eq1 c =
    let r = c.in-Range in
    let one : r.step ≡ pos 1 = omega (arith, ints) in
    is_ones c.args.dim.now r.lo r.hi r.step r.align _ _ r.is one (omega (arith, ints)) (omega (arith, ints))
