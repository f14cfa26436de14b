use Rattle.std.proofs.Common.{◌≡◌, ◌-◌, ◌^◌, pos, min, length, ◌∙◌, ap, arith}
use Rattle.zpl_region.specs.Region.{tuples}
use Rattle.zpl_region.proofs.RegionLemmas.{points_of_three}
use Rattle.zpl_region.proofs.regions.Region.points.Goals as goal

pub returns : goal.returns
returns c =
    let three : length c.progressions.result ≡ 3 = omega arith in
    points_of_three c.progressions.result (record { first = pos 0; step = 0; count = 0 }) c.saturating_mul.result c.saturating_mul-2.result (2 ^ 64 - 1) three c.saturating_mul.ensures c.saturating_mul-2.ensures
    ∙ ap (λ l. min (length (tuples l)) (2 ^ 64 - 1)) c.progressions.ensures.terms
