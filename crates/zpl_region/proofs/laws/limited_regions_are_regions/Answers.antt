use Rattle.std.proofs.Common.{get_or, arith}
use Rattle.zpl_region.proofs.RegionLemmas.{within_is_dim}
use Rattle.zpl_region.proofs.laws.limited_regions_are_regions.Goals as goal

pub returns : goal.returns
returns c = record {
  region = λ r above below steps padded within. record {
    rank_above = above;
    rank_below = below;
    dims = λ k d here. within_is_dim (get_or r.dims k d) (steps k d here) (within.dims k d here);
    padded = padded;
  };
  points = λ r within. omega (arith, within.points);
}
